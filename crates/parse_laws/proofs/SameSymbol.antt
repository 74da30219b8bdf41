-- Symbols compare equal where they are equal.
use Rattle.std.proofs.Common.{◌≡◌, inl, inr, Bool, true, false, List, [], ◌∷◌, refl, ap, sym, subst, ◌∙◌}
use denote.Struct.Field.{Field}
use denote.Struct.Values.{Values}
use denote.Enum.Bare.{same_true, true_same}
use denote.Enum.Compared.{Each, by}
use denote.Enum.Declared.{Choice}
use Rattle.c_tree.specs.declared.symbol.Symbol.{Symbol}
use Rattle.c_tree.specs.declared.tree.BinOp.{BinOp}
use Rattle.c_tree.specs.contracts.symbol.Symbol as of
use Rattle.c_tree.specs.contracts.tree.BinOp as operator
use Rattle.c_tree.specs.contracts.tree.BinOpPartialEq.TheImpl as derived
use Rattle.parse_laws.specs.Same.{is_same_symbol}

-- at each variant with fields, what compares equal is equal, and the other way round
abbrev Tells : (Fss : List (List Field)) → Each Bool Fss → Type 0
Tells [] each = Unit {0}
Tells ([] ∷ Fss) each = ((x : Values []) → each.0 x x ≡ true) × Tells Fss each.1
Tells ((F ∷ Fs) ∷ Fss) each = (((x y : Values (F ∷ Fs)) → each.0 x y ≡ true → x ≡ y) × ((x : Values (F ∷ Fs)) → each.0 x x ≡ true)) × Tells Fss each.1

by-true : (Fss : List (List Field)) (each : Each Bool Fss) → Tells Fss each → (c d : Choice Fss) → by false false Fss each c d ≡ true → c ≡ d
by-true [] each all c d h = absurd c
by-true ([] ∷ Fss) each all (inl x) (inl y) h = refl
by-true ([] ∷ Fss) each all (inl x) (inr y) h = cc
by-true ([] ∷ Fss) each all (inr x) (inl y) h = cc
by-true ([] ∷ Fss) each all (inr x) (inr y) h = ap inr (by-true Fss each.1 all.1 x y h)
by-true ((F ∷ Fs) ∷ Fss) each all (inl x) (inl y) h = ap inl (all.0.0 x y h)
by-true ((F ∷ Fs) ∷ Fss) each all (inl x) (inr y) h = cc
by-true ((F ∷ Fs) ∷ Fss) each all (inr x) (inl y) h = cc
by-true ((F ∷ Fs) ∷ Fss) each all (inr x) (inr y) h = ap inr (by-true Fss each.1 all.1 x y h)

by-refl : (Fss : List (List Field)) (each : Each Bool Fss) → Tells Fss each → (c : Choice Fss) → by false false Fss each c c ≡ true
by-refl [] each all c = absurd c
by-refl ([] ∷ Fss) each all (inl x) = all.0 x
by-refl ([] ∷ Fss) each all (inr x) = by-refl Fss each.1 all.1 x
by-refl ((F ∷ Fs) ∷ Fss) each all (inl x) = all.0.1 x
by-refl ((F ∷ Fs) ∷ Fss) each all (inr x) = by-refl Fss each.1 all.1 x

-- how the variants compare: a word or a mark alone, and one with an operator
abbrev alone : {B : Type 0} → B → (Unit {0} → Unit {0} → Bool) × B
alone rest = (λ x y. true, rest)

abbrev with_operator : {B : Type 0} → B → (BinOp × Unit {0} → BinOp × Unit {0} → Bool) × B
with_operator rest = (λ x y. derived.ghosts.eq x.0 y.0, rest)

abbrev each : Each Bool of.the_parts
each = alone (alone (alone (alone (alone (alone (alone (alone (alone (alone (alone (alone (alone (alone (
    alone (alone (alone (alone (alone (alone (alone (alone (alone (alone (alone (alone (alone (alone (
    with_operator (with_operator (with_operator (alone (alone (alone (alone (tt)))))))))))))))))))))))))))))))))))

tells_alone : {B : Type 0} → B → ((x : Unit {0}) → true ≡ true) × B
tells_alone rest = (λ x. refl, rest)

tells_operator : {B : Type 0} → B → (((x y : BinOp × Unit {0}) → derived.ghosts.eq x.0 y.0 ≡ true → x ≡ y) × ((x : BinOp × Unit {0}) → derived.ghosts.eq x.0 x.0 ≡ true)) × B
tells_operator rest = ((λ x y h. ap (λ (o : BinOp). let p : BinOp × Unit {0} = (o, tt) in p) (same_true operator.the_type tt x.0 y.0 h), λ x. true_same operator.the_type x.0 x.0 refl), rest)

tells : Tells of.the_parts each
tells = tells_alone (tells_alone (tells_alone (tells_alone (tells_alone (tells_alone (tells_alone (tells_alone (tells_alone (tells_alone (tells_alone (tells_alone (tells_alone (tells_alone (
    tells_alone (tells_alone (tells_alone (tells_alone (tells_alone (tells_alone (tells_alone (tells_alone (tells_alone (tells_alone (tells_alone (tells_alone (tells_alone (tells_alone (
    tells_operator (tells_operator (tells_operator (tells_alone (tells_alone (tells_alone (tells_alone (tt)))))))))))))))))))))))))))))))))))

pub is_same_symbol-true : (a b : Symbol) → is_same_symbol a b ≡ true → a ≡ b
is_same_symbol-true a b h = sym (of.the_eta a) ∙ ap of.the_make (by-true of.the_parts each tells (of.as_values a) (of.as_values b) h) ∙ of.the_eta b

pub is_same_symbol-yes : (a b : Symbol) → a ≡ b → is_same_symbol a b ≡ true
is_same_symbol-yes a b h = subst (λ (x : Symbol). is_same_symbol a x ≡ true) h (by-refl of.the_parts each tells (of.as_values a))
