-- What is known of a name in a list of known names and in one behind another.
use Rattle.std.proofs.Common.{◌≡◌, ◌≤◌, ℕ, Bool, true, false, List, [], ◌∷◌, ◌++◌, map, Option, Some, None, refl, sym, ap, ◌∙◌, arith, eq-eqb, ne_eqb}
use Rattle.std.specs.Prelude.{IfSome, is_some, if◌then◌else◌, ◌==◌, option_map, bytes_eq}
use Rattle.std.specs.Option.{option_or, option_map_or}
use Rattle.std.proofs.lemmas.Slice.Eq.{bytes_eq-Decides}
use Rattle.c_tree.specs.Checking.Scopes.{Entity, Known, latest, entity_of, is_known_at}
use Rattle.print_laws.proofs.AtFileScope.DifferentNames.{IsNew}
use Rattle.std.proofs.option.Match.{None-if_not_some}
use Rattle.plain_laws.proofs.Options.{option_or-assoc, option_or-None}

-- each known name is so
abbrev pub AllKnown : (Known → Type 0) → List Known → Type 0
AllKnown P [] = Unit {0}
AllKnown P (k ∷ ks) = P k × AllKnown P ks

-- their names
abbrev pub known_names : List Known → List (List ℕ)
known_names ks = map (λ (k : Known). k.name) ks

pub all_append : (P : Known → Type 0) (ks ls : List Known) → AllKnown P ks → AllKnown P ls → AllKnown P (ks ++ ls)
all_append P [] ls h g = g
all_append P (k ∷ ks) ls h g = (h.0, all_append P ks ls h.1 g)

-- ---- the latest of a name

pub latest_append : (ks ls : List Known) (name : List ℕ) → latest (ks ++ ls) name ≡ option_or (latest ls name) (latest ks name)
latest_append [] ls name = sym (option_or-None (latest ls name))
latest_append (k ∷ ks) ls name =
    let here : Option Known = if bytes_eq k.name name then Some k else None in
    ap (λ o. option_or o here) (latest_append ks ls name) ∙ option_or-assoc (latest ls name) (latest ks name) here

chosen_is : (P : Known → Type 0) (k : Known) (name : List ℕ) (o : Option Known) (b : Bool) → bytes_eq k.name name ≡ b → P k → IfSome o (λ j. P j × (j.name ≡ name)) → IfSome (option_or o (if b then Some k else None)) (λ j. P j × (j.name ≡ name))
chosen_is P k name (Some j) b e h g = g
chosen_is P k name None true e h g = (h, (bytes_eq-Decides k.name name).0 e)
chosen_is P k name None false e h g = tt

-- it has the name, and is as each is
pub latest_is : (P : Known → Type 0) (ks : List Known) (name : List ℕ) → AllKnown P ks → IfSome (latest ks name) (λ k. P k × (k.name ≡ name))
latest_is P [] name h = tt
latest_is P (k ∷ ks) name h = chosen_is P k name (latest ks name) (bytes_eq k.name name) refl h.0 (latest_is P ks name h.1)

none_before : (k : Known) (name : List ℕ) (o : Option Known) (b : Bool) → bytes_eq k.name name ≡ b → option_or o (if b then Some k else None) ≡ None → (name ≡ k.name → ⊥) × (o ≡ None)
none_before k name (Some j) b e h = absurd (cc)
none_before k name None true e h = absurd (cc)
none_before k name None false e h =
    (λ same. let there = (bytes_eq-Decides k.name name).1 (sym same) in absurd (cc), refl)

-- there is none of a name, exactly where it is new
pub none_new : (ks : List Known) (name : List ℕ) → latest ks name ≡ None → IsNew name (known_names ks)
none_new [] name h = tt
none_new (k ∷ ks) name h =
    let parts = none_before k name (latest ks name) (bytes_eq k.name name) refl h in (parts.0, none_new ks name parts.1)

other_name : (k : Known) (name : List ℕ) (b : Bool) → bytes_eq k.name name ≡ b → (name ≡ k.name → ⊥) → (if b then Some k else None) ≡ None
other_name k name true e new = absurd (new (sym ((bytes_eq-Decides k.name name).0 e)))
other_name k name false e new = refl

new_none : (ks : List Known) (name : List ℕ) → IsNew name (known_names ks) → latest ks name ≡ None
new_none [] name h = refl
new_none (k ∷ ks) name h =
    (λ i. option_or (new_none ks name h.1 i) (other_name k name (bytes_eq k.name name) refl h.0 i))

-- ---- at a depth

-- known in the scope of this depth
abbrev pub IsAt : ℕ → Known → Type 0
IsAt d k = k.depth ≡ d

-- behind names of another depth those of this one
known_of : (d e : ℕ) (o p : Option Known) → (e ≡ d → ⊥) → IfSome o (λ k. k.depth ≡ d) → IfSome p (λ k. k.depth ≡ e) → option_map_or (λ (k : Known). k.depth == d) (option_or o p) false ≡ is_some o
known_of d e (Some k) p other h g = eq-eqb k.depth d h
known_of d e None None other h g = refl
known_of d e None (Some k) other h g = ne_eqb k.depth d (λ same. other (sym g ∙ same))

-- as each is, and nothing of its name
latest_all : (P : Known → Type 0) (ks : List Known) (name : List ℕ) → AllKnown P ks → IfSome (latest ks name) P
latest_all P ks name h = first_part (latest ks name) (latest_is P ks name h)
  where
    first_part : (o : Option Known) → IfSome o (λ k. P k × (k.name ≡ name)) → IfSome o P
    first_part None g = tt
    first_part (Some k) g = g.0

-- in the scopes of both depths, only the one asked for counts
known_at : (d e : ℕ) (ks ls : List Known) (name : List ℕ) → (e ≡ d → ⊥) → AllKnown (IsAt e) ks → AllKnown (IsAt d) ls → is_known_at (ks ++ ls) d name ≡ is_some (latest ls name)
known_at d e ks ls name other h g =
    ap (λ o. option_map_or (λ (k : Known). k.depth == d) o false) (latest_append ks ls name)
    ∙ known_of d e (latest ls name) (latest ks name) other (latest_all (IsAt d) ls name g) (latest_all (IsAt e) ks name h)

-- a name that is not known again is new
pub unknown_new : (ks ls : List Known) (name : List ℕ) → AllKnown (IsAt 0) ks → AllKnown (IsAt 1) ls → is_known_at (ks ++ ls) 1 name ≡ false → IsNew name (known_names ls)
unknown_new ks ls name h g none =
    none_new ls name (None-if_not_some (latest ls name) (sym (known_at 1 0 ks ls name (λ e. omega (arith, e)) h g) ∙ none))

pub new_unknown : (ks ls : List Known) (name : List ℕ) → AllKnown (IsAt 0) ks → AllKnown (IsAt 1) ls → IsNew name (known_names ls) → is_known_at (ks ++ ls) 1 name ≡ false
new_unknown ks ls name h g new =
    known_at 1 0 ks ls name (λ e. omega (arith, e)) h g ∙ ap is_some (new_none ls name new)

-- ---- what a name stands for

-- known at file scope or in the whole unit
abbrev pub IsShallow : Known → Type 0
IsShallow k = k.depth ≤ 1

shallow_at : (d : ℕ) (o : Option Known) → 2 ≤ d → IfSome o IsShallow → option_map_or (λ (k : Known). k.depth == d) o false ≡ false
shallow_at d None h g = refl
shallow_at d (Some k) h g = ne_eqb k.depth d (λ same. omega (arith, same, h, g))

-- the inner scopes have none of names at file scope
pub shallow_unknown : (ks : List Known) (d : ℕ) (name : List ℕ) → 2 ≤ d → AllKnown IsShallow ks → is_known_at ks d name ≡ false
shallow_unknown ks d name deep h = shallow_at d (latest ks name) deep (latest_all IsShallow ks name h)

-- what a name stands for is as each known name is
pub entity_is : (P : Known → Type 0) (ks : List Known) (name : List ℕ) (e : Entity) → AllKnown P ks → entity_of ks name ≡ Some e → (k : Known) × ((P k × (k.name ≡ name)) × (k.entity ≡ e))
entity_is P ks name e h is = found (latest ks name) (latest_is P ks name h) is
  where
    found : (o : Option Known) → IfSome o (λ k. P k × (k.name ≡ name)) → option_map (λ (k : Known). k.entity) o ≡ Some e → (k : Known) × ((P k × (k.name ≡ name)) × (k.entity ≡ e))
    found None g same = absurd (cc)
    found (Some k) g same = (k, (g, cc))
