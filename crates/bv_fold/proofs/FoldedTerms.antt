-- The terms that were folded stay so while further terms are put, and one more is folded.
use Rattle.std.proofs.Common.{◌≡◌, ◌<◌, ◌≤◌, ℕ, zero, suc, Bool, true, not, List, [], ◌∷◌, ◌++◌, length, map, Option, Some, Result, Ok, Err, ⊎_elim, ℤ, pos, IsTrue, refl, sym, ap, ◌∙◌, subst, arith}
use Rattle.std.specs.Prelude.{slice_get, slice_index, replicate, Contains, IsSomeAnd, IfOk}
use Rattle.std.proofs.lemmas.Bool.{and_from, cases_order}
use Rattle.std.proofs.lemmas.List.{length-append}
use Rattle.c_tree.specs.Meaning.Runs.{are_of}
use Rattle.bv_term.specs.declared.op.Op.{Op}
use Rattle.bv_term.specs.declared.op.Op.TheVariants as op
use Rattle.bv_term.specs.Stores.{Terms, AreTerms, tv, op_words, fits_store, declared_ty}
use Rattle.bv_fold.specs.Folding.{operands, is_input, HasNoInput, NoInput, IsConst, IsExtended, IsFold}
use Rattle.bv_fold.specs.Steps.{AreBelow, renamed_op, is_const, are_consts, is_over_constants, zeros, AreWords, IsSame, AreSame, HasConstants}
use Rattle.bv_fold.specs.Remembered.{Remembered, IsRemembered}
use Rattle.bv_fold.proofs.Extended.{extended_itself, earlier_op, kept_op, tv_kept, words_count, fits_before}
use Rattle.bv_fold.proofs.Renamed.{operands_below, is_input_renamed, operands_renamed}
use Rattle.bv_fold.proofs.NextFolds.{fits_at, zeros_fit}

-- ---- further terms

pub longer : (old new : Terms) → IsExtended old new → length old.ops ≤ length new.ops
longer old new e = omega (arith, ap (λ l. length l) e.ops, length-append old.ops e.further)

one_further : (old new : Terms) (term folded : ℕ) → IsExtended old new → term < length old.ops → IsSame old term folded → IsSame new term folded
one_further old new term folded e below same = record {
  there = omega (arith, same.there, longer old new e);
  value = λ i fits. tv_kept old new folded i e same.there ∙ same.value i (fits_before old new i e fits) ∙ sym (tv_kept old new term i e below);
}

at_more : (xs : List ℕ) (y t : ℕ) → t < length xs → slice_index (xs ++ y ∷ []) t ≡ slice_index xs t
at_more [] y t h = absurd (omega arith)
at_more (x ∷ xs) y zero h = refl
at_more (x ∷ xs) y (suc t) h = at_more xs y t (omega arith)

at_last : (xs : List ℕ) (y t : ℕ) → t ≡ length xs → slice_index (xs ++ y ∷ []) t ≡ y
at_last [] y zero h = refl
at_last [] y (suc t) h = absurd (omega arith)
at_last (x ∷ xs) y zero h = absurd (omega arith)
at_last (x ∷ xs) y (suc t) h = at_last xs y t (omega arith)

-- what holds of the elements so far and of one more
pub each_more : (P : ℕ → ℕ → Type 0) (xs : List ℕ) (y : ℕ) → ((t : ℕ) → t < length xs → P t (slice_index xs t)) → P (length xs) y
    → (t : ℕ) → t < length (xs ++ y ∷ []) → P t (slice_index (xs ++ y ∷ []) t)
each_more P xs y before last t h =
    ⊎_elim (λ same. subst (P t) (sym (at_last xs y t same)) (subst (λ n. P n y) (sym same) last))
    (λ other. ⊎_elim (λ below. subst (P t) (sym (at_more xs y t below)) (before t below)) (λ above. absurd (past h above)) other)
    (cases_order t (length xs))
  where
    past : t < length (xs ++ y ∷ []) → ¬ (length xs < t)
    past below above = absurd (omega (arith, below, above, length-append xs (y ∷ [])))

pub same_more : (old new : Terms) (folded all : List ℕ) (term x : ℕ) → IsExtended old new → AreSame old folded → length folded ≡ term → term < length old.ops
    → IsSame new term x → all ≡ folded ++ x ∷ [] → AreSame new all
same_more old new folded all term x e same count below one is = subst (AreSame new) (sym is) (record {
  each = each_more (IsSame new) folded x
      (λ t h. one_further old new t (slice_index folded t) e (omega (arith, count, h, below)) (same.each t h))
      (subst (λ n. IsSame new n x) (sym count) one);
})

pub words_more : (old new : Terms) (ws : List ℕ) → IsExtended old new → length ws ≤ length old.ops → AreWords old ws → AreWords new ws
words_more old new ws e few are = record {
  each = λ t h. are.each t h ∙ sym (tv_kept old new t (zeros old) e (omega (arith, h, few))) ∙ ap (λ (l : List Bool). tv new t (record { values = replicate (length l) (pos 0) })) (sym e.inputs);
}

-- ---- constants

const_further : (old new : Terms) (s : ℕ) → IsExtended old new → IsConst (slice_get old.ops s) → IsConst (slice_get new.ops s)
const_further old new s e is = (is.0, ap (λ l. slice_get l s) e.ops ∙ kept_op old.ops e.further s (op.Const is.0) is.1)

are_consts_mapped : (ops : List Op) (to : ℕ → ℕ) (ss : List ℕ) → ((s : ℕ) → Contains ss s → is_const (slice_get ops (to s)) ≡ true) → are_consts ops (map to ss) ≡ true
are_consts_mapped ops to [] each = refl
are_consts_mapped ops to (s ∷ []) each = each s (0, omega arith, refl)
are_consts_mapped ops to (s ∷ t ∷ ss) each =
    and_from (is_const (slice_get ops (to s))) (are_consts ops (map to (t ∷ ss))) (each s (0, omega arith, refl))
    (are_consts_mapped ops to (t ∷ ss) (λ x h. each x (suc h.0, omega (arith, h.1), h.2)))

pub below_of : (k : ℕ) (ss : List ℕ) (s : ℕ) → AreBelow k ss → Contains ss s → s < k
below_of k [] s b h = absurd (omega (arith, h.1))
below_of k (x ∷ ss) s b (zero, h, e) = subst (λ n. n < k) e b.0
below_of k (x ∷ ss) s b (suc n, h, e) = below_of k ss s b.1 (n, omega (arith, h), e)

const_is : (o : Option Op) → IsConst o → is_const o ≡ true
const_is o is = ap is_const is.1

-- no input below a term: its operator is no input, and the folds of its operands are constants
pub has_constants : (first now : Terms) (folded : List ℕ) (term : ℕ) → IsExtended first now → AreTerms now → length folded ≡ term
    → ((t : ℕ) → t < length folded → HasNoInput first.ops t → IsConst (slice_get now.ops (slice_index folded t)))
    → HasNoInput first.ops term → HasConstants now.ops folded term
has_constants first now folded term e fit count consts (NoInput _ o is other below) =
    let to : ℕ → ℕ = slice_index folded in
    let here : slice_get now.ops term ≡ Some o = ap (λ l. slice_get l term) e.ops ∙ kept_op first.ops e.further term o is in
    let within : AreBelow term (operands o) = operands_below (length now.inputs) term o (fits_at now term o fit here) in
    let mapped : are_consts now.ops (map to (operands o)) ≡ true =
    are_consts_mapped now.ops to (operands o) (λ s h. const_is (slice_get now.ops (to s)) (consts s (omega (arith, count, below_of term (operands o) s within h)) (below s h))) in
    let over : is_over_constants now.ops (renamed_op to o) ≡ true =
    and_from (not (is_input (renamed_op to o))) (are_consts now.ops (operands (renamed_op to o))) (ap not (is_input_renamed to o ∙ other)) (ap (are_consts now.ops) (operands_renamed to o) ∙ mapped) in
    subst (λ x. IsSomeAnd x (λ o. IsTrue (is_over_constants now.ops (renamed_op to o)))) (sym here) over

-- ---- the outcome

if_ok_both : {A E : Type 0} (P Q R : A → Type 0) (r : Result A E) → IfOk r P → IfOk r Q → ((x : A) → P x → Q x → R x) → IfOk r R
if_ok_both P Q R (Ok x) h k both = both x h k
if_ok_both P Q R (Err e) h k both = tt

-- ---- what is remembered

pub nothing_remembered : (terms : Terms) → IsRemembered terms (record { folds = []; words = [] })
nothing_remembered terms = record {
  few_folds = omega arith;
  few_words = omega arith;
  folds = record { each = λ t h. absurd (omega (arith, h)) };
  words = record { each = λ t h. absurd (omega (arith, h)) };
  constant = λ t h. absurd (omega (arith, h));
}

-- what stands below a term does not change
pub no_input_before : (old new : Terms) (t : ℕ) → IsExtended old new → AreTerms old → t < length old.ops → HasNoInput new.ops t → HasNoInput old.ops t
no_input_before old new t e fit h (NoInput _ o is other below) =
    let here : slice_get old.ops t ≡ Some o = earlier_op old.ops e.further t o h (sym (ap (λ l. slice_get l t) e.ops) ∙ is) in
    let within : AreBelow t (operands o) = operands_below (length old.inputs) t o (fits_at old t o fit here) in
    NoInput t o here other (λ s has. no_input_before old new s e fit (omega (arith, h, below_of t (operands o) s within has)) (below s has))

pub no_input_after : (old new : Terms) (t : ℕ) → IsExtended old new → HasNoInput old.ops t → HasNoInput new.ops t
no_input_after old new t e (NoInput _ o is other below) =
    NoInput t o (ap (λ l. slice_get l t) e.ops ∙ kept_op old.ops e.further t o is) other (λ s has. no_input_after old new s e (below s has))

-- the store goes on
pub remembered_further : (old new : Terms) (r : Remembered) → IsExtended old new → AreTerms old → IsRemembered old r → IsRemembered new r
remembered_further old new r e fit is = record {
  few_folds = omega (arith, is.few_folds, longer old new e);
  few_words = omega (arith, is.few_words, longer old new e);
  folds = record { each = λ t h. one_further old new t (slice_index r.folds t) e (omega (arith, h, is.few_folds)) (is.folds.each t h) };
  words = words_more old new r.words e is.few_words is.words;
  constant = λ t h no_input. const_further old new (slice_index r.folds t) e
      (is.constant t h (no_input_before old new t e fit (omega (arith, h, is.few_folds)) no_input));
}

-- and one more term is folded
pub one_remembered : (old new : Terms) (r : Remembered) (folds : List ℕ) (term x : ℕ) → IsExtended old new → AreTerms old → IsRemembered old r
    → length r.folds ≡ term → term < length old.ops → IsSame new term x
    → (HasConstants old.ops r.folds term → IsConst (slice_get new.ops x)) → folds ≡ r.folds ++ x ∷ []
    → IsRemembered new (record { folds = folds; words = r.words })
one_remembered old new r folds term x e fit is count below same const all = record {
  few_folds = omega (arith, ap (λ l. length l) all, length-append r.folds (x ∷ []), count, below, longer old new e);
  few_words = omega (arith, is.few_words, longer old new e);
  folds = same_more old new r.folds folds term x e is.folds count below same all;
  words = words_more old new r.words e is.few_words is.words;
  constant = subst (λ (l : List ℕ). (t : ℕ) → t < length l → HasNoInput new.ops t → IsConst (slice_get new.ops (slice_index l t))) (sym all)
      (each_more (λ t y. HasNoInput new.ops t → IsConst (slice_get new.ops y)) r.folds x
      (λ t h. (remembered_further old new r e fit is).constant t h)
      (subst (λ n. HasNoInput new.ops n → IsConst (slice_get new.ops x)) (sym count)
      (λ no_input. const (has_constants old old r.folds term (extended_itself old) fit count is.constant (no_input_before old new term e fit below no_input)))));
}

-- what is remembered of a term is its fold
pub remembered_is_fold : (old new : Terms) (r : Remembered) (term : ℕ) → IsExtended old new → IsRemembered new r → term < length old.ops
    → term < length r.folds → IsFold old new term (slice_index r.folds term)
remembered_is_fold old new r term e is below here =
    let same = is.folds.each term here in
    record {
      there = same.there;
      same = λ i fits. same.value i (ap (λ l. are_of (map declared_ty l) i.values) e.inputs ∙ fits) ∙ tv_kept old new term i e below;
      constant = λ no_input. is.constant term here (no_input_after old new term e no_input);
    }

-- ---- words at zeros

pub zeros_as : (terms : Terms) (xs : List ℤ) → xs ≡ replicate (length terms.inputs) (pos 0) → fits_store terms (record { values = xs }) ≡ true
zeros_as terms xs is = ap (λ l. are_of (map declared_ty terms.inputs) l) is ∙ zeros_fit terms

pub words_are : (terms : Terms) (xs : List ℤ) (ws : List ℕ) → xs ≡ replicate (length terms.inputs) (pos 0) → ws ≡ op_words terms.ops xs → AreWords terms ws
unfolding tv
words_are terms xs ws is value = record { each = λ t h. ap (λ l. slice_index l t) (value ∙ ap (op_words terms.ops) is) }

pub words_as_many : (terms : Terms) (xs : List ℤ) (ws : List ℕ) → ws ≡ op_words terms.ops xs → length ws ≡ length terms.ops
words_as_many terms xs ws value = ap (λ l. length l) value ∙ words_count terms (record { values = xs })
