-- The next term is folded: what is put has its value.
use Rattle.std.proofs.Common.{◌≡◌, ◌<◌, ℕ, zero, suc, ◌+◌, Bool, true, false, not, List, [], ◌∷◌, length, map, Option, Some, None, pos, refl, sym, ap, ◌∙◌, subst, arith}
use Rattle.std.specs.Prelude.{slice_get, slice_index, replicate}
use Rattle.std.proofs.lemmas.Bool.{and_parts}
use Rattle.std.proofs.lemmas.Option.{slice_get_within}
use Rattle.c_tree.specs.declared.program.Input.{Input}
use Rattle.c_tree.specs.Meaning.Runs.{are_of}
use Rattle.bv_term.specs.declared.op.Op.{Op}
use Rattle.bv_term.specs.declared.op.Op.TheVariants as op
use Rattle.bv_term.specs.Words.{op_word}
use Rattle.bv_term.specs.Stores.{Terms, AreTerms, FitsOp, FitFrom, ops_with, op_number, input_word, tv, fits_store, declared_ty}
use Rattle.bv_term.proofs.PutLaws.{put_found, put_within, put_fits}
use Rattle.bv_term.proofs.ValueLaws.{fitting_small, tv_of_op}
use Rattle.bv_term.proofs.WordLaws.{SameBelow, word_same}
use Rattle.bv_fold.specs.Folding.{operands, is_input, IsExtended}
use Rattle.bv_fold.specs.Steps.{renamed_op, is_const, are_consts, is_over_constants, zeros, AreWords, IsSame, AreSame}
use Rattle.bv_fold.specs.declared.stand.Stand.{Stand}
use Rattle.bv_fold.specs.declared.stand.Stand.TheVariants as stand
use Rattle.bv_fold.specs.Standing.{AreWordsOf, StandsFor, IsPut}
use Rattle.bv_fold.proofs.Extended.{tv_kept, put_extends}
use Rattle.bv_fold.proofs.Renamed.{word_renamed, AreSameAt, word_on_operands, renamed_fits}
use Rattle.plain_laws.proofs.Booleans.{false_from_not}

-- ---- the store

fit_at : (inputs k : ℕ) (ops : List Op) (t : ℕ) (o : Op) → FitFrom inputs k ops → slice_get ops t ≡ Some o → FitsOp inputs (k + t) o
fit_at inputs k [] t o f is = absurd (cc is)
fit_at inputs k (x ∷ ops) zero o f is = subst (λ n. FitsOp inputs n o) plain (subst (FitsOp inputs k) first f.0)
  where
    first : x ≡ o
    first = cc is

    plain : k ≡ k + 0
    plain = omega arith
fit_at inputs k (x ∷ ops) (suc t) o f is = subst (λ n. FitsOp inputs n o) next (fit_at inputs (suc k) ops t o f.1 is)
  where
    next : suc k + t ≡ k + suc t
    next = omega arith

none_before : (n : ℕ) → 0 + n ≡ n
none_before n = omega arith

-- the operator of a term names terms before it
pub fits_at : (terms : Terms) (t : ℕ) (o : Op) → AreTerms terms → slice_get terms.ops t ≡ Some o → FitsOp (length terms.inputs) t o
fits_at terms t o fit is =
    subst (λ n. FitsOp (length terms.inputs) n o) (none_before t) (fit_at (length terms.inputs) 0 terms.ops t o fit is)

-- all numbers 0 are an input of the store
zeros_are_of : (inputs : List Bool) → are_of (map declared_ty inputs) (replicate (length inputs) (pos 0)) ≡ true
zeros_are_of [] = refl
zeros_are_of (true ∷ inputs) = zeros_are_of inputs
zeros_are_of (false ∷ inputs) = zeros_are_of inputs

pub zeros_fit : (terms : Terms) → fits_store terms (zeros terms) ≡ true
zeros_fit terms = zeros_are_of terms.inputs

-- ---- the fold of a term, before it is put

to_fold : List ℕ → ℕ → ℕ
to_fold folded = slice_index folded

-- the word of a term is that of its operator over the folds of its operands
over_folds_word : (terms : Terms) (i : Input) (folded : List ℕ) (term : ℕ) (o : Op)
    → AreTerms terms → slice_get terms.ops term ≡ Some o → length folded ≡ term → AreSame terms folded → fits_store terms i ≡ true
    → op_word (input_word i.values) (λ s. tv terms s i) (renamed_op (slice_index folded) o) ≡ tv terms term i
over_folds_word terms i folded term o fit is count folds fits =
    let same : SameBelow term (λ s. tv terms (slice_index folded s) i) (λ s. tv terms s i) = record { each = λ s below. (folds.each s (omega (arith, count, below))).value i fits } in
    word_renamed (input_word i.values) (λ s. tv terms s i) (slice_index folded) o
    ∙ word_same (input_word i.values) (λ s. tv terms (slice_index folded s) i) (λ s. tv terms s i) (length terms.inputs) term o same (fits_at terms term o fit is)
    ∙ sym (tv_of_op terms i term o fit is)

-- it can be put
pub over_folds_fits : (terms : Terms) (folded : List ℕ) (term : ℕ) (o : Op)
    → AreTerms terms → slice_get terms.ops term ≡ Some o → length folded ≡ term → AreSame terms folded
    → FitsOp (length terms.inputs) (length terms.ops) (renamed_op (slice_index folded) o)
over_folds_fits terms folded term o fit is count folds =
    renamed_fits (length terms.inputs) term (length terms.ops) (slice_index folded) o (fits_at terms term o fit is) (λ s below. (folds.each s (omega (arith, count, below))).there)

-- ---- putting it

-- the word of what is put
put_word : (old new : Terms) (o : Op) (i : Input) → AreTerms old → FitsOp (length old.inputs) (length old.ops) o
    → new.inputs ≡ old.inputs → new.ops ≡ ops_with o old.ops
    → tv new (op_number o old.ops) i ≡ op_word (input_word i.values) (λ s. tv new s i) o
put_word old new o i fit fits inputs ops =
    let puts : FitFrom (length old.inputs) 0 (ops_with o old.ops) = put_fits (length old.inputs) o 0 old.ops fit (subst (λ n. FitsOp (length old.inputs) n o) (sym (none_before (length old.ops))) fits) in
    let fit_new : AreTerms new = subst (λ l. FitFrom l 0 new.ops) (sym (ap length inputs)) (subst (FitFrom (length old.inputs) 0) (sym ops) puts) in
    tv_of_op new i (op_number o old.ops) o fit_new (ap (λ l. slice_get l (op_number o old.ops)) ops ∙ put_found o old.ops)

there_put : (old new : Terms) (o : Op) → new.ops ≡ ops_with o old.ops → op_number o old.ops < length new.ops
there_put old new o ops = subst (λ l. op_number o old.ops < length l) (sym ops) (put_within o old.ops)

-- an operator is put
pub put_operator_is : (old new : Terms) (o : Op) → AreTerms old → FitsOp (length old.inputs) (length old.ops) o
    → new.inputs ≡ old.inputs → new.ops ≡ ops_with o old.ops → IsPut old new (stand.Operator o) (op_number o old.ops)
put_operator_is old new o fit fits inputs ops = record {
  there = there_put old new o ops;
  value = λ i _.
      let input : ℕ → ℕ = input_word i.values in
      let kept : SameBelow (length old.ops) (λ s. tv new s i) (λ s. tv old s i) = record { each = λ s below. tv_kept old new s i (put_extends old new o inputs ops) below } in
      put_word old new o i fit fits inputs ops ∙ word_same input (λ s. tv new s i) (λ s. tv old s i) (length old.inputs) (length old.ops) o kept fits;
}

-- the words of a store are those of its operators
pub words_of_store : (terms : Terms) (i : Input) → AreTerms terms → fits_store terms i ≡ true → AreWordsOf terms (input_word i.values) (λ t. tv terms t i)
words_of_store terms i fit fits = record {
  small = λ t. fitting_small terms i t fit fits;
  each = λ t o is. tv_of_op terms i t o fit is;
}

fits_back : (old new : Terms) (i : Input) → new.inputs ≡ old.inputs → fits_store new i ≡ true → fits_store old i ≡ true
fits_back old new i inputs fits = sym (ap (λ l. are_of (map declared_ty l) i.values) inputs) ∙ fits

-- what stands for the operator over the folds is put
pub stand_is_same : (old new : Terms) (folded : List ℕ) (term : ℕ) (o : Op) (s : Stand) (t : ℕ)
    → AreTerms old → slice_get old.ops term ≡ Some o → length folded ≡ term → AreSame old folded
    → StandsFor old (renamed_op (slice_index folded) o) s → IsExtended old new → IsPut old new s t → IsSame new term t
stand_is_same old new folded term o s t fit is count folds stands extends put = record {
  there = put.there;
  value = λ i fits.
      let fits_old = fits_back old new i extends.inputs fits in
      put.value i fits
      ∙ stands.same (input_word i.values) (λ x. tv old x i) (words_of_store old i fit fits_old)
      ∙ over_folds_word old i folded term o fit is count folds fits_old
      ∙ sym (tv_kept old new term i extends (slice_get_within old.ops term o is));
}

-- ---- constants

const_of : (o : Option Op) → is_const o ≡ true → (n : ℕ) × (o ≡ Some (op.Const n))
const_of None h = absurd (cc h)
const_of (Some (op.Const n)) h = (n, refl)
const_of (Some (op.Input n)) h = absurd (cc h)
const_of (Some o) h = absurd (cc h)

const_same : (terms : Terms) (i j : Input) (s : ℕ) → AreTerms terms → is_const (slice_get terms.ops s) ≡ true → tv terms s i ≡ tv terms s j
const_same terms i j s fit is =
    let one = const_of (slice_get terms.ops s) is in
    tv_of_op terms i s (op.Const one.0) fit one.1 ∙ sym (tv_of_op terms j s (op.Const one.0) fit one.1)

consts_same : (terms : Terms) (i j : Input) (ss : List ℕ) → AreTerms terms → are_consts terms.ops ss ≡ true → AreSameAt (λ s. tv terms s i) (λ s. tv terms s j) ss
consts_same terms i j [] fit are = tt
consts_same terms i j (s ∷ []) fit are = (const_same terms i j s fit are, tt)
consts_same terms i j (s ∷ t ∷ ss) fit are =
    let both = and_parts (is_const (slice_get terms.ops s)) (are_consts terms.ops (t ∷ ss)) are in
    (const_same terms i j s fit both.0, consts_same terms i j (t ∷ ss) fit both.1)

-- over constants, the word at one input is that at every input
pub constant_is_same : (old new : Terms) (words folded : List ℕ) (term t : ℕ) (o : Op)
    → AreTerms old → slice_get old.ops term ≡ Some o → length folded ≡ term → AreSame old folded
    → AreWords old words → term < length words → is_over_constants old.ops (renamed_op (slice_index folded) o) ≡ true
    → IsExtended old new → IsPut old new (stand.Constant (slice_index words term)) t → IsSame new term t
constant_is_same old new words folded term t o fit is count folds are within over_consts extends put = record {
  there = put.there;
  value = λ i fits.
      let over : Op = renamed_op (slice_index folded) o in
      let z : Input = zeros old in
      let both = and_parts (not (is_input over)) (are_consts old.ops (operands over)) over_consts in
      put.value i fits
      ∙ are.each term within
      ∙ sym (over_folds_word old z folded term o fit is count folds (zeros_fit old))
      ∙ word_on_operands (input_word z.values) (input_word i.values) (λ s. tv old s z) (λ s. tv old s i) over (false_from_not (is_input over) both.0) (consts_same old z i (operands over) fit both.1)
      ∙ over_folds_word old i folded term o fit is count folds (fits_back old new i extends.inputs fits)
      ∙ sym (tv_kept old new term i extends (slice_get_within old.ops term o is));
}
