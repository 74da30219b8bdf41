-- What is asked of the operators of terms and of the numbers of inputs, in the forms that inductions take.
use Rattle.std.proofs.Common.{◌≡◌, ℕ, zero, suc, ◌+◌, ◌^◌, ◌<◌, ℤ, pos, negsuc, Bool, true, false, List, [], ◌∷◌, map, length, get_or, refl, arith}
use Rattle.std.specs.Prelude.{◌&&◌, slice_index}
use Rattle.std.proofs.lemmas.Bool.{and_parts, and_from}
use Rattle.c_tree.specs.Meaning.Values.{is_of}
use Rattle.c_tree.specs.Meaning.Runs.{are_of}
use Rattle.bv_term.specs.declared.op.Op.{Op}
use Rattle.bv_term.specs.declared.op.Op.TheVariants as op
use Rattle.bv_term.specs.Stores.{FitsOp, FitFrom, op_words, declared_ty}
use Rattle.bit_circuits.specs.Fitting.{IsOver}

-- ---- operators

abbrev pub AreOver : ℕ → List Op → Type 0
AreOver inputs [] = Unit {0}
AreOver inputs (o ∷ ops) = IsOver inputs o × AreOver inputs ops

is-over : (inputs k : ℕ) (o : Op) → FitsOp inputs k o → IsOver inputs o
is-over inputs k (op.Input n) h = h
is-over inputs k (op.Const n) h = h
is-over inputs k o h = tt

pub are-over : (inputs k : ℕ) (ops : List Op) → FitFrom inputs k ops → AreOver inputs ops
are-over inputs k [] h = tt
are-over inputs k (o ∷ ops) h = (is-over inputs k o h.0, are-over inputs (suc k) ops h.1)

pub over-at : (inputs : ℕ) (ops : List Op) (i : ℕ) (d : Op) → AreOver inputs ops → i < length ops → IsOver inputs (get_or ops i d)
over-at inputs [] i d h l = absurd (omega arith)
over-at inputs (o ∷ ops) zero d h l = h.0
over-at inputs (o ∷ ops) (suc i) d h l = over-at inputs ops i d h.1 (omega arith)

-- the word of a term, where the inputs have these numbers
unfoldable pub term_word : List Op → ℕ → List ℤ → ℕ
term_word ops t zs = slice_index (op_words ops zs) t

-- ---- inputs

abbrev pub FitsInput : Bool → ℤ → Type 0
FitsInput signed z = is_of (declared_ty signed) z ≡ true

abbrev pub FitsInputs : List Bool → List ℤ → Type 0
FitsInputs [] [] = Unit {0}
FitsInputs [] (z ∷ zs) = ⊥
FitsInputs (s ∷ inputs) [] = ⊥
FitsInputs (s ∷ inputs) (z ∷ zs) = FitsInput s z × FitsInputs inputs zs

pub inputs-fit : (inputs : List Bool) (zs : List ℤ) → are_of (map declared_ty inputs) zs ≡ true → FitsInputs inputs zs
inputs-fit [] [] h = tt
inputs-fit [] (z ∷ zs) h = absurd (cc h)
inputs-fit (s ∷ inputs) [] h = absurd (cc h)
inputs-fit (s ∷ inputs) (z ∷ zs) h =
    let both = and_parts (is_of (declared_ty s) z) (are_of (map declared_ty inputs) zs) h in
    (both.0, inputs-fit inputs zs both.1)

pub fit-inputs : (inputs : List Bool) (zs : List ℤ) → FitsInputs inputs zs → are_of (map declared_ty inputs) zs ≡ true
fit-inputs [] [] h = refl
fit-inputs [] (z ∷ zs) h = absurd h
fit-inputs (s ∷ inputs) [] h = absurd h
fit-inputs (s ∷ inputs) (z ∷ zs) h = and_from (is_of (declared_ty s) z) (are_of (map declared_ty inputs) zs) h.0 (fit-inputs inputs zs h.1)
