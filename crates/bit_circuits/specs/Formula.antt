-- The clauses of conditions: those of the gates of all terms, and one for each condition.
use Rattle.std.specs.Prelude.{
  ◌≡◌,
  ◌≢◌,
  ◌<◌,
  ◌↔◌,
  ◌^◌,
  ℕ,
  zero,
  suc,
  ◌+◌,
  ◌*◌,
  ℤ,
  pos,
  neg_ℤ,
  Bool,
  true,
  false,
  if◌then◌else◌,
  List,
  [],
  ◌∷◌,
  ◌++◌,
  map,
  length,
  All,
}
use Rattle.std.specs.List.{slice_index_or}
use Rattle.std.specs.Int.{cast_signed, w32}
use Rattle.cnf_form.specs.Truth.{literal_true, Satisfies}
use Rattle.bv_term.specs.declared.op.Op.{Op}
use Rattle.bv_term.specs.declared.op.Op.TheVariants as op
use Rattle.c_tree.specs.declared.program.Input.{Input}
use Rattle.bv_term.specs.Stores.{Terms, tv, fits_store}
use Rattle.bit_circuits.specs.declared.gate.Gate.{Gate}
use Rattle.bit_circuits.specs.declared.gate.Gate.TheVariants as gates
use Rattle.bit_circuits.specs.Tidy.{tidy_clauses}
use Rattle.bit_circuits.specs.Gates.{gates_clauses}
use Rattle.bit_circuits.specs.Circuits.{Wired, Circuit, done, ◌>>=◌}
use Rattle.bit_circuits.specs.Words.{
  word_value,
  true_literal,
  false_literal,
  falses,
  constant_bits,
  truth_word,
  top,
  pairwise,
  if_some,
  add,
  subtract,
  negate,
  multiply,
  quotient_bits,
  remainder_bits,
  quotient_signed,
  remainder_signed,
  shift_up,
  shift_down,
  equal,
  less,
  less_signed,
}

-- k variables, the first of which is n
abbrev pub variables_from : ℕ → ℕ → List ℤ
variables_from zero n = []
variables_from (suc k) n = pos n ∷ variables_from k (suc n)

-- the first variable of an input's word; those of the gates come after those of all inputs
abbrev pub first_of : ℕ → ℕ
first_of n = 2 + 32 * n

abbrev pub input_bits : ℕ → List ℤ
input_bits n = variables_from 32 (first_of n)

-- the bits of a term, among those of all terms
abbrev pub bits_at : List (List ℤ) → ℕ → List ℤ
bits_at words t = slice_index_or words t (falses 32)

-- the bits of an operator, from those of its operands
unfoldable pub op_bits : (ℕ → List ℤ) → Op → Circuit (List ℤ)
op_bits at (op.Input n) = done (input_bits n)
op_bits at (op.Const n) = done (constant_bits 32 n)
op_bits at (op.Not a) = done (map neg_ℤ (at a))
op_bits at (op.Neg a) = negate (at a)
op_bits at (op.Add a b) = add (at a) (at b)
op_bits at (op.Sub a b) = subtract (at a) (at b)
op_bits at (op.Mul a b) = multiply (at a) (at b)
op_bits at (op.DivU a b) = quotient_bits (at a) (at b)
op_bits at (op.RemU a b) = remainder_bits (at a) (at b)
op_bits at (op.DivS a b) = quotient_signed (at a) (at b)
op_bits at (op.RemS a b) = remainder_signed (at a) (at b)
op_bits at (op.Shl a b) = shift_up (at a) (at b)
op_bits at (op.ShrU a b) = shift_down false_literal (at a) (at b)
op_bits at (op.ShrS a b) = shift_down (top (at a)) (at a) (at b)
op_bits at (op.And a b) = pairwise (λ l m. gates.And l m) (at a) (at b)
op_bits at (op.Or a b) = pairwise (λ l m. gates.Or l m) (at a) (at b)
op_bits at (op.Xor a b) = pairwise (λ l m. gates.Xor l m) (at a) (at b)
op_bits at (op.Eq a b) = equal (at a) (at b) >>= (λ l. done (truth_word 32 l))
op_bits at (op.LtU a b) = less (at a) (at b) >>= (λ l. done (truth_word 32 l))
op_bits at (op.LtS a b) = less_signed (at a) (at b) >>= (λ l. done (truth_word 32 l))
op_bits at (op.Ite c a b) = if_some (at c) (at a) (at b)

-- the bits of the terms, in order, from those of the terms before them on
unfoldable pub terms_bits : List (List ℤ) → List Op → Circuit (List (List ℤ))
terms_bits words [] = done words
terms_bits words (o ∷ ops) = op_bits (bits_at words) o >>= (λ w. terms_bits (words ++ w ∷ []) ops)

-- the circuit of all terms, over so many inputs
abbrev pub terms_wired : ℕ → List Op → Wired (List (List ℤ))
terms_wired inputs ops = terms_bits [] ops (first_of inputs)

-- the number of variables
unfoldable pub variables_of : ℕ → List Op → ℕ
variables_of inputs ops = 1 + 32 * inputs + length (terms_wired inputs ops).gates

-- the clauses: variable 1 is true, each gate is what it says, and some bit of each condition is true
unfoldable pub clauses_of : ℕ → List Op → List ℕ → List (List ℤ)
clauses_of inputs ops conditions =
    let all = terms_wired inputs ops in
    (true_literal ∷ []) ∷ (gates_clauses (first_of inputs) all.gates ++ tidy_clauses (map (bits_at all.out) conditions))

-- the number of variables, and the clauses, of terms and conditions among them
abbrev pub VariablesOf : Terms → ℕ
VariablesOf terms = variables_of (length terms.inputs) terms.ops

abbrev pub ClausesOf : Terms → List ℕ → List (List ℤ)
ClausesOf terms conditions = clauses_of (length terms.inputs) terms.ops conditions

-- ---- what an assignment says of the inputs

-- the number of a word, which is read as signed or not
abbrev pub number_read : Bool → ℕ → ℤ
number_read signed x = if signed then cast_signed w32 x else pos x

-- the numbers of the inputs from n on
abbrev pub decoded_from : List Bool → ℕ → List Bool → List ℤ
decoded_from values n [] = []
decoded_from values n (signed ∷ inputs) = number_read signed (word_value (literal_true values) (input_bits n))
    ∷ decoded_from values (suc n) inputs

abbrev pub decoded_words : List Bool → List Bool → List ℤ
decoded_words inputs values = decoded_from values 0 inputs

abbrev pub input_of : Terms → List Bool → Input
input_of terms values = record { values = decoded_words terms.inputs values }

-- ---- what the clauses say

-- At an input that fits the store, all conditions are nonzero exactly where some satisfying assignment decodes to it,
-- and every satisfying assignment decodes to an input that fits. (An assignment has one value per variable.)
pub record IsFormulaOf (terms : Terms) (conditions : List ℕ) (variables : ℕ) (clauses : List (List ℤ)) : Type 0 where
  pub fits : (values : List Bool) → Satisfies values clauses → fits_store terms (input_of terms values) ≡ true
  pub solved : (i : Input) → fits_store terms i ≡ true
      → All (λ t. tv terms t i ≢ 0) conditions ↔ ((values : List Bool) × (length values ≡ variables)
      × Satisfies values clauses × (input_of terms values ≡ i))
