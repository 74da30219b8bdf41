-- What is asked of the operators of terms.
use Rattle.std.specs.Prelude.{◌<◌, ◌^◌, ℕ, List, [], ◌∷◌}
use Rattle.bv_term.specs.declared.op.Op.{Op}
use Rattle.bv_term.specs.declared.op.Op.TheVariants as op

-- the operator's input is among the first so many, and its constant is a word
abbrev pub IsOver : ℕ → Op → Type 0
IsOver inputs (op.Input n) = n < inputs
IsOver inputs (op.Const n) = n < 2 ^ 32
IsOver inputs o = Unit {0}
