-- Sums of whole numbers, and the numbers that an evaluation takes on its way.
-- An evaluation is written as the list of those numbers in order, over whole numbers without bounds. It can be made
-- in i128 exactly where none of them leaves i128.
use Rattle.std.specs.Prelude.{ℤ, pos, ◌+ℤ◌, ◌-ℤ◌, List, [], ◌∷◌, All, Any}
use Rattle.std.specs.Int.{w128}
use Rattle.std.specs.Prelude.{FitsSigned}

-- the sum of a list of whole numbers
abbrev pub total : List ℤ → ℤ
total [] = pos 0
total (z ∷ zs) = z +ℤ total zs

-- taking the numbers of a list one by one into s takes each of them, and each result
abbrev pub steps_by : (ℤ → ℤ → ℤ) → ℤ → List ℤ → List ℤ
steps_by op s [] = []
steps_by op s (z ∷ zs) = z ∷ op s z ∷ steps_by op (op s z) zs

-- adding them to s
abbrev pub addition_steps : ℤ → List ℤ → List ℤ
addition_steps s zs = steps_by (λ sum z. sum +ℤ z) s zs

-- taking them from r
abbrev pub subtraction_steps : ℤ → List ℤ → List ℤ
subtraction_steps r zs = steps_by (λ rest z. rest -ℤ z) r zs

-- every step lies in i128
pub record StaysInI128 (steps : List ℤ) : Type 0 where
  pub each : All (λ z. FitsSigned w128 z) steps

-- some step lies outside i128
abbrev pub LeavesI128 : List ℤ → Type 0
LeavesI128 steps = Any (λ z. ¬ FitsSigned w128 z) steps
