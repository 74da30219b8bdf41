-- Vectors of counts: what they cost, and which lie in a box.
use Rattle.std.specs.Prelude.{ℕ, ◌+◌, ◌*◌, ◌≤◌, List, [], ◌∷◌}
use Rattle.std.specs.List.{AllZip}
use Rattle.lin_rows.specs.declared.count_box.CountBox.{CountBox}
use Rattle.lin_rows.specs.declared.objective.Objective.{Objective}

-- the sum of cost times count
abbrev pub cost_by : List ℕ → List ℕ → ℕ
cost_by (c ∷ cs) (n ∷ ns) = c * n + cost_by cs ns
cost_by [] ns = 0
cost_by (c ∷ cs) [] = 0

-- what a vector costs
abbrev pub cost : Objective → List ℕ → ℕ
cost objective x = cost_by objective.costs x

-- the vector has a count for each limit, within it
abbrev pub IsInBox : CountBox → List ℕ → Type 0
IsInBox within x = AllZip (λ limit n. (limit.0 ≤ n) × (n ≤ limit.1)) within.limits x
