-- A batch of edges whose reduced costs are computed side by side, in one pass over the rows.
-- Each edge k of a batch has a list w k of numbers that are taken from it one by one.
use Rattle.std.specs.Prelude.{ℕ, ℤ, pos, ◌+◌, ◌-ℤ◌, ◌*ℤ◌, List, [], ◌∷◌, ◌++◌, map}
use Rattle.std.specs.List.{fold}
use Rattle.lin_rows.specs.Steps.{subtraction_steps}
use Rattle.bound_cert.specs.Dual.{best_limit}

-- d times each cost
abbrev pub starts : ℤ → List ℕ → List ℤ
starts d costs = map (λ cost. d *ℤ pos cost) costs

-- what the lists leave of each number of a batch, from an edge on
abbrev pub lefts : (ℕ → List ℤ) → ℕ → List ℤ → List ℤ
lefts w edge [] = []
lefts w edge (r ∷ rs) = fold (λ rest z. rest -ℤ z) r (w edge) ∷ lefts w (edge + 1) rs

-- the steps to it
abbrev pub batch_steps : (ℕ → List ℤ) → ℕ → List ℤ → List ℤ
batch_steps w edge [] = []
batch_steps w edge (r ∷ rs) = subtraction_steps r (w edge) ++ batch_steps w (edge + 1) rs

-- what each number comes to at its best limit
abbrev pub best_products : List ℤ → List (ℕ × ℕ) → List ℤ
best_products (r ∷ rs) (limit ∷ limits) = (r *ℤ pos (best_limit r limit)) ∷ best_products rs limits
best_products [] limits = []
best_products (r ∷ rs) [] = []
