-- The dual value of multipliers over a box, as a number.
-- Each row is multiplied by its multiplier, and the rows are added. What is left of d times an edge's cost then counts
-- at the limit of the edge where it comes to most.
use Rattle.std.specs.Prelude.{
  ℕ,
  ℤ,
  pos,
  ◌+◌,
  ◌+ℤ◌,
  ◌-ℤ◌,
  ◌*ℤ◌,
  ◌==◌,
  List,
  [],
  ◌∷◌,
  ◌++◌,
  map,
  filter,
  int_le,
  if◌then◌else◌,
}
use Rattle.std.specs.Int.{int_div_euclid}
use Rattle.lin_rows.specs.Steps.{total}
use Rattle.lin_rows.specs.declared.count_box.CountBox.{CountBox}
use Rattle.lin_rows.specs.declared.multipliers.Multipliers.{Multipliers}
use Rattle.lin_rows.specs.declared.objective.Objective.{Objective}
use Rattle.lin_rows.specs.declared.row.Row.{Row}
use Rattle.lin_rows.specs.declared.row.Rows.{Rows}

-- multiplier times right side, row by row
abbrev pub weighted_rights : List Row → List ℤ → List ℤ
weighted_rights (row ∷ rows) (y ∷ ys) = (y *ℤ row.right) ∷ weighted_rights rows ys
weighted_rights [] ys = []
weighted_rights (row ∷ rows) [] = []

-- multiplier times factor, of the terms that name the edge
abbrev pub weighted_terms : ℤ → List (ℕ × ℤ) → ℕ → List ℤ
weighted_terms y terms edge = map (λ term. y *ℤ term.1) (filter (λ term. term.0 == edge) terms)

-- the same, of the rows that name the edge, row by row
abbrev pub weighted_factors : List Row → List ℤ → ℕ → List ℤ
weighted_factors (row ∷ rows) (y ∷ ys) edge = weighted_terms y row.terms edge ++ weighted_factors rows ys edge
weighted_factors [] ys edge = []
weighted_factors (row ∷ rows) [] edge = []

-- what the rows leave of d times the cost of an edge
abbrev pub reduced_cost : Rows → Multipliers → ℕ → ℕ → ℤ
reduced_cost rows by edge cost = by.d *ℤ pos cost -ℤ total (weighted_factors rows.rows by.y edge)

-- the same of each edge in order, from an edge on
abbrev pub reduced_costs : Rows → Multipliers → ℕ → List ℕ → List ℤ
reduced_costs rows by edge [] = []
reduced_costs rows by edge (cost ∷ costs) = reduced_cost rows by edge cost ∷ reduced_costs rows by (edge + 1) costs

-- the limit at which r times a count comes to most: the greatest where r is not negative, else the least
abbrev pub best_limit : ℤ → ℕ × ℕ → ℕ
best_limit r limit = if int_le (pos 0) r then limit.1 else limit.0

-- the most that an edge's reduced cost comes to within its limits
abbrev pub edge_bound : Rows → Multipliers → ℕ → ℕ → ℕ × ℕ → ℤ
edge_bound rows by edge cost limit =
    reduced_cost rows by edge cost *ℤ pos (best_limit (reduced_cost rows by edge cost) limit)

-- the same of each edge in order, from an edge on
abbrev pub edge_bounds : Rows → Multipliers → ℕ → List ℕ → List (ℕ × ℕ) → List ℤ
edge_bounds rows by edge (cost ∷ costs) (limit ∷ limits) =
    edge_bound rows by edge cost limit ∷ edge_bounds rows by (edge + 1) costs limits
edge_bounds rows by edge [] limits = []
edge_bounds rows by edge (cost ∷ costs) [] = []

-- d times the bound, before it is divided
abbrev pub scaled_bound : Rows → Objective → CountBox → Multipliers → ℤ
scaled_bound rows objective within by =
    total (weighted_rights rows.rows by.y) +ℤ total (edge_bounds rows by 0 objective.costs within.limits)

-- the dual value: divided by d, which is at least 1, and rounded down
abbrev pub dual : Rows → Objective → CountBox → Multipliers → ℤ
dual rows objective within by = int_div_euclid (scaled_bound rows objective within by) by.d

-- the dual value without a box: the weighted right sides alone, divided by d and rounded down
abbrev pub dual_of_rows : Rows → Multipliers → ℤ
dual_of_rows rows by = int_div_euclid (total (weighted_rights rows.rows by.y)) by.d
