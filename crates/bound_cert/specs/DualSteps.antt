-- The written order in which the dual value is computed, as the list of the numbers that it takes.
-- The sum s begins at 0. For each row in order, multiplier times right side is added to s. Then for each edge in order,
-- r begins at d times its cost, multiplier times factor is taken from r for each row that names the edge, in order, and
-- r times a limit is added to s. (The quotient by d, which is at least 1, leaves i128 nowhere.)
use Rattle.std.specs.Prelude.{ℕ, ℤ, pos, ◌+◌, ◌+ℤ◌, ◌*ℤ◌, List, [], ◌∷◌, ◌++◌}
use Rattle.lin_rows.specs.Steps.{total, addition_steps, subtraction_steps}
use Rattle.lin_rows.specs.declared.count_box.CountBox.{CountBox}
use Rattle.lin_rows.specs.declared.multipliers.Multipliers.{Multipliers}
use Rattle.lin_rows.specs.declared.objective.Objective.{Objective}
use Rattle.lin_rows.specs.declared.row.Rows.{Rows}
use Rattle.bound_cert.specs.Dual.{weighted_rights, weighted_factors, edge_bound}

-- the steps to an edge's reduced cost
abbrev pub reduced_cost_steps : Rows → Multipliers → ℕ → ℕ → List ℤ
reduced_cost_steps rows by edge cost =
    (by.d *ℤ pos cost) ∷ subtraction_steps (by.d *ℤ pos cost) (weighted_factors rows.rows by.y edge)

-- the steps of an edge, where the sum is s
abbrev pub edge_steps : Rows → Multipliers → ℕ → ℤ → ℕ → ℕ × ℕ → List ℤ
edge_steps rows by edge s cost limit =
    reduced_cost_steps rows by edge cost ++ addition_steps s (edge_bound rows by edge cost limit ∷ [])

-- the steps of each edge in order, from an edge on
abbrev pub edges_steps : Rows → Multipliers → ℕ → ℤ → List ℕ → List (ℕ × ℕ) → List ℤ
edges_steps rows by edge s (cost ∷ costs) (limit ∷ limits) =
    edge_steps rows by edge s cost limit ++ edges_steps rows by (edge + 1) (s +ℤ edge_bound rows by edge cost limit)
    costs limits
edges_steps rows by edge s [] limits = []
edges_steps rows by edge s (cost ∷ costs) [] = []

-- all steps: the right sides, then the edges
abbrev pub dual_steps : Rows → Objective → CountBox → Multipliers → List ℤ
dual_steps rows objective within by =
    let rights = weighted_rights rows.rows by.y in
    addition_steps (pos 0) rights ++ edges_steps rows by 0 (total rights) objective.costs within.limits
