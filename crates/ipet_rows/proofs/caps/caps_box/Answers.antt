use Rattle.std.proofs.Common.{◌≤◌, ℕ, All, subst, sym}
use Rattle.flow_laws.specs.Graphs.{graph, edges}
use Rattle.ipet_rows.proofs.Listed.{limits_ordered}
use Rattle.ipet_rows.proofs.caps.caps_box.Goals as goal

pub invariant_of-result : goal.invariant_of-result
invariant_of-result c =
    let g = graph c.args.plan.now.program in
    record { ordered = subst (All (λ (limit : ℕ × ℕ). limit.0 ≤ limit.1)) (sym c.in_ok-limits.ensures) (limits_ordered g (edges g)) }
