use Rattle.std.proofs.Common.{◌≤◌, subst, sym}
use Rattle.ipet_rows.specs.Counts.{edge_counts}
use Rattle.item_bounds.proofs.Covered.{covered_left, counts_cost}
use Rattle.item_bounds.proofs.bound.bound_left.Goals as goal

pub returns-in-Some-clause-bounds : goal.returns-in-Some-clause-bounds
returns-in-Some-clause-bounds c q driven covers below =
    let rows = c.args.rows.now in
    let left = covered_left rows c.args.cuts.now c.args.prefix.now q c.args.most c.rows.ensures.hold driven covers in
    let cost = counts_cost rows q (rw c.plan.ensures at c.program.ensures.formed) c.rows.ensures.sound driven in
    let holds = rw c.in-Some.is at c.in_ok-within.ensures.some in
    let inside = holds (edge_counts rows.plan.program q) left in
    let bound = c.least_bound.ensures.bounds (edge_counts rows.plan.program q) inside left.meets (subst (λ n. n ≤ c.args.most) (sym cost) below) in
    subst (λ n. n ≤ c.least_bound.result) cost bound

pub returns-in-None-clause-bounds : goal.returns-in-None-clause-bounds
returns-in-None-clause-bounds c q driven covers below =
    let rows = c.args.rows.now in
    let left = covered_left rows c.args.cuts.now c.args.prefix.now q c.args.most c.rows.ensures.hold driven covers in
    let none = rw c.in-None.is at c.in_ok-within.ensures.none in
    absurd (none (edge_counts rows.plan.program q) left)
