use Rattle.std.proofs.Common.{arith, get_or}
use Rattle.std.specs.Prelude.{◌≤◌}
use Rattle.count_box.proofs.Kept.{Narrows-none, Narrows-one}
use Rattle.item_bounds.proofs.Places.{outside, at_place, count_is}
use Rattle.item_bounds.proofs.left.lower.Goals as goal

pub returns-then-edge-limits-clause-empty : goal.returns-then-edge-limits-clause-empty
returns-then-edge-limits-clause-empty c is x inside has =
    outside (λ n. n ≤ c.args.most) c.args.within.now.limits x c.args.edge inside (rw c.limits.ensures.value at c.if-edge-limits.true) has

pub returns-then-most-old-clause-empty : goal.returns-then-most-old-clause-empty
returns-then-most-old-clause-empty c is x inside has =
    let at = at_place (λ n. n ≤ c.args.most) c.args.within.now.limits x c.args.edge inside has in
    let above = rw c.limits-2.ensures.value at c.if-most-old.true in
    omega (arith, at.0.0, at.1, above)

pub returns-then-most-old-2-clause-narrowed : goal.returns-then-most-old-2-clause-narrowed
returns-then-most-old-2-clause-narrowed c is =
    let first = rw c.limits-2.ensures.value at c.if-most-old-2.true in
    let last = rw c.limits-2.ensures.value at c.if-most-old.false in
    let there = rw c.limits.ensures.value at c.if-edge-limits.false in
    let set = rw c.limits-2.ensures.value at c.set.ensures in
    Narrows-one c.args.edge _ (omega (arith, there)) set (omega arith, omega (arith, first)) (λ x held has. (held.0, (count_is (λ n. n ≤ c.args.most) x c.args.edge has).1))

pub returns-else-most-old-2-clause-narrowed : goal.returns-else-most-old-2-clause-narrowed
returns-else-most-old-2-clause-narrowed c is = Narrows-none _ _
