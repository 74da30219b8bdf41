use Rattle.std.proofs.Common.{arith, get_or}
use Rattle.std.specs.Prelude.{◌≤◌}
use Rattle.count_box.proofs.Kept.{Narrows-none, Narrows-one}
use Rattle.item_bounds.proofs.Places.{outside, at_place, count_is}
use Rattle.item_bounds.proofs.left.raise.Goals as goal

pub returns-then-edge-limits-clause-empty : goal.returns-then-edge-limits-clause-empty
returns-then-edge-limits-clause-empty c is x inside has =
    outside (λ n. c.args.least ≤ n) c.args.within.now.limits x c.args.edge inside (rw c.limits.ensures.value at c.if-edge-limits.true) has

pub returns-then-least-old-clause-empty : goal.returns-then-least-old-clause-empty
returns-then-least-old-clause-empty c is x inside has =
    let at = at_place (λ n. c.args.least ≤ n) c.args.within.now.limits x c.args.edge inside has in
    let above = rw c.limits-2.ensures.value at c.if-least-old.true in
    omega (arith, at.0.1, at.1, above)

pub returns-then-least-old-2-clause-narrowed : goal.returns-then-least-old-2-clause-narrowed
returns-then-least-old-2-clause-narrowed c is =
    let first = rw c.limits-2.ensures.value at c.if-least-old-2.true in
    let last = rw c.limits-2.ensures.value at c.if-least-old.false in
    let there = rw c.limits.ensures.value at c.if-edge-limits.false in
    let set = rw c.limits-2.ensures.value at c.set.ensures in
    Narrows-one c.args.edge _ (omega (arith, there)) set (omega (arith, first), omega arith) (λ x held has. ((count_is (λ n. c.args.least ≤ n) x c.args.edge has).1, held.1))

pub returns-else-least-old-2-clause-narrowed : goal.returns-else-least-old-2-clause-narrowed
returns-else-least-old-2-clause-narrowed c is = Narrows-none _ _
