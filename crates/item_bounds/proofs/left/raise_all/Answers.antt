use Rattle.count_box.proofs.Kept.{Narrows-none, Narrows-then}
use Rattle.item_bounds.proofs.Places.{least_at}
use Rattle.item_bounds.proofs.left.raise_all.Goals as goal

pub loop-edge-init : goal.loop-edge-init
loop-edge-init c = Narrows-none _ _

pub returns-in-Empty-clause-empty : goal.returns-in-Empty-clause-empty
returns-in-Empty-clause-empty c is x inside most =
    c.raise.ensures.empty c.in-Empty.is x (c.loop-edge.invariant.kept x inside most) (least_at x c.args.least.now c.loop-edge.edge most c.loop-edge-test.true)

pub loop-edge-preserved : goal.loop-edge-preserved
loop-edge-preserved c =
    Narrows-then c.loop-edge.invariant (c.raise.ensures.narrowed c.in-Narrowed.is) (λ x inside most. least_at x c.args.least.now c.loop-edge.edge most c.loop-edge-test.true)
