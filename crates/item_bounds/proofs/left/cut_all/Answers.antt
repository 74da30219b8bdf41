use Rattle.race_item.specs.Regions.{IsWithin}
use Rattle.count_box.proofs.Kept.{Narrows-none, Narrows-then}
use Rattle.item_bounds.proofs.Places.{each_at}
use Rattle.item_bounds.proofs.left.cut_all.Goals as goal

pub loop-cut-init : goal.loop-cut-init
loop-cut-init c = Narrows-none _ _

pub loop-cut-preserved : goal.loop-cut-preserved
loop-cut-preserved c =
    Narrows-then c.loop-cut.invariant (c.cut_by.ensures.narrowed c.in-Narrowed.is) (λ x inside each. each_at (IsWithin x) c.args.cuts.now c.loop-cut.cut-index _ each c.loop-cut-test.true)
