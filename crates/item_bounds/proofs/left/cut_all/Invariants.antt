use Rattle.count_box.specs.Narrowing.{Narrows}
use Rattle.race_item.specs.Lists.{EachOf}
use Rattle.race_item.specs.Regions.{IsWithin}
use Rattle.item_bounds.proofs.left.cut_all.Given as goal

abbrev pub invariant-loop-cut : goal.invariant-loop-cut
invariant-loop-cut l = Narrows (λ x. EachOf (IsWithin x) l.cuts) l.fn.within l.within
