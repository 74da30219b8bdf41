use Rattle.count_box.specs.Narrowing.{Narrows}
use Rattle.race_item.specs.Facts.{IsAtLeast}
use Rattle.item_bounds.proofs.left.raise_all.Given as goal

abbrev pub invariant-loop-edge : goal.invariant-loop-edge
invariant-loop-edge l = Narrows (λ x. IsAtLeast x l.least) l.fn.within l.within
