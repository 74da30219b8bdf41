use Rattle.lin_rows.specs.Meeting.{Meets}
use Rattle.count_box.specs.Narrowing.{Narrows}
use Rattle.item_bounds.proofs.left.tighten_often.Given as goal

abbrev pub invariant-loop : goal.invariant-loop
invariant-loop l = Narrows (Meets l.rows) l.fn.within l.within
