use Rattle.std.specs.Prelude.{slice_get}
use Rattle.count_box.proofs.Kept.{Narrows-then, Narrows-weaker}
use Rattle.item_bounds.proofs.Places.{least_of, most_of}
use Rattle.item_bounds.proofs.left.cut_by.Goals as goal

pub returns-clause-narrowed : goal.returns-clause-narrowed
returns-clause-narrowed c is =
    let cut = c.args.cut in
    let first = rw c.from.ensures at (c.raise.ensures.narrowed c.in-Narrowed.is) in
    let second = rw c.from-2.ensures at (c.lower.ensures.narrowed is) in
    Narrows-then (Narrows-weaker first (λ x each. least_of cut.lo cut.hi (slice_get x cut.edge) each)) second (λ x inside each. most_of cut.lo cut.hi (slice_get x cut.edge) each)
