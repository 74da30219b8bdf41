use Rattle.std.proofs.Common.{◌≡◌, take, get_or, pos, w32, to_z, of_z, arith, ℤ, List}
use Rattle.std.proofs.lemmas.Int.{to_z-of_z}
use Rattle.std.proofs.lemmas.List.{take_all}
use Rattle.std.proofs.lemmas.List.Elements.{All-more, All-weaker}
use Rattle.search_tables.specs.Marking.{IsSeen}
use Rattle.search_tables.proofs.MarkingMore.{MarksMore-then}
use Rattle.search_tables.proofs.marks.Marks.mark.Goals as goal

pub loop-literal-preserved : goal.loop-literal-preserved
loop-literal-preserved c =
    let xs : List ℤ = c.args.literals.now in
    let x : ℤ = get_or xs c.loop-literal.literal-index (pos 0) in
    let same : to_z w32 (of_z w32 x) ≡ x = grind (arith, to_z-of_z) in
    let old = c.loop-literal.self.seen.items in
    let new = c.mark_one.new.self.seen.items in
    record {
      more = MarksMore-then c.args.trail.now.literals c.args.self.now c.loop-literal.self c.mark_one.new.self c.loop-literal.invariant.more c.mark_one.ensures.more;
      marked = All-more (IsSeen new) xs c.loop-literal.literal-index (pos 0) c.loop-literal-test.true
          (All-weaker (IsSeen old) (IsSeen new) c.mark_one.ensures.more.grows (take c.loop-literal.literal-index xs) c.loop-literal.invariant.marked)
          (rw same at c.mark_one.ensures.marked);
    }

pub returns-clause-marked : goal.returns-clause-marked
returns-clause-marked c = rw (take_all c.loop-literal.literal-index c.args.literals.now c.loop-literal-test.false) at c.loop-literal.invariant.marked
