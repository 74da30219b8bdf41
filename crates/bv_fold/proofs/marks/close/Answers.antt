use Rattle.std.proofs.Common.{◌≡◌, ◌-◌, ◌+◌, ◌∙◌, subst, arith}
use Rattle.bv_fold.specs.Gathered.{AreClosedFrom}
use Rattle.bv_fold.proofs.MarkedTerms.{more_again, closed_further}
use Rattle.bv_fold.proofs.marks.close.Goals as goal

pub loop-done-preserved : goal.loop-done-preserved
loop-done-preserved c =
    let ops = c.args.terms.now.ops in
    let count = c.len-count.result in
    let done = c.loop-done.done in
    let so_far = c.loop-done.invariant in
    let step = c.mark_below.ensures in
    let next : count - done ≡ count - 1 - done + 1 = omega arith in
    let here : count - 1 - done ≡ count - (done + 1) = omega arith in
    record {
      more = more_again c.args.marks.now c.loop-done.marks c.mark_below.new.marks so_far.more step.more;
      count = step.more.count ∙ so_far.count;
      closed = subst (λ k. AreClosedFrom ops k c.mark_below.new.marks) here
          (closed_further ops (count - 1 - done) c.loop-done.marks c.mark_below.new.marks
          (subst (λ k. AreClosedFrom ops k c.loop-done.marks) next so_far.closed) step.more step.below step.only);
    }
