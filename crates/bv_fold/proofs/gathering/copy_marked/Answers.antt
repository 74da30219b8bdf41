use Rattle.std.proofs.Common.{ℕ, List, length, sym, ap, subst, arith}
use Rattle.std.proofs.lemmas.List.{length-append}
use Rattle.bv_fold.specs.Gathered.{IsMarked, IsSameIn}
use Rattle.bv_fold.proofs.CopiedTerms.{copied_more}
use Rattle.bv_fold.proofs.gathering.copy_marked.Goals as goal

pub loop-next-preserved : goal.loop-next-preserved
loop-next-preserved c =
    let terms = c.args.terms.now in
    let marks = c.args.marks.now in
    let so_far = c.loop-next.invariant in
    let step = c.in_ok-number.ensures in
    let number = c.in_ok-number.number in
    let pushed = c.in_ok-push.ensures.ok in
    record {
      count = omega (arith, ap (λ (l : List ℕ). length l) pushed, length-append {A = ℕ}, so_far.count);
      copied = copied_more terms c.loop-next.apart c.copy_next.new.apart marks c.loop-next.numbers c.push.new.self number step.kept so_far.copied
          (subst (λ n. IsMarked marks n → IsSameIn terms c.copy_next.new.apart n number) (sym so_far.count) step.same) pushed;
    }
