use Rattle.std.proofs.Common.{length, ap, sym, ◌∙◌, arith}
use Rattle.bv_fold.specs.Remembered.{Remembered}
use Rattle.bv_fold.proofs.Extended.{extended_itself, extended_again}
use Rattle.bv_fold.proofs.FoldedTerms.{longer}
use Rattle.bv_fold.proofs.folds.Folds.go_on.Goals as goal

pub loop-next-init : goal.loop-next-init
loop-next-init c =
    let read = c.in_ok-read.ensures in
    let count = c.len-first.ensures ∙ ap (λ (r : Remembered). length r.folds) c.self.view_is in
    record {
      kept = extended_itself c.args.terms.now;
      remembered = read.remembered;
      count = sym count;
      all = read.reached;
      there = c.requires.there;
      last = omega (arith, count, ap (λ l. length l) read.kept, c.requires.new);
    }

pub loop-next-preserved : goal.loop-next-preserved
loop-next-preserved c =
    let so_far = c.loop-next.invariant in
    let step = c.in_ok-fold_one.ensures in
    record {
      kept = extended_again c.args.terms.now c.loop-next.terms c.fold_one.new.terms so_far.kept step.kept;
      remembered = step.remembered;
      count = step.one;
      all = omega (arith, ap (λ l. length l) step.words, so_far.all);
      there = omega (arith, longer c.loop-next.terms c.fold_one.new.terms step.kept, so_far.there);
      last = so_far.last;
    }
