use Rattle.std.proofs.Common.{◌<◌, ◌+◌, ◌++◌, [], ◌∷◌, ℕ, List, length, take, drop, sym, subst}
use Rattle.std.proofs.lemmas.List.{take_more, drop_more}
use Rattle.std.specs.Prelude.{slice_index}
use Rattle.bv_fold.specs.Gathered.{AreSameIn}
use Rattle.bv_fold.specs.Steps.{AreBelow}
use Rattle.bv_fold.proofs.Extended.{extended_again}
use Rattle.bv_fold.proofs.CopiedTerms.{one_same, all_same_further, fold_same}
use Rattle.bv_fold.proofs.apart.fold_each.Goals as goal

pub loop-term-preserved : goal.loop-term-preserved
loop-term-preserved c =
    let first = c.args.terms.now in
    let old = c.loop-term.terms in
    let new = c.fold.new.terms in
    let wanted = c.args.wanted.now in
    let i = c.loop-term.term-index in
    let so_far = c.loop-term.invariant in
    let step = c.in_ok-number.ensures in
    let t : ℕ = slice_index wanted i in
    let here : i < length wanted = c.loop-term-test.true in
    let left : AreBelow (length first.ops) (t ∷ drop (i + 1) wanted) = subst (AreBelow (length first.ops)) (drop_more wanted i 0 here) so_far.below in
    let same : AreSameIn first new (take i wanted ++ t ∷ []) (c.loop-term.numbers ++ c.in_ok-number.number ∷ []) =
    one_same first new (take i wanted) c.loop-term.numbers t c.in_ok-number.number
    (all_same_further first old new (take i wanted) c.loop-term.numbers step.kept so_far.same)
    (fold_same first old new t c.in_ok-number.number so_far.kept left.0 step.folded) in
    record {
      kept = extended_again first old new so_far.kept step.kept;
      remembered = step.remembered;
      same = subst (λ (l : List ℕ). AreSameIn first new l c.push.new.self) (sym (take_more wanted i 0 here))
          (subst (AreSameIn first new (take i wanted ++ t ∷ [])) (sym c.in_ok-push.ensures.ok) same);
      below = left.1;
    }
