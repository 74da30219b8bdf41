use Rattle.std.proofs.Common.{Bool, List, sym, ap, ◌∙◌, subst}
use Rattle.std.specs.Prelude.{map, slice_index}
use Rattle.bv_fold.specs.Gathered.{AreMarked, AreSameIn}
use Rattle.bv_fold.specs.Steps.{AreBelow}
use Rattle.bv_fold.proofs.CopiedTerms.{copies_same}
use Rattle.bv_fold.proofs.gathering.gather.Goals as goal

pub returns : goal.returns
returns c =
    let terms = c.args.terms.now in
    let wanted = c.args.wanted.now in
    let apart = c.copy_marked.new.apart in
    let marks = c.as_slice.result.now in
    let copied = c.in_ok-numbers.ensures.copied in
    let numbers = c.in_ok-numbers.numbers in
    let below = subst (λ k. AreBelow k wanted) (sym c.in_ok-numbers.ensures.count) c.requires in
    let marked = subst (λ (l : List Bool). AreMarked l wanted) (sym c.as_slice.ensures.value) c.in_ok-marks.ensures.wanted in
    let same = copies_same terms apart marks numbers wanted copied below marked in
    record {
      inputs = copied.inputs;
      same = subst (AreSameIn terms apart wanted) (sym (c.in_ok-numbers-2.ensures ∙ ap (λ (l : List _). map (slice_index l) wanted) c.as_slice-2.ensures)) same;
    }
