use Rattle.std.proofs.Common.{◌≡◌, Bool, List, length, sym, ap, ◌∙◌, subst, arith}
use Rattle.bv_fold.specs.Gathered.{AreMarked, marked_with}
use Rattle.bv_fold.specs.Steps.{AreBelow}
use Rattle.bv_fold.proofs.MarkedTerms.{whole, whole_marked, with_count, with_marked, still_marked}
use Rattle.bv_fold.proofs.marks.marks_below.Goals as goal

pub returns-clause-wanted : goal.returns-clause-wanted
returns-clause-wanted c =
    let wanted = c.args.wanted.now in
    let n = c.in_ok-marks.marks.len in
    let first : List Bool = c.deref_mut.result.now in
    let mid : List Bool = c.deref_mut-2.result.now in
    let last : List Bool = c.close.new.marks in
    let count : length first ≡ n = omega (arith, c.deref_mut.ensures.len, c.in_ok-marks.ensures.len) in
    let marked : length (marked_with first wanted) ≡ n = with_count first wanted ∙ count in
    let mid_is : mid ≡ marked_with first wanted =
    c.deref_mut-2.ensures.value ∙ whole n c.mark_all.new.marks _ (ap (λ (l : List Bool). length l) c.mark_all.ensures ∙ marked) ∙ c.mark_all.ensures in
    let many : length c.args.terms.now.ops ≡ length first = omega (arith, count, c.len.ensures.number, c.in_ok-marks.ensures.len) in
    let all : AreMarked (marked_with first wanted) wanted = with_marked first wanted (subst (λ k. AreBelow k wanted) many c.requires) in
    whole_marked n last _ wanted (c.close.ensures.more.count ∙ ap (λ (l : List Bool). length l) mid_is ∙ marked)
    (still_marked mid last wanted c.close.ensures.more (subst (λ (l : List Bool). AreMarked l wanted) (sym mid_is) all))
