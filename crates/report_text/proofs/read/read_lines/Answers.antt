use Rattle.std.proofs.Common.{◌≡◌, ◌+◌, ◌++◌, ◌∷◌, [], length, sym, ◌∙◌, ap, subst, arith, length-append}
use Rattle.text_lines.specs.Lines.{LeavesAt}
use Rattle.report_text.specs.Courses.{IsCourse}
use Rattle.report_text.specs.Conditions.{IsReportText}
use Rattle.report_text.specs.Form.{Allows}
use Rattle.report_text.proofs.Assembling.{report_leaves}
use Rattle.text_lines.proofs.Leaving.{is_empty}
use Rattle.text_lines.proofs.Onward.{cut_shorter}
use Rattle.report_text.proofs.Matching.{no_line_here, line_cut_off, next_line, unfinished, whole_form}
use Rattle.std.proofs.lemmas.Bool.{false≢true}
use Rattle.report_text.proofs.read.read_lines.Goals as goal

pub returns-in-MayGrow-clause-fault : goal.returns-in-MayGrow-clause-fault
returns-in-MayGrow-clause-fault c =
    let kept = c.loop-rest.invariant in
    subst (λ n. LeavesAt IsReportText c.args.text.now (n + 1)) (sym kept.seen)
    (report_leaves c.args.text.now _ (line_cut_off c.args.text.now c.loop-rest.rest.now c.first_line.result.0.now c.first_line.result.1.now c.loop-rest.lines.items c.loop-rest.stage kept.place c.first_line.ensures
    (subst (IsCourse (Allows c.loop-rest.stage) c.first_line.result.0.now) c.in-MayGrow.is c.in_ok-line.ensures)))

pub returns-in-Breaks-clause-fault : goal.returns-in-Breaks-clause-fault
returns-in-Breaks-clause-fault c =
    let kept = c.loop-rest.invariant in
    subst (λ n. LeavesAt IsReportText c.args.text.now n) (sym kept.seen)
    (report_leaves c.args.text.now _ (no_line_here c.args.text.now c.loop-rest.rest.now c.first_line.result.0.now c.first_line.result.1.now c.loop-rest.lines.items c.loop-rest.stage kept.place c.first_line.ensures
    (subst (IsCourse (Allows c.loop-rest.stage) c.first_line.result.0.now) c.in-Breaks.is c.in_ok-line.ensures)))

pub loop-rest-preserved : goal.loop-rest-preserved
loop-rest-preserved c =
    let kept = c.loop-rest.invariant in
    let pushed : c.push_line.new.lines.items ≡ c.loop-rest.lines.items ++ c.in-Is.line ∷ [] = c.in_ok-push_line-in-Is.ensures in
    let further = next_line c.args.text.now c.loop-rest.rest.now c.first_line.result.0.now c.first_line.result.1.now c.loop-rest.lines.items c.loop-rest.stage c.in-Is.line kept.place c.first_line.ensures
    (subst (IsCourse (Allows c.loop-rest.stage) c.first_line.result.0.now) c.in-Is.is c.in_ok-line.ensures) in
    record {
      place = rw (pushed, c.next-stage.ensures) further;
      seen = omega (arith, kept.seen, ap length pushed, length-append c.loop-rest.lines.items (c.in-Is.line ∷ []));
      few = omega (arith, kept.few, cut_shorter c.loop-rest.rest.now c.first_line.result.0.now c.first_line.result.1.now c.first_line.ensures);
    }

pub returns-then-not-is_whole-clause-fault : goal.returns-then-not-is_whole-clause-fault
returns-then-not-is_whole-clause-fault c =
    let kept = c.loop-rest.invariant in
    let none = is_empty (length c.loop-rest.rest.now) c.is_empty.result c.is_empty.ensures c.loop-rest-test.false in
    subst (λ n. LeavesAt IsReportText c.args.text.now n) (sym kept.seen)
    (report_leaves c.args.text.now _ (unfinished c.args.text.now c.loop-rest.rest.now c.loop-rest.lines.items c.loop-rest.stage kept.place none (λ full. false≢true (sym c.if-not-is_whole.true ∙ c.is_whole.ensures.1 full))))

pub returns-clause-read : goal.returns-clause-read
returns-clause-read c =
    let kept = c.loop-rest.invariant in
    let none = is_empty (length c.loop-rest.rest.now) c.is_empty.result c.is_empty.ensures c.loop-rest-test.false in
    whole_form c.args.text.now c.loop-rest.rest.now c.loop-rest.lines.items c.loop-rest.stage kept.place none (c.is_whole.ensures.0 c.if-not-is_whole.false)
