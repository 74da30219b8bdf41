use Rattle.std.proofs.Common.{◌≡◌, ◌+◌, ◌++◌, ◌∷◌, [], length, sym, ap, subst, arith, length-append}
use Rattle.text_lines.specs.Lines.{LeavesAt}
use Rattle.cnf_form.specs.Forms.{IsLogFile}
use Rattle.cnf_form.specs.LogReading.{IsLogCourse}
use Rattle.text_lines.proofs.Leaving.{is_empty}
use Rattle.cnf_form.proofs.Naming.{line_clauses}
use Rattle.text_lines.proofs.Onward.{cut_shorter}
use Rattle.cnf_form.proofs.Logs.LogTexts.{too_many, no_line_here, line_cut_off, next_line, too_few, whole_log}
use Rattle.cnf_form.proofs.log_text.read_lines.Goals as goal

pub returns-then-seen-count-clause-fault : goal.returns-then-seen-count-clause-fault
returns-then-seen-count-clause-fault c =
    let kept = c.loop-rest.invariant in
    subst (λ n. LeavesAt IsLogFile c.args.text.now (n + 1)) (sym kept.seen)
    (too_many c.args.text.now c.loop-rest.rest.now c.first_line.result.0.now c.first_line.result.1.now c.args.count c.loop-rest.lines.items kept.place c.first_line.ensures (omega (arith, kept.seen, c.if-seen-count.true)))

pub returns-in-MayGrow-clause-fault : goal.returns-in-MayGrow-clause-fault
returns-in-MayGrow-clause-fault c =
    let kept = c.loop-rest.invariant in
    subst (λ n. LeavesAt IsLogFile c.args.text.now (n + 2)) (sym kept.seen)
    (line_cut_off c.args.text.now c.loop-rest.rest.now c.first_line.result.0.now c.first_line.result.1.now c.args.count c.loop-rest.lines.items kept.place c.first_line.ensures (omega (arith, kept.seen, c.if-seen-count.false, kept.place.within))
    (subst (IsLogCourse c.first_line.result.0.now) c.in-MayGrow.is c.in_ok-line.ensures))

pub returns-in-Breaks-clause-fault : goal.returns-in-Breaks-clause-fault
returns-in-Breaks-clause-fault c =
    let kept = c.loop-rest.invariant in
    subst (λ n. LeavesAt IsLogFile c.args.text.now (n + 1)) (sym kept.seen)
    (no_line_here c.args.text.now c.loop-rest.rest.now c.first_line.result.0.now c.first_line.result.1.now c.args.count c.loop-rest.lines.items kept.place c.first_line.ensures
    (subst (IsLogCourse c.first_line.result.0.now) c.in-Breaks.is c.in_ok-line.ensures))

pub loop-rest-preserved : goal.loop-rest-preserved
loop-rest-preserved c =
    let kept = c.loop-rest.invariant in
    let pushed : c.push_line.new.lines.items ≡ c.loop-rest.lines.items ++ c.in-Is.line ∷ [] = c.in_ok-push_line-in-Is.ensures in
    let further = next_line c.args.text.now c.loop-rest.rest.now c.first_line.result.0.now c.first_line.result.1.now c.args.count c.loop-rest.lines.items c.in-Is.line kept.place c.first_line.ensures (omega (arith, kept.seen, c.if-seen-count.false, kept.place.within))
    (subst (IsLogCourse c.first_line.result.0.now) c.in-Is.is c.in_ok-line.ensures) in
    record { place = rw pushed further; seen = omega (arith, kept.seen, ap length pushed, length-append c.loop-rest.lines.items (c.in-Is.line ∷ [])) }

pub loop-rest-smaller : goal.loop-rest-smaller
loop-rest-smaller c = cut_shorter c.loop-rest.rest.now c.first_line.result.0.now c.first_line.result.1.now c.first_line.ensures

pub returns-then-seen-count-2-clause-fault : goal.returns-then-seen-count-2-clause-fault
returns-then-seen-count-2-clause-fault c =
    let kept = c.loop-rest.invariant in
    let none = is_empty (length c.loop-rest.rest.now) c.is_empty.result c.is_empty.ensures c.loop-rest-test.false in
    subst (λ n. LeavesAt IsLogFile c.args.text.now (n + 1)) (sym kept.seen)
    (too_few c.args.text.now c.loop-rest.rest.now c.args.count c.loop-rest.lines.items kept.place none (λ full. c.if-seen-count-2.true (omega (arith, kept.seen, full))))

pub returns-clause-read : goal.returns-clause-read
returns-clause-read c =
    let kept = c.loop-rest.invariant in
    let none = is_empty (length c.loop-rest.rest.now) c.is_empty.result c.is_empty.ensures c.loop-rest-test.false in
    rw c.from_vec.ensures (whole_log c.args.text.now c.loop-rest.rest.now c.args.count c.loop-rest.lines.items kept.place none (omega (arith, kept.seen, c.if-seen-count-2.false)))

pub invariant_of-result : goal.invariant_of-result
invariant_of-result c =
    let kept = c.loop-rest.invariant in
    rw c.from_vec.ensures (record { few = omega (arith, kept.place.within, kept.place.few); each = line_clauses c.loop-rest.lines.items kept.place.each })
