use Rattle.std.proofs.Common.{◌≡◌, length, true, false, sym, ◌∙◌}
use Rattle.cnf_form.specs.Forms.{begins_with}
use Rattle.text_lines.proofs.Leaving.{not_empty, is_empty}
use Rattle.cnf_form.proofs.Formulas.Placing.{at_beginning, next_comment, next_head, no_head_here, head_cut_off, only_comments}
use Rattle.cnf_form.proofs.formula.read_opening.Goals as goal
use Rattle.text_lines.proofs.Onward.{cut_shorter}

pub loop-rest-init : goal.loop-rest-init
loop-rest-init c = at_beginning c.args.text.now

pub returns-in-Is-clause-read : goal.returns-in-Is-clause-read
returns-in-Is-clause-read c =
    let some = not_empty (length c.loop-rest.rest.now) c.is_empty.result c.is_empty.ensures c.loop-rest-test.true in
    let plain : begins_with 99 c.first_line.result.0.now ≡ false = sym c.is_comment.ensures ∙ c.if-not-is_comment.true in
    next_head c.args.text.now c.loop-rest.rest.now c.first_line.result.0.now c.first_line.result.1.now c.loop-rest.line c.in-Is.variables c.in-Is.count c.loop-rest.invariant c.first_line.ensures some plain c.in-Is.ensures

pub returns-in-MayGrow-clause-fault : goal.returns-in-MayGrow-clause-fault
returns-in-MayGrow-clause-fault c =
    let some = not_empty (length c.loop-rest.rest.now) c.is_empty.result c.is_empty.ensures c.loop-rest-test.true in
    let plain : begins_with 99 c.first_line.result.0.now ≡ false = sym c.is_comment.ensures ∙ c.if-not-is_comment.true in
    head_cut_off c.args.text.now c.loop-rest.rest.now c.first_line.result.0.now c.first_line.result.1.now c.loop-rest.line c.loop-rest.invariant c.first_line.ensures some plain c.in-MayGrow.ensures

pub returns-in-Breaks-clause-fault : goal.returns-in-Breaks-clause-fault
returns-in-Breaks-clause-fault c =
    let some = not_empty (length c.loop-rest.rest.now) c.is_empty.result c.is_empty.ensures c.loop-rest-test.true in
    let plain : begins_with 99 c.first_line.result.0.now ≡ false = sym c.is_comment.ensures ∙ c.if-not-is_comment.true in
    no_head_here c.args.text.now c.loop-rest.rest.now c.first_line.result.0.now c.first_line.result.1.now c.loop-rest.line c.loop-rest.invariant c.first_line.ensures some plain c.in-Breaks.ensures

pub loop-rest-preserved : goal.loop-rest-preserved
loop-rest-preserved c =
    let some = not_empty (length c.loop-rest.rest.now) c.is_empty.result c.is_empty.ensures c.loop-rest-test.true in
    let comment : begins_with 99 c.first_line.result.0.now ≡ true = sym c.is_comment.ensures ∙ c.if-not-is_comment.false in
    next_comment c.args.text.now c.loop-rest.rest.now c.first_line.result.0.now c.first_line.result.1.now c.loop-rest.line c.loop-rest.invariant c.first_line.ensures some comment

pub loop-rest-smaller : goal.loop-rest-smaller
loop-rest-smaller c = cut_shorter c.loop-rest.rest.now c.first_line.result.0.now c.first_line.result.1.now c.first_line.ensures

pub returns-clause-fault : goal.returns-clause-fault
returns-clause-fault c =
    let none = is_empty (length c.loop-rest.rest.now) c.is_empty.result c.is_empty.ensures c.loop-rest-test.false in
    only_comments c.args.text.now c.loop-rest.rest.now c.loop-rest.line c.loop-rest.invariant none
