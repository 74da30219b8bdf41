use Rattle.std.proofs.Common.{length, subst, arith}
use Rattle.cnf_form.specs.Reading.{TakesTold}
use Rattle.text_lines.proofs.Leaving.{not_empty, is_empty}
use Rattle.cnf_form.proofs.Formulas.Placing.{next_clauses, no_clauses_here, clauses_cut_off, missing_clauses, whole_text}
use Rattle.cnf_form.proofs.formula.read_clauses.Goals as goal
use Rattle.text_lines.proofs.Onward.{cut_shorter}

pub returns-in-MayGrow-clause-fault : goal.returns-in-MayGrow-clause-fault
returns-in-MayGrow-clause-fault c =
    let some = not_empty (length c.loop-rest.rest.now) c.is_empty.result c.is_empty.ensures c.loop-rest-test.true in
    clauses_cut_off c.args.text.now c.loop-rest.rest.now c.first_line.result.0.now c.first_line.result.1.now c.loop-rest.line c.loop-rest.front c.read_line.new.front c.loop-rest.invariant.place c.first_line.ensures some
    (subst (TakesTold c.loop-rest.front c.read_line.new.front c.first_line.result.0.now) c.in-MayGrow.is c.in_ok-read_line.ensures)

pub returns-in-Breaks-clause-fault : goal.returns-in-Breaks-clause-fault
returns-in-Breaks-clause-fault c =
    let some = not_empty (length c.loop-rest.rest.now) c.is_empty.result c.is_empty.ensures c.loop-rest-test.true in
    no_clauses_here c.args.text.now c.loop-rest.rest.now c.first_line.result.0.now c.first_line.result.1.now c.loop-rest.line c.loop-rest.front c.read_line.new.front c.loop-rest.invariant.place c.first_line.ensures some
    (subst (TakesTold c.loop-rest.front c.read_line.new.front c.first_line.result.0.now) c.in-Breaks.is c.in_ok-read_line.ensures)

pub loop-rest-preserved : goal.loop-rest-preserved
loop-rest-preserved c =
    let some = not_empty (length c.loop-rest.rest.now) c.is_empty.result c.is_empty.ensures c.loop-rest-test.true in
    let further = next_clauses c.args.text.now c.loop-rest.rest.now c.first_line.result.0.now c.first_line.result.1.now c.loop-rest.line c.loop-rest.front c.read_line.new.front c.loop-rest.invariant.keeps c.loop-rest.invariant.place c.first_line.ensures some
    (subst (TakesTold c.loop-rest.front c.read_line.new.front c.first_line.result.0.now) c.in-Fits.is c.in_ok-read_line.ensures) in
    record { keeps = further.keeps; place = further.place }

pub loop-rest-smaller : goal.loop-rest-smaller
loop-rest-smaller c = cut_shorter c.loop-rest.rest.now c.first_line.result.0.now c.first_line.result.1.now c.first_line.ensures

pub returns-then-len-front-clause-fault : goal.returns-then-len-front-clause-fault
returns-then-len-front-clause-fault c =
    let none = is_empty (length c.loop-rest.rest.now) c.is_empty.result c.is_empty.ensures c.loop-rest-test.false in
    missing_clauses c.args.text.now c.loop-rest.rest.now c.loop-rest.line c.loop-rest.front c.loop-rest.invariant.keeps c.loop-rest.invariant.place none (λ full. c.if-len-front.true (omega (arith, full, c.len.ensures, c.loop-rest.front.clauses.ok.0)))

pub returns-clause-read : goal.returns-clause-read
returns-clause-read c =
    let none = is_empty (length c.loop-rest.rest.now) c.is_empty.result c.is_empty.ensures c.loop-rest-test.false in
    let made = c.into_formula.ensures in
    rw (made.variables, made.clauses) (whole_text c.args.text.now c.loop-rest.rest.now c.loop-rest.line c.loop-rest.front c.loop-rest.invariant.keeps c.loop-rest.invariant.place none (omega (arith, c.if-len-front.false, c.len.ensures, c.loop-rest.front.clauses.ok.0)))
