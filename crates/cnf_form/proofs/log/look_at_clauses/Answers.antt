use Rattle.cnf_form.proofs.Naming.{line_clauses-more}
use Rattle.cnf_form.proofs.log.look_at_clauses.Goals as goal

pub loop-line-preserved : goal.loop-line-preserved
loop-line-preserved c = line_clauses-more c.args.lines.now c.loop-line.line-index c.line-item.result c.literals-literals.result.now c.loop-line-test.true c.line-item.is c.literals-literals.ensures.value c.loop-line.invariant c.literals-literals.ensures.clause
