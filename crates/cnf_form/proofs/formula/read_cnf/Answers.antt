use Rattle.cnf_form.proofs.Formulas.Placing.{behind}
use Rattle.cnf_form.proofs.formula.read_cnf.Goals as goal

pub read_clauses-requires-clause-place : goal.read_clauses-requires-clause-place
read_clauses-requires-clause-place c =
    let made = c.new-front.ensures in
    behind c.args.text.now c.in-Ok.opening.rest.now c.in-Ok.opening.line c.in-Ok.opening.variables c.in-Ok.opening.count c.new-front.result c.in-Ok.ensures.read made.variables made.count made.clauses made.literals
