use Rattle.cnf_form.proofs.Formulas.CnfWritten.{cnf_text_has_form}
use Rattle.cnf_form.proofs.write.write_cnf.Goals as goal

pub returns-in-Ok-clause-form : goal.returns-in-Ok-clause-form
returns-in-Ok-clause-form c =
    let cnf = c.args.cnf.now in
    rw c.in-Ok.ensures (cnf_text_has_form cnf.variables cnf.clauses (record { few_variables = cnf.few_variables; few_clauses = cnf.few_clauses; each = cnf.each.each; named = cnf.named }))
