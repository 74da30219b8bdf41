use Rattle.cnf_form.proofs.Formulas.OneFormula.{one_formula}
use Rattle.cnf_form.proofs.law.one_formula.Goals as goal

pub returns : goal.returns
returns c = one_formula
