use Rattle.cnf_form.specs.Texts.{cnf_text}
use Rattle.cnf_form.proofs.Formulas.CnfWritten.{cnf_text_has_form}
use Rattle.cnf_form.proofs.Formulas.OneFormula.{one_formula}
use Rattle.cnf_form.proofs.law.read_again.Goals as goal

pub returns-clause-form : goal.returns-clause-form
returns-clause-form c = cnf_text_has_form

pub returns-clause-same : goal.returns-clause-same
returns-clause-same c = λ v w cs ds formula text. one_formula (cnf_text v cs) v w cs ds (cnf_text_has_form v cs formula) text
