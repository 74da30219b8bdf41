use Rattle.cnf_form.proofs.Logs.LogTexts.{one_log}
use Rattle.cnf_form.proofs.law.one_log.Goals as goal

pub returns : goal.returns
returns c = one_log
