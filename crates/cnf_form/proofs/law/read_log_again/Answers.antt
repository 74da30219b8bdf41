use Rattle.std.proofs.Common.{refl}
use Rattle.cnf_form.specs.Texts.{log_text}
use Rattle.cnf_form.proofs.Logs.LogTexts.{one_log}
use Rattle.cnf_form.proofs.law.read_log_again.Goals as goal

pub returns-clause-same : goal.returns-clause-same
returns-clause-same c = λ lines others few each text. one_log (log_text lines) lines others (record { written = refl; few = few; each = each }) text
