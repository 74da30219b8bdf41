use Rattle.std.proofs.Common.{All, subst}
use Rattle.cnf_form.specs.Forms.{IsLogLine}
use Rattle.cnf_form.proofs.write.log_bytes.Goals as goal

pub returns-clause-each : goal.returns-clause-each
returns-clause-each c = subst (All IsLogLine) c.lines-lines.ensures.value c.in_ok-push_lines.ensures.each
