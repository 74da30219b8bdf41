use Rattle.std.proofs.Common.{refl, sym}
use Rattle.report_text.proofs.law.read_again.Goals as goal

pub returns-clause-read : goal.returns-clause-read
returns-clause-read c = λ r is. record { report = r; text_of = record { report = is; written = refl } }

pub returns-clause-same : goal.returns-clause-same
returns-clause-same c = λ r other is read. sym read.text_of.written
