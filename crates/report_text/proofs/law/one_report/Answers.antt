use Rattle.report_text.proofs.Shortest.{one_shortest}
use Rattle.report_text.proofs.law.one_report.Goals as goal

pub returns : goal.returns
returns c = one_shortest
