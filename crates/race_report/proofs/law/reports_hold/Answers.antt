use Rattle.race_report.proofs.Reports.{report_holds, lines_so_far_hold}
use Rattle.race_report.proofs.law.reports_hold.Goals as goal

pub returns-clause-whole : goal.returns-clause-whole
returns-clause-whole c = report_holds

pub returns-clause-begun : goal.returns-clause-begun
returns-clause-begun c = lines_so_far_hold
