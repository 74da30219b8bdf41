use Rattle.race_report.proofs.WholeLines.{line_of_report_holds, line_so_far_holds, exact_lines_hold}
use Rattle.race_report.proofs.law.whole_lines_hold.Goals as goal

pub returns-clause-of_report : goal.returns-clause-of_report
returns-clause-of_report c = line_of_report_holds

pub returns-clause-so_far : goal.returns-clause-so_far
returns-clause-so_far c = line_so_far_holds

pub returns-clause-exact : goal.returns-clause-exact
returns-clause-exact c = exact_lines_hold
