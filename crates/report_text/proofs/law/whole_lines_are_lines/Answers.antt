use Rattle.report_text.proofs.Whole.{whole_lines, whole_lines_of_report}
use Rattle.report_text.proofs.law.whole_lines_are_lines.Goals as goal

pub returns-clause-of_report : goal.returns-clause-of_report
returns-clause-of_report c = whole_lines_of_report

pub returns-clause-of_lines : goal.returns-clause-of_lines
returns-clause-of_lines c = whole_lines
