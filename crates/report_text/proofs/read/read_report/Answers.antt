use Rattle.std.proofs.Common.{subst}
use Rattle.report_text.specs.Values.{IsReportOf}
use Rattle.report_text.proofs.Shortest.{read_as}
use Rattle.report_text.proofs.read.read_report.Goals as goal

pub returns-clause-read : goal.returns-clause-read
returns-clause-read c =
    read_as c.args.text.now c.in_ok-lines.lines.items c.in_ok-assemble.field-0 c.in_ok-lines.ensures.read
    (subst (λ ls. IsReportOf ls c.in_ok-assemble.field-0) c.as_slice.ensures.value c.in_ok-assemble.ensures)
