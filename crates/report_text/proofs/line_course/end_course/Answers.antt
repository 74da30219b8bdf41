use Rattle.std.proofs.Common.{subst, sym, None, ◌⊎◌}
use Rattle.report_text.specs.declared.report.ReportLine.TheVariants.{Nothing}
use Rattle.report_text.specs.declared.kind.Kind.TheVariants as kind
use Rattle.report_text.specs.Courses.{IsCourse, IsOfKind}
use Rattle.report_text.specs.Form.{IsEnd}
use Rattle.report_text.proofs.LineCourses.{either_is, among_same}
use Rattle.report_text.proofs.Stages as stages
use Rattle.report_text.proofs.Stages.{Only}
use Rattle.report_text.proofs.line_course.end_course.Goals as goal

pub returns : goal.returns
returns c =
    let text = c.args.text.now in
    let rest = either_is (IsOfKind kind.Inexact None) (Only Nothing) text c.kind_course-inexact.result c.fixed_course-nothing.result c.kind_course-inexact.ensures c.fixed_course-nothing.ensures in
    let rest_is = subst (IsCourse (λ line. IsOfKind kind.Inexact None line ⊎ Only Nothing line) text) (sym c.either.ensures) rest in
    let all = either_is (IsOfKind kind.Exact None) (λ line. IsOfKind kind.Inexact None line ⊎ Only Nothing line) text c.kind_course-exact.result c.either.result c.kind_course-exact.ensures rest_is in
    subst (IsCourse IsEnd text) (sym c.either-2.ensures) (among_same (λ line. IsOfKind kind.Exact None line ⊎ (IsOfKind kind.Inexact None line ⊎ Only Nothing line)) IsEnd text _ stages.end_to stages.end_from all)
