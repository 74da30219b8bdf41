use Rattle.std.proofs.Common.{subst, sym, None, ◌⊎◌}
use Rattle.report_text.specs.declared.report.ReportLine.TheVariants.{Best}
use Rattle.report_text.specs.declared.kind.Kind.TheVariants as kind
use Rattle.report_text.specs.declared.stage.Stage.TheVariants.{BehindInexact}
use Rattle.report_text.specs.Courses.{IsCourse, IsOfKind}
use Rattle.report_text.specs.Form.{Allows}
use Rattle.report_text.proofs.LineCourses.{either_is, among_same}
use Rattle.report_text.proofs.Stages as stages
use Rattle.report_text.proofs.Stages.{Only}
use Rattle.report_text.proofs.line_course.best_course.Goals as goal

pub returns : goal.returns
returns c =
    let text = c.args.text.now in
    let all = either_is (IsOfKind kind.Best None) (Only (Best None)) text c.kind_course-best.result c.fixed_course-none.result c.kind_course-best.ensures c.fixed_course-none.ensures in
    subst (IsCourse (Allows BehindInexact) text) (sym c.either.ensures) (among_same (λ line. IsOfKind kind.Best None line ⊎ Only (Best None) line) (Allows BehindInexact) text _ stages.best_to stages.best_from all)
