use Rattle.std.proofs.Common.{subst, sym, None, ◌⊎◌, refl}
use Rattle.report_text.specs.declared.report.ReportLine.TheVariants.{Spent as SpentLine}
use Rattle.report_text.specs.declared.report.Spent.TheVariants.{Weight}
use Rattle.report_text.specs.declared.kind.Kind.TheVariants as kind
use Rattle.report_text.specs.declared.stage.Stage.TheVariants.{BehindBest}
use Rattle.report_text.specs.Courses.{IsCourse, IsOfKind}
use Rattle.report_text.specs.Form.{Allows}
use Rattle.report_text.proofs.LineCourses.{either_is, among_same}
use Rattle.report_text.proofs.Stages as stages
use Rattle.report_text.proofs.Stages.{Only}
use Rattle.report_text.proofs.line_course.spent_course.Goals as goal

pub fixed_course-weight-requires : goal.fixed_course-weight-requires
unfolding Rattle.std.specs.Fmt.digits
fixed_course-weight-requires c = refl

pub returns : goal.returns
returns c =
    let text = c.args.text.now in
    let weight = SpentLine Weight 262144 in
    let rest = either_is (IsOfKind kind.Conflicts None) (Only (SpentLine Weight 262144)) text c.kind_course-conflicts.result c.fixed_course-weight.result c.kind_course-conflicts.ensures c.fixed_course-weight.ensures in
    let rest_is = subst (IsCourse (λ line. IsOfKind kind.Conflicts None line ⊎ Only (SpentLine Weight 262144) line) text) (sym c.either.ensures) rest in
    let all = either_is (IsOfKind kind.Turns None) (λ line. IsOfKind kind.Conflicts None line ⊎ Only (SpentLine Weight 262144) line) text c.kind_course-turns.result c.either.result c.kind_course-turns.ensures rest_is in
    subst (IsCourse (Allows BehindBest) text) (sym c.either-2.ensures) (among_same (λ line. IsOfKind kind.Turns None line ⊎ (IsOfKind kind.Conflicts None line ⊎ Only (SpentLine Weight 262144) line)) (Allows BehindBest) text _ stages.spent_to stages.spent_from all)
