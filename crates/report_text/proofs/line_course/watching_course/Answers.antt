use Rattle.std.proofs.Common.{subst, sym, Some, None, ◌⊎◌}
use Rattle.report_text.specs.declared.report.ReportLine.TheVariants.{Bound}
use Rattle.report_text.specs.declared.kind.Kind.TheVariants as kind
use Rattle.report_text.specs.declared.stage.Stage.TheVariants.{Watching}
use Rattle.report_text.specs.Courses.{IsCourse, IsOfKind}
use Rattle.report_text.specs.Form.{Allows, IsEnd}
use Rattle.report_text.proofs.LineCourses.{either_is, among_same}
use Rattle.report_text.proofs.Stages as stages
use Rattle.report_text.proofs.Stages.{Only}
use Rattle.report_text.proofs.line_course.watching_course.Goals as goal

pub returns-in-None : goal.returns-in-None
returns-in-None c =
    let text = c.args.text.now in
    let rest = either_is (Only (Bound None)) IsEnd text c.no_bound_course.result c.end_course.result c.no_bound_course.ensures c.end_course.ensures in
    let rest_is = subst (IsCourse (λ line. Only (Bound None) line ⊎ IsEnd line) text) (sym c.either.ensures) rest in
    let all = either_is (IsOfKind kind.Bound None) (λ line. Only (Bound None) line ⊎ IsEnd line) text c.kind_course-bound.result c.either.result c.kind_course-bound.ensures rest_is in
    subst (λ before. IsCourse (Allows (Watching before)) text c.either-in-None.result) (sym c.in-None.is)
    (subst (IsCourse (Allows (Watching None)) text) (sym c.either-in-None.ensures) (among_same (λ line. IsOfKind kind.Bound None line ⊎ (Only (Bound None) line ⊎ IsEnd line)) (Allows (Watching None)) text _ stages.first_to stages.first_from all))

pub returns-in-None-bound : goal.returns-in-None-bound
returns-in-None-bound c =
    let text = c.args.text.now in
    let value = c.in-Some.value in
    let rest = either_is (IsOfKind kind.Found value.best) IsEnd text c.kind_course-found.result c.end_course-in-Some.result c.kind_course-found.ensures c.end_course-in-Some.ensures in
    let rest_is = subst (IsCourse (λ line. IsOfKind kind.Found value.best line ⊎ IsEnd line) text) (sym c.either-rest.ensures) rest in
    let all = either_is (IsOfKind kind.Bound None) (λ line. IsOfKind kind.Found value.best line ⊎ IsEnd line) text c.kind_course.result c.either-rest.result c.kind_course.ensures rest_is in
    subst (λ before. IsCourse (Allows (Watching before)) text c.either-in-None-bound.result) (sym c.in-Some.is)
    (subst (IsCourse (Allows (Watching (Some value))) text) (sym c.either-in-None-bound.ensures) (among_same (λ line. IsOfKind kind.Bound None line ⊎ (IsOfKind kind.Found value.best line ⊎ IsEnd line)) (Allows (Watching (Some value))) text _ (stages.unbounded_to value c.in-None-bound.is) (stages.unbounded_from value c.in-None-bound.is) all))

pub returns-in-Some-bound : goal.returns-in-Some-bound
returns-in-Some-bound c =
    let text = c.args.text.now in
    let value = c.in-Some.value in
    let bound = c.in-Some-bound.bound in
    let rest = either_is (IsOfKind kind.Found value.best) IsEnd text c.kind_course-found.result c.end_course-in-Some.result c.kind_course-found.ensures c.end_course-in-Some.ensures in
    let rest_is = subst (IsCourse (λ line. IsOfKind kind.Found value.best line ⊎ IsEnd line) text) (sym c.either-rest.ensures) rest in
    let more = either_is (Only (Bound None)) (λ line. IsOfKind kind.Found value.best line ⊎ IsEnd line) text c.no_bound_course-in-Some-bound.result c.either-rest.result c.no_bound_course-in-Some-bound.ensures rest_is in
    let more_is = subst (IsCourse (λ line. Only (Bound None) line ⊎ (IsOfKind kind.Found value.best line ⊎ IsEnd line)) text) (sym c.either-in-Some-bound.ensures) more in
    let all = either_is (IsOfKind kind.Bound (Some bound)) (λ line. Only (Bound None) line ⊎ (IsOfKind kind.Found value.best line ⊎ IsEnd line)) text c.kind_course-other.result c.either-in-Some-bound.result c.kind_course-other.ensures more_is in
    subst (λ before. IsCourse (Allows (Watching before)) text c.either-in-Some-bound-2.result) (sym c.in-Some.is)
    (subst (IsCourse (Allows (Watching (Some value))) text) (sym c.either-in-Some-bound-2.ensures) (among_same (λ line. IsOfKind kind.Bound (Some bound) line ⊎ (Only (Bound None) line ⊎ (IsOfKind kind.Found value.best line ⊎ IsEnd line))) (Allows (Watching (Some value))) text _ (stages.bounded_to value bound c.in-Some-bound.is) (stages.bounded_from value bound c.in-Some-bound.is) all))
