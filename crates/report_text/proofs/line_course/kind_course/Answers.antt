use Rattle.std.proofs.Common.{subst}
use Rattle.report_text.specs.Courses.{StopsInNumber, kind_words}
use Rattle.report_text.proofs.LineCourses.{kind_stops}
use Rattle.report_text.proofs.line_course.kind_course.Goals as goal

pub returns-in-MayGrow : goal.returns-in-MayGrow
returns-in-MayGrow c = kind_stops c.args.kind c.args.except c.args.text.now
    (subst (λ l. StopsInNumber (kind_words c.args.kind) l c.args.except c.args.text.now) c.limit_of.ensures
    (subst (λ w. StopsInNumber w c.limit_of.result c.args.except c.args.text.now) c.words_of.ensures c.in-MayGrow.ensures))
