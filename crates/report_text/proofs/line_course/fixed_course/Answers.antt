use Rattle.std.proofs.Common.{length, drop, sym, ◌∙◌, ap, arith}
use Rattle.std.proofs.lemmas.Bool.{false≢true}
use Rattle.std.proofs.lemmas.Bool.Decides.{Decides-eqb}
use Rattle.std.proofs.lemmas.Slice.Eq.{starts_is}
use Rattle.report_text.proofs.LineCourses.{fixed_none, fixed_stops, fixed_is}
use Rattle.report_text.proofs.line_course.fixed_course.Goals as goal

pub returns-then-not-starts_with : goal.returns-then-not-starts_with
returns-then-not-starts_with c =
    let starts = starts_is Decides-eqb c.args.whole.now c.args.text.now c.starts_with.result c.starts_with.ensures.value in
    fixed_none c.args.text.now c.args.line (λ rest is. false≢true (sym c.if-not-starts_with.true ∙ starts.1 rest (c.requires ∙ is)))

pub returns-then-text-whole : goal.returns-then-text-whole
returns-then-text-whole c =
    let starts = starts_is Decides-eqb c.args.whole.now c.args.text.now c.starts_with.result c.starts_with.ensures.value in
    fixed_stops c.args.text.now c.args.line (drop (length c.args.text.now) c.args.whole.now) (sym c.requires ∙ starts.0 c.if-not-starts_with.false) (omega (arith, ap length c.requires, c.if-text-whole.true))

pub returns-else-text-whole : goal.returns-else-text-whole
returns-else-text-whole c =
    let starts = starts_is Decides-eqb c.args.whole.now c.args.text.now c.starts_with.result c.starts_with.ensures.value in
    fixed_is c.args.text.now c.args.line (drop (length c.args.text.now) c.args.whole.now) (sym c.requires ∙ starts.0 c.if-not-starts_with.false) (omega (arith, ap length c.requires, c.if-text-whole.false))
