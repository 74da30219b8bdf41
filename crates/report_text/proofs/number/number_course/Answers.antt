use Rattle.std.proofs.Common.{length, drop, ◌-◌, [], subst, arith, take_all, length-drop, sym, ◌∙◌}
use Rattle.std.proofs.lemmas.Bool.{false≢true}
use Rattle.std.proofs.lemmas.Bool.Decides.{Decides-eqb}
use Rattle.std.proofs.lemmas.Slice.Eq.{starts_is}
use Rattle.report_text.specs.Courses.{IsNumberCourse}
use Rattle.report_text.proofs.Numbers.{behind_words, within_words, no_words}
use Rattle.report_text.proofs.number.number_course.Goals as goal

pub returns-then-starts_with : goal.returns-then-starts_with
returns-then-starts_with c =
    let starts = starts_is Decides-eqb c.args.text.now c.args.words.now c.starts_with.result c.starts_with.ensures.value in
    behind_words c.args.words.now c.args.text.now (drop (length c.args.words.now) c.args.text.now) c.args.limit c.args.except c.digits_course.result (starts.0 c.if-starts_with.true)
    (subst (λ t. IsNumberCourse [] c.args.limit c.args.except t c.digits_course.result) (take_all (length c.args.text.now - length c.args.words.now) (drop (length c.args.words.now) c.args.text.now) (omega (arith, length-drop (length c.args.words.now) c.args.text.now))) c.digits_course.ensures)

pub returns-then-starts_with-2 : goal.returns-then-starts_with-2
returns-then-starts_with-2 c =
    let starts = starts_is Decides-eqb c.args.words.now c.args.text.now c.starts_with-2.result c.starts_with-2.ensures.value in
    within_words c.args.words.now c.args.text.now (drop (length c.args.text.now) c.args.words.now) c.args.limit c.args.except c.requires (starts.0 c.if-starts_with-2.true)

pub returns-else-starts_with-2 : goal.returns-else-starts_with-2
returns-else-starts_with-2 c =
    let starts = starts_is Decides-eqb c.args.text.now c.args.words.now c.starts_with.result c.starts_with.ensures.value in
    let begins = starts_is Decides-eqb c.args.words.now c.args.text.now c.starts_with-2.result c.starts_with-2.ensures.value in
    no_words c.args.words.now c.args.text.now c.args.limit c.args.except
    (λ r is. false≢true (sym c.if-starts_with.false ∙ starts.1 r is))
    (λ r is. false≢true (sym c.if-starts_with-2.false ∙ begins.1 r is))
