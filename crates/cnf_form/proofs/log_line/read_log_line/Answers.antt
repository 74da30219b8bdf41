use Rattle.std.proofs.Common.{◌≡◌, pos, ◌∷◌, ◌++◌, FitsSigned, IfOk, to_z, w32, rules, sym, ◌∙◌, ap, subst}
use Rattle.std.specs.Fmt.{signed_decimal}
use Rattle.std.proofs.lemmas.Int.{to_z-of_z}
use Rattle.cnf_form.specs.Texts.{literals_text}
use Rattle.cnf_form.specs.LogReading.{IsLogCourse}
use Rattle.cnf_form.proofs.Formulas.Heads.{zero_is}
use Rattle.cnf_form.proofs.Logs.LogLines.{stray_literal}
use Rattle.cnf_form.proofs.log_line.read_log_line.Goals as goal

pub returns-in_default-next_number : goal.returns-in_default-next_number
returns-in_default-next_number c =
    let kept = c.loop-token.invariant in
    stray_literal c.loop-token.front.literals.items c.args.line.now c.loop-token.rest.now c.in-Some.token.now c.in-Some.behind.now kept.line kept.keeps.is_front.clause c.in-Some.ensures.some
    (λ number. rw (kept.variables, kept.count, kept.clauses) at c.in_default-next_number.ensures number)

pub returns-then-number-eq0 : goal.returns-then-number-eq0
returns-then-number-eq0 c =
    let kept = c.loop-token.invariant in
    let number = c.in-Some-next_number.number in
    let fits : FitsSigned w32 c.in-Some-next_number.number = search rules in
    let is : c.in-Some-next_number.number ≡ pos 0 = sym (to_z-of_z w32 c.in-Some-next_number.number fits) ∙ ap (to_z w32) c.if-number-eq0.true in
    let clause : c.in_ok-clause.clause ≡ c.loop-token.front.literals.items = c.in_ok-clause.ensures ∙ c.as_slice.ensures.value in
    let line : c.args.line.now ≡ literals_text c.in_ok-clause.clause ++ 48 ∷ 32 ∷ c.in-Some.behind.now =
    kept.line ∙ ap (λ r. literals_text c.loop-token.front.literals.items ++ r) (c.in-Some.ensures.some.split ∙ ap (λ w. w ++ 32 ∷ c.in-Some.behind.now) (c.in-Some-next_number.ensures.written ∙ ap signed_decimal is ∙ zero_is))
    ∙ ap (λ z. literals_text z ++ 48 ∷ 32 ∷ c.in-Some.behind.now) (sym clause) in
    subst (λ t. IfOk c.read_hints.result (IsLogCourse t)) (sym line) c.read_hints.ensures
