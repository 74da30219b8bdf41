use Rattle.std.proofs.Common.{◌≡◌, pos, codes, unsigned_abs, ℕ, ◌+◌, FitsSigned, to_z, of_z, w32, rules, refl, sym, ◌∙◌, ap, subst, arith}
use Rattle.std.proofs.lemmas.Bool.{false≢true}
use Rattle.std.proofs.lemmas.Int.{to_z-of_z}
use Rattle.std.specs.Fmt.{signed_decimal}
use Rattle.cnf_form.specs.Reading.{LeadsToNew}
use Rattle.cnf_form.proofs.Words.Growing.{zero_grows, minus_grows, minus_leads, number_grows, number_leads, stray, some_abs}
use Rattle.cnf_form.proofs.front.Front.may_grow.Goals as goal

pub returns-then-is_minus : goal.returns-then-is_minus
returns-then-is_minus c =
    let s = c.args.self.now in
    let few = c.requires.keeps.is_front.few_variables in
    let minus : c.args.word.now ≡ codes "-" = c.is_minus.ensures.0 c.if-is_minus.true in
    rw minus (λ yes. minus_grows s.variables s.count s.clauses.items s.literals.items (omega arith) few (c.leads_to_new.ensures.0 yes), λ grows. c.leads_to_new.ensures.1 (minus_leads s.variables s.count s.clauses.items s.literals.items few grows))

pub returns-in_default : goal.returns-in_default
returns-in_default c =
    let s = c.args.self.now in
    (λ no. absurd (false≢true no), λ grows. absurd (stray s.variables s.count s.clauses.items s.literals.items c.args.word.now c.requires.some (λ minus. false≢true (sym c.if-is_minus.false ∙ c.is_minus.ensures.1 minus)) c.in_default.ensures grows))

pub returns-then-number-eq0 : goal.returns-then-number-eq0
returns-then-number-eq0 c =
    let s = c.args.self.now in
    let fits : FitsSigned w32 c.in-Some.number = search rules in
    let is : c.in-Some.number ≡ pos 0 = sym (to_z-of_z w32 c.in-Some.number fits) ∙ ap (to_z w32) c.if-number-eq0.true in
    (λ yes. zero_grows s.variables s.count s.clauses.items s.literals.items c.args.word.now (omega arith) (c.in-Some.ensures.1 ∙ ap signed_decimal is), λ grows. refl)

pub returns : goal.returns
returns c =
    let s = c.args.self.now in
    let few = c.requires.keeps.is_front.few_variables in
    let fits : FitsSigned w32 c.in-Some.number = search rules in
    let value : c.from-variable.result ≡ unsigned_abs c.in-Some.number = c.from-variable.ensures ∙ c.unsigned_abs.ensures.value ∙ ap unsigned_abs (to_z-of_z w32 c.in-Some.number fits) in
    let some = some_abs c.in-Some.number (λ is. c.if-number-eq0.false (ap (λ z. of_z w32 z) is)) in
    let leads = c.leads_to_new-2.ensures in (
      λ yes. number_grows s.variables s.count s.clauses.items s.literals.items c.args.word.now c.in-Some.number (omega arith) few c.in-Some.ensures.1 some (subst (λ (n : ℕ). LeadsToNew s.variables s.literals.items n (n + 1)) value (leads.0 yes)),
      λ grows. leads.1 (subst (λ (n : ℕ). LeadsToNew s.variables s.literals.items n (n + 1)) (sym value) (number_leads s.variables s.count s.clauses.items s.literals.items c.args.word.now c.in-Some.number c.in-Some.ensures.0 c.in-Some.ensures.1 some grows)),
    )
