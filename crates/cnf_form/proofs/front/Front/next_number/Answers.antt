use Rattle.std.proofs.Common.{◌≡◌, ◌≢◌, ℕ, pos, ◌≤◌, unsigned_abs, FitsSigned, of_z, w32, sym, ◌∙◌, ap, subst, rules}
use Rattle.std.proofs.lemmas.Bool.{false≢true}
use Rattle.std.proofs.lemmas.Int.{to_z-of_z}
use Rattle.cnf_form.specs.Reading.{IsUnnamed}
use Rattle.cnf_form.proofs.Formulas.Fronts.{not_new}
use Rattle.cnf_form.proofs.front.Front.next_number.Goals as goal

pub returns-then-not-is_new : goal.returns-then-not-is_new
returns-then-not-is_new c = λ number.
    let s = c.args.self.now in
    let read = c.in_ok-number.ensures in
    let some : c.in_ok-number.number ≢ pos 0 = λ is. c.if-number-eq0.false (ap (λ z. of_z w32 z) is) in
    let fits : FitsSigned w32 c.in_ok-number.number = search rules in
    let value : c.unsigned_abs.result ≡ unsigned_abs c.in_ok-number.number = c.unsigned_abs.ensures.value ∙ ap unsigned_abs (to_z-of_z w32 c.in_ok-number.number fits) in
    not_new s.variables s.count s.clauses.items s.literals.items c.args.word.now c.in_ok-number.number number read.0 read.1 some
    (λ new. false≢true (sym c.if-not-is_new.true ∙ c.is_new.ensures.1 (subst (λ (n : ℕ). (n ≤ s.variables) × IsUnnamed s.literals.items n) (sym value) new)))
