use Rattle.std.proofs.Common.{refl, sym, ◌∙◌, arith}
use Rattle.std.proofs.lemmas.Bool.{false≢true}
use Rattle.cnf_form.proofs.Formulas.Fronts.{leads_on, leads_back, leads_at_once}
use Rattle.cnf_form.proofs.front.Front.leads_to_new.Goals as goal

pub returns-then-has_new : goal.returns-then-has_new
returns-then-has_new c =
    let s = c.args.self.now in
    (λ yes. c.loop-low.invariant.back (leads_at_once s.variables s.literals.items c.loop-low.low c.loop-low.past (c.has_new.ensures.0 c.if-has_new.true)), λ leads. refl)

pub loop-low-preserved : goal.loop-low-preserved
loop-low-preserved c =
    let s = c.args.self.now in
    let small = c.requires.keeps.is_front.few_variables in
    record {
      some = omega arith;
      near = omega arith;
      few = omega (arith, c.from.ensures, c.loop-low-test.true);
      on = λ leads. leads_on s.variables s.literals.items c.loop-low.low c.loop-low.past (c.loop-low.invariant.on leads) (λ at_once. false≢true (sym c.if-has_new.false ∙ c.has_new.ensures.1 at_once));
      back = λ leads. c.loop-low.invariant.back (leads_back s.variables s.literals.items c.loop-low.low c.loop-low.past leads);
    }
