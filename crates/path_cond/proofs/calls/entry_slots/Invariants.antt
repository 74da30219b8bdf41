use Rattle.std.proofs.Common.{◌++◌, length, drop}
use Rattle.cond_laws.specs.Fits.{FitSlots}
use Rattle.cond_laws.specs.Sizes.{AreSmallLocals}
use Rattle.cond_laws.specs.TermPaths as spec
use Rattle.term_steps.proofs.Runs.{Rest}
use Rattle.path_cond.proofs.calls.entry_slots.Given as goal

abbrev pub invariant-loop-at : goal.invariant-loop-at
invariant-loop-at l = record {
  rest : Rest (spec.entry_term_slots l.fn.locals l.fn.given) (spec.entry_term_slots (drop l.at l.fn.locals) (drop l.at l.fn.given)) (λ more. l.slots ++ more) l.fn.terms l.terms;
  there : FitSlots (length l.terms.ops) l.slots;
  small : AreSmallLocals (drop l.at l.fn.locals);
}
