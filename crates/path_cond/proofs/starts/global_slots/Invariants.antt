use Rattle.std.proofs.Common.{◌≡◌, ◌+◌, ◌++◌, length, drop}
use Rattle.c_tree.specs.Meaning.Runs.{outer_types}
use Rattle.c_tree.specs.Keeping.WellFormed.{WellFormedGlobals}
use Rattle.cond_laws.specs.Fits.{FitSlots}
use Rattle.cond_laws.specs.TermPaths as spec
use Rattle.term_steps.proofs.Runs.{Rest}
use Rattle.path_cond.proofs.starts.global_slots.Given as goal

-- the slots so far and those of the rest are all, and the inputs of the rest are the last ones
abbrev pub invariant-loop-global : goal.invariant-loop-global
invariant-loop-global l = record {
  rest : Rest (spec.global_term_slots l.fn.globals l.fn.first) (spec.global_term_slots (drop l.global-index l.globals) l.next) (λ more. l.slots ++ more) l.fn.terms l.terms;
  there : FitSlots (length l.terms.ops) l.slots;
  formed : WellFormedGlobals (drop l.global-index l.globals);
  left : l.next + length (outer_types (drop l.global-index l.globals)) ≡ l.fn.first + length (outer_types l.fn.globals);
}
