use Rattle.std.proofs.Common.{◌++◌, length, drop}
use Rattle.flow_laws.specs.Graphs.{graph}
use Rattle.cond_laws.specs.Conditions.{AllBelow}
use Rattle.cond_laws.specs.Fits.{FitMemory}
use Rattle.cond_laws.specs.TermPaths as spec
use Rattle.term_steps.proofs.Runs.{Rest}
use Rattle.path_cond.specs.Memories.{memory_of}
use Rattle.path_cond.proofs.edges.walk.Given as goal

-- the conditions so far and those of the rest are all
abbrev pub invariant-loop-edge : goal.invariant-loop-edge
invariant-loop-edge l = record {
  rest : Rest (spec.walk (graph l.plan.program) l.fn.list (memory_of l.fn.memory)) (spec.walk (graph l.plan.program) (drop l.edge-index l.list) (memory_of l.memory)) (λ more. l.conditions ++ more) l.fn.terms l.terms;
  there : FitMemory (length l.terms.ops) (memory_of l.memory);
  conditions_in : AllBelow (length l.terms.ops) l.conditions;
}
