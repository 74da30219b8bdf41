-- A memory of terms as the code has it: the locals of the callers stand innermost last. This project's own.
use Rattle.std.specs.Prelude.{ℕ, reverse}
use Rattle.cond_laws.specs.Conditions.{AllBelow}
use Rattle.cond_laws.specs.Fits.{FitMemory}
use Rattle.cond_laws.specs.TermStatements.{Effect}
use Rattle.cond_laws.specs.TermPaths.{TermMemory, term_memory}
use Rattle.path_cond.specs.declared.memory.Memory.{Memory}

-- the memory of the definitions
abbrev pub memory_of : Memory → TermMemory
memory_of m = term_memory m.store (reverse m.frames) m.result

-- what an edge leaves, all of it there
pub record FitMove (k : ℕ) (e : Effect TermMemory) : Type 0 where
  pub now : FitMemory k e.now
  pub conditions : AllBelow k e.conditions
