use Rattle.std.proofs.Common.{subst}
use Rattle.c_tree.specs.Checking.Checked.{IsProgram}
use Rattle.typed_laws.proofs.programs.program_is_typed.Goals as goal

pub returns : goal.returns
returns c = subst IsProgram c.program.view_is c.program.invariant
