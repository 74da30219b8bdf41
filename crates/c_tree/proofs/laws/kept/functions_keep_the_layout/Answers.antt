use Rattle.c_tree.proofs.laws.kept.functions_keep_the_layout.Goals as goal
use Rattle.c_tree.proofs.Keeping.Called.{program_callees}

pub returns : goal.returns
returns c = program_callees
