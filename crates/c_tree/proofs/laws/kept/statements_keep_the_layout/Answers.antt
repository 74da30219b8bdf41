use Rattle.c_tree.proofs.laws.kept.statements_keep_the_layout.Goals as goal
use Rattle.c_tree.proofs.Keeping.ExecKept.{stmt_keeps}

pub returns : goal.returns
returns c = stmt_keeps
