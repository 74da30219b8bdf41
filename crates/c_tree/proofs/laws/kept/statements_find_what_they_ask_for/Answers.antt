use Rattle.c_tree.proofs.laws.kept.statements_find_what_they_ask_for.Goals as goal
use Rattle.c_tree.proofs.Keeping.StmtsFind.{stmt_finds}

pub returns : goal.returns
returns c = stmt_finds
