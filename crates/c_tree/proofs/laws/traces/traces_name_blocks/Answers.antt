use Rattle.c_tree.proofs.laws.traces.traces_name_blocks.Goals as goal
use Rattle.c_tree.proofs.Traces.{run_traced}

pub returns : goal.returns
returns c = run_traced
