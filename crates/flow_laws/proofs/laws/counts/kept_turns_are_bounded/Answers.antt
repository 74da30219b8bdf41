use Rattle.flow_laws.proofs.laws.counts.kept_turns_are_bounded.Goals as goal
use Rattle.flow_laws.proofs.Loops.LoopsBounded.{contiguous_rows, kept_rows}

pub returns-clause-lists : goal.returns-clause-lists
returns-clause-lists c = contiguous_rows

pub returns-clause-paths : goal.returns-clause-paths
returns-clause-paths c = kept_rows
