use Rattle.flow_laws.proofs.laws.counts.kept_counts_are_within_caps.Goals as goal
use Rattle.flow_laws.proofs.Caps.KeptListsWithinCaps.{contiguous_capped, kept_capped}

pub returns-clause-lists : goal.returns-clause-lists
returns-clause-lists c = contiguous_capped

pub returns-clause-paths : goal.returns-clause-paths
returns-clause-paths c = kept_capped
