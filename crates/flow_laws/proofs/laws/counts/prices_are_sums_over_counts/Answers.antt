use Rattle.flow_laws.proofs.laws.counts.prices_are_sums_over_counts.Goals as goal
use Rattle.flow_laws.proofs.Counts.CountSums.{price_by_counts}

pub returns : goal.returns
returns c = price_by_counts
