use Rattle.ipet_rows.proofs.PathCounts.{rows_hold}
use Rattle.ipet_rows.proofs.law.path_counts_meet_rows.Goals as goal

pub returns : goal.returns
returns c = rows_hold
