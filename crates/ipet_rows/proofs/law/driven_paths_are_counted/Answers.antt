use Rattle.ipet_rows.proofs.Counting.{driven_counted}
use Rattle.ipet_rows.proofs.law.driven_paths_are_counted.Goals as goal

pub returns : goal.returns
returns c = driven_counted
