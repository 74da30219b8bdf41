use Rattle.ipet_rows.proofs.Counting.{kept_counted}
use Rattle.ipet_rows.proofs.law.kept_paths_are_counted.Goals as goal

pub returns : goal.returns
returns c = kept_counted
