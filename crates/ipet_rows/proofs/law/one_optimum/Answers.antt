use Rattle.ipet_rows.proofs.Counting.{one_number}
use Rattle.ipet_rows.proofs.law.one_optimum.Goals as goal

pub returns : goal.returns
returns c = one_number
