use Rattle.rup_check.proofs.Teaching.{teaches_new}
use Rattle.rup_check.proofs.law.teaching_is_new.Goals as goal

pub returns : goal.returns
returns c = teaches_new
