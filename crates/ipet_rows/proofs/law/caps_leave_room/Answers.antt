use Rattle.ipet_rows.proofs.Spanned.{bound_within}
use Rattle.ipet_rows.proofs.law.caps_leave_room.Goals as goal

pub returns : goal.returns
returns c = bound_within
