use Rattle.std.proofs.Common.{drop}
use Rattle.lin_rows.proofs.RowsTested.{Tested}
use Rattle.lin_rows.proofs.meeting.meets.Given as goal

abbrev pub invariant-loop-row : goal.invariant-loop-row
invariant-loop-row l = Tested l.counts l.rows.rows l.met (drop l.row-index l.row-items)
