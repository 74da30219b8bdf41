use Rattle.std.proofs.Common.{◌≡◌}
use Rattle.turn_cases.proofs.race.race.Given as goal

-- the board keeps its setup, and the refuter has its rows and its limit
abbrev pub invariant-loop : goal.invariant-loop
invariant-loop g l = record {
  setup : l.board.setup ≡ l.fn.board.setup;
  rows : g.R.Refuter.rows l.refuter ≡ l.board.setup.rows;
  limit : g.R.Refuter.limit l.refuter ≡ l.board.setup.limits.conflicts;
}
