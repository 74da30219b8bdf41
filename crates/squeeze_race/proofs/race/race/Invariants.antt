use Rattle.std.proofs.Common.{◌≡◌, ◌-◌, ◌≤◌}
use Rattle.board_core.specs.Boards.{BoardOf, state_of}
use Rattle.squeeze_race.specs.Races.{NoneTaken}
use Rattle.squeeze_race.proofs.race.race.Given as goal

-- no item is taken, the board keeps its setup, and the refuter has its rows and its limit
abbrev pub invariant-loop-ticket : goal.invariant-loop-ticket
invariant-loop-ticket g l = record {
  untaken : NoneTaken l.board;
  setup : l.board.setup ≡ l.fn.board.setup;
  rows : g.R.Refuter.rows l.refuter ≡ l.board.setup.rows;
  limit : g.R.Refuter.limit l.refuter ≡ l.board.setup.limits.conflicts;
}

-- the turns that are left
abbrev pub decreases-loop-ticket : goal.decreases-loop-ticket
decreases-loop-ticket g l = l.board.setup.limits.turns - (state_of l.board).settled
