use Rattle.board_core.proofs.ShownValues.{shown_above, done_shows_best, not_done_shows, best_legal}
use Rattle.board_core.proofs.law.shown_values_hold.Goals as goal

pub returns-clause-above : goal.returns-clause-above
returns-clause-above c = shown_above

pub returns-clause-done : goal.returns-clause-done
returns-clause-done c = done_shows_best

pub returns-clause-not_done : goal.returns-clause-not_done
returns-clause-not_done c = not_done_shows

pub returns-clause-found : goal.returns-clause-found
returns-clause-found c = best_legal
