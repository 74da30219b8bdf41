-- Other open claims stay open where one is settled or given back.
use Rattle.std.proofs.Common.{sym, subst}
use Rattle.board_core.specs.Boards.{BoardOf}
use Rattle.board_core.specs.Calls.{IsOpenClaim}
use Rattle.board_core.proofs.OpenClaims.{publication_keeps, return_keeps}
use Rattle.board_cases.proofs.race.find.Goals as goal

pub returns-in-Ok-Some : goal.returns-in-Ok-Some
returns-in-Ok-Some c = λ t open_t other.
    subst (λ (b : BoardOf). IsOpenClaim b t) (sym c.publish.ensures.entry)
    (publication_keeps c.args.board.now t c.args.ticket c.in-Ok-Some.settlement.conclusion open_t other)

pub returns-in-Ok-None : goal.returns-in-Ok-None
returns-in-Ok-None c = λ t open_t other.
    subst (λ (b : BoardOf). IsOpenClaim b t) (sym c.give_back.ensures.entry)
    (return_keeps c.args.board.now t c.args.ticket open_t other)
