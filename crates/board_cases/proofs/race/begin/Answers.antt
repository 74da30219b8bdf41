-- The claim that is got is open.
use Rattle.std.proofs.Common.{subst}
use Rattle.board_cases.specs.Claimed.{Claimed}
use Rattle.board_cases.proofs.Claims.{claimed_is_open}
use Rattle.board_cases.proofs.race.begin.Goals as goal

pub open-requires : goal.open-requires
open-requires c =
    claimed_is_open c.args.board.now c.claimed.new.board 0 c.in-Some.ticket
    (subst (λ o. Claimed c.args.board.now c.claimed.new.board 0 o) c.in-Some.is c.in_ok-claimed.ensures)
