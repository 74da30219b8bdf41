-- Both claims are open.
use Rattle.std.proofs.Common.{Some, subst}
use Rattle.board_cases.specs.Claimed.{Claimed}
use Rattle.board_cases.proofs.Claims.{claimed_is_open, claim_leaves_open}
use Rattle.board_cases.proofs.race.hold_two.Goals as goal

pub settle_one-requires-clause-open : goal.settle_one-requires-clause-open
settle_one-requires-clause-open c =
    claim_leaves_open c.args.board.now c.claimed.new.board 0 c.args.ticket c.in-Ok-Some.other c.requires
    (subst (λ o. Claimed c.args.board.now c.claimed.new.board 0 o) c.in-Ok-Some.field-0-is c.in-Ok-Some.ensures)

pub settle_one-requires-clause-held : goal.settle_one-requires-clause-held
settle_one-requires-clause-held c =
    claimed_is_open c.args.board.now c.claimed.new.board 0 c.in-Ok-Some.other
    (subst (λ o. Claimed c.args.board.now c.claimed.new.board 0 o) c.in-Ok-Some.field-0-is c.in-Ok-Some.ensures)
