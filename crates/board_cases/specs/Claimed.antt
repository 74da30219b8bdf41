-- What a claim has done to a board.
use Rattle.std.specs.Prelude.{◌≡◌, ℕ, Option, None, Some}
use Rattle.board_core.specs.declared.claim.Claim.TheVariants.{Got}
use Rattle.board_core.specs.Tickets.{TicketOf}
use Rattle.board_core.specs.Boards.{BoardOf, state_of}
use Rattle.board_core.specs.Calls.{IsGot, after_claim}

-- the ticket is the one that is next, or the board is as it was
abbrev pub Claimed : BoardOf → BoardOf → ℕ → Option TicketOf → Type 0
Claimed old new who None = new ≡ old
Claimed old new who (Some t) = IsGot old.setup (state_of old) who t × (new ≡ after_claim old (Got t))
