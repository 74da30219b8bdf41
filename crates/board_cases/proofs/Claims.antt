-- A claim that is got is open, and open claims stay open behind a claim.
use Rattle.std.proofs.Common.{◌≡◌, ◌≢◌, ℕ, Some, sym, subst}
use Rattle.board_core.specs.Tickets.{TicketOf}
use Rattle.board_core.specs.Boards.{BoardOf}
use Rattle.board_core.specs.Calls.{IsOpenClaim}
use Rattle.board_core.proofs.OpenClaims.{got_is_open, got_is_other, claim_keeps}
use Rattle.board_cases.specs.Claimed.{Claimed}

pub claimed_is_open : (old new : BoardOf) (who : ℕ) (t : TicketOf) → Claimed old new who (Some t) → IsOpenClaim new t
claimed_is_open old new who t h = subst (λ b. IsOpenClaim b t) (sym h.1) (got_is_open old who t h.0)

pub claim_leaves_open : (old new : BoardOf) (who : ℕ) (t u : TicketOf) → IsOpenClaim old t → Claimed old new who (Some u) → IsOpenClaim new t
claim_leaves_open old new who t u open_t h = subst (λ b. IsOpenClaim b t) (sym h.1) (claim_keeps old who t u open_t h.0)

pub claim_is_other : (old new : BoardOf) (who : ℕ) (t u : TicketOf) → IsOpenClaim old t → Claimed old new who (Some u) → u.item.id ≢ t.item.id
claim_is_other old new who t u open_t h = got_is_other old who t u open_t h.0
