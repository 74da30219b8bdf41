use Rattle.std.proofs.Common.{◌≡◌, refl, sym, ap, ◌∙◌, subst}
use Rattle.board_core.specs.declared.claim.Claim.TheVariants.{Got}
use Rattle.board_core.specs.Boards.{BoardOf, state_of}
use Rattle.board_core.specs.Calls.{Answers, IsOpenClaim, after_claim}
use Rattle.board_core.proofs.OpenClaims.{got_is_open}
use Rattle.turn_cases.proofs.race.race.Goals as goal

pub settle-requires : goal.settle-requires
settle-requires g c κs =
    let old = c.loop.board in
    let ticket = c.in-Got.ticket in
    let got = subst (Answers old.setup (state_of old) 0) c.in-Got.is c.in_ok-ticket.ensures.answer in
    let entry : c.claim.new.self ≡ after_claim old (Got ticket) = c.in_ok-ticket.ensures.entry ∙ ap (after_claim old) c.in-Got.is in
    ((refl, tt), (subst (λ (b : BoardOf). IsOpenClaim b ticket) (sym entry) (got_is_open old 0 ticket got), (c.loop.invariant.rows ∙ sym (ap (λ (b : BoardOf). b.setup.rows) entry), c.loop.invariant.limit ∙ sym (ap (λ (b : BoardOf). b.setup.limits.conflicts) entry))))
