-- The loop ends, since each turn settles one more; and where nothing was got, the race has ended.
use Rattle.std.proofs.Common.{◌≡◌, ◌+◌, ◌-◌, ◌<◌, refl, sym, ap, ◌∙◌, subst, arith}
use Rattle.board_core.specs.declared.claim.Claim.TheVariants.{Got}
use Rattle.board_core.specs.Machine.{Setup}
use Rattle.board_core.specs.Boards.{BoardOf, state_of}
use Rattle.board_core.specs.Calls.{Answers, IsGot, IsOpenClaim, after_claim}
use Rattle.board_core.proofs.OpenClaims.{got_is_open}
use Rattle.squeeze_race.specs.Races.{NoneTaken, IsTakenAlone, HasEnded}
use Rattle.squeeze_race.proofs.Untaken.{claimed_alone, claim_settles_none, none_taken_above}
use Rattle.squeeze_race.proofs.Ended.{ended, unclaimed}
use Rattle.squeeze_race.proofs.race.race.Goals as goal

pub settle-requires : goal.settle-requires
settle-requires g c κs =
    let old = c.loop-ticket.board in
    let ticket = c.in-Got.ticket in
    let got = subst (Answers old.setup (state_of old) 0) c.in-Got.is c.in_ok-ticket.ensures.answer in
    let entry : c.claim.new.self ≡ after_claim old (Got ticket) = c.in_ok-ticket.ensures.entry ∙ ap (after_claim old) c.in-Got.is in (
      (refl, tt),
      (
        subst (λ (b : BoardOf). IsOpenClaim b ticket) (sym entry) (got_is_open old 0 ticket got),
        (
          subst (λ (b : BoardOf). IsTakenAlone b ticket) (sym entry) (claimed_alone old ticket c.loop-ticket.invariant.untaken),
          (c.loop-ticket.invariant.rows ∙ sym (ap (λ (b : BoardOf). b.setup.rows) entry), c.loop-ticket.invariant.limit ∙ sym (ap (λ (b : BoardOf). b.setup.limits.conflicts) entry)),
        ),
      ),
    )

pub loop-ticket-smaller : goal.loop-ticket-smaller
loop-ticket-smaller g c =
    let old = c.loop-ticket.board in
    let new = c.settle.new.board in
    let ticket = c.in-Got.ticket in
    let got : IsGot old.setup (state_of old) 0 ticket = subst (Answers old.setup (state_of old) 0) c.in-Got.is c.in_ok-ticket.ensures.answer in
    let entry : c.claim.new.self ≡ after_claim old (Got ticket) = c.in_ok-ticket.ensures.entry ∙ ap (after_claim old) c.in-Got.is in
    let claimed : (state_of c.claim.new.self).settled ≡ (state_of old).settled =
    ap (λ (b : BoardOf). (state_of b).settled) entry ∙ claim_settles_none old ticket.who ticket.item.id in
    let settled : (state_of new).settled ≡ (state_of old).settled + 1 = c.in_ok-settle.ensures.settled ∙ ap (λ n. n + 1) claimed in
    let kept : new.setup ≡ old.setup = c.in_ok-settle.ensures.setup ∙ ap (λ (b : BoardOf). b.setup) entry in
    let turns : new.setup.limits.turns ≡ old.setup.limits.turns = ap (λ (u : Setup). u.limits.turns) kept in
    let less : new.setup.limits.turns - (state_of new).settled < old.setup.limits.turns - (state_of old).settled =
    omega (arith, settled, turns, got.left) in
    less

pub returns : goal.returns
returns g c =
    let old = c.loop-ticket.board in
    let answer = c.in_ok-ticket.field-0 in
    let same : c.claim.new.self ≡ old = c.in_ok-ticket.ensures.entry ∙ unclaimed old answer c.in_default.not-Got in
    record {
      ended = subst HasEnded (sym same)
          (ended old.setup (state_of old) 0 answer (none_taken_above (state_of old).best (state_of old).items c.loop-ticket.invariant.untaken) c.in_default.not-Got
          c.in_ok-ticket.ensures.answer);
      untaken = subst NoneTaken (sym same) c.loop-ticket.invariant.untaken;
      setup = ap (λ (b : BoardOf). b.setup) same ∙ c.loop-ticket.invariant.setup;
    }
