use Rattle.std.proofs.Common.{length, option_copied, sym, subst}
use Rattle.path_cond.specs.Parts as part
use Rattle.path_cond.proofs.StartRuns.{slots_pushed}
use Rattle.path_cond.proofs.CallRuns.{given_at, given_more, entry_next, small_next}
use Rattle.path_cond.proofs.calls.entry_slots.Goals as goal
use Rattle.plain_laws.proofs.Lists.{drop-read}

pub entry_slot-requires-clause-there : goal.entry_slot-requires-clause-there
entry_slot-requires-clause-there c =
    let k = length c.args.terms.now.ops in
    subst (part.BelowIfGiven (length c.loop-at.terms.ops)) (sym c.at.ensures) (given_more k (length c.loop-at.terms.ops) _ c.loop-at.invariant.rest.grows (given_at k c.args.given.now c.loop-at.at c.requires.there))

pub loop-at-preserved : goal.loop-at-preserved
loop-at-preserved c =
    let l = c.loop-at in
    let ls = c.args.locals.now in
    let local = c.index-locals-at.result in
    let at = drop-read ls l.at local c.loop-at-test.true c.index-locals-at.is in
    record {
      rest = entry_next ls local l.at c.args.given.now (option_copied c.at.result) l.slots _ at c.at.ensures l.invariant.rest c.in_ok-slot.ensures c.in_ok-push.ensures.ok;
      there = slots_pushed c.in_ok-slot.slot l.slots _ l.invariant.there c.in_ok-slot.ensures.grows c.in_ok-slot.ensures.fits c.in_ok-push.ensures.ok;
      small = (small_next ls l.at local at l.invariant.small).1;
    }
