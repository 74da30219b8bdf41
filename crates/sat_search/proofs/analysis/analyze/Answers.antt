use Rattle.std.proofs.Common.{◌≡◌, ◌-◌, ◌≤◌, ℕ, ℤ, List, [], ◌∷◌, length, map, neg_ℤ, pos, take, sym, ◌∙◌, subst, arith, w32, to_z, of_z}
use Rattle.std.proofs.lemmas.Int.{to_z-of_z}
use Rattle.std.proofs.lemmas.List.Elements.{All-get_or}
use Rattle.rup_check.specs.Follows.{IsFalse}
use Rattle.rup_check.specs.Trail.{IsWithin}
use Rattle.search_tables.specs.Trail.{literal_at}
use Rattle.sat_search.specs.Sound.{last_start}
use Rattle.search_tables.specs.Marking.{IsLow}
use Rattle.sat_search.specs.Learning.{IsAsserting}
use Rattle.sat_search.proofs.LearnedLemmas.{at_known, reasoned_where, reasoned_behind, conflict_low, start_step, first_least, reasoned_before, IsOfPlaces-one, IsAsserting-one, one_step}
use Rattle.sat_search.proofs.analysis.analyze.Goals as goal

pub trace_level-requires-clause-below : goal.trace_level-requires-clause-below
trace_level-requires-clause-below c =
    let known = c.args.known.now in
    let literals = c.args.trail.now.literals in
    let clause = c.known_clause.result.now in
    let from = last_start c.args.starts.now in
    let marks = c.mark.new.self in
    let conflict = at_known known c.args.conflict clause (λ ls. IsFalse literals ls × (¬ IsFalse (take from literals) ls)) c.known_clause.ensures.literals c.requires.conflict in
    let same : marks.from ≡ from = c.mark.ensures.more.from ∙ c.in_ok-marks.ensures.from in
    let low : IsLow literals marks.seen.items marks.from marks.low = c.mark.ensures.more.low (subst (λ f. IsLow literals c.in_ok-marks.marks.seen.items f c.in_ok-marks.marks.low) (sym c.in_ok-marks.ensures.from) c.in_ok-marks.ensures.none) in
    conflict_low literals marks.seen.items from marks.low clause conflict.0 conflict.1 c.mark.ensures.marked (subst (λ f. IsLow literals marks.seen.items f marks.low) same low)

pub trace_level-requires-clause-reasoned : goal.trace_level-requires-clause-reasoned
trace_level-requires-clause-reasoned c p late inside =
    let same : c.mark.new.self.from ≡ last_start c.args.starts.now = c.mark.ensures.more.from ∙ c.in_ok-marks.ensures.from in
    reasoned_behind c.args.known.now c.args.trail.now c.args.starts.now p c.requires.sound (omega (arith, late, same)) inside

pub trace_level-requires-clause-traced : goal.trace_level-requires-clause-traced
trace_level-requires-clause-traced c =
    let known = c.args.known.now in
    let literals = c.args.trail.now.literals in
    let clause = c.known_clause.result.now in
    let at = c.known_clause.ensures.literals in
    let conflict = at_known known c.args.conflict clause (λ ls. IsFalse literals ls × (¬ IsFalse (take (last_start c.args.starts.now) literals) ls)) at c.requires.conflict in
    rw (c.in_ok-push.ensures.items, c.new-hints.ensures.items) (start_step known literals c.mark.new.self.seen.items c.args.conflict clause at conflict.0 c.mark.ensures.marked)

pub negated-requires : goal.negated-requires
negated-requires c =
    let literals : List ℤ = c.args.trail.now.literals in
    let low : ℕ = c.trace_level.new.marks.low in
    let same : to_z w32 (of_z w32 c.literal.result) ≡ c.literal.result = grind (arith, to_z-of_z) in
    let within = All-get_or (IsWithin c.args.trail.now.variables) literals low (pos 0) c.in_ok-trace_level.ensures.below c.requires.sound.within in
    rw (same, c.literal.ensures) (within.0, omega (arith, within.1, c.requires.variables, c.requires.few))

pub keep_marked-requires-clause-base : goal.keep_marked-requires-clause-base
keep_marked-requires-clause-base c =
    let starts : List ℕ = c.args.starts.now in
    let least = first_least starts (length starts - 1) c.requires.sound.rising (omega arith) in
    let above = c.in_ok-trace_level.ensures.above in
    let same : c.mark.new.self.from ≡ last_start starts = c.mark.ensures.more.from ∙ c.in_ok-marks.ensures.from in
    omega (arith, least, above, same)

pub keep_marked-requires-clause-reasoned : goal.keep_marked-requires-clause-reasoned
keep_marked-requires-clause-reasoned c p inside = reasoned_where c.args.known.now c.args.trail.now c.args.starts.now p c.requires.sound inside

pub trace_down-requires-clause-reasoned : goal.trace_down-requires-clause-reasoned
trace_down-requires-clause-reasoned c p early = reasoned_before c.args.known.now c.args.trail.now c.args.starts.now p c.requires.sound c.requires.decided early

pub returns : goal.returns
returns c =
    let known = c.args.known.now in
    let literals : List ℤ = c.args.trail.now.literals in
    let marks = c.trace_level.new.marks in
    let low : ℕ = marks.low in
    let from : ℕ = last_start c.args.starts.now in
    let below = c.in_ok-trace_level.ensures.below in
    let from_is : marks.from ≡ from = c.in_ok-trace_level.ensures.from ∙ c.mark.ensures.more.from ∙ c.in_ok-marks.ensures.from in
    let same : to_z w32 (of_z w32 c.literal.result) ≡ c.literal.result = grind (arith, to_z-of_z) in
    let again : to_z w32 (of_z w32 c.negated.result) ≡ c.negated.result = grind (arith, to_z-of_z) in
    let negated_is : c.negated.result ≡ neg_ℤ (literal_at literals low) = rw (same, c.literal.ensures) at c.negated.ensures in
    let first : c.push-2.new.self.items ≡ neg_ℤ (literal_at literals low) ∷ [] = rw (c.new-literals.ensures.items, again, negated_is) at c.in_ok-push-2.ensures.items in
    let above : from ≤ low = omega (arith, c.in_ok-trace_level.ensures.above, c.mark.ensures.more.from, c.in_ok-marks.ensures.from) in
    let more = c.in_ok-keep_marked.ensures.places (low ∷ []) (rw first (IsOfPlaces-one literals low below)) (rw from_is (IsAsserting-one from low above)) in
    let traced = c.in_ok-keep_marked.ensures.traced (rw first (one_step known literals low marks.seen.items _ below c.in_ok-trace_level.ensures.traced)) in
    record {
      places = more.0;
      listed = more.1;
      asserting = subst (λ f. IsAsserting f more.0) from_is more.2;
      leads = rw c.in_order.ensures (c.in_ok-trace_down.ensures (map neg_ℤ c.keep_marked.new.literals.items) traced);
    }
