use Rattle.std.proofs.Common.{◌≡◌, ◌+◌, ◌++◌, ◌∷◌, [], ℤ, List, neg_ℤ, true, false, get_or, w32, to_z, of_z, arith, refl, sym, ◌∙◌}
use Rattle.std.proofs.lemmas.Int.{to_z-of_z}
use Rattle.search_tables.specs.Trail.{literal_at, variable_at}
use Rattle.sat_search.proofs.Keeping.{skip_step, keep_step, drop_step, IsOfPlaces-push, IsAsserting-push, early_place}
use Rattle.sat_search.proofs.analysis.keep_at.Goals as goal

pub returns-then-not-is_seen-clause-traced : goal.returns-then-not-is_seen-clause-traced
returns-then-not-is_seen-clause-traced c traces =
    let same : to_z w32 (of_z w32 c.literal-literal.result) ≡ c.literal-literal.result = grind (arith, to_z-of_z) in
    let unmarked : c.is_seen.result ≡ false = grind arith in
    let unseen : get_or c.args.marks.now.seen.items (variable_at c.args.trail.now.literals c.args.place) false ≡ false = sym (rw (same, c.literal-literal.ensures) at c.is_seen.ensures) ∙ unmarked in
    skip_step c.args.known.now c.args.trail.now.literals _ c.args.place c.args.marks.now.seen.items _ _ refl c.requires.inside unseen traces

pub returns-in-Some-clause-traced : goal.returns-in-Some-clause-traced
returns-in-Some-clause-traced c traces =
    rw c.in_ok-push.ensures.items
    (drop_step c.args.known.now c.args.trail.now c.args.place c.args.marks.now.seen.items _ c.in-Some.number c.args.hints.now.items c.requires.apart c.requires.inside c.requires.hinted c.in-Some.ensures traces)

pub returns-clause-places : goal.returns-clause-places
returns-clause-places c places listed asserting =
    let literals : List ℤ = c.args.trail.now.literals in
    let p = c.args.place in
    let same : to_z w32 (of_z w32 c.literal-literal.result) ≡ c.literal-literal.result = grind (arith, to_z-of_z) in
    let marked : c.is_seen.result ≡ true = grind arith in
    let is_seen : get_or c.args.marks.now.seen.items (variable_at literals p) false ≡ true = sym (rw (same, c.literal-literal.ensures) at c.is_seen.ensures) ∙ marked in
    let again : to_z w32 (of_z w32 c.negated.result) ≡ c.negated.result = grind (arith, to_z-of_z) in
    let negated_is : c.negated.result ≡ neg_ℤ (literal_at literals p) = rw (same, c.literal-literal.ensures) at c.negated.ensures in
    let pushed : c.push-2.new.self.items ≡ c.args.literals.now.items ++ neg_ℤ (literal_at literals p) ∷ [] = rw (again, negated_is) at c.in_ok-push-2.ensures.items in (
      places ++ p ∷ [],
      rw pushed (IsOfPlaces-push literals (p + 1) p c.args.literals.now.items places refl c.requires.inside listed),
      IsAsserting-push c.args.marks.now.from p places (early_place literals c.args.marks.now.seen.items c.args.marks.now.from c.args.marks.now.low p c.requires.low c.requires.inside c.requires.early is_seen) asserting,
    )

pub returns-clause-traced : goal.returns-clause-traced
returns-clause-traced c traces =
    let literals : List ℤ = c.args.trail.now.literals in
    let p = c.args.place in
    let same : to_z w32 (of_z w32 c.literal-literal.result) ≡ c.literal-literal.result = grind (arith, to_z-of_z) in
    let again : to_z w32 (of_z w32 c.negated.result) ≡ c.negated.result = grind (arith, to_z-of_z) in
    let negated_is : c.negated.result ≡ neg_ℤ (literal_at literals p) = rw (same, c.literal-literal.ensures) at c.negated.ensures in
    let pushed : c.push-2.new.self.items ≡ c.args.literals.now.items ++ neg_ℤ (literal_at literals p) ∷ [] = rw (again, negated_is) at c.in_ok-push-2.ensures.items in
    rw pushed (keep_step c.args.known.now literals (p + 1) p c.args.marks.now.seen.items c.args.literals.now.items _ refl c.requires.inside traces)
