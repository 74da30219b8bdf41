-- What a conflict teaches, from its first clause to its last hint.
use Rattle.std.proofs.Common.{◌≡◌, ⊎_elim, ℕ, ℤ, pos, neg_ℤ, ◌+◌, ◌-◌, ◌<◌, ◌≤◌, Bool, false, true, List, [], ◌∷◌, length, map, get_or, take, reverse, Option, Some, None, All, AllPairs, Contains, IsSomeAnd, IfSome, MatchOption, slice_get, unsigned_abs, refl, sym, ◌∙◌, ap, subst, arith}
use Rattle.std.proofs.lemmas.Bool.{cases_lt, cases_eq}
use Rattle.std.proofs.lemmas.List.{get_or_default}
use Rattle.std.proofs.lemmas.List.Elements.{All-nil}
use Rattle.rup_check.specs.Follows.{IsFalse}
use Rattle.search_tables.specs.Trail.{Trail, literal_at}
use Rattle.sat_search.specs.Sound.{IsReason, IsKnownAnd, IsSound, last_start}
use Rattle.search_tables.specs.Marking.{IsSeen, IsLow}
use Rattle.sat_search.specs.Tracing.{Traces}
use Rattle.sat_search.specs.Learning.{IsReasoned, IfReasoned, IsOfPlaces, IsAsserting}
use Rattle.sat_search.proofs.TracingBack.{place_taken, Traces-start}
use Rattle.sat_search.proofs.Keeping.{IsOfPlaces-push, keep_step}
use Rattle.plain_laws.proofs.Integers.{unsigned_abs-neg}

-- what is known of a clause, at the clause of that number
pub at_known : (known : List (List ℤ)) (number : ℕ) (clause : List ℤ) (P : List ℤ → Type 0) → slice_get known number ≡ Some clause → IsKnownAnd known number P → P clause
at_known known number clause P at h = subst (λ o. IsSomeAnd o P) at h

pub to_known : (known : List (List ℤ)) (number : ℕ) (clause : List ℤ) (P : List ℤ → Type 0) → slice_get known number ≡ Some clause → P clause → IsKnownAnd known number P
to_known known number clause P at h = subst (λ o. IsSomeAnd o P) (sym at) h

-- a conflict that is none before its level has a literal of that level
pub conflict_low : (literals : List ℤ) (seen : List Bool) (from low : ℕ) (clause : List ℤ) → IsFalse literals clause → ¬ IsFalse (take from literals) clause → All (IsSeen seen) clause → IsLow literals seen from low → low < length literals
conflict_low literals seen from low clause is_false not_before marked is_low = ⊎_elim
    (λ h. h)
    (λ none. absurd (not_before (λ k d within.
    let m = get_or clause k d in
    let here = is_false k d within in
    let at : literal_at literals here.0 ≡ neg_ℤ m = get_or_default literals here.0 (pos 0) (neg_ℤ m) here.1 ∙ here.2 in
    let seen_here : IsSeen seen (literal_at literals here.0) = subst (λ v. get_or seen v false ≡ true) (sym (ap unsigned_abs at ∙ unsigned_abs-neg m)) (marked k d within) in
    ⊎_elim
    (λ before. subst (Contains (take from literals)) at (place_taken literals from here.0 before here.1))
    (λ behind. absurd (omega (arith, none, here.1, is_low here.0 behind here.1 seen_here)))
    (cases_lt here.0 from))))
    (cases_lt low (length literals))

-- the trace of the conflict itself
pub start_step : (known : List (List ℤ)) (literals : List ℤ) (seen : List Bool) (number : ℕ) (clause : List ℤ) → slice_get known number ≡ Some clause → IsFalse literals clause → All (IsSeen seen) clause → Traces known literals (length literals) seen [] (reverse (number ∷ []))
start_step known literals seen number clause at is_false marked =
    Traces-start known literals seen number (to_known known number clause (λ c. IsFalse literals c × All (IsSeen seen) c) at (is_false, marked))

supported_reasoned : (known : List (List ℤ)) (trail : Trail) (starts : List ℕ) (p : ℕ) (reason : Option ℕ) → ¬ Contains starts p → MatchOption reason (Contains starts p) (λ number. IsKnownAnd known number (λ literals. IsReason literals (literal_at trail.literals p) (take p trail.literals))) → IsSomeAnd reason (λ number. IsKnownAnd known number (λ literals. IsReason literals (literal_at trail.literals p) (take p trail.literals)))
supported_reasoned known trail starts p None away h = absurd (away h)
supported_reasoned known trail starts p (Some number) away h = h

-- where a place has a reason, that is one
pub reasoned_where : (known : List (List ℤ)) (trail : Trail) (starts : List ℕ) (p : ℕ) → IsSound known trail starts → p < length trail.literals → IfReasoned known trail p
reasoned_where known trail starts p sound inside = at (get_or trail.reasons p None) (sound.supported p inside)
  where
    at : (reason : Option ℕ) → MatchOption reason (Contains starts p) (λ number. IsKnownAnd known number (λ literals. IsReason literals (literal_at trail.literals p) (take p trail.literals))) → IfSome reason (λ number. IsKnownAnd known number (λ literals. IsReason literals (literal_at trail.literals p) (take p trail.literals)))
    at None h = tt
    at (Some number) h = h

-- what is no decision has a reason
pub reasoned_off : (known : List (List ℤ)) (trail : Trail) (starts : List ℕ) (p : ℕ) → IsSound known trail starts → p < length trail.literals → ¬ Contains starts p → IsReasoned known trail p
reasoned_off known trail starts p sound inside away = supported_reasoned known trail starts p (get_or trail.reasons p None) away (sound.supported p inside)

pub reasoned_none : (known : List (List ℤ)) (trail : Trail) (p : ℕ) → IsSound known trail [] → p < length trail.literals → IsReasoned known trail p
reasoned_none known trail p sound inside = reasoned_off known trail [] p sound inside (λ here. omega (arith, here.1))

start_at : (starts : List ℕ) (k p : ℕ) → k < length starts → get_or starts k p ≡ p → get_or starts k 0 ≡ p
start_at starts k p within is = get_or_default starts k 0 p within ∙ is

-- the first start is the least one
pub first_least : (starts : List ℕ) (k : ℕ) → AllPairs (λ one other. one < other) starts → k < length starts → get_or starts 0 0 ≤ get_or starts k 0
first_least starts k rising within = ⊎_elim
    (λ (is : k ≡ 0). subst (λ j. get_or starts 0 0 ≤ get_or starts j 0) (sym is) (omega arith))
    (λ more. let before : 0 < k = omega (arith, more) in let h = rising 0 k 0 before within in omega (arith, h))
    (cases_eq k 0)

-- and the last one the greatest
pub last_greatest : (starts : List ℕ) (k : ℕ) → AllPairs (λ one other. one < other) starts → k < length starts → get_or starts k 0 ≤ last_start starts
last_greatest starts k rising within = ⊎_elim
    (λ (is : k ≡ length starts - 1). subst (λ j. get_or starts j 0 ≤ last_start starts) (sym is) (omega arith))
    (λ less. let before : k < length starts - 1 = omega (arith, less, within) in let h = rising k (length starts - 1) 0 before (omega arith) in omega (arith, h))
    (cases_eq k (length starts - 1))

-- before the first decision all have reasons
pub reasoned_before : (known : List (List ℤ)) (trail : Trail) (starts : List ℕ) (p : ℕ) → IsSound known trail starts → 0 < length starts → p < get_or starts 0 0 → IsReasoned known trail p
reasoned_before known trail starts p sound some early =
    let first = sound.below 0 0 some in
    reasoned_off known trail starts p sound (omega (arith, first, early))
    (λ here. let least = first_least starts here.0 sound.rising here.1 in let is = start_at starts here.0 p here.1 here.2 in omega (arith, least, is, early))

-- behind the last decision too
pub reasoned_behind : (known : List (List ℤ)) (trail : Trail) (starts : List ℕ) (p : ℕ) → IsSound known trail starts → last_start starts < p → p < length trail.literals → IsReasoned known trail p
reasoned_behind known trail starts p sound late inside =
    reasoned_off known trail starts p sound inside
    (λ here. let most = last_greatest starts here.0 sound.rising here.1 in let is = start_at starts here.0 p here.1 here.2 in omega (arith, most, is, late))

-- the clause of one literal
pub IsOfPlaces-one : (literals : List ℤ) (low : ℕ) → low < length literals → IsOfPlaces literals low (neg_ℤ (literal_at literals low) ∷ []) (low ∷ [])
IsOfPlaces-one literals low inside = IsOfPlaces-push literals (low + 1) low [] [] refl inside (record {
  is = refl;
  falling = λ i j d h within. absurd (omega (arith, within));
  inside = All-nil (λ q. q < length literals);
  above = All-nil (λ q. low + 1 ≤ q);
})

pub IsAsserting-one : (from low : ℕ) → from ≤ low → IsAsserting from (low ∷ [])
IsAsserting-one from low h = record {
  some = omega arith;
  first = h;
  others = λ k behind within. absurd (omega (arith, behind, within));
}

-- and its trace
pub one_step : (known : List (List ℤ)) (literals : List ℤ) (low : ℕ) (seen : List Bool) (hints : List ℕ) → low < length literals → Traces known literals (low + 1) seen [] hints → Traces known literals low seen (map neg_ℤ (neg_ℤ (literal_at literals low) ∷ [])) hints
one_step known literals low seen hints inside traces = keep_step known literals (low + 1) low seen [] hints refl inside traces
