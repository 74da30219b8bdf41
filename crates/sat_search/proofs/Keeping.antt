-- The clause that a conflict teaches, literal by literal.
use Rattle.std.proofs.Common.{◌≡◌, ⊎_elim, ℕ, zero, suc, ℤ, pos, negsuc, neg_ℤ, ◌+◌, ◌<◌, ◌≤◌, Bool, false, List, [], ◌∷◌, ◌++◌, length, map, get_or, take, reverse, Some, None, All, IsSomeAnd, slice_get, refl, sym, ◌∙◌, ap, subst, arith, length-append}
use Rattle.std.proofs.lemmas.Bool.{cases_lt}
use Rattle.std.proofs.lemmas.List.{map_push, get_or_append_left, get_or_push, reverse-append, length-reverse}
use Rattle.std.proofs.lemmas.List.Elements.{All-push, All-weaker}
use Rattle.std.proofs.lemmas.List.Quantifiers.{all_pairs_push}
use Rattle.cnf_form.specs.Literals.{NamesOnce}
use Rattle.rup_check.specs.Follows.{Leads}
use Rattle.search_tables.specs.Trail.{Trail, literal_at, variable_at}
use Rattle.sat_search.specs.Sound.{IsReason, IsKnownAnd}
use Rattle.search_tables.specs.Marking.{IsSeen, IsLow}
use Rattle.sat_search.specs.Tracing.{Traces}
use Rattle.sat_search.specs.Learning.{IsReasoned, IsMarkedReason, IsOfPlaces, IsAsserting}
use Rattle.sat_search.proofs.TracingBack.{Traces-skip, Traces-keep, Traces-resolve, Traces-end}

pub neg_twice : (l : ℤ) → neg_ℤ (neg_ℤ l) ≡ l
neg_twice (pos zero) = refl
neg_twice (pos (suc n)) = refl
neg_twice (negsuc n) = refl

pub IsOfPlaces-lower : (literals : List ℤ) (low lower : ℕ) (clause : List ℤ) (places : List ℕ) → lower ≤ low → IsOfPlaces literals low clause places → IsOfPlaces literals lower clause places
IsOfPlaces-lower literals low lower clause places less listed = record {
  is = listed.is;
  falling = listed.falling;
  inside = listed.inside;
  above = All-weaker (λ q. low ≤ q) (λ q. lower ≤ q) (λ q h. omega arith) places listed.above;
}

-- one place more, before the others
pub IsOfPlaces-push : (literals : List ℤ) (low p : ℕ) (clause : List ℤ) (places : List ℕ) → p + 1 ≡ low → p < length literals → IsOfPlaces literals low clause places → IsOfPlaces literals p (clause ++ neg_ℤ (literal_at literals p) ∷ []) (places ++ p ∷ [])
IsOfPlaces-push literals low p clause places next inside listed =
    let lower = IsOfPlaces-lower literals low p clause places (omega arith) listed in
    record {
      is = ap (λ c. c ++ neg_ℤ (literal_at literals p) ∷ []) listed.is ∙ sym (map_push (λ q. neg_ℤ (literal_at literals q)) places p);
      falling = all_pairs_push (λ one other. other < one) places p listed.falling (λ k d h. omega (arith, listed.above k d h));
      inside = All-push (λ q. q < length literals) places p listed.inside inside;
      above = All-push (λ q. p ≤ q) places p lower.above (omega arith);
    }

pub IsAsserting-push : (from p : ℕ) (places : List ℕ) → p < from → IsAsserting from places → IsAsserting from (places ++ p ∷ [])
IsAsserting-push from p places early asserting = record {
  some = omega (arith, length-append places (p ∷ []), asserting.some);
  first = rw (get_or_append_left places (p ∷ []) 0 0 asserting.some) asserting.first;
  others = λ k behind within. ⊎_elim
      (λ before. rw (get_or_append_left places (p ∷ []) 0 k before) (asserting.others k behind before))
      (λ last.
      let long = length-append places (p ∷ []) in
      let here : length places ≡ k = omega (arith, long, within, last) in
      rw (get_or_push places p 0 k here) early)
      (cases_lt k (length places));
}

-- a trace goes on over a place that is not marked
pub skip_step : (known : List (List ℤ)) (literals : List ℤ) (place p : ℕ) (seen : List Bool) (kept : List ℤ) (hints : List ℕ) → p + 1 ≡ place → p < length literals → get_or seen (variable_at literals p) false ≡ false → Traces known literals place seen kept hints → Traces known literals p seen kept hints
skip_step known literals place p seen kept hints next inside unseen traces =
    Traces-skip known literals p seen kept hints inside unseen (subst (λ q. Traces known literals q seen kept hints) (sym next) traces)

-- over a place whose literal is kept
pub keep_step : (known : List (List ℤ)) (literals : List ℤ) (place p : ℕ) (seen : List Bool) (clause : List ℤ) (hints : List ℕ) → p + 1 ≡ place → p < length literals → Traces known literals place seen (map neg_ℤ clause) hints → Traces known literals p seen (map neg_ℤ (clause ++ neg_ℤ (literal_at literals p) ∷ [])) hints
keep_step known literals place p seen clause hints next inside traces =
    let kept = Traces-keep known literals p seen (map neg_ℤ clause) hints inside (subst (λ q. Traces known literals q seen (map neg_ℤ clause) hints) (sym next) traces) in
    subst (λ ls. Traces known literals p seen ls hints)
    (ap (λ l. map neg_ℤ clause ++ l ∷ []) (sym (neg_twice (literal_at literals p))) ∙ sym (map_push neg_ℤ clause (neg_ℤ (literal_at literals p)))) kept

-- over a place whose literal is resolved on
pub resolve_step : (known : List (List ℤ)) (trail : Trail) (p : ℕ) (seen marked : List Bool) (clause : List ℤ) (number : ℕ) (hints : List ℕ) → NamesOnce trail.literals → p < length trail.literals → 0 < length hints → IsReasoned known trail p → get_or trail.reasons p None ≡ Some number → slice_get known number ≡ Some clause → All (IsSeen marked) clause → ((l : ℤ) → IsSeen seen l → IsSeen marked l) → (kept : List ℤ) → Traces known trail.literals (p + 1) seen kept (reverse hints) → Traces known trail.literals p marked kept (reverse (hints ++ number ∷ []))
resolve_step known trail p seen marked clause number hints apart inside hinted reasoned reason at all grows kept traces =
    let literals = trail.literals in
    let known_reason : IsKnownAnd known number (λ c. IsReason c (literal_at literals p) (take p literals)) = subst (λ o. IsSomeAnd o (λ n. IsKnownAnd known n (λ c. IsReason c (literal_at literals p) (take p literals)))) reason reasoned in
    let is_reason : IsReason clause (literal_at literals p) (take p literals) = subst (λ o. IsSomeAnd o (λ c. IsReason c (literal_at literals p) (take p literals))) at known_reason in
    let both : IsKnownAnd known number (λ c. IsReason c (literal_at literals p) (take p literals) × All (IsSeen marked) c) = subst (λ o. IsSomeAnd o (λ c. IsReason c (literal_at literals p) (take p literals) × All (IsSeen marked) c)) (sym at) (is_reason, all) in
    rw (reverse-append hints (number ∷ []))
    (Traces-resolve known literals p seen marked kept number (reverse hints) apart inside (omega (arith, length-reverse hints, hinted)) both grows traces)

-- over a place whose reason is marked already
pub drop_step : (known : List (List ℤ)) (trail : Trail) (p : ℕ) (seen : List Bool) (kept : List ℤ) (number : ℕ) (hints : List ℕ) → NamesOnce trail.literals → p < length trail.literals → 0 < length hints → IsMarkedReason known trail p seen number → Traces known trail.literals (p + 1) seen kept (reverse hints) → Traces known trail.literals p seen kept (reverse (hints ++ number ∷ []))
drop_step known trail p seen kept number hints apart inside hinted reason traces =
    rw (reverse-append hints (number ∷ []))
    (Traces-resolve known trail.literals p seen seen kept number (reverse hints) apart inside (omega (arith, length-reverse hints, hinted)) reason.marked (λ l h. h) traces)

-- traced back to the beginning
pub end_step : (known : List (List ℤ)) (literals : List ℤ) (p : ℕ) (seen : List Bool) (kept : List ℤ) (hints : List ℕ) → p ≤ 0 → Traces known literals p seen kept hints → Leads known kept hints
end_step known literals p seen kept hints none traces =
    let none_left : p ≡ 0 = omega arith in
    Traces-end known literals seen kept hints (subst (λ q. Traces known literals q seen kept hints) none_left traces)

-- a marked place before the least marked one of the level is before the level
pub early_place : (literals : List ℤ) (seen : List Bool) (from low p : ℕ) → IsLow literals seen from low → p < length literals → p < low → IsSeen seen (literal_at literals p) → p < from
early_place literals seen from low p is_low inside early marked = ⊎_elim
    (λ before. before)
    (λ behind. absurd (omega (arith, early, is_low p behind inside marked)))
    (cases_lt p from)
