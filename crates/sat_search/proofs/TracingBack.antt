-- A conflict is traced back along the trail, place by place.
use Rattle.std.proofs.Common.{◌≡◌, ◌≢◌, ◌⊎◌, inl, inr, ⊎_elim, ℕ, ℤ, pos, neg_ℤ, ◌+◌, ◌<◌, Bool, true, false, List, [], ◌∷◌, ◌++◌, length, take, get_or, Option, Some, None, All, Contains, IsSomeAnd, slice_get, unsigned_abs, refl, sym, ◌∙◌, ap, subst, arith}
use Rattle.std.proofs.lemmas.Bool.{cases_order, false≢true}
use Rattle.std.proofs.lemmas.List.{get_or-take, length-take, take_more, get_or_default, take_all}
use Rattle.std.proofs.lemmas.List.Elements.{All-contains, All-push, All-weaker, Contains-get_or, Contains-push, Contains-push_cases, Contains-append_left}
use Rattle.cnf_form.specs.Literals.{NamesOnce}
use Rattle.rup_check.specs.Follows.{IsFalse, IsUnit, Leads}
use Rattle.search_tables.specs.Trail.{literal_at, variable_at}
use Rattle.sat_search.specs.Sound.{IsReason, IsKnownAnd}
use Rattle.search_tables.specs.Marking.{IsSeen}
use Rattle.sat_search.specs.Tracing.{Traces}
use Rattle.plain_laws.proofs.Integers.{unsigned_abs-neg}

-- ---- places in a list of literals

-- a literal of the first ones, and its place
pub taken_place : (literals : List ℤ) (i : ℕ) (m : ℤ) → Contains (take i literals) m → (q : ℕ) × (q < i) × (q < length literals) × (literal_at literals q ≡ m)
taken_place literals i m here =
    let short = length-take i literals in
    let early : here.0 < i = omega (arith, short, here.1) in
    let inside : here.0 < length literals = omega (arith, short, here.1) in
    (here.0, early, inside, get_or_default literals here.0 (pos 0) m inside ∙ sym (get_or-take i literals here.0 m early) ∙ here.2)

-- and back
pub place_taken : (literals : List ℤ) (i q : ℕ) → q < i → q < length literals → Contains (take i literals) (literal_at literals q)
place_taken literals i q early inside =
    let short = length-take i literals in
    let within : q < length (take i literals) = omega (arith, short, early, inside) in
    subst (Contains (take i literals)) (get_or-take i literals q (pos 0) early) (Contains-get_or (take i literals) q (pos 0) within)

-- one more literal
pub taken_more_cases : (literals : List ℤ) (p : ℕ) (t : ℤ) → p < length literals → Contains (take (p + 1) literals) t → Contains (take p literals) t ⊎ (literal_at literals p ≡ t)
taken_more_cases literals p t inside here = Contains-push_cases (take p literals) (literal_at literals p) t (rw (take_more literals p (pos 0) inside) at here)

pub taken_more : (literals : List ℤ) (p : ℕ) (t : ℤ) → p < length literals → Contains (take p literals) t → Contains (take (p + 1) literals) t
taken_more literals p t inside here = rw (take_more literals p (pos 0) inside) (Contains-append_left (take p literals) (literal_at literals p ∷ []) t here)

-- two places of one variable are one
pub one_place : (literals : List ℤ) (p q : ℕ) → NamesOnce literals → p < length literals → q < length literals → variable_at literals p ≡ variable_at literals q → p ≡ q
one_place literals p q apart inside within same = ⊎_elim
    (λ is. is)
    (λ away. ⊎_elim (λ below. absurd (apart p q (pos 0) below within same)) (λ above. absurd (apart q p (pos 0) above inside (sym same))) away)
    (cases_order p q)

-- ---- the trace

-- the conflict itself
pub Traces-start : (known : List (List ℤ)) (literals : List ℤ) (seen : List Bool) (number : ℕ) → IsKnownAnd known number (λ clause. IsFalse literals clause × All (IsSeen seen) clause) → Traces known literals (length literals) seen [] (number ∷ [])
Traces-start known literals seen number conflict = record {
  above = λ m here. absurd (omega (arith, here.1));
  leads = λ made kept has within. at made has (slice_get known number) conflict;
}
  where
    at : (made : List ℤ) → ((t : ℤ) → Contains (take (length literals) literals) t → IsSeen seen t → Contains made t) → (found : Option (List ℤ)) → IsSomeAnd found (λ clause. IsFalse literals clause × All (IsSeen seen) clause) → IsSomeAnd found (λ clause. IsFalse made clause)
    at made has None h = h
    at made has (Some clause) h = λ k d before.
        let m = get_or clause k d in
        has (neg_ℤ m) (subst (λ ls. Contains ls (neg_ℤ m)) (sym (take_all (length literals) literals (omega arith))) (h.0 k d before))
        (subst (λ v. get_or seen v false ≡ true) (sym (unsigned_abs-neg m)) (h.1 k d before))

-- no marked literal stands at the place
pub Traces-skip : (known : List (List ℤ)) (literals : List ℤ) (p : ℕ) (seen : List Bool) (kept : List ℤ) (hints : List ℕ) → p < length literals → get_or seen (variable_at literals p) false ≡ false → Traces known literals (p + 1) seen kept hints → Traces known literals p seen kept hints
Traces-skip known literals p seen kept hints inside unseen traces = record {
  above = λ m here. let at = traces.above m here in (at.0, omega (arith, at.1), at.2, at.3);
  leads = λ made all has within. traces.leads made all
      (λ t here marked. ⊎_elim (λ before. has t before marked) (λ (is : literal_at literals p ≡ t). absurd (false≢true (sym unseen ∙ ap (λ l. get_or seen (unsigned_abs l) false) is ∙ marked))) (taken_more_cases literals p t inside here))
      (All-weaker (λ m. Contains (take p literals) m ⊎ Contains kept m) (λ m. Contains (take (p + 1) literals) m ⊎ Contains kept m) (λ m from. ⊎_elim (λ here. inl (taken_more literals p m inside here)) inr from) made within);
}

-- the literal at the place is kept
pub Traces-keep : (known : List (List ℤ)) (literals : List ℤ) (p : ℕ) (seen : List Bool) (kept : List ℤ) (hints : List ℕ) → p < length literals → Traces known literals (p + 1) seen kept hints → Traces known literals p seen (kept ++ literal_at literals p ∷ []) hints
Traces-keep known literals p seen kept hints inside traces =
    let l = literal_at literals p in
    let more = kept ++ l ∷ [] in
    record {
      above = λ m here. ⊎_elim
          (λ before. let at = traces.above m before in (at.0, omega (arith, at.1), at.2, at.3))
          (λ (is : l ≡ m). (p, omega arith, inside, is))
          (Contains-push_cases kept l m here);
      leads = λ made all has within.
          let here : Contains made l = All-contains (Contains made) more l all (Contains-push kept l) in
          let rest : All (Contains made) kept = λ k d before. All-contains (Contains made) more (get_or kept k d) all (Contains-append_left kept (l ∷ []) (get_or kept k d) (Contains-get_or kept k d before)) in
          traces.leads made rest
          (λ t taken marked. ⊎_elim (λ before. has t before marked) (λ (is : l ≡ t). subst (Contains made) is here) (taken_more_cases literals p t inside taken))
          (All-weaker (λ m. Contains (take p literals) m ⊎ Contains more m) (λ m. Contains (take (p + 1) literals) m ⊎ Contains kept m)
          (λ m from. ⊎_elim
          (λ before. inl (taken_more literals p m inside before))
          (λ among. ⊎_elim inr (λ (is : l ≡ m). inl (subst (Contains (take (p + 1) literals)) is (place_taken literals (p + 1) p (omega arith) inside))) (Contains-push_cases kept l m among))
          from) made within);
    }

-- the literal at the place is resolved on with its reason
pub Traces-resolve : (known : List (List ℤ)) (literals : List ℤ) (p : ℕ) (seen marked : List Bool) (kept : List ℤ) (number : ℕ) (hints : List ℕ) → NamesOnce literals → p < length literals → 0 < length hints → IsKnownAnd known number (λ clause. IsReason clause (literal_at literals p) (take p literals) × All (IsSeen marked) clause) → ((t : ℤ) → IsSeen seen t → IsSeen marked t) → Traces known literals (p + 1) seen kept hints → Traces known literals p marked kept (number ∷ hints)
Traces-resolve known literals p seen marked kept number [] apart inside more reason grows traces = absurd (omega arith)
Traces-resolve known literals p seen marked kept number (hint ∷ hints) apart inside more reason grows traces = record {
  above = λ m here. let at = traces.above m here in (at.0, omega (arith, at.1), at.2, at.3);
  leads = λ made all has within. at made all has within (slice_get known number) reason;
}
  where
    -- what was made stands at other places
    elsewhere : (m : ℤ) → Contains (take p literals) m ⊎ Contains kept m → unsigned_abs m ≢ variable_at literals p
    elsewhere m from same = ⊎_elim
        (λ before.
        let place = taken_place literals p m before in
        absurd (omega (arith, place.1, one_place literals place.0 p apart place.2 inside (ap unsigned_abs place.3 ∙ same))))
        (λ among.
        let place = traces.above m among in
        absurd (omega (arith, place.1, one_place literals place.0 p apart place.2 inside (ap unsigned_abs place.3 ∙ same))))
        from

    at : (made : List ℤ) → All (Contains made) kept → ((t : ℤ) → Contains (take p literals) t → IsSeen marked t → Contains made t) → All (λ m. Contains (take p literals) m ⊎ Contains kept m) made → (found : Option (List ℤ)) → IsSomeAnd found (λ clause. IsReason clause (literal_at literals p) (take p literals) × All (IsSeen marked) clause) → IsSomeAnd found (λ clause. (l : ℤ) × IsUnit made clause l × Leads known (made ++ l ∷ []) (hint ∷ hints))
    at made all has within None h = h
    at made all has within (Some clause) h =
        let l = literal_at literals p in
        let from : (m : ℤ) → Contains made m → Contains (take p literals) m ⊎ Contains kept m = λ m here. All-contains (λ m. Contains (take p literals) m ⊎ Contains kept m) made m within here in (
          l,
          record {
            named = h.0.named;
            not_true = λ here. elsewhere l (from l here) refl;
            not_false = λ here. elsewhere (neg_ℤ l) (from (neg_ℤ l) here) (unsigned_abs-neg l);
            others = λ k d before differ.
                let m = get_or clause k d in
                has (neg_ℤ m) (h.0.others k d before differ) (subst (λ v. get_or marked v false ≡ true) (sym (unsigned_abs-neg m)) (h.1 k d before));
          },
          traces.leads (made ++ l ∷ [])
              (λ k d before. Contains-append_left made (l ∷ []) (get_or kept k d) (all k d before))
              (λ t taken is_seen. ⊎_elim
              (λ before. Contains-append_left made (l ∷ []) t (has t before (grows t is_seen)))
              (λ (is : l ≡ t). subst (Contains (made ++ l ∷ [])) is (Contains-push made l))
              (taken_more_cases literals p t inside taken))
              (All-push (λ m. Contains (take (p + 1) literals) m ⊎ Contains kept m) made l
              (All-weaker (λ m. Contains (take p literals) m ⊎ Contains kept m) (λ m. Contains (take (p + 1) literals) m ⊎ Contains kept m) (λ m place. ⊎_elim (λ here. inl (taken_more literals p m inside here)) inr place) made within)
              (inl (place_taken literals (p + 1) p (omega arith) inside))),
        )

-- traced back to the beginning, the hints lead on from the kept literals
pub Traces-end : (known : List (List ℤ)) (literals : List ℤ) (seen : List Bool) (kept : List ℤ) (hints : List ℕ) → Traces known literals 0 seen kept hints → Leads known kept hints
Traces-end known literals seen kept hints traces =
    traces.leads kept (λ k d before. Contains-get_or kept k d before)
    (λ t here is_seen. let place = taken_place literals 0 t here in absurd (omega (arith, place.1)))
    (λ k d before. inr (Contains-get_or kept k d before))
