-- A search decides a literal.
use Rattle.std.proofs.Common.{◌≡◌, ⊎_elim, ℕ, ℤ, pos, neg_ℤ, ◌+◌, ◌<◌, List, [], ◌∷◌, ◌++◌, length, take, get_or, Option, Some, None, Contains, MatchOption, refl, sym, ◌∙◌, ap, subst, arith}
use Rattle.std.proofs.lemmas.Bool.{cases_lt}
use Rattle.std.proofs.lemmas.List.{take-append-le, take_at, take_all, get_or_append_left, get_or_push, length_push}
use Rattle.std.proofs.lemmas.List.Elements.{All-push, All-weaker, Contains-push, Contains-append_left}
use Rattle.std.proofs.lemmas.List.Quantifiers.{all_pairs_push}
use Rattle.cnf_form.specs.declared.log.LogLine.{LogLine}
use Rattle.cnf_form.specs.declared.cnf.Cnf.{Cnf}
use Rattle.rup_check.specs.Accepted.{clauses_of}
use Rattle.rup_check.specs.Trail.{IsWithin}
use Rattle.search_tables.specs.declared.watches.Pair.{Pair}
use Rattle.search_tables.specs.Trail.{Trail, literal_at}
use Rattle.sat_search.specs.Sound.{IsReason, IsKnownAnd, IsSupported, IsSound}
use Rattle.sat_search.specs.Guarded.{AreGuarded}
use Rattle.sat_search.specs.Held.{IsHeld}
use Rattle.sat_search.proofs.Guarding.{guarded_more}
use Rattle.sat_search.proofs.Visiting.{grown, apart_push, levels_grown}

-- a place is supported with one decision more
supported_more : (known : List (List ℤ)) (trail : Trail) (starts : List ℕ) (l : ℤ) (s p : ℕ) → length trail.reasons ≡ length trail.literals → p < length trail.literals → IsSupported known trail starts p → IsSupported known (grown trail l None) (starts ++ s ∷ []) p
supported_more known trail starts l s p aligned within supported =
    let same_reason : get_or (trail.reasons ++ None ∷ []) p None ≡ get_or trail.reasons p None = get_or_append_left trail.reasons (None ∷ []) None p (omega (arith, aligned, within)) in
    let same_literal : literal_at (trail.literals ++ l ∷ []) p ≡ literal_at trail.literals p = get_or_append_left trail.literals (l ∷ []) (pos 0) p within in
    let same_front : take p (trail.literals ++ l ∷ []) ≡ take p trail.literals = take-append-le p trail.literals (l ∷ []) (omega arith) in
    rw (same_reason, same_literal, same_front) (at (get_or trail.reasons p None) supported)
  where
    at : (reason : Option ℕ) → MatchOption reason (Contains starts p) (λ number. IsKnownAnd known number (λ literals. IsReason literals (literal_at trail.literals p) (take p trail.literals))) → MatchOption reason (Contains (starts ++ s ∷ []) p) (λ number. IsKnownAnd known number (λ literals. IsReason literals (literal_at trail.literals p) (take p trail.literals)))
    at None h = Contains-append_left starts (s ∷ []) p h
    at (Some number) h = h

pub sound_decided : (known : List (List ℤ)) (trail : Trail) (starts : List ℕ) (l : ℤ) → IsSound known trail starts → IsWithin trail.variables l → ¬ Contains trail.literals l → ¬ Contains trail.literals (neg_ℤ l) → IsSound known (grown trail l None) (starts ++ length trail.literals ∷ [])
sound_decided known trail starts l sound within not_true not_false =
    let literals = trail.literals in
    record {
      aligned = length_push trail.reasons None ∙ ap (λ n. n + 1) sound.aligned ∙ sym (length_push literals l);
      apart = apart_push literals l sound.apart not_true not_false;
      within = All-push (IsWithin trail.variables) literals l sound.within within;
      supported = λ p before. ⊎_elim
          (λ early. supported_more known trail starts l (length literals) p sound.aligned early (sound.supported p early))
          (λ last.
          let here : length literals ≡ p = omega (arith, length_push literals l, before, last) in
          let reason_is : get_or (trail.reasons ++ None ∷ []) p None ≡ None = get_or_push trail.reasons None None p (sound.aligned ∙ here) in
          rw reason_is (subst (Contains (starts ++ length literals ∷ [])) here (Contains-push starts (length literals))))
          (cases_lt p (length literals));
      rising = all_pairs_push (λ one other. one < other) starts (length literals) sound.rising (λ k d h. sound.below k d h);
      below = All-push (λ s. s < length (literals ++ l ∷ [])) starts (length literals)
          (All-weaker (λ s. s < length literals) (λ s. s < length (literals ++ l ∷ [])) (λ s h. omega (arith, h, length_push literals l)) starts sound.below)
          (omega (arith, length_push literals l));
    }

pub held_decided : (cnf : Cnf) (lines : List LogLine) (table : List (List ℤ)) (trail : Trail) (starts : List ℕ) (pairs : List Pair) (lists : List (List ℕ)) (head : ℕ) (l : ℤ) → IsHeld cnf lines table trail starts pairs lists head → head ≡ length trail.literals → IsWithin trail.variables l → ¬ Contains trail.literals l → ¬ Contains trail.literals (neg_ℤ l) → IsHeld cnf lines table (grown trail l None) (starts ++ length trail.literals ∷ []) pairs lists head
held_decided cnf lines table trail starts pairs lists head l held done within not_true not_false =
    let known = clauses_of cnf lines in
    let literals = trail.literals in
    let whole : take head literals ≡ literals = take_all head literals (omega (arith, done)) in
    let guarded : AreGuarded known pairs literals literals = subst (λ ls. AreGuarded known pairs ls literals) whole held.guarded in
    let front : take head (literals ++ l ∷ []) ≡ literals = take_at literals (l ∷ []) head (sym done) in
    let last : take (length literals) (literals ++ l ∷ []) ≡ literals = take_at literals (l ∷ []) (length literals) refl in
    record {
      working = held.working;
      stored = held.stored;
      variables = held.variables;
      sound = sound_decided known trail starts l held.sound within not_true not_false;
      counted = held.counted;
      watching = held.watching;
      levels = All-push (λ s. AreGuarded known pairs (take s (literals ++ l ∷ [])) (take s (literals ++ l ∷ []))) starts (length literals)
          (levels_grown known pairs literals l starts held.sound.below held.levels)
          (rw last guarded);
      reached = omega (arith, done, length_push literals l);
      guarded = rw front (guarded_more known pairs literals literals l guarded);
    }
