-- What a search keeps when it learns a clause and goes back.
use Rattle.std.proofs.Common.{◌≡◌, ⊎_elim, ℕ, zero, suc, ℤ, pos, neg_ℤ, ◌<◌, ◌≤◌, List, [], ◌∷◌, ◌++◌, length, map, take, get_or, unsigned_abs, Option, Some, None, All, AllPairs, Contains, MatchOption, IsSomeAnd, slice_get, refl, sym, ◌∙◌, ap, subst, arith, append_assoc}
use Rattle.std.proofs.lemmas.Bool.{cases_lt, cases_eq}
use Rattle.std.proofs.lemmas.List.{get_or_default, get_or-map, length-map, map_push, take-append-le, take_at, take-take, get_or-take, length-take-le, length_push}
use Rattle.std.proofs.lemmas.List.Elements.{All-push, All-take, Contains-get_or}
use Rattle.std.proofs.lemmas.Option.{slice_get_within}
use Rattle.cnf_form.specs.declared.log.LogLine.{LogLine}
use Rattle.cnf_form.specs.declared.cnf.Cnf.{Cnf}
use Rattle.cnf_form.specs.Literals.{most, NamesOnce, IsClause, NamesUpTo}
use Rattle.rup_check.specs.Follows.{IsUnit, Follows}
use Rattle.rup_check.specs.Closed.{Teaches}
use Rattle.rup_check.specs.Accepted.{clauses_of}
use Rattle.rup_check.specs.Trail.{IsWithin}
use Rattle.search_tables.specs.Trail.{Trail, literal_at, variable_at}
use Rattle.sat_search.specs.Sound.{IsReason, IsKnownAnd, IsSound}
use Rattle.sat_search.specs.Learning.{IsOfPlaces, GoesBack}
use Rattle.sat_search.specs.Working.{IsWorking}
use Rattle.sat_search.proofs.Keeping.{neg_twice}
use Rattle.sat_search.proofs.TracingBack.{taken_place, place_taken, one_place}
use Rattle.plain_laws.proofs.Lists.{get-last}
use Rattle.plain_laws.proofs.Integers.{unsigned_abs-neg}

-- ---- the learned clause

-- its literal at a place
pub clause_at : (literals : List ℤ) (clause : List ℤ) (places : List ℕ) (low k : ℕ) (d : ℤ) → IsOfPlaces literals low clause places → k < length places → get_or clause k d ≡ neg_ℤ (literal_at literals (get_or places k 0))
clause_at literals clause places low k d listed within =
    ap (λ c. get_or c k d) listed.is ∙ get_or-map (λ q. neg_ℤ (literal_at literals q)) places k 0 d within

pub clause_length : (literals : List ℤ) (clause : List ℤ) (places : List ℕ) (low : ℕ) → IsOfPlaces literals low clause places → length clause ≡ length places
clause_length literals clause places low listed = ap length listed.is ∙ length-map places (λ q. neg_ℤ (literal_at literals q))

-- a literal of a variable before the place does not stand at it
pub not_taken : (literals : List ℤ) (start q : ℕ) (m : ℤ) → NamesOnce literals → q < length literals → start ≤ q → unsigned_abs m ≡ variable_at literals q → ¬ Contains (take start literals) m
not_taken literals start q m apart inside behind same here =
    let at = taken_place literals start m here in
    omega (arith, behind, at.1, one_place literals at.0 q apart at.2 inside (ap unsigned_abs at.3 ∙ same))

-- it is unit there
pub learned_unit : (literals : List ℤ) (starts : List ℕ) (clause : List ℤ) (places : List ℕ) (back : ℕ) → NamesOnce literals → IsOfPlaces literals 0 clause places → 0 < length places → get_or starts back 0 ≤ get_or places 0 0 → GoesBack starts places back → IsUnit (take (get_or starts back 0) literals) clause (get_or clause 0 (pos 0))
learned_unit literals starts clause places back apart listed some first goes =
    let start = get_or starts back 0 in
    let long = clause_length literals clause places 0 listed in
    let l = get_or clause 0 (pos 0) in
    let is : l ≡ neg_ℤ (literal_at literals (get_or places 0 0)) = clause_at literals clause places 0 0 (pos 0) listed some in
    let inside = listed.inside 0 0 some in
    record {
      named = Contains-get_or clause 0 (pos 0) (omega (arith, long, some));
      not_true = not_taken literals start (get_or places 0 0) l apart inside first (ap unsigned_abs is ∙ unsigned_abs-neg (literal_at literals (get_or places 0 0)));
      not_false = not_taken literals start (get_or places 0 0) (neg_ℤ l) apart inside first (unsigned_abs-neg l ∙ ap unsigned_abs is ∙ unsigned_abs-neg (literal_at literals (get_or places 0 0)));
      others = λ k d within differ. ⊎_elim
          (λ (none : k ≡ 0). absurd (differ (ap (λ j. get_or clause j d) none ∙ get_or_default clause 0 d (pos 0) (omega (arith, long, some)))))
          (λ more.
          let there : k < length places = omega (arith, within, long) in
          let early = goes.others k (omega (arith, more)) there in
          let q = get_or places k 0 in
          let at : neg_ℤ (get_or clause k d) ≡ literal_at literals q = ap neg_ℤ (clause_at literals clause places 0 k d listed there) ∙ neg_twice (literal_at literals q) in
          subst (Contains (take start literals)) (sym at) (place_taken literals start q early (listed.inside k 0 there)))
          (cases_eq k 0);
    }

-- it is a clause over the variables
pub learned_clause : (variables : ℕ) (literals : List ℤ) (clause : List ℤ) (places : List ℕ) → variables ≤ most → NamesOnce literals → All (IsWithin variables) literals → IsOfPlaces literals 0 clause places → IsClause clause × All (IsWithin variables) clause
learned_clause variables literals clause places few apart within listed =
    let long = clause_length literals clause places 0 listed in
    let in' : All (IsWithin variables) clause = λ k d h.
    let there : k < length places = omega (arith, long, h) in
    let at = within (get_or places k 0) (pos 0) (listed.inside k 0 there) in
    rw (clause_at literals clause places 0 k d listed there, unsigned_abs-neg (literal_at literals (get_or places k 0))) at in (
      record {
        each = λ k d h. let at = in' k d h in (at.0, omega (arith, at.1, few));
        once = λ i j d before h same.
            let there : j < length places = omega (arith, long, h) in
            let here : i < length places = omega (arith, before, there) in
            let p = get_or places i 0 in
            let q = get_or places j 0 in
            let falls = listed.falling i j 0 before there in
            let one : unsigned_abs (get_or clause i d) ≡ variable_at literals p = ap unsigned_abs (clause_at literals clause places 0 i d listed here) ∙ unsigned_abs-neg (literal_at literals p) in
            let other : unsigned_abs (get_or clause j d) ≡ variable_at literals q = ap unsigned_abs (clause_at literals clause places 0 j d listed there) ∙ unsigned_abs-neg (literal_at literals q) in
            omega (arith, falls, one_place literals p q apart (listed.inside i 0 here) (listed.inside j 0 there) (sym one ∙ same ∙ other));
      },
      in',
    )

-- ---- one clause more is known

pub known_more : (cnf : Cnf) (lines : List LogLine) (line : LogLine) → clauses_of cnf (lines ++ line ∷ []) ≡ clauses_of cnf lines ++ line.clause ∷ []
known_more cnf lines line =
    ap (λ cs. cnf.clauses ++ cs) (map_push (λ (l : LogLine). l.clause) lines line) ∙ sym (append_assoc cnf.clauses (map (λ (l : LogLine). l.clause) lines) (line.clause ∷ []))

get_more : {X : Type 0} (xs : List X) (x : X) (k : ℕ) → k < length xs → slice_get (xs ++ x ∷ []) k ≡ slice_get xs k
get_more {X = X} xs x k within = at xs k within
  where
    at : (ys : List X) (j : ℕ) → j < length ys → slice_get (ys ++ x ∷ []) j ≡ slice_get ys j
    at [] j h = absurd (omega arith)
    at (y ∷ ys) zero h = refl
    at (y ∷ ys) (suc j) h = at ys j (omega arith)

pub still_known : (known : List (List ℤ)) (clause : List ℤ) (number : ℕ) (P : List ℤ → Type 0) → IsKnownAnd known number P → IsKnownAnd (known ++ clause ∷ []) number P
still_known known clause number P h = at (slice_get known number) refl h
  where
    at : (found : Option (List ℤ)) → slice_get known number ≡ found → IsSomeAnd found P → IsKnownAnd (known ++ clause ∷ []) number P
    at None is given = absurd given
    at (Some c) is given = subst (λ o. IsSomeAnd o P) (sym (get_more known clause number (slice_get_within known number c is) ∙ is)) given

pub newly_known : (known : List (List ℤ)) (clause : List ℤ) → slice_get (known ++ clause ∷ []) (length known) ≡ Some clause
newly_known known clause = get-last known clause

-- a line more of a worked log
pub at_line_before : (P : LogLine → Type 0) (lines : List LogLine) (line : LogLine) (k : ℕ) → k < length lines → IsSomeAnd (slice_get lines k) P → IsSomeAnd (slice_get (lines ++ line ∷ []) k) P
at_line_before P lines line k within h = subst (λ o. IsSomeAnd o P) (sym (get_more lines line k within)) h

pub at_line_last : (P : LogLine → Type 0) (lines : List LogLine) (line : LogLine) (k : ℕ) → length lines ≡ k → P line → IsSomeAnd (slice_get (lines ++ line ∷ []) k) P
at_line_last P lines line k is h = subst (λ o. IsSomeAnd o P) (sym (ap (slice_get (lines ++ line ∷ [])) (sym is) ∙ get-last lines line)) h

pub IsWorking-push : (cnf : Cnf) (lines : List LogLine) (line : LogLine) → length lines < most → IsWorking cnf lines → IsClause line.clause → Follows cnf.variables (clauses_of cnf lines) line → Teaches (clauses_of cnf lines) line.clause → IsWorking cnf (lines ++ line ∷ [])
IsWorking-push cnf lines line few working clause follows teaches = record {
  few = omega (arith, few, length_push lines line);
  clauses = All-push (λ (l : LogLine). IsClause l.clause) lines line working.clauses clause;
  named = All-push (λ (l : LogLine). NamesUpTo cnf.variables l.clause) lines line working.named follows.named;
  follow = λ k within. ⊎_elim
      (λ before.
      rw (take-append-le k lines (line ∷ []) (omega arith))
      (at_line_before (λ l. Follows cnf.variables (clauses_of cnf (take k lines)) l) lines line k before (working.follow k before)))
      (λ last.
      let here : length lines ≡ k = omega (arith, within, length_push lines line, last) in
      rw (take_at lines (line ∷ []) k here)
      (at_line_last (λ l. Follows cnf.variables (clauses_of cnf lines) l) lines line k here follows))
      (cases_lt k (length lines));
  teach = λ k within. ⊎_elim
      (λ before.
      rw (take-append-le k lines (line ∷ []) (omega arith))
      (at_line_before (λ l. Teaches (clauses_of cnf (take k lines)) l.clause) lines line k before (working.teach k before)))
      (λ last.
      let here : length lines ≡ k = omega (arith, within, length_push lines line, last) in
      rw (take_at lines (line ∷ []) k here)
      (at_line_last (λ l. Teaches (clauses_of cnf lines) l.clause) lines line k here teaches))
      (cases_lt k (length lines));
}

-- ---- the trail that is left

abbrev pub cut : Trail → ℕ → Trail
cut trail n = record trail { literals = take n trail.literals; reasons = take n trail.reasons }

start_kept : (starts : List ℕ) (back p : ℕ) → AllPairs (λ one other. one < other) starts → back < length starts → p < get_or starts back 0 → Contains starts p → Contains (take back starts) p
start_kept starts back p rising there early here =
    let is : get_or starts here.0 0 ≡ p = get_or_default starts here.0 0 p here.1 ∙ here.2 in
    let before : here.0 < back = ⊎_elim (λ h. h)
    (λ behind. ⊎_elim
    (λ (same : here.0 ≡ back). absurd (omega (arith, early, is, ap (λ k. get_or starts k 0) same)))
    (λ away. let h = rising back here.0 0 (omega (arith, behind, away)) here.1 in absurd (omega (arith, h, early, is)))
    (cases_eq here.0 back))
    (cases_lt here.0 back) in
    (here.0, omega (arith, length-take-le back starts (omega arith), before), get_or-take back starts here.0 p before ∙ here.2)

pub sound_cut : (known : List (List ℤ)) (trail : Trail) (starts : List ℕ) (back : ℕ) → back < length starts → IsSound known trail starts → IsSound known (cut trail (get_or starts back 0)) (take back starts)
sound_cut known trail starts back there sound =
    let start = get_or starts back 0 in
    let inside : start < length trail.literals = sound.below back 0 there in
    let short : length (take start trail.literals) ≡ start = length-take-le start trail.literals (omega arith) in
    let short_too : length (take start trail.reasons) ≡ start = length-take-le start trail.reasons (omega (arith, sound.aligned)) in
    let fewer : length (take back starts) ≡ back = length-take-le back starts (omega arith) in
    record {
      aligned = short_too ∙ sym short;
      apart = λ i j d before h.
          let early : j < start = omega (arith, h, short) in
          rw (get_or-take start trail.literals i d (omega (arith, before, early)), get_or-take start trail.literals j d early)
          (sound.apart i j d before (omega (arith, early, inside)));
      within = All-take (IsWithin trail.variables) start trail.literals sound.within;
      supported = λ p h.
          let early : p < start = omega (arith, h, short) in
          let reason_is : get_or (take start trail.reasons) p None ≡ get_or trail.reasons p None = get_or-take start trail.reasons p None early in
          let literal_is : literal_at (take start trail.literals) p ≡ literal_at trail.literals p = get_or-take start trail.literals p (pos 0) early in
          let front_is : take p (take start trail.literals) ≡ take p trail.literals = take-take p start trail.literals (omega arith) in
          rw (reason_is, literal_is, front_is)
          (supported p early (get_or trail.reasons p None) (sound.supported p (omega (arith, early, inside))));
      rising = λ i j d before h.
          let early : j < back = omega (arith, h, fewer) in
          rw (get_or-take back starts i d (omega (arith, before, early)), get_or-take back starts j d early) (sound.rising i j d before (omega (arith, early, there)));
      below = λ k d h.
          let early : k < back = omega (arith, h, fewer) in
          let less = sound.rising k back d early there in
          rw (get_or-take back starts k d early) (omega (arith, short, less, get_or_default starts back d 0 there));
    }
  where
    supported : (p : ℕ) → p < get_or starts back 0 → (reason : Option ℕ) → MatchOption reason (Contains starts p) (λ number. IsKnownAnd known number (λ literals. IsReason literals (literal_at trail.literals p) (take p trail.literals))) → MatchOption reason (Contains (take back starts) p) (λ number. IsKnownAnd known number (λ literals. IsReason literals (literal_at trail.literals p) (take p trail.literals)))
    supported p early None h = start_kept starts back p sound.rising there early h
    supported p early (Some number) h = h

-- and one clause more is known
pub sound_known : (known : List (List ℤ)) (clause : List ℤ) (trail : Trail) (starts : List ℕ) → IsSound known trail starts → IsSound (known ++ clause ∷ []) trail starts
sound_known known clause trail starts sound = record {
  aligned = sound.aligned;
  apart = sound.apart;
  within = sound.within;
  supported = λ p h. supported p (get_or trail.reasons p None) (sound.supported p h);
  rising = sound.rising;
  below = sound.below;
}
  where
    supported : (p : ℕ) (reason : Option ℕ) → MatchOption reason (Contains starts p) (λ number. IsKnownAnd known number (λ literals. IsReason literals (literal_at trail.literals p) (take p trail.literals))) → MatchOption reason (Contains starts p) (λ number. IsKnownAnd (known ++ clause ∷ []) number (λ literals. IsReason literals (literal_at trail.literals p) (take p trail.literals)))
    supported p None h = h
    supported p (Some number) h = still_known known clause number (λ literals. IsReason literals (literal_at trail.literals p) (take p trail.literals)) h
