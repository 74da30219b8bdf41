-- What a search keeps, as clauses are visited.
use Rattle.std.proofs.Common.{◌≡◌, ◌≢◌, ◌⊎◌, ⊎_elim, ℕ, ℤ, pos, neg_ℤ, ◌+◌, ◌<◌, List, [], ◌∷◌, ◌++◌, length, take, set, get_or, unsigned_abs, Option, Some, None, All, Contains, IsSomeAnd, slice_get, refl, sym, ◌∙◌, ap, subst, arith, length-set}
use Rattle.std.proofs.lemmas.Bool.{cases_lt}
use Rattle.std.proofs.lemmas.List.{get_or_default, take-append-le, take_at, get_or_append_left, get_or_push, length_push}
use Rattle.std.proofs.lemmas.List.Elements.{All-contains, All-push, All-weaker, Contains-get_or}
use Rattle.std.proofs.lemmas.List.Quantifiers.{all_pairs_push}
use Rattle.std.proofs.lemmas.Option.{get_or_from_slice_get}
use Rattle.cnf_form.specs.declared.log.LogLine.{LogLine}
use Rattle.cnf_form.specs.declared.cnf.Cnf.{Cnf}
use Rattle.cnf_form.specs.Literals.{NamesOnce}
use Rattle.rup_check.specs.Follows.{IsFalse}
use Rattle.rup_check.specs.Accepted.{clauses_of}
use Rattle.rup_check.specs.Trail.{IsWithin}
use Rattle.rup_check.proofs.Cases.{int_cases}
use Rattle.search_tables.specs.Entries.{spot_of, list_of}
use Rattle.sat_search.proofs.Keeping.{neg_twice}
use Rattle.search_tables.specs.declared.watches.Pair.{Pair}
use Rattle.search_tables.specs.Trail.{Trail, literal_at}
use Rattle.sat_search.specs.Sound.{IsKnownAnd, IsSupported, IsSound}
use Rattle.search_tables.specs.Watching.{no_pair, pair_at, IsProper, IsWatching, IsChange}
use Rattle.sat_search.specs.Guarded.{IsSatisfied, IsWatched, IsGuarded, clause_of, AreGuarded}
use Rattle.sat_search.specs.Held.{IsHeld}
use Rattle.search_tables.proofs.Placing.{variable_made}
use Rattle.sat_search.proofs.TracingBack.{taken_place}
use Rattle.sat_search.proofs.Guarding.{guarded_more, rewatch_guarded}
use Rattle.plain_laws.proofs.Integers.{unsigned_abs-neg}

taken_in : (literals : List ℤ) (i : ℕ) (m : ℤ) → Contains (take i literals) m → Contains literals m
taken_in literals i m here = let at = taken_place literals i m here in subst (Contains literals) at.3 (Contains-get_or literals at.0 (pos 0) at.2)

-- a watch moves
pub held_moved : (cnf : Cnf) (lines : List LogLine) (table : List (List ℤ)) (trail : Trail) (starts : List ℕ) (pairs : List Pair) (lists final : List (List ℕ)) (head n : ℕ) (falsified : ℤ) (pair : Pair) → IsHeld cnf lines table trail starts pairs lists head → IsChange pairs n falsified pair → Contains (clause_of (clauses_of cnf lines) n) pair.one → ¬ Contains trail.literals (neg_ℤ pair.one) → IsWatching cnf.variables (set pairs n pair) final → IsHeld cnf lines table trail starts (set pairs n pair) final head
held_moved cnf lines table trail starts pairs lists final head n falsified pair held change named free watching =
    let known = clauses_of cnf lines in
    record {
      working = held.working;
      stored = held.stored;
      variables = held.variables;
      sound = held.sound;
      counted = length-set pairs n pair ∙ held.counted;
      watching = watching;
      levels = All-weaker (λ s. AreGuarded known pairs (take s trail.literals) (take s trail.literals)) (λ s. AreGuarded known (set pairs n pair) (take s trail.literals) (take s trail.literals))
          (λ s guarded. rewatch_guarded known pairs n pair falsified (take s trail.literals) (take s trail.literals) held.counted change named (λ h. free (taken_in trail.literals s (neg_ℤ pair.one) h)) guarded)
          starts held.levels;
      reached = held.reached;
      guarded = rewatch_guarded known pairs n pair falsified (take head trail.literals) trail.literals held.counted change named (λ h. free (taken_in trail.literals head (neg_ℤ pair.one) h)) held.guarded;
    }

-- one literal more, with its reason
abbrev pub grown : Trail → ℤ → Option ℕ → Trail
grown trail l reason = record trail { literals = trail.literals ++ l ∷ []; reasons = trail.reasons ++ reason ∷ [] }

pub apart_push : (literals : List ℤ) (l : ℤ) → NamesOnce literals → ¬ Contains literals l → ¬ Contains literals (neg_ℤ l) → NamesOnce (literals ++ l ∷ [])
apart_push literals l apart not_true not_false = all_pairs_push (λ one other. unsigned_abs one ≢ unsigned_abs other) literals l apart
    (λ k d within same. variable_made literals l k within (ap unsigned_abs (get_or_default literals k (pos 0) d within) ∙ same) not_true not_false)

supported_before : (known : List (List ℤ)) (trail : Trail) (starts : List ℕ) (l : ℤ) (reason : Option ℕ) (p : ℕ) → length trail.reasons ≡ length trail.literals → p < length trail.literals → IsSupported known trail starts p → IsSupported known (grown trail l reason) starts p
supported_before known trail starts l reason p aligned within supported =
    let same_reason : get_or (trail.reasons ++ reason ∷ []) p None ≡ get_or trail.reasons p None = get_or_append_left trail.reasons (reason ∷ []) None p (omega (arith, aligned, within)) in
    let same_literal : literal_at (trail.literals ++ l ∷ []) p ≡ literal_at trail.literals p = get_or_append_left trail.literals (l ∷ []) (pos 0) p within in
    let same_front : take p (trail.literals ++ l ∷ []) ≡ take p trail.literals = take-append-le p trail.literals (l ∷ []) (omega arith) in
    rw (same_reason, same_literal, same_front) supported

pub sound_implied : (known : List (List ℤ)) (trail : Trail) (starts : List ℕ) (l : ℤ) (number : ℕ) (clause : List ℤ) → IsSound known trail starts → slice_get known number ≡ Some clause → Contains clause l → All (λ m. m ≢ l → Contains trail.literals (neg_ℤ m)) clause → IsWithin trail.variables l → ¬ Contains trail.literals l → ¬ Contains trail.literals (neg_ℤ l) → IsSound known (grown trail l (Some number)) starts
sound_implied known trail starts l number clause sound at named others within not_true not_false =
    let literals = trail.literals in
    record {
      aligned = length_push trail.reasons (Some number) ∙ ap (λ n. n + 1) sound.aligned ∙ sym (length_push literals l);
      apart = apart_push literals l sound.apart not_true not_false;
      within = All-push (IsWithin trail.variables) literals l sound.within within;
      supported = λ p before. ⊎_elim
          (λ early. supported_before known trail starts l (Some number) p sound.aligned early (sound.supported p early))
          (λ last.
          let here : length literals ≡ p = omega (arith, length_push literals l, before, last) in
          let reason_is : get_or (trail.reasons ++ Some number ∷ []) p None ≡ Some number = get_or_push trail.reasons (Some number) None p (sound.aligned ∙ here) in
          let literal_is : literal_at (literals ++ l ∷ []) p ≡ l = get_or_push literals l (pos 0) p here in
          let front_is : take p (literals ++ l ∷ []) ≡ literals = take_at literals (l ∷ []) p here in
          rw (reason_is, literal_is, front_is, at) (record { named = named; others = others }))
          (cases_lt p (length literals));
      rising = sound.rising;
      below = All-weaker (λ s. s < length literals) (λ s. s < length (literals ++ l ∷ [])) (λ s h. omega (arith, h, length_push literals l)) starts sound.below;
    }

-- the ends of levels are as before
pub levels_grown : (known : List (List ℤ)) (pairs : List Pair) (literals : List ℤ) (l : ℤ) (starts : List ℕ) → All (λ s. s < length literals) starts → All (λ s. AreGuarded known pairs (take s literals) (take s literals)) starts → All (λ s. AreGuarded known pairs (take s (literals ++ l ∷ [])) (take s (literals ++ l ∷ []))) starts
levels_grown known pairs literals l starts below levels k d within =
    let s = get_or starts k d in
    let before : s < length literals = below k d within in
    let same : take s (literals ++ l ∷ []) ≡ take s literals = take-append-le s literals (l ∷ []) (omega arith) in
    rw same (levels k d within)

pub held_implied : (cnf : Cnf) (lines : List LogLine) (table : List (List ℤ)) (trail : Trail) (starts : List ℕ) (pairs : List Pair) (lists : List (List ℕ)) (head : ℕ) (l : ℤ) (number : ℕ) (clause : List ℤ) → IsHeld cnf lines table trail starts pairs lists head → slice_get (clauses_of cnf lines) number ≡ Some clause → Contains clause l → All (λ m. m ≢ l → Contains trail.literals (neg_ℤ m)) clause → IsWithin trail.variables l → ¬ Contains trail.literals l → ¬ Contains trail.literals (neg_ℤ l) → IsHeld cnf lines table (grown trail l (Some number)) starts pairs lists head
held_implied cnf lines table trail starts pairs lists head l number clause held at named others within not_true not_false =
    let known = clauses_of cnf lines in
    let same : take head (trail.literals ++ l ∷ []) ≡ take head trail.literals = take-append-le head trail.literals (l ∷ []) held.reached in
    record {
      working = held.working;
      stored = held.stored;
      variables = held.variables;
      sound = sound_implied known trail starts l number clause held.sound at named others within not_true not_false;
      counted = held.counted;
      watching = held.watching;
      levels = levels_grown known pairs trail.literals l starts held.sound.below held.levels;
      reached = omega (arith, held.reached, length_push trail.literals l);
      guarded = rw same (guarded_more known pairs (take head trail.literals) trail.literals l held.guarded);
    }

-- ---- the clause that is visited

-- of its two literals, the other one
other_named : (clause : List ℤ) (pair : Pair) (done made : List ℤ) (other : ℤ) → IsWatched clause pair done made → (other ≡ pair.one) ⊎ (other ≡ pair.other) → Contains clause other
other_named clause pair done made other is stays = ⊎_elim
    (λ (same : other ≡ pair.one). subst (Contains clause) (sym same) is.one_named)
    (λ (same : other ≡ pair.other). subst (Contains clause) (sym same) is.other_named)
    stays

-- where the other one is true, it is satisfied
pub visit_true : (clause : List ℤ) (pair : Pair) (done made : List ℤ) (other : ℤ) → IsGuarded clause pair done made → (other ≡ pair.one) ⊎ (other ≡ pair.other) → Contains made other → IsSatisfied made clause
visit_true clause pair done made other guarded stays holds = ⊎_elim (λ is. is) (λ is. record { literal = other; named = other_named clause pair done made other is stays; holds = holds }) guarded

-- where no other literal is free and the other one is not true, it has the other one
pub visit_unit : (clause : List ℤ) (pair : Pair) (done made : List ℤ) (other : ℤ) → ((l : ℤ) → Contains made l → ¬ Contains made (neg_ℤ l)) → IsGuarded clause pair done made → (other ≡ pair.one) ⊎ (other ≡ pair.other) → All (λ m. m ≢ other → Contains made (neg_ℤ m)) clause → ¬ Contains made other → Contains clause other
visit_unit clause pair done made other consistent guarded stays others not_true = ⊎_elim
    (λ is. ⊎_elim
    (λ (same : is.literal ≡ other). absurd (not_true (subst (Contains made) same is.holds)))
    (λ differ. absurd (consistent is.literal is.holds (All-contains (λ m. m ≢ other → Contains made (neg_ℤ m)) clause is.literal others is.named differ)))
    (int_cases is.literal other))
    (λ is. other_named clause pair done made other is stays)
    guarded

-- where the other one is false too, it is false
pub visit_false : (clause : List ℤ) (made : List ℤ) (other : ℤ) → All (λ m. m ≢ other → Contains made (neg_ℤ m)) clause → Contains made (neg_ℤ other) → IsFalse made clause
visit_false clause made other others is_false k d within = ⊎_elim
    (λ (same : get_or clause k d ≡ other). subst (λ m. Contains made (neg_ℤ m)) (sym same) is_false)
    (λ differ. others k d within differ)
    (int_cases (get_or clause k d) other)

-- the clause of a number, both ways
pub clause_is : (known : List (List ℤ)) (number : ℕ) (clause : List ℤ) → slice_get known number ≡ Some clause → clause_of known number ≡ clause
clause_is known number clause at = get_or_from_slice_get known number clause [] at

-- the clause has the literal, and its others are false
abbrev pub IsOnly : List ℤ → ℤ → List ℤ → Type 0
IsOnly made l clause = Contains clause l × All (λ m. m ≢ l → Contains made (neg_ℤ m)) clause

pub found_clause : (known : List (List ℤ)) (number : ℕ) (P : List ℤ → Type 0) → IsKnownAnd known number P → (clause : List ℤ) × (slice_get known number ≡ Some clause) × P clause
found_clause known number P h = at (slice_get known number) refl h
  where
    at : (found : Option (List ℤ)) → slice_get known number ≡ found → IsSomeAnd found P → (clause : List ℤ) × (slice_get known number ≡ Some clause) × P clause
    at None is given = absurd given
    at (Some clause) is given = (clause, is, given)

-- a clause whose literals are all false is a conflict
pub conflict_known : (known : List (List ℤ)) (made : List ℤ) (number : ℕ) (other : ℤ) → IsKnownAnd known number (λ clause. Contains clause other × All (λ m. m ≢ other → Contains made (neg_ℤ m)) clause) → Contains made (neg_ℤ other) → IsKnownAnd known number (λ clause. IsFalse made clause)
conflict_known known made number other unit is_false =
    let at = found_clause known number (λ clause. Contains clause other × All (λ m. m ≢ other → Contains made (neg_ℤ m)) clause) unit in
    subst (λ o. IsSomeAnd o (λ clause. IsFalse made clause)) (sym at.1) (visit_false at.0 made other at.2.1 is_false)

-- what is known of an entry of a list
pub entry_known : (cnf : Cnf) (lines : List LogLine) (table : List (List ℤ)) (trail : Trail) (starts : List ℕ) (pairs : List Pair) (lists : List (List ℕ)) (head i n : ℕ) (falsified other : ℤ) → IsHeld cnf lines table trail starts pairs lists head → i < length (list_of lists falsified) → n ≡ get_or (list_of lists falsified) i 0 → IsProper pairs n
entry_known cnf lines table trail starts pairs lists head i n falsified other held inside is =
    held.watching.entries (spot_of falsified) n (subst (Contains (list_of lists falsified)) (sym is) (Contains-get_or (list_of lists falsified) i 0 inside))

pub other_within : (variables : ℕ) (pairs : List Pair) (lists : List (List ℕ)) (n : ℕ) (other : ℤ) → IsWatching variables pairs lists → IsProper pairs n → (other ≡ (pair_at pairs n).one) ⊎ (other ≡ (pair_at pairs n).other) → IsWithin variables other
other_within variables pairs lists n other watching proper stays =
    let both = watching.within n no_pair proper.there in
    ⊎_elim (λ (is : other ≡ (pair_at pairs n).one). subst (IsWithin variables) (sym is) both.0)
    (λ (is : other ≡ (pair_at pairs n).other). subst (IsWithin variables) (sym is) both.1) stays

-- the literal that became false
pub falsified_within : (variables : ℕ) (trail : Trail) (head : ℕ) (falsified : ℤ) → trail.variables ≡ variables → All (IsWithin trail.variables) trail.literals → head < length trail.literals → falsified ≡ neg_ℤ (literal_at trail.literals head) → IsWithin variables falsified
falsified_within variables trail head falsified same within inside is =
    let at = within head (pos 0) inside in
    subst (IsWithin variables) (sym is) (rw (unsigned_abs-neg (literal_at trail.literals head)) (subst (λ v. IsWithin v (literal_at trail.literals head)) same at))

-- a literal that is not false is not the one that became false
pub free_away : (literals : List ℤ) (head : ℕ) (falsified free : ℤ) → head < length literals → falsified ≡ neg_ℤ (literal_at literals head) → ¬ Contains literals (neg_ℤ free) → free ≢ falsified
free_away literals head falsified free inside is not_false same =
    not_false (subst (Contains literals) (sym (ap neg_ℤ (same ∙ is) ∙ neg_twice (literal_at literals head))) (Contains-get_or literals head (pos 0) inside))
