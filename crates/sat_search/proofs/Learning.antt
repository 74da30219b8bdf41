-- A search learns a clause, and goes back to the level at which it is unit.
use Rattle.std.proofs.Common.{◌≡◌, inl, inr, ⊎_elim, ℕ, ℤ, pos, neg_ℤ, ◌+◌, ◌-◌, ◌<◌, ◌≤◌, List, [], ◌∷◌, ◌++◌, length, map, take, get_or, unsigned_abs, Some, All, AllPairs, Contains, slice_get, refl, sym, ◌∙◌, ap, subst, arith}
use Rattle.std.proofs.lemmas.Bool.{cases_lt, cases_eq}
use Rattle.std.proofs.lemmas.List.{length-append, length-map, get_or_default, take-append-le, take_at, take-take, get_or-take, length-take-le, get_or_append_left, get_or_push, length_push}
use Rattle.std.proofs.lemmas.List.Elements.{All-contains, Contains-get_or, Contains-push}
use Rattle.cnf_form.specs.declared.log.LogLine.{LogLine}
use Rattle.cnf_form.specs.declared.cnf.Cnf.{Cnf}
use Rattle.std.proofs.lemmas.Option.{slice_get_within, get_or_from_slice_get}
use Rattle.cnf_form.specs.Literals.{most, NamesOnce, IsClause}
use Rattle.rup_check.specs.Follows.{IsFalse, IsUnit, Leads, Follows}
use Rattle.rup_check.specs.Closed.{Teaches}
use Rattle.rup_check.specs.Accepted.{clauses_of}
use Rattle.rup_check.specs.Trail.{IsWithin}
use Rattle.search_tables.specs.declared.watches.Pair.{Pair}
use Rattle.search_tables.specs.Trail.{Trail, literal_at, variable_at}
use Rattle.sat_search.specs.Sound.{IsKnownAnd, IsSound, last_start}
use Rattle.sat_search.specs.Learning.{IsOfPlaces, IsAsserting, IsLearned, GoesBack}
use Rattle.search_tables.specs.Watching.{no_pair, pair_at, IsWatching, IsPairOf, WatchesMore}
use Rattle.sat_search.specs.Guarded.{IsWatched, IsGuarded, clause_of, AreGuarded}
use Rattle.sat_search.specs.Held.{IsHeld}
use Rattle.sat_search.proofs.TracingBack.{one_place}
use Rattle.search_tables.proofs.Entering.{pair_push}
use Rattle.sat_search.proofs.Guarding.{apart_consistent, closed_from_guarded, guarded_more}
use Rattle.sat_search.proofs.Visiting.{grown, sound_implied, found_clause}
use Rattle.sat_search.proofs.LearnedLemmas.{to_known, last_greatest}
use Rattle.sat_search.proofs.Backjump.{clause_at, clause_length, not_taken, learned_unit, learned_clause, known_more, newly_known, IsWorking-push, cut, sound_cut, sound_known}
use Rattle.plain_laws.proofs.Integers.{unsigned_abs-neg}

-- the clauses that were known are guarded as before
guarded_before : (known : List (List ℤ)) (clause : List ℤ) (pairs : List Pair) (pair : Pair) (done made : List ℤ) (c : ℕ) → length pairs ≡ length known → c < length known → IsGuarded (clause_of known c) (pair_at pairs c) done made → IsGuarded (clause_of (known ++ clause ∷ []) c) (pair_at (pairs ++ pair ∷ []) c) done made
guarded_before known clause pairs pair done made c counted within guarded =
    rw (get_or_append_left known (clause ∷ []) [] c within, pair_push pairs pair c (omega (arith, counted, within))) guarded

guarded_with : (known : List (List ℤ)) (clause : List ℤ) (pairs : List Pair) (pair : Pair) (done made : List ℤ) → length pairs ≡ length known → AreGuarded known pairs done made → IsGuarded clause pair done made → AreGuarded (known ++ clause ∷ []) (pairs ++ pair ∷ []) done made
guarded_with known clause pairs pair done made counted guarded new c within = ⊎_elim
    (λ before. guarded_before known clause pairs pair done made c counted before (guarded c before))
    (λ last.
    let here : length known ≡ c = omega (arith, within, length_push known clause, last) in
    rw (get_or_push known clause [] c here, get_or_push pairs pair no_pair c (counted ∙ here)) new)
    (cases_lt c (length known))

-- where a search stands before it learns
pub record Learns (cnf : Cnf) (lines : List LogLine) (table : List (List ℤ)) (trail : Trail) (starts : List ℕ) (pairs : List Pair) (lists : List (List ℕ)) (head : ℕ) (line : LogLine) (places : List ℕ) (back : ℕ) : Type 0 where
  pub held : IsHeld cnf lines table trail starts pairs lists head
  pub few : length lines < most
  pub listed : IsOfPlaces trail.literals 0 line.clause places
  pub asserting : IsAsserting (last_start starts) places
  pub leads : Leads (clauses_of cnf lines) (map neg_ℤ line.clause) line.hints
  pub goes : GoesBack starts places back

-- the first literal was made true at the last level
pub first_behind : (cnf : Cnf) (lines : List LogLine) (table : List (List ℤ)) (trail : Trail) (starts : List ℕ) (pairs : List Pair) (lists : List (List ℕ)) (head : ℕ) (line : LogLine) (places : List ℕ) (back : ℕ) → Learns cnf lines table trail starts pairs lists head line places back → get_or starts back 0 ≤ get_or places 0 0
first_behind cnf lines table trail starts pairs lists head line places back learns =
    omega (arith, learns.asserting.first, last_greatest starts back learns.held.sound.rising learns.goes.there)

-- the level that it goes back to is closed, and the clause teaches
learned_teaches : (cnf : Cnf) (lines : List LogLine) (table : List (List ℤ)) (trail : Trail) (starts : List ℕ) (pairs : List Pair) (lists : List (List ℕ)) (head : ℕ) (line : LogLine) (places : List ℕ) (back : ℕ) → Learns cnf lines table trail starts pairs lists head line places back → Teaches (clauses_of cnf lines) line.clause
learned_teaches cnf lines table trail starts pairs lists head line places back learns =
    let sound = learns.held.sound in
    let left = cut_sound in
    record {
      made = take (get_or starts back 0) trail.literals;
      closed = closed_from_guarded (clauses_of cnf lines) pairs (take (get_or starts back 0) trail.literals)
          (apart_consistent trail.variables (take (get_or starts back 0) trail.literals) left.apart left.within)
          (learns.held.levels back 0 learns.goes.there);
      left = get_or line.clause 0 (pos 0);
      unit = learned_unit trail.literals starts line.clause places back sound.apart learns.listed learns.asserting.some (first_behind cnf lines table trail starts pairs lists head line places back learns) learns.goes;
    }
  where
    cut_sound : IsSound (clauses_of cnf lines) (cut trail (get_or starts back 0)) (take back starts)
    cut_sound = sound_cut (clauses_of cnf lines) trail starts back learns.goes.there learns.held.sound

learned_follows : (cnf : Cnf) (lines : List LogLine) (table : List (List ℤ)) (trail : Trail) (starts : List ℕ) (pairs : List Pair) (lists : List (List ℕ)) (head : ℕ) (line : LogLine) (places : List ℕ) (back : ℕ) → Learns cnf lines table trail starts pairs lists head line places back → Follows cnf.variables (clauses_of cnf lines) line
learned_follows cnf lines table trail starts pairs lists head line places back learns =
    let sound = learns.held.sound in
    let few : trail.variables ≤ most = omega (arith, learns.held.variables, cnf.few_variables) in
    let both = learned_clause trail.variables trail.literals line.clause places few sound.apart sound.within learns.listed in
    record {
      named = λ k d h. let at = both.1 k d h in omega (arith, at.1, learns.held.variables);
      leads = learns.leads;
    }

-- at the end of an earlier level, the learned clause has two literals that are open
learned_watched : (cnf : Cnf) (lines : List LogLine) (table : List (List ℤ)) (trail : Trail) (starts : List ℕ) (pairs : List Pair) (lists : List (List ℕ)) (head : ℕ) (line : LogLine) (places : List ℕ) (back j : ℕ) (pair : Pair) → Learns cnf lines table trail starts pairs lists head line places back → IsPairOf line.clause pair → j < back → IsWatched line.clause pair (take (get_or starts j 0) trail.literals) (take (get_or starts j 0) trail.literals)
learned_watched cnf lines table trail starts pairs lists head line places back j pair learns is before =
    let literals = trail.literals in
    let clause = line.clause in
    let s = get_or starts j 0 in
    let sound = learns.held.sound in
    let long = clause_length literals clause places 0 learns.listed in
    let tight = learns.goes.tight (omega arith) in
    let two : 1 < length clause = omega (arith, long, tight.0) in
    let q = get_or places 0 0 in
    let r = get_or places 1 0 in
    let one : pair.one ≡ neg_ℤ (literal_at literals q) = is.one ∙ clause_at literals clause places 0 0 (pos 0) learns.listed learns.asserting.some in
    let other : pair.other ≡ neg_ℤ (literal_at literals r) = is.other two ∙ clause_at literals clause places 0 1 (pos 0) learns.listed tight.0 in
    let inside = learns.listed.inside 0 0 learns.asserting.some in
    let inside_too = learns.listed.inside 1 0 tight.0 in
    let falls = learns.listed.falling 0 1 0 (omega arith) tight.0 in
    let early : s ≤ get_or starts (back - 1) 0 = early_start in
    let first_one = first_behind cnf lines table trail starts pairs lists head line places back learns in
    record {
      differ = λ same. omega (arith, falls, same_place q r inside inside_too (sym one ∙ same ∙ other));
      one_named = subst (Contains clause) (sym is.one) (Contains-get_or clause 0 (pos 0) (omega (arith, two)));
      other_named = subst (Contains clause) (sym (is.other two)) (Contains-get_or clause 1 (pos 0) two);
      one = λ h. absurd (not_taken literals s q (neg_ℤ pair.one) sound.apart inside (omega (arith, early, tight.1, falls)) (unsigned_abs-neg pair.one ∙ ap unsigned_abs one ∙ unsigned_abs-neg (literal_at literals q)) h);
      other = λ h. absurd (not_taken literals s r (neg_ℤ pair.other) sound.apart inside_too (omega (arith, early, tight.1)) (unsigned_abs-neg pair.other ∙ ap unsigned_abs other ∙ unsigned_abs-neg (literal_at literals r)) h);
    }
  where
    early_start : get_or starts j 0 ≤ get_or starts (back - 1) 0
    early_start = ⊎_elim
        (λ (same : j ≡ back - 1). subst (λ k. get_or starts k 0 ≤ get_or starts (back - 1) 0) (sym same) (omega arith))
        (λ away. let h = learns.held.sound.rising j (back - 1) 0 (omega (arith, away, before)) (omega (arith, learns.goes.there, before)) in omega (arith, h))
        (cases_eq j (back - 1))

    same_place : (q r : ℕ) → q < length trail.literals → r < length trail.literals → neg_ℤ (literal_at trail.literals q) ≡ neg_ℤ (literal_at trail.literals r) → q ≡ r
    same_place q r inside within same = one_place trail.literals q r learns.held.sound.apart inside within
        (sym (unsigned_abs-neg (literal_at trail.literals q)) ∙ ap unsigned_abs same ∙ unsigned_abs-neg (literal_at trail.literals r))

-- what the search keeps, with the clause
pub held_learned : (cnf : Cnf) (lines : List LogLine) (table : List (List ℤ)) (trail : Trail) (starts : List ℕ) (pairs : List Pair) (lists final : List (List ℕ)) (head : ℕ) (line : LogLine) (places : List ℕ) (back : ℕ) (pair : Pair) → Learns cnf lines table trail starts pairs lists head line places back → IsPairOf line.clause pair → IsWatching cnf.variables (pairs ++ pair ∷ []) final → IsHeld cnf (lines ++ line ∷ []) (table ++ line.clause ∷ []) (grown (cut trail (get_or starts back 0)) (get_or line.clause 0 (pos 0)) (Some (length (clauses_of cnf lines)))) (take back starts) (pairs ++ pair ∷ []) final (get_or starts back 0)
held_learned cnf lines table trail starts pairs lists final head line places back pair learns is watching =
    let known = clauses_of cnf lines in
    let clause = line.clause in
    let literals = trail.literals in
    let start = get_or starts back 0 in
    let l = get_or clause 0 (pos 0) in
    let held = learns.held in
    let more = known_more cnf lines line in
    let inside : start < length literals = held.sound.below back 0 learns.goes.there in
    let short : length (take start literals) ≡ start = length-take-le start literals (omega arith) in
    let fewer : length (take back starts) ≡ back = length-take-le back starts (omega (arith, learns.goes.there)) in
    let unit = learned_unit literals starts clause places back held.sound.apart learns.listed learns.asserting.some (first_behind cnf lines table trail starts pairs lists head line places back learns) learns.goes in
    let few : trail.variables ≤ most = omega (arith, held.variables, cnf.few_variables) in
    let both = learned_clause trail.variables literals clause places few held.sound.apart held.sound.within learns.listed in
    let sound = sound_implied (known ++ clause ∷ []) (cut trail start) (take back starts) l (length known) clause (sound_known known clause (cut trail start) (take back starts) (sound_cut known trail starts back learns.goes.there held.sound)) (newly_known known clause) unit.named unit.others (All-contains (IsWithin trail.variables) clause l both.1 unit.named) unit.not_true unit.not_false in
    record {
      working = IsWorking-push cnf lines line learns.few held.working both.0 (learned_follows cnf lines table trail starts pairs lists head line places back learns) (learned_teaches cnf lines table trail starts pairs lists head line places back learns);
      stored = rw (more, held.stored) refl;
      variables = held.variables;
      sound = rw more sound;
      counted = length_push pairs pair ∙ ap (λ n. n + 1) held.counted ∙ sym (length_push known clause) ∙ sym (ap length more);
      watching = watching;
      levels = λ j d h.
          let before : j < back = omega (arith, h, fewer) in
          let at : get_or (take back starts) j d ≡ get_or starts j 0 = get_or-take back starts j d before ∙ get_or_default starts j d 0 (omega (arith, before, learns.goes.there)) in
          let less = held.sound.rising j back 0 before learns.goes.there in
          let front : take (get_or starts j 0) (take start literals ++ l ∷ []) ≡ take (get_or starts j 0) literals = take-append-le (get_or starts j 0) (take start literals) (l ∷ []) (omega (arith, short, less)) ∙ take-take (get_or starts j 0) start literals (omega (arith, less)) in
          rw (more, at, front)
          (guarded_with known clause pairs pair (take (get_or starts j 0) literals) (take (get_or starts j 0) literals) held.counted (held.levels j 0 (omega (arith, before, learns.goes.there))) (inr (learned_watched cnf lines table trail starts pairs lists head line places back j pair learns is before)));
      reached = omega (arith, short, length_push (take start literals) l);
      guarded =
          let front : take start (take start literals ++ l ∷ []) ≡ take start literals = take_at (take start literals) (l ∷ []) start short in
          rw (more, front)
          (guarded_with known clause pairs pair (take start literals) (take start literals ++ l ∷ []) held.counted
          (guarded_more known pairs (take start literals) (take start literals) l (held.levels back 0 learns.goes.there))
          (inl (record { literal = l; named = unit.named; holds = Contains-push (take start literals) l })));
    }

-- the same, as the search does it
pub adopted : (cnf : Cnf) (lines more_lines : List LogLine) (table new_table : List (List ℤ)) (trail new_trail : Trail) (starts new_starts : List ℕ) (pairs new_pairs : List Pair) (lists final : List (List ℕ)) (head start number back : ℕ) (line : LogLine) (literals : List ℤ) (hints : List ℕ) (l : ℤ) → IsHeld cnf lines table trail starts pairs lists head → length lines < most → (learned : IsLearned (clauses_of cnf lines) trail.literals (last_start starts) literals hints) → GoesBack starts learned.places back → line.clause ≡ literals → line.hints ≡ hints → WatchesMore cnf.variables literals pairs new_pairs final → more_lines ≡ lines ++ line ∷ [] → new_starts ≡ take back starts → new_trail ≡ grown (cut trail start) l (Some number) → new_table ≡ table ++ literals ∷ [] → start ≡ get_or starts back 0 → l ≡ get_or literals 0 (pos 0) → number ≡ length (clauses_of cnf lines) → IsHeld cnf more_lines new_table new_trail new_starts new_pairs final start
adopted cnf lines more_lines table new_table trail new_trail starts new_starts pairs new_pairs lists final head start number back line literals hints l held few learned goes clause_is hints_is watches lines_is starts_is trail_is table_is start_is l_is number_is =
    let learns : Learns cnf lines table trail starts pairs lists head line learned.places back = record {
      held = held;
      few = few;
      listed = rw clause_is learned.listed;
      asserting = learned.asserting;
      leads = rw (clause_is, hints_is) learned.leads;
      goes = goes;
    } in
    let pair_is : IsPairOf line.clause watches.pair = rw clause_is watches.is in
    let watching : IsWatching cnf.variables (pairs ++ watches.pair ∷ []) final = subst (λ ps. IsWatching cnf.variables ps final) watches.pushed watches.watching in
    rw (lines_is, starts_is, trail_is, table_is, watches.pushed, l_is, number_is, start_is, ← clause_is)
    (held_learned cnf lines table trail starts pairs lists final head line learned.places back watches.pair learns pair_is watching)

-- its first literal is open at that level
pub adopted_unit : (known : List (List ℤ)) (trail : Trail) (starts : List ℕ) (back : ℕ) (literals : List ℤ) (hints : List ℕ) → NamesOnce trail.literals → (learned : IsLearned known trail.literals (last_start starts) literals hints) → AllPairs (λ one other. one < other) starts → GoesBack starts learned.places back → IsUnit (take (get_or starts back 0) trail.literals) literals (get_or literals 0 (pos 0))
adopted_unit known trail starts back literals hints apart learned rising goes =
    learned_unit trail.literals starts literals learned.places back apart learned.listed learned.asserting.some (omega (arith, learned.asserting.first, last_greatest starts back rising goes.there)) goes

pub adopted_clause : (cnf : Cnf) (known : List (List ℤ)) (trail : Trail) (from : ℕ) (literals : List ℤ) (hints : List ℕ) → trail.variables ≡ cnf.variables → NamesOnce trail.literals → All (IsWithin trail.variables) trail.literals → IsLearned known trail.literals from literals hints → IsClause literals × All (IsWithin cnf.variables) literals
adopted_clause cnf known trail from literals hints same apart within learned =
    let both = learned_clause trail.variables trail.literals literals learned.places (omega (arith, same, cnf.few_variables)) apart within learned.listed in
    (both.0, subst (λ v. All (IsWithin v) literals) same both.1)

-- a clause that is false at the last level is not false before it
pub conflict_new : (cnf : Cnf) (lines : List LogLine) (table : List (List ℤ)) (trail : Trail) (starts : List ℕ) (pairs : List Pair) (lists : List (List ℕ)) (head number : ℕ) → IsHeld cnf lines table trail starts pairs lists head → 0 < length starts → IsKnownAnd (clauses_of cnf lines) number (λ clause. IsFalse trail.literals clause) → IsKnownAnd (clauses_of cnf lines) number (λ clause. IsFalse trail.literals clause × (¬ IsFalse (take (last_start starts) trail.literals) clause))
conflict_new cnf lines table trail starts pairs lists head number held some conflict =
    let known = clauses_of cnf lines in
    let at = found_clause known number (λ clause. IsFalse trail.literals clause) conflict in
    let k = length starts - 1 in
    let there : k < length starts = omega (arith, some) in
    let left = sound_cut known trail starts k there held.sound in
    let closed = closed_from_guarded known pairs (take (last_start starts) trail.literals) (apart_consistent trail.variables (take (last_start starts) trail.literals) left.apart left.within) (held.levels k 0 there) in
    let named : Contains known at.0 = known_in known number at.0 at.1 in
    let stands = All-contains (λ clause. ¬ IsFalse (take (last_start starts) trail.literals) clause) known at.0 closed.none_false named in
    to_known known number at.0 (λ clause. IsFalse trail.literals clause × (¬ IsFalse (take (last_start starts) trail.literals) clause)) at.1 (at.2, stands)
  where
    known_in : (known : List (List ℤ)) (number : ℕ) (clause : List ℤ) → slice_get known number ≡ Some clause → Contains known clause
    known_in known number clause is = (number, slice_get_within known number clause is, get_or_from_slice_get known number clause clause is)

-- where the search goes back to
pub goes_first : (starts : List ℕ) (literals clause : List ℤ) (places : List ℕ) → 0 < length starts → length clause < 2 → IsOfPlaces literals 0 clause places → GoesBack starts places 0
goes_first starts literals clause places some short listed =
    let long = clause_length literals clause places 0 listed in
    record {
      there = some;
      others = λ k more within. absurd (omega (arith, long, short, more, within));
      tight = λ h. absurd (omega (arith, h));
    }

pub goes_behind : (starts : List ℕ) (literals clause : List ℤ) (places : List ℕ) (back : ℕ) → IsOfPlaces literals 0 clause places → 1 < length places → back < length starts → get_or places 1 0 < get_or starts back 0 → (0 < back → get_or starts (back - 1) 0 ≤ get_or places 1 0) → GoesBack starts places back
goes_behind starts literals clause places back listed two there behind tight = record {
  there = there;
  others = λ k more within. ⊎_elim
      (λ (is : k ≡ 1). subst (λ j. get_or places j 0 < get_or starts back 0) (sym is) behind)
      (λ away. let falls = listed.falling 1 k 0 (omega (arith, more, away)) within in omega (arith, falls, behind))
      (cases_eq k 1);
  tight = λ h. (two, tight h);
}

-- the number of the next clause
pub number_known : (cnf : Cnf) (lines : List LogLine) (m n : ℕ) → m ≡ length cnf.clauses → n ≡ length lines → m + n ≡ length (clauses_of cnf lines)
number_known cnf lines m n of_formula of_lines =
    let names : LogLine → List ℤ = λ line. line.clause in
    omega (arith, of_formula, of_lines, length-append cnf.clauses (map names lines), length-map lines names)

-- the second literal of a learned clause, on the trail
pub second_place : (literals clause : List ℤ) (places : List ℕ) (d : ℤ) → IsOfPlaces literals 0 clause places → 1 < length clause → (get_or places 1 0 < length literals) × (variable_at literals (get_or places 1 0) ≡ unsigned_abs (get_or clause 1 d))
second_place literals clause places d listed two =
    let long = clause_length literals clause places 0 listed in
    let there : 1 < length places = omega (arith, long, two) in
    (listed.inside 1 0 there, sym (unsigned_abs-neg (literal_at literals (get_or places 1 0))) ∙ sym (ap unsigned_abs (clause_at literals clause places 0 1 d listed there)))
