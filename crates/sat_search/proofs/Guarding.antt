-- Watched clauses, as literals are made true and watches move.
use Rattle.std.proofs.Common.{◌≡◌, ◌≢◌, ◌⊎◌, inl, inr, ⊎_elim, ℕ, ℤ, pos, neg_ℤ, ◌+◌, ◌<◌, ◌≤◌, List, [], ◌∷◌, ◌++◌, length, drop, set, get_or, unsigned_abs, All, Contains, sym, ◌∙◌, ap, subst, arith, length-drop}
use Rattle.std.proofs.lemmas.Bool.{cases_eq}
use Rattle.std.proofs.lemmas.List.{drop_more, get_or_default}
use Rattle.std.proofs.lemmas.List.Elements.{All-contains, All-from_get_or, Contains-append_left, Contains-push_cases, Contains-append_cases}
use Rattle.cnf_form.specs.Literals.{NamesOnce}
use Rattle.rup_check.specs.Follows.{IsFalse}
use Rattle.rup_check.specs.Closed.{IsPropagated, IsClosed}
use Rattle.rup_check.specs.Trail.{IsWithin}
use Rattle.rup_check.proofs.Cases.{int_cases}
use Rattle.rup_check.proofs.Values.{not_own_negation}
use Rattle.search_tables.specs.Trail.{literal_at}
use Rattle.search_tables.specs.declared.watches.Pair.{Pair}
use Rattle.search_tables.specs.Entries.{list_of}
use Rattle.search_tables.specs.Watching.{pair_at, IsProper, IsWatching, IsChange}
use Rattle.sat_search.specs.Guarded.{IsSatisfied, IsWatched, IsGuarded, clause_of, AreGuarded, IsPassing}
use Rattle.sat_search.proofs.TracingBack.{one_place}
use Rattle.search_tables.proofs.Entering.{pair_set, pair_set_here, proper_set}
use Rattle.plain_laws.proofs.Integers.{unsigned_abs-neg}

-- ---- from guarded to closed

guarded_clause : (clause : List ℤ) (pair : Pair) (made : List ℤ) → ((l : ℤ) → Contains made l → ¬ Contains made (neg_ℤ l)) → IsGuarded clause pair made made → (¬ IsFalse made clause) × IsPropagated made clause
guarded_clause clause pair made consistent guarded = ⊎_elim satisfied watched guarded
  where
    satisfied : IsSatisfied made clause → (¬ IsFalse made clause) × IsPropagated made clause
    satisfied is = (
      λ all. consistent is.literal is.holds (All-contains (λ l. Contains made (neg_ℤ l)) clause is.literal all is.named),
      λ l named others. ⊎_elim
          (λ (same : is.literal ≡ l). subst (Contains made) same is.holds)
          (λ differ. absurd (consistent is.literal is.holds (All-contains (λ m. m ≢ l → Contains made (neg_ℤ m)) clause is.literal others is.named differ)))
          (int_cases is.literal l),
    )

    watched : IsWatched clause pair made made → (¬ IsFalse made clause) × IsPropagated made clause
    watched is = (
      λ all. (satisfied (is.one (All-contains (λ l. Contains made (neg_ℤ l)) clause pair.one all is.one_named))).0 all,
      λ l named others. ⊎_elim
          (λ (same : pair.one ≡ l). (satisfied (is.other (All-contains (λ m. m ≢ l → Contains made (neg_ℤ m)) clause pair.other others is.other_named (λ h. is.differ (same ∙ sym h))))).1 l named others)
          (λ differ. (satisfied (is.one (All-contains (λ m. m ≢ l → Contains made (neg_ℤ m)) clause pair.one others is.one_named differ))).1 l named others)
          (int_cases pair.one l),
    )

-- literals of different variables are consistent
pub apart_consistent : (variables : ℕ) (literals : List ℤ) → NamesOnce literals → All (IsWithin variables) literals → (l : ℤ) → Contains literals l → ¬ Contains literals (neg_ℤ l)
apart_consistent variables literals apart within l here there =
    let one : literal_at literals here.0 ≡ l = get_or_default literals here.0 (pos 0) l here.1 ∙ here.2 in
    let other : literal_at literals there.0 ≡ neg_ℤ l = get_or_default literals there.0 (pos 0) (neg_ℤ l) there.1 ∙ there.2 in
    let place : here.0 ≡ there.0 = one_place literals here.0 there.0 apart here.1 there.1 (ap unsigned_abs one ∙ sym (unsigned_abs-neg l) ∙ sym (ap unsigned_abs other)) in
    let low = All-contains (IsWithin variables) literals l within here in
    not_own_negation l low.0 (sym one ∙ ap (literal_at literals) place ∙ other)

pub closed_from_guarded : (known : List (List ℤ)) (pairs : List Pair) (made : List ℤ) → ((l : ℤ) → Contains made l → ¬ Contains made (neg_ℤ l)) → AreGuarded known pairs made made → IsClosed known made
closed_from_guarded known pairs made consistent guarded = record {
  consistent = consistent;
  none_false = All-from_get_or (λ c. ¬ IsFalse made c) known [] (λ c within. (guarded_clause (clause_of known c) (pair_at pairs c) made consistent (guarded c within)).0);
  propagated = All-from_get_or (IsPropagated made) known [] (λ c within. (guarded_clause (clause_of known c) (pair_at pairs c) made consistent (guarded c within)).1);
}

-- ---- one literal more

pub satisfied_more : (made clause : List ℤ) (l : ℤ) → IsSatisfied made clause → IsSatisfied (made ++ l ∷ []) clause
satisfied_more made clause l is = record { literal = is.literal; named = is.named; holds = Contains-append_left made (l ∷ []) is.literal is.holds }

pub guarded_more : (known : List (List ℤ)) (pairs : List Pair) (done made : List ℤ) (l : ℤ) → AreGuarded known pairs done made → AreGuarded known pairs done (made ++ l ∷ [])
guarded_more known pairs done made l guarded c within = ⊎_elim
    (λ is. inl (satisfied_more made (clause_of known c) l is))
    (λ is. inr (record {
      differ = is.differ;
      one_named = is.one_named;
      other_named = is.other_named;
      one = λ h. satisfied_more made (clause_of known c) l (is.one h);
      other = λ h. satisfied_more made (clause_of known c) l (is.other h);
    }))
    (guarded c within)

pub passing_more : (known : List (List ℤ)) (pairs : List Pair) (lists : List (List ℕ)) (made : List ℤ) (falsified : ℤ) (i : ℕ) (l : ℤ) → IsPassing known pairs lists made falsified i → IsPassing known pairs lists (made ++ l ∷ []) falsified i
passing_more known pairs lists made falsified i l passing c proper watches = ⊎_elim (λ is. inl (satisfied_more made (clause_of known c) l is)) inr (passing c proper watches)

-- ---- the clauses that watch a literal, one after another

pub passing_start : (variables : ℕ) (known : List (List ℤ)) (pairs : List Pair) (lists : List (List ℕ)) (made : List ℤ) (falsified : ℤ) → IsWatching variables pairs lists → IsPassing known pairs lists made falsified 0
passing_start variables known pairs lists made falsified watching c proper watches = inr (⊎_elim
    (λ (is : (pair_at pairs c).one ≡ falsified). subst (λ l. Contains (list_of lists l) c) is (watching.listed_one c proper))
    (λ (is : (pair_at pairs c).other ≡ falsified). subst (λ l. Contains (list_of lists l) c) is (watching.listed_other c proper))
    watches)

-- the next one is satisfied
pub passing_stays : (known : List (List ℤ)) (pairs : List Pair) (lists : List (List ℕ)) (made : List ℤ) (falsified : ℤ) (i n : ℕ) → i < length (list_of lists falsified) → n ≡ get_or (list_of lists falsified) i 0 → IsSatisfied made (clause_of known n) → IsPassing known pairs lists made falsified i → IsPassing known pairs lists made falsified (i + 1)
passing_stays known pairs lists made falsified i n within is satisfied passing c proper watches = ⊎_elim inl
    (λ here. ⊎_elim
    (λ (same : n ≡ c). inl (subst (λ k. IsSatisfied made (clause_of known k)) same satisfied))
    (λ away. inr (behind here away))
    (cases_eq n c))
    (passing c proper watches)
  where
    behind : Contains (drop i (list_of lists falsified)) c → n ≢ c → Contains (drop (i + 1) (list_of lists falsified)) c
    behind here away = ⊎_elim
        (λ first. absurd (away (is ∙ single_first first)))
        (λ rest. rest)
        (Contains-append_cases (get_or (list_of lists falsified) i 0 ∷ []) (drop (i + 1) (list_of lists falsified)) c (rw (drop_more (list_of lists falsified) i 0 within) at here))
      where
        single_first : Contains (get_or (list_of lists falsified) i 0 ∷ []) c → get_or (list_of lists falsified) i 0 ≡ c
        single_first first = ⊎_elim (λ none. absurd (omega (arith, none.1))) (λ same. same) (Contains-push_cases [] (get_or (list_of lists falsified) i 0) c first)

-- the next one watches another literal from now on
pub passing_moved : (known : List (List ℤ)) (pairs : List Pair) (lists final : List (List ℕ)) (made : List ℤ) (falsified : ℤ) (i n : ℕ) (pair : Pair) → n < length pairs → n ≡ get_or (list_of lists falsified) i 0 → pair.one ≢ falsified → pair.other ≢ falsified → ((c : ℕ) → get_or (list_of lists falsified) i 0 ≢ c → Contains (drop i (list_of lists falsified)) c → Contains (drop i (list_of final falsified)) c) → IsPassing known pairs lists made falsified i → IsPassing known (set pairs n pair) final made falsified i
passing_moved known pairs lists final made falsified i n pair within is one other rest passing c proper watches = ⊎_elim
    (λ (same : n ≡ c).
    let here : pair_at (set pairs n pair) c ≡ pair = ap (λ k. pair_at (set pairs n pair) k) (sym same) ∙ pair_set_here pairs n pair within in
    absurd (⊎_elim (λ h. one (sym (ap (λ (p : Pair). p.one) here) ∙ h)) (λ h. other (sym (ap (λ (p : Pair). p.other) here) ∙ h)) watches))
    (λ away.
    ⊎_elim inl (λ among. inr (rest c (λ h. away (is ∙ h)) among))
    (passing c (proper_set pairs n pair c away proper) (rw (pair_set pairs n pair c away) at watches)))
    (cases_eq n c)

-- all are satisfied
pub passing_end : (known : List (List ℤ)) (pairs : List Pair) (lists : List (List ℕ)) (done made : List ℤ) (falsified l : ℤ) (i : ℕ) → length pairs ≡ length known → length (list_of lists falsified) ≤ i → ((m : ℤ) → l ≡ neg_ℤ m → m ≡ falsified) → IsPassing known pairs lists made falsified i → AreGuarded known pairs done made → AreGuarded known pairs (done ++ l ∷ []) made
passing_end known pairs lists done made falsified l i counted end back passing guarded c within = ⊎_elim inl
    (λ is.
    let proper : IsProper pairs c = record { there = omega (arith, within, counted); differ = is.differ } in
    let passed : ((pair_at pairs c).one ≡ falsified) ⊎ ((pair_at pairs c).other ≡ falsified) → IsSatisfied made (clause_of known c) = λ watches. ⊎_elim (λ h. h) (λ left. absurd (nothing_left left)) (passing c proper watches) in
    inr (record {
      differ = is.differ;
      one_named = is.one_named;
      other_named = is.other_named;
      one = λ h. ⊎_elim is.one (λ same. passed (inl (back (pair_at pairs c).one same))) (Contains-push_cases done l (neg_ℤ (pair_at pairs c).one) h);
      other = λ h. ⊎_elim is.other (λ same. passed (inr (back (pair_at pairs c).other same))) (Contains-push_cases done l (neg_ℤ (pair_at pairs c).other) h);
    }))
    (guarded c within)
  where
    nothing_left : ¬ Contains (drop i (list_of lists falsified)) c
    nothing_left left = omega (arith, length-drop i (list_of lists falsified), left.1, end)

-- a watch moves to a literal that is not false
pub rewatch_guarded : (known : List (List ℤ)) (pairs : List Pair) (n : ℕ) (pair : Pair) (falsified : ℤ) (done made : List ℤ) → length pairs ≡ length known → IsChange pairs n falsified pair → Contains (clause_of known n) pair.one → ¬ Contains done (neg_ℤ pair.one) → AreGuarded known pairs done made → AreGuarded known (set pairs n pair) done made
rewatch_guarded known pairs n pair falsified done made counted change named free guarded c within = ⊎_elim
    (λ (same : n ≡ c).
    let there : n < length pairs = omega (arith, same, within, counted) in
    let here : pair_at (set pairs n pair) c ≡ pair = ap (λ k. pair_at (set pairs n pair) k) (sym same) ∙ pair_set_here pairs n pair there in
    rw here (subst (λ k. IsGuarded (clause_of known k) pair done made) same (at_n (omega (arith, same, within)))))
    (λ away. rw (pair_set pairs n pair c away) (guarded c within))
    (cases_eq n c)
  where
    at_n : n < length known → IsGuarded (clause_of known n) pair done made
    at_n inside = ⊎_elim inl
        (λ is. inr (record {
          differ = change.differ;
          one_named = named;
          other_named = ⊎_elim
              (λ (same : pair.other ≡ (pair_at pairs n).one). subst (Contains (clause_of known n)) (sym same) is.one_named)
              (λ (same : pair.other ≡ (pair_at pairs n).other). subst (Contains (clause_of known n)) (sym same) is.other_named)
              change.stays;
          one = λ h. absurd (free h);
          other = λ h. ⊎_elim
              (λ (same : pair.other ≡ (pair_at pairs n).one). is.one (subst (λ l. Contains done (neg_ℤ l)) same h))
              (λ (same : pair.other ≡ (pair_at pairs n).other). is.other (subst (λ l. Contains done (neg_ℤ l)) same h))
              change.stays;
        }))
        (guarded n inside)
