-- The lists of clauses, as numbers come and go.
use Rattle.std.proofs.Common.{◌≡◌, ◌≢◌, ◌⊎◌, inl, ⊎_elim, ℕ, ℤ, pos, negsuc, ◌+◌, ◌-◌, ◌*◌, ◌<◌, ◌≤◌, List, [], ◌∷◌, ◌++◌, length, drop, set, get_or, All, Contains, refl, sym, ◌∙◌, ap, subst, arith, length-set, get_or-set_same, get_or-set_other, length-drop}
use Rattle.std.proofs.lemmas.Bool.{cases_lt, cases_eq}
use Rattle.std.proofs.lemmas.List.{get_or_append_left, get_or_push, get_or_default, get_or_past, get_or-drop, length_push}
use Rattle.std.proofs.lemmas.List.Elements.{All-push, All-set, All-get_or, Contains-get_or, Contains-push, Contains-push_cases, Contains-append_left}
use Rattle.rup_check.specs.Trail.{IsWithin}
use Rattle.search_tables.specs.declared.watches.Pair.{Pair}
use Rattle.search_tables.specs.Entries.{IsRemoved, IsTakenOut, spot_of, list_of}
use Rattle.search_tables.specs.Watching.{no_pair, pair_at, IsProper, IsWatching, IsChange}

-- ---- one number more

pub pushed_cases : (lists : List (List ℕ)) (s n at c : ℕ) → s < length lists → Contains (get_or (set lists s (get_or lists s [] ++ n ∷ [])) at []) c → Contains (get_or lists at []) c ⊎ (n ≡ c)
pushed_cases lists s n at c inside here = ⊎_elim
    (λ (is : at ≡ s). Contains-push_cases (get_or lists at []) n c (subst (λ j. Contains (get_or lists j [] ++ n ∷ []) c) (sym is) (subst (λ ls. Contains ls c) (ap (λ j. get_or (set lists s (get_or lists s [] ++ n ∷ [])) j []) is ∙ get_or-set_same lists s (get_or lists s [] ++ n ∷ []) [] inside) here)))
    (λ away. inl (subst (λ ls. Contains ls c) (get_or-set_other lists s at (get_or lists s [] ++ n ∷ []) [] away) here))
    (cases_eq at s)

pub pushed_keeps : (lists : List (List ℕ)) (s n at c : ℕ) → s < length lists → Contains (get_or lists at []) c → Contains (get_or (set lists s (get_or lists s [] ++ n ∷ [])) at []) c
pushed_keeps lists s n at c inside here = ⊎_elim
    (λ (is : at ≡ s). subst (λ ls. Contains ls c) (sym (ap (λ j. get_or (set lists s (get_or lists s [] ++ n ∷ [])) j []) is ∙ get_or-set_same lists s (get_or lists s [] ++ n ∷ []) [] inside)) (Contains-append_left (get_or lists s []) (n ∷ []) c (subst (λ j. Contains (get_or lists j []) c) is here)))
    (λ away. subst (λ ls. Contains ls c) (sym (get_or-set_other lists s at (get_or lists s [] ++ n ∷ []) [] away)) here)
    (cases_eq at s)

pub pushed_here : (lists : List (List ℕ)) (s n : ℕ) → s < length lists → Contains (get_or (set lists s (get_or lists s [] ++ n ∷ [])) s []) n
pushed_here lists s n inside = subst (λ ls. Contains ls n) (sym (get_or-set_same lists s (get_or lists s [] ++ n ∷ []) [] inside)) (Contains-push (get_or lists s []) n)

-- ---- one number fewer

-- what is left was there
pub removed_from : (old : List ℕ) (i : ℕ) (new : List ℕ) (c : ℕ) → i < length old → IsRemoved old i new → Contains new c → Contains old c
removed_from old i new c inside removed here =
    let k = here.0 in
    let shorter = removed.shorter in
    let is : get_or new k 0 ≡ c = get_or_default new k 0 c here.1 ∙ here.2 in
    ⊎_elim
    (λ (same : k ≡ i).
    let last : length old - 1 < length old = omega arith in
    (length old - 1, last, get_or_default old (length old - 1) c 0 last ∙ sym (removed.here (omega (arith, shorter, here.1, same))) ∙ sym (ap (λ j. get_or new j 0) same) ∙ is))
    (λ away.
    let within : k < length old = omega (arith, shorter, here.1) in
    (k, within, get_or_default old k c 0 within ∙ sym (removed.others k away (omega (arith, shorter, here.1))) ∙ is))
    (cases_eq k i)

-- and all others are left, none of them before `from`
pub removed_keeps : (old : List ℕ) (i : ℕ) (new : List ℕ) (from c : ℕ) → i < length old → from ≤ i → IsRemoved old i new → get_or old i 0 ≢ c → Contains (drop from old) c → Contains (drop from new) c
removed_keeps old i new from c inside early removed other here =
    let long = length-drop from old in
    let longer = length-drop from new in
    let shorter = removed.shorter in
    let j = from + here.0 in
    let within : j < length old = omega (arith, long, here.1) in
    let is : get_or old j 0 ≡ c = get_or_default old j 0 c within ∙ sym (get_or-drop from old here.0 c) ∙ here.2 in
    let away : j ≢ i = λ h. other (ap (λ k. get_or old k 0) (sym h) ∙ is) in
    ⊎_elim
    (λ before.
    let short : here.0 < length (drop from new) = omega (arith, longer, shorter, before) in
    let read : get_or (drop from new) here.0 c ≡ c = get_or-drop from new here.0 c ∙ get_or_default new j c 0 (omega (arith, shorter, before)) ∙ removed.others j away before ∙ is in
    (here.0, short, read))
    (λ last.
    let end : j ≡ length old - 1 = omega (arith, last, within) in
    let room : i + 1 < length old = omega (arith, end, inside, away) in
    let k = i - from in
    let at : from + k ≡ i = omega (arith, early) in
    let short : k < length (drop from new) = omega (arith, longer, shorter, room, at) in
    let read : get_or (drop from new) k c ≡ c = get_or-drop from new k c ∙ ap (λ q. get_or new q c) at ∙ get_or_default new i c 0 (omega (arith, shorter, room)) ∙ removed.here room ∙ ap (λ q. get_or old q 0) (sym end) ∙ is in
    (k, short, read))
    (cases_lt (j + 1) (length old))

-- ---- pairs

pub pair_push : (pairs : List Pair) (pair : Pair) (c : ℕ) → c < length pairs → pair_at (pairs ++ pair ∷ []) c ≡ pair_at pairs c
pair_push pairs pair c within = get_or_append_left pairs (pair ∷ []) no_pair c within

pub proper_push : (pairs : List Pair) (pair : Pair) (c : ℕ) → IsProper pairs c → IsProper (pairs ++ pair ∷ []) c
proper_push pairs pair c proper = record {
  there = omega (arith, length_push pairs pair, proper.there);
  differ = rw (pair_push pairs pair c proper.there) proper.differ;
}

pub spot_inside : (variables : ℕ) (l : ℤ) → IsWithin variables l → spot_of l < 2 * variables + 2
spot_inside variables (pos n) within = omega (arith, within.1)
spot_inside variables (negsuc n) within = omega (arith, within.1)

-- different literals have different lists
pub spots_differ : (l m : ℤ) → l ≢ m → spot_of l ≢ spot_of m
spots_differ (pos n) (pos k) differ same = differ (ap pos (omega (arith, same)))
spots_differ (pos n) (negsuc k) differ same = omega (arith, same)
spots_differ (negsuc n) (pos k) differ same = omega (arith, same)
spots_differ (negsuc n) (negsuc k) differ same = differ (ap negsuc (omega (arith, same)))

-- no clause is watched yet
pub IsWatching-none : (variables : ℕ) (lists : List (List ℕ)) → length lists ≡ 2 * variables + 2 → All (λ list. list ≡ []) lists → IsWatching variables [] lists
IsWatching-none variables lists sized empty = record {
  sized = sized;
  within = λ k d h. absurd (omega (arith, h));
  entries = λ at c here. absurd (none at c here);
  listed_one = λ c proper. absurd (omega (arith, proper.there));
  listed_other = λ c proper. absurd (omega (arith, proper.there));
}
  where
    nothing : (list : List ℕ) (c : ℕ) → list ≡ [] → ¬ Contains list c
    nothing list c is here = let none : ¬ Contains [] c = λ h. omega (arith, h.1) in none (subst (λ ls. Contains ls c) is here)

    none : (at c : ℕ) → ¬ Contains (get_or lists at []) c
    none at c here = ⊎_elim
        (λ inside. nothing (get_or lists at []) c (empty at [] inside) here)
        (λ outside. nothing (get_or lists at []) c (get_or_past lists at [] outside) here)
        (cases_lt at (length lists))

-- a clause of one literal
pub IsWatching-single : (variables : ℕ) (pairs : List Pair) (lists : List (List ℕ)) (pair : Pair) → pair.one ≡ pair.other → IsWithin variables pair.one → IsWithin variables pair.other → IsWatching variables pairs lists → IsWatching variables (pairs ++ pair ∷ []) lists
IsWatching-single variables pairs lists pair same first second watching = record {
  sized = watching.sized;
  within = All-push (λ (p : Pair). IsWithin variables p.one × IsWithin variables p.other) pairs pair watching.within (first, second);
  entries = λ at c here. proper_push pairs pair c (watching.entries at c here);
  listed_one = λ c proper. let old = was c proper in rw (pair_push pairs pair c old.there) (watching.listed_one c old);
  listed_other = λ c proper. let old = was c proper in rw (pair_push pairs pair c old.there) (watching.listed_other c old);
}
  where
    was : (c : ℕ) → IsProper (pairs ++ pair ∷ []) c → IsProper pairs c
    was c proper = ⊎_elim
        (λ before. record { there = before; differ = rw (pair_push pairs pair c before) at proper.differ })
        (λ last.
        let here : length pairs ≡ c = omega (arith, length_push pairs pair, proper.there, last) in
        let is : pair_at (pairs ++ pair ∷ []) c ≡ pair = get_or_push pairs pair no_pair c here in
        absurd (proper.differ (ap (λ (p : Pair). p.one) is ∙ same ∙ sym (ap (λ (p : Pair). p.other) is))))
        (cases_lt c (length pairs))

abbrev with_entry : List (List ℕ) → ℕ → ℕ → List (List ℕ)
with_entry lists s n = set lists s (get_or lists s [] ++ n ∷ [])

-- a clause of two literals, and more
pub IsWatching-add : (variables : ℕ) (pairs : List Pair) (lists : List (List ℕ)) (pair : Pair) → pair.one ≢ pair.other → IsWithin variables pair.one → IsWithin variables pair.other → IsWatching variables pairs lists → IsWatching variables (pairs ++ pair ∷ []) (set (set lists (spot_of pair.one) (list_of lists pair.one ++ length pairs ∷ [])) (spot_of pair.other) (list_of (set lists (spot_of pair.one) (list_of lists pair.one ++ length pairs ∷ [])) pair.other ++ length pairs ∷ []))
IsWatching-add variables pairs lists pair differ first second watching =
    let n = length pairs in
    let s = spot_of pair.one in
    let t = spot_of pair.other in
    let middle = with_entry lists s n in
    let final = with_entry middle t n in
    let sized : length middle ≡ length lists = length-set lists s (get_or lists s [] ++ n ∷ []) in
    let sized_too : length final ≡ length middle = length-set middle t (get_or middle t [] ++ n ∷ []) in
    let inside : s < length lists = omega (arith, spot_inside variables pair.one first, watching.sized) in
    let within : t < length middle = omega (arith, spot_inside variables pair.other second, watching.sized, sized) in
    let new : IsProper (pairs ++ pair ∷ []) n = record {
      there = omega (arith, length_push pairs pair);
      differ = rw (get_or_push pairs pair no_pair n refl) differ;
    } in
    let keeps : (at c : ℕ) → Contains (get_or lists at []) c → Contains (get_or final at []) c = λ at c here. pushed_keeps middle t n at c within (pushed_keeps lists s n at c inside here) in
    record {
      sized = sized_too ∙ sized ∙ watching.sized;
      within = All-push (λ (p : Pair). IsWithin variables p.one × IsWithin variables p.other) pairs pair watching.within (first, second);
      entries = λ at c here. ⊎_elim
          (λ before. ⊎_elim (λ old. proper_push pairs pair c (watching.entries at c old)) (λ (is : n ≡ c). subst (IsProper (pairs ++ pair ∷ [])) is new) (pushed_cases lists s n at c inside before))
          (λ (is : n ≡ c). subst (IsProper (pairs ++ pair ∷ [])) is new)
          (pushed_cases middle t n at c within here);
      listed_one = λ c proper. ⊎_elim
          (λ before. let old : IsProper pairs c = record { there = before; differ = rw (pair_push pairs pair c before) at proper.differ } in
          rw (pair_push pairs pair c before) (keeps (spot_of (pair_at pairs c).one) c (watching.listed_one c old)))
          (λ last.
          let here : n ≡ c = omega (arith, length_push pairs pair, proper.there, last) in
          rw (get_or_push pairs pair no_pair c here) (subst (Contains (get_or final s [])) here (pushed_keeps middle t n s n within (pushed_here lists s n inside))))
          (cases_lt c n);
      listed_other = λ c proper. ⊎_elim
          (λ before. let old : IsProper pairs c = record { there = before; differ = rw (pair_push pairs pair c before) at proper.differ } in
          rw (pair_push pairs pair c before) (keeps (spot_of (pair_at pairs c).other) c (watching.listed_other c old)))
          (λ last.
          let here : n ≡ c = omega (arith, length_push pairs pair, proper.there, last) in
          rw (get_or_push pairs pair no_pair c here) (subst (Contains (get_or final t [])) here (pushed_here middle t n within)))
          (cases_lt c n);
    }

-- ---- a clause that watches another literal

pub pair_set : (pairs : List Pair) (n : ℕ) (pair : Pair) (c : ℕ) → n ≢ c → pair_at (set pairs n pair) c ≡ pair_at pairs c
pair_set pairs n pair c away = get_or-set_other pairs n c pair no_pair (λ h. away (sym h))

pub pair_set_here : (pairs : List Pair) (n : ℕ) (pair : Pair) → n < length pairs → pair_at (set pairs n pair) n ≡ pair
pair_set_here pairs n pair within = get_or-set_same pairs n pair no_pair within

-- another clause is proper as before
pub proper_set : (pairs : List Pair) (n : ℕ) (pair : Pair) (c : ℕ) → n ≢ c → IsProper (set pairs n pair) c → IsProper pairs c
proper_set pairs n pair c away proper = record {
  there = omega (arith, length-set pairs n pair, proper.there);
  differ = rw (pair_set pairs n pair c away) at proper.differ;
}

proper_kept : (pairs : List Pair) (n : ℕ) (pair : Pair) (c : ℕ) → pair.one ≢ pair.other → IsProper pairs c → IsProper (set pairs n pair) c
proper_kept pairs n pair c differ proper = record {
  there = omega (arith, length-set pairs n pair, proper.there);
  differ = ⊎_elim
      (λ (is : n ≡ c). let here : pair_at (set pairs n pair) c ≡ pair = ap (λ k. pair_at (set pairs k pair) c) is ∙ pair_set_here pairs c pair proper.there in rw here differ)
      (λ away. rw (pair_set pairs n pair c away) proper.differ)
      (cases_eq n c);
}

taken_from : (old : List (List ℕ)) (s i : ℕ) (list : List ℕ) (at c : ℕ) → s < length old → i < length (get_or old s []) → IsRemoved (get_or old s []) i list → Contains (get_or (set old s list) at []) c → Contains (get_or old at []) c
taken_from old s i list at c inside within removed here = ⊎_elim
    (λ (is : at ≡ s). subst (λ j. Contains (get_or old j []) c) (sym is) (removed_from (get_or old s []) i list c within removed (subst (λ ls. Contains ls c) (ap (λ j. get_or (set old s list) j []) is ∙ get_or-set_same old s list [] inside) here)))
    (λ away. subst (λ ls. Contains ls c) (get_or-set_other old s at list [] away) here)
    (cases_eq at s)

taken_keeps : (old : List (List ℕ)) (s i : ℕ) (list : List ℕ) (at c : ℕ) → s < length old → i < length (get_or old s []) → IsRemoved (get_or old s []) i list → get_or (get_or old s []) i 0 ≢ c → Contains (get_or old at []) c → Contains (get_or (set old s list) at []) c
taken_keeps old s i list at c inside within removed other here = ⊎_elim
    (λ (is : at ≡ s).
    let old_here : Contains (get_or old s []) c = subst (λ j. Contains (get_or old j []) c) is here in
    let new_here : Contains list c = removed_keeps (get_or old s []) i list 0 c within (omega arith) removed other old_here in
    subst (λ ls. Contains ls c) (sym (ap (λ j. get_or (set old s list) j []) is ∙ get_or-set_same old s list [] inside)) new_here)
    (λ away. subst (λ ls. Contains ls c) (sym (get_or-set_other old s at list [] away)) here)
    (cases_eq at s)

-- the lists after a change
pub record Moved (variables : ℕ) (pairs : List Pair) (lists : List (List ℕ)) (falsified : ℤ) (i : ℕ) (list : List ℕ) (pair : Pair) : Type 0 where
  pub falsified_within : IsWithin variables falsified
  pub one_within : IsWithin variables pair.one
  pub at : i < length (list_of lists falsified)
  pub removed : IsRemoved (list_of lists falsified) i list
  pub change : IsChange pairs (get_or (list_of lists falsified) i 0) falsified pair

pub IsWatching-move : (variables : ℕ) (pairs : List Pair) (lists : List (List ℕ)) (falsified : ℤ) (i n : ℕ) (list : List ℕ) (pair : Pair) → n ≡ get_or (list_of lists falsified) i 0 → Moved variables pairs lists falsified i list pair → IsWatching variables pairs lists → IsWatching variables (set pairs n pair) (set (set lists (spot_of falsified) list) (spot_of pair.one) (list_of (set lists (spot_of falsified) list) pair.one ++ n ∷ []))
IsWatching-move variables pairs lists falsified i n list pair is_n moved watching =
    let s = spot_of falsified in
    let t = spot_of pair.one in
    let middle = set lists s list in
    let final = with_entry middle t n in
    let sized : length middle ≡ length lists = length-set lists s list in
    let sized_too : length final ≡ length middle = length-set middle t (get_or middle t [] ++ n ∷ []) in
    let inside : s < length lists = omega (arith, spot_inside variables falsified moved.falsified_within, watching.sized) in
    let within : t < length middle = omega (arith, spot_inside variables pair.one moved.one_within, watching.sized, sized) in
    let listed : Contains (get_or lists s []) n = subst (Contains (get_or lists s [])) (sym is_n) (Contains-get_or (list_of lists falsified) i 0 moved.at) in
    let old : IsProper pairs n = watching.entries s n listed in
    let change : IsChange pairs n falsified pair = subst (λ k. IsChange pairs k falsified pair) (sym is_n) moved.change in
    let other_listed : Contains (list_of lists pair.other) n = ⊎_elim
    (λ (is : pair.other ≡ (pair_at pairs n).one). subst (λ l. Contains (list_of lists l) n) (sym is) (watching.listed_one n old))
    (λ (is : pair.other ≡ (pair_at pairs n).other). subst (λ l. Contains (list_of lists l) n) (sym is) (watching.listed_other n old))
    change.stays in
    let other_within = All-get_or (λ (p : Pair). IsWithin variables p.one × IsWithin variables p.other) pairs n no_pair old.there watching.within in
    let second : IsWithin variables pair.other = ⊎_elim
    (λ (is : pair.other ≡ (pair_at pairs n).one). subst (IsWithin variables) (sym is) other_within.0)
    (λ (is : pair.other ≡ (pair_at pairs n).other). subst (IsWithin variables) (sym is) other_within.1)
    change.stays in
    let keeps : (at c : ℕ) → n ≢ c → Contains (get_or lists at []) c → Contains (get_or final at []) c = λ at c away here.
    pushed_keeps middle t n at c within (taken_keeps lists s i list at c inside moved.at moved.removed (λ h. away (is_n ∙ h)) here) in
    let here : pair_at (set pairs n pair) n ≡ pair = pair_set_here pairs n pair old.there in
    record {
      sized = sized_too ∙ sized ∙ watching.sized;
      within = All-set (λ (p : Pair). IsWithin variables p.one × IsWithin variables p.other) pairs n pair (moved.one_within, second) watching.within;
      entries = λ at c among. ⊎_elim
          (λ before. proper_kept pairs n pair c change.differ (watching.entries at c (taken_from lists s i list at c inside moved.at moved.removed before)))
          (λ (is : n ≡ c). proper_kept pairs n pair c change.differ (subst (IsProper pairs) is old))
          (pushed_cases middle t n at c within among);
      listed_one = λ c proper. ⊎_elim
          (λ (is : n ≡ c). subst (λ k. Contains (list_of final (pair_at (set pairs n pair) k).one) k) is (rw here (pushed_here middle t n within)))
          (λ away. rw (pair_set pairs n pair c away) (keeps (spot_of (pair_at pairs c).one) c away (watching.listed_one c (proper_set pairs n pair c away proper))))
          (cases_eq n c);
      listed_other = λ c proper. ⊎_elim
          (λ (is : n ≡ c). subst (λ k. Contains (list_of final (pair_at (set pairs n pair) k).other) k) is
          (rw here (pushed_keeps middle t n (spot_of pair.other) n within (subst (λ ls. Contains ls n) (sym (get_or-set_other lists s (spot_of pair.other) list [] (spots_differ pair.other falsified change.other))) other_listed))))
          (λ away. rw (pair_set pairs n pair c away) (keeps (spot_of (pair_at pairs c).other) c away (watching.listed_other c (proper_set pairs n pair c away proper))))
          (cases_eq n c);
    }

-- the rest of the list after a change
pub rest_of_move : (variables : ℕ) (pairs : List Pair) (lists : List (List ℕ)) (falsified : ℤ) (i n : ℕ) (list : List ℕ) (pair : Pair) → n ≡ get_or (list_of lists falsified) i 0 → Moved variables pairs lists falsified i list pair → IsWatching variables pairs lists → list_of (set (set lists (spot_of falsified) list) (spot_of pair.one) (list_of (set lists (spot_of falsified) list) pair.one ++ n ∷ [])) falsified ≡ list
rest_of_move variables pairs lists falsified i n list pair is_n moved watching =
    let s = spot_of falsified in
    let middle = set lists s list in
    let inside : s < length lists = omega (arith, spot_inside variables falsified moved.falsified_within, watching.sized) in
    get_or-set_other middle (spot_of pair.one) s (list_of middle pair.one ++ n ∷ []) [] (λ h. spots_differ pair.one falsified moved.change.one (sym h)) ∙ get_or-set_same lists s list [] inside

-- what a change leaves
pub record Rewatched (variables : ℕ) (pairs : List Pair) (lists final : List (List ℕ)) (falsified : ℤ) (i n : ℕ) (pair : Pair) : Type 0 where
  pub there : n < length pairs
  pub watching : IsWatching variables (set pairs n pair) final
  pub shorter : length (list_of final falsified) + 1 ≡ length (list_of lists falsified)
  pub rest : (c : ℕ) → get_or (list_of lists falsified) i 0 ≢ c → Contains (drop i (list_of lists falsified)) c → Contains (drop i (list_of final falsified)) c

pub rewatched : (variables : ℕ) (pairs : List Pair) (lists middle final : List (List ℕ)) (falsified : ℤ) (i n : ℕ) (pair : Pair) → n ≡ get_or (list_of lists falsified) i 0 → IsWithin variables falsified → IsWithin variables pair.one → i < length (list_of lists falsified) → IsChange pairs (get_or (list_of lists falsified) i 0) falsified pair → IsTakenOut lists (spot_of falsified) i middle → final ≡ set middle (spot_of pair.one) (list_of middle pair.one ++ n ∷ []) → IsWatching variables pairs lists → Rewatched variables pairs lists final falsified i n pair
rewatched variables pairs lists middle final falsified i n pair is_n within one_within at change taken is watching =
    let list = taken.list in
    let moved : Moved variables pairs lists falsified i list pair = record { falsified_within = within; one_within = one_within; at = at; removed = taken.removed; change = change } in
    let made = set (set lists (spot_of falsified) list) (spot_of pair.one) (list_of (set lists (spot_of falsified) list) pair.one ++ n ∷ []) in
    let final_is : final ≡ made = is ∙ ap (λ m. set m (spot_of pair.one) (list_of m pair.one ++ n ∷ [])) taken.is in
    let rest_is : list_of made falsified ≡ list = rest_of_move variables pairs lists falsified i n list pair is_n moved watching in
    let rest_final : list_of final falsified ≡ list = ap (λ ls. list_of ls falsified) final_is ∙ rest_is in
    record {
      there = (watching.entries (spot_of falsified) n (subst (Contains (list_of lists falsified)) (sym is_n) (Contains-get_or (list_of lists falsified) i 0 at))).there;
      watching = subst (IsWatching variables (set pairs n pair)) (sym final_is) (IsWatching-move variables pairs lists falsified i n list pair is_n moved watching);
      shorter = ap (λ ls. length ls + 1) rest_final ∙ taken.removed.shorter;
      rest = λ c away here. subst (λ ls. Contains (drop i ls) c) (sym rest_final) (removed_keeps (list_of lists falsified) i list i c at (omega arith) taken.removed away here);
    }
