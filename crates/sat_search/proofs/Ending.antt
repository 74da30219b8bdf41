-- How a search begins and ends.
use Rattle.std.proofs.Common.{◌≡◌, ◌≢◌, ◌⊎◌, inl, inr, ⊎_elim, ℕ, zero, suc, ℤ, pos, negsuc, neg_ℤ, ◌+◌, ◌-◌, ◌^◌, ◌<◌, ◌≤◌, Bool, false, not, List, [], ◌∷◌, ◌++◌, length, map, take, get_or, unsigned_abs, Some, All, Contains, IsTrue, slice_get, refl, sym, ◌∙◌, ap, subst, arith, append-nil, add-one, length-append}
use Rattle.std.proofs.lemmas.Bool.{cases_lt, cases_Bool}
use Rattle.std.proofs.lemmas.List.{get_or_default, take-append-le, take_at, take_all, get_or_append_left, get_or_push, length_push}
use Rattle.std.proofs.lemmas.List.Elements.{All-nil, All-map, All-push, All-contains, All-from_get_or, Contains-get_or, Contains-push}
use Rattle.std.proofs.lemmas.List.Folds.{list_any_at}
use Rattle.cnf_form.specs.declared.log.LogLine.{LogLine}
use Rattle.cnf_form.specs.declared.log.Log.{Log}
use Rattle.cnf_form.specs.declared.cnf.Cnf.{Cnf}
use Rattle.cnf_form.specs.Literals.{IsLiteral, NamesOnce, IsClause, AreClauses, NamesUpTo}
use Rattle.cnf_form.specs.Truth.{literal_true, clause_true, Satisfies}
use Rattle.rup_check.specs.Follows.{Leads, Follows}
use Rattle.rup_check.specs.Closed.{IsClosed}
use Rattle.rup_check.specs.Accepted.{clauses_of, IsAccepted}
use Rattle.rup_check.specs.Worked.{IsWorked}
use Rattle.rup_check.specs.Trail.{IsWithin}
use Rattle.rup_check.proofs.Short.{worked_short, worked_closed}
use Rattle.sat_search.specs.declared.verdict.Verdict.{Verdict}
use Rattle.sat_search.specs.declared.verdict.Verdict.TheVariants.{Sat, Unsat, GaveUp}
use Rattle.sat_search.specs.Verdicts.{IsVerdict, IfGaveUp}
use Rattle.search_tables.specs.declared.watches.Pair.{Pair}
use Rattle.search_tables.specs.Trail.{Trail}
use Rattle.sat_search.specs.Sound.{IsSound}
use Rattle.search_tables.specs.Watching.{pair_at, no_pair, IsWatching, WatchesMore}
use Rattle.sat_search.specs.Guarded.{IsSatisfied, IsGuarded, clause_of, AreGuarded}
use Rattle.sat_search.specs.Working.{IsWorking}
use Rattle.sat_search.specs.Held.{IsHeld}
use Rattle.sat_search.specs.Totals.{IsTotal}
use Rattle.sat_search.specs.Loading.{IsLoading}
use Rattle.sat_search.specs.Assigning.{Assigns}
use Rattle.search_tables.proofs.Entering.{pair_push}
use Rattle.sat_search.proofs.Guarding.{apart_consistent, satisfied_more}
use Rattle.sat_search.proofs.Visiting.{grown, sound_implied, clause_is}
use Rattle.sat_search.proofs.Backjump.{at_line_before, at_line_last}

-- ---- clauses are taken in

loading_next : (cnf : Cnf) (trail new : Trail) (pairs : List Pair) (lists final : List (List ℕ)) (i : ℕ) (clause : List ℤ) (new_pairs : List Pair) → IsLoading cnf trail pairs lists i → slice_get cnf.clauses i ≡ Some clause → (more : WatchesMore cnf.variables clause pairs new_pairs final) → new.variables ≡ cnf.variables → IsSound cnf.clauses new [] → ((c : ℕ) → c < i → IsGuarded (clause_of cnf.clauses c) (pair_at pairs c) [] new.literals) → IsGuarded clause more.pair [] new.literals → IsLoading cnf new new_pairs final (i + 1)
loading_next cnf trail new pairs lists final i clause new_pairs loading at more variables sound before here = record {
  variables = variables;
  sound = sound;
  counted = ap length more.pushed ∙ length_push pairs more.pair ∙ ap (λ n. n + 1) loading.counted;
  watching = more.watching;
  guarded = λ c within. rw more.pushed (⊎_elim
      (λ early. rw (pair_push pairs more.pair c (omega (arith, early, loading.counted))) (before c early))
      (λ late.
      let is : i ≡ c = omega (arith, within, late) in
      let clause_c : clause_of cnf.clauses c ≡ clause = ap (clause_of cnf.clauses) (sym is) ∙ clause_is cnf.clauses i clause at in
      rw (clause_c, get_or_push pairs more.pair no_pair c (loading.counted ∙ is)) here)
      (cases_lt c i));
}

-- a clause of two literals, and more
pub loading_many : (cnf : Cnf) (trail : Trail) (pairs : List Pair) (lists final : List (List ℕ)) (i : ℕ) (clause : List ℤ) (new_pairs : List Pair) → IsLoading cnf trail pairs lists i → slice_get cnf.clauses i ≡ Some clause → NamesOnce clause → 1 < length clause → WatchesMore cnf.variables clause pairs new_pairs final → IsLoading cnf trail new_pairs final (i + 1)
loading_many cnf trail pairs lists final i clause new_pairs loading at once two more =
    let other = more.is.other two in
    loading_next cnf trail trail pairs lists final i clause new_pairs loading at more loading.variables loading.sound loading.guarded
    (inr (record {
      differ = λ same. once 0 1 (pos 0) (omega arith) two (ap unsigned_abs (sym more.is.one ∙ same ∙ other));
      one_named = subst (Contains clause) (sym more.is.one) (Contains-get_or clause 0 (pos 0) (omega (arith, two)));
      other_named = subst (Contains clause) (sym other) (Contains-get_or clause 1 (pos 0) two);
      one = λ h. absurd (omega (arith, h.1));
      other = λ h. absurd (omega (arith, h.1));
    }))

-- a clause of one literal that is true
pub loading_true : (cnf : Cnf) (trail : Trail) (pairs : List Pair) (lists final : List (List ℕ)) (i : ℕ) (clause : List ℤ) (new_pairs : List Pair) → IsLoading cnf trail pairs lists i → slice_get cnf.clauses i ≡ Some clause → 0 < length clause → WatchesMore cnf.variables clause pairs new_pairs final → Contains trail.literals (get_or clause 0 (pos 0)) → IsLoading cnf trail new_pairs final (i + 1)
loading_true cnf trail pairs lists final i clause new_pairs loading at some more holds =
    loading_next cnf trail trail pairs lists final i clause new_pairs loading at more loading.variables loading.sound loading.guarded
    (inl (record { literal = get_or clause 0 (pos 0); named = Contains-get_or clause 0 (pos 0) some; holds = holds }))

-- a clause of one literal that is open
pub loading_push : (cnf : Cnf) (trail : Trail) (pairs : List Pair) (lists final : List (List ℕ)) (i : ℕ) (clause : List ℤ) (new_pairs : List Pair) → IsLoading cnf trail pairs lists i → slice_get cnf.clauses i ≡ Some clause → length clause ≡ 1 → All (IsWithin cnf.variables) clause → WatchesMore cnf.variables clause pairs new_pairs final → ¬ Contains trail.literals (get_or clause 0 (pos 0)) → ¬ Contains trail.literals (neg_ℤ (get_or clause 0 (pos 0))) → IsLoading cnf (grown trail (get_or clause 0 (pos 0)) (Some i)) new_pairs final (i + 1)
loading_push cnf trail pairs lists final i clause new_pairs loading at single within more not_true not_false =
    let l = get_or clause 0 (pos 0) in
    let named : Contains clause l = Contains-get_or clause 0 (pos 0) (omega (arith, single)) in
    let inside : IsWithin trail.variables l = subst (λ v. IsWithin v l) (sym loading.variables) (within 0 (pos 0) (omega (arith, single))) in
    let others : All (λ m. m ≢ l → Contains trail.literals (neg_ℤ m)) clause = λ k d h differ.
    let first : k ≡ 0 = omega (arith, h, single) in
    absurd (differ (ap (λ j. get_or clause j d) first ∙ get_or_default clause 0 d (pos 0) (omega (arith, single)))) in
    loading_next cnf trail (grown trail l (Some i)) pairs lists final i clause new_pairs loading at more loading.variables
    (sound_implied cnf.clauses trail [] l i clause loading.sound at named others inside not_true not_false)
    (λ c early. ⊎_elim
    (λ is. inl (satisfied_more trail.literals (clause_of cnf.clauses c) l is))
    (λ is. inr (record {
      differ = is.differ;
      one_named = is.one_named;
      other_named = is.other_named;
      one = λ h. satisfied_more trail.literals (clause_of cnf.clauses c) l (is.one h);
      other = λ h. satisfied_more trail.literals (clause_of cnf.clauses c) l (is.other h);
    }))
    (loading.guarded c early))
    (inl (record { literal = l; named = named; holds = Contains-push trail.literals l }))

-- all clauses are taken in
pub held_loaded : (cnf : Cnf) (table : List (List ℤ)) (trail : Trail) (pairs : List Pair) (lists : List (List ℕ)) → table ≡ cnf.clauses → IsLoading cnf trail pairs lists (length cnf.clauses) → IsHeld cnf [] table trail [] pairs lists 0
held_loaded cnf table trail pairs lists is loading =
    let known : cnf.clauses ++ [] ≡ cnf.clauses = append-nil cnf.clauses in
    record {
      working = record {
        few = omega arith;
        clauses = All-nil (λ (line : LogLine). IsClause line.clause);
        named = All-nil (λ (line : LogLine). NamesUpTo cnf.variables line.clause);
        follow = λ k h. absurd (omega (arith, h));
        teach = λ k h. absurd (omega (arith, h));
      };
      stored = is ∙ sym known;
      variables = loading.variables;
      sound = rw known loading.sound;
      counted = loading.counted ∙ sym (ap length known);
      watching = loading.watching;
      levels = All-nil (λ s. AreGuarded (clauses_of cnf []) pairs (take s trail.literals) (take s trail.literals));
      reached = omega arith;
      guarded = rw known loading.guarded;
    }

-- ---- the empty line

pub accepted_end : (cnf : Cnf) (lines : List LogLine) (log : Log) (line : LogLine) → IsWorking cnf lines → Leads (clauses_of cnf lines) [] line.hints → line.clause ≡ [] → log.lines ≡ lines ++ line ∷ [] → IsAccepted cnf log
accepted_end cnf lines log line working leads empty is = record {
  follow = λ k within. rw is (⊎_elim
      (λ before.
      rw (take-append-le k lines (line ∷ []) (omega arith))
      (at_line_before (λ l. Follows cnf.variables (clauses_of cnf (take k lines)) l) lines line k before (working.follow k before)))
      (λ last.
      let here : length lines ≡ k = omega (arith, rw is at within, length_push lines line, last) in
      rw (take_at lines (line ∷ []) k here)
      (at_line_last (λ l. Follows cnf.variables (clauses_of cnf lines) l) lines line k here (record { named = rw empty (All-nil (λ l. unsigned_abs l ≤ cnf.variables)); leads = rw empty leads })))
      (cases_lt k (length lines)));
  ends = rw is (at_line_last (λ l. l.clause ≡ []) lines line (length (lines ++ line ∷ []) - 1) (omega (arith, length_push lines line)) empty);
}

pub worked_end : (cnf : Cnf) (log : Log) (n : ℕ) → IsWorking cnf log.lines → length log.lines ≡ n → IsWorked cnf log n
worked_end cnf log n working count = record {
  count = count;
  follow = λ k h. working.follow k (omega (arith, h, count));
  teach = λ k h. working.teach k (omega (arith, h, count));
}

-- the clauses of the lines
pub line_clauses : (lines : List LogLine) → All (λ (line : LogLine). IsClause line.clause) lines → AreClauses (map (λ (line : LogLine). line.clause) lines)
line_clauses lines each = record { each = All-map IsClause (λ (line : LogLine). line.clause) lines each }

pub final_clauses : (lines final : List LogLine) → All (λ (line : LogLine). IsClause line.clause) lines → final ≡ lines → AreClauses (map (λ (line : LogLine). line.clause) final)
final_clauses lines final each is = rw is (line_clauses lines each)

-- the empty line is one more
pub refuted_clauses : (lines final : List LogLine) (line : LogLine) → All (λ (l : LogLine). IsClause l.clause) lines → line.clause ≡ [] → final ≡ lines ++ line ∷ [] → AreClauses (map (λ (l : LogLine). l.clause) final)
refuted_clauses lines final line each empty is =
    let none : IsClause [] = record { each = All-nil IsLiteral; once = λ i j d before h. absurd (omega (arith, h)) } in
    rw is (line_clauses (lines ++ line ∷ []) (All-push (λ (l : LogLine). IsClause l.clause) lines line each (rw empty none)))

-- a worked log is short
pub working_short : (cnf : Cnf) (log : Log) (n : ℕ) → IsWorking cnf log.lines → length log.lines ≡ n → n < 3 ^ cnf.variables
working_short cnf log n working count = worked_short cnf log n (line_clauses log.lines working.clauses) (worked_end cnf log n working count)

-- ---- an assignment of every variable

total_literal : (variables : ℕ) (literals : List ℤ) (l : ℤ) → IsTotal variables literals → IsWithin variables l → Contains literals l ⊎ Contains literals (neg_ℤ l)
total_literal variables literals (pos v) total within = total v within.0 within.1
total_literal variables literals (negsuc v) total within = ⊎_elim inr inl (total (suc v) (omega arith) (omega (arith, within.1)))

true_literal : (variables : ℕ) (literals : List ℤ) (values : List Bool) (l : ℤ) → ((m : ℤ) → Contains literals m → ¬ Contains literals (neg_ℤ m)) → Assigns variables literals values → IsWithin variables l → Contains literals l → IsTrue (literal_true values l)
true_literal variables literals values (pos zero) consistent assigns within here = absurd (omega (arith, within.0))
true_literal variables literals values (pos (suc n)) consistent assigns within here = (assigns.same n (omega (arith, within.1))).1 (rw add-one here)
true_literal variables literals values (negsuc n) consistent assigns within here = ⊎_elim
    (λ yes. absurd (consistent (negsuc n) here (rw add-one at ((assigns.same n (omega (arith, within.1))).0 yes))))
    (λ none. ap not none)
    (cases_Bool (get_or values n false))

-- where every variable is decided, every clause is satisfied
pub satisfied_all : (variables : ℕ) (known : List (List ℤ)) (pairs : List Pair) (lists : List (List ℕ)) (literals : List ℤ) (c : ℕ) → length pairs ≡ length known → IsWatching variables pairs lists → IsTotal variables literals → AreGuarded known pairs literals literals → c < length known → IsSatisfied literals (clause_of known c)
satisfied_all variables known pairs lists literals c counted watching total guarded within = ⊎_elim (λ is. is)
    (λ is. ⊎_elim (λ holds. record { literal = (pair_at pairs c).one; named = is.one_named; holds = holds }) is.one
    (total_literal variables literals (pair_at pairs c).one total (watching.within c no_pair (omega (arith, within, counted))).0))
    (guarded c within)

pub held_satisfies : (cnf : Cnf) (lines : List LogLine) (table : List (List ℤ)) (trail : Trail) (starts : List ℕ) (pairs : List Pair) (lists : List (List ℕ)) (head : ℕ) (values : List Bool) → IsHeld cnf lines table trail starts pairs lists head → head ≡ length trail.literals → IsTotal cnf.variables trail.literals → Assigns cnf.variables trail.literals values → Satisfies values cnf.clauses
held_satisfies cnf lines table trail starts pairs lists head values held done total assigns =
    let names : LogLine → List ℤ = λ line. line.clause in
    let known = clauses_of cnf lines in
    let literals = trail.literals in
    let whole : take head literals ≡ literals = take_all head literals (omega (arith, done)) in
    let guarded : AreGuarded known pairs literals literals = subst (λ ls. AreGuarded known pairs ls literals) whole held.guarded in
    All-from_get_or (λ clause. IsTrue (clause_true values clause)) cnf.clauses []
    (λ c within.
    let inside : c < length known = omega (arith, within, length-append cnf.clauses (map names lines)) in
    let is = satisfied_all cnf.variables known pairs lists literals c held.counted held.watching total guarded inside in
    let same : clause_of known c ≡ clause_of cnf.clauses c = get_or_append_left cnf.clauses (map names lines) [] c within in
    let named : Contains (clause_of cnf.clauses c) is.literal = subst (λ ls. Contains ls is.literal) same is.named in
    let in' : IsWithin cnf.variables is.literal = subst (λ v. IsWithin v is.literal) held.variables (All-contains (IsWithin trail.variables) literals is.literal held.sound.within is.holds) in
    let true' = true_literal cnf.variables literals values is.literal (apart_consistent trail.variables literals held.sound.apart held.sound.within) assigns in' is.holds in
    list_any_at (literal_true values) (clause_of cnf.clauses c) named.0 is.literal named.1 (subst (λ l. IsTrue (literal_true values l)) (sym named.2) true'))

-- one value more
pub Assigns-push : (n : ℕ) (literals : List ℤ) (values : List Bool) (b : Bool) → Assigns n literals values → (IsTrue b → Contains literals (pos (n + 1))) → (Contains literals (pos (n + 1)) → IsTrue b) → Assigns (n + 1) literals (values ++ b ∷ [])
Assigns-push n literals values b assigns to from = record {
  counted = length_push values b ∙ ap (λ k. k + 1) assigns.counted;
  same = λ v within. ⊎_elim
      (λ early. rw (get_or_append_left values (b ∷ []) false v (omega (arith, early, assigns.counted))) (assigns.same v early))
      (λ late.
      let is : n ≡ v = omega (arith, within, late) in
      rw (get_or_push values b false v (assigns.counted ∙ is)) (subst (λ k. (IsTrue b → Contains literals (pos (k + 1))) × (Contains literals (pos (k + 1)) → IsTrue b)) is (to, from)))
      (cases_lt v n);
}

pub Assigns-none : (literals : List ℤ) → Assigns 0 literals []
Assigns-none literals = record { counted = refl; same = λ v h. absurd (omega (arith, h)) }

-- nothing is taken in yet
pub loading_start : (cnf : Cnf) (trail : Trail) (pairs : List Pair) (lists : List (List ℕ)) → trail ≡ record { variables = cnf.variables; literals = []; reasons = [] } → pairs ≡ [] → IsWatching cnf.variables pairs lists → IsLoading cnf trail pairs lists 0
loading_start cnf trail pairs lists is none watching = record {
  variables = ap (λ (t : Trail). t.variables) is;
  sound = rw is (record {
    aligned = refl;
    apart = λ i j d before h. absurd (omega (arith, h));
    within = All-nil (IsWithin cnf.variables);
    supported = λ p h. absurd (omega (arith, h));
    rising = λ i j d before h. absurd (omega (arith, h));
    below = All-nil (λ s. s < 0);
  });
  counted = ap length none;
  watching = watching;
  guarded = λ c h. absurd (omega (arith, h));
}

pub lines_short : (cnf : Cnf) (lines : List LogLine) (n : ℕ) → IsWorking cnf lines → length lines ≡ n → n < 3 ^ cnf.variables
lines_short cnf lines n working count = working_short cnf (record { lines = lines; few = working.few; each = line_clauses lines working.clauses }) n working count

pub gave_up_closed : (cnf : Cnf) (limit : ℕ) (verdict : Verdict) → 0 < limit → IsVerdict cnf limit verdict → IfGaveUp verdict ((made : List ℤ) × IsClosed cnf.clauses made)
gave_up_closed cnf limit (Sat assignment) some is = tt
gave_up_closed cnf limit (Unsat log) some is = tt
gave_up_closed cnf limit (GaveUp log) some is = worked_closed cnf log limit some is
