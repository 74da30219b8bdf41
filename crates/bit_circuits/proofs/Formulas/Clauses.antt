-- The clauses of conditions are clauses of a formula.
use Rattle.std.proofs.Common.{◌≡◌, ◌≢◌, ◌⊎◌, inl, inr, ⊎_elim, ℕ, zero, suc, ◌+◌, ◌-◌, ◌*◌, ◌<◌, ◌≤◌, ℤ, pos, negsuc, neg_ℤ, Bool, true, false, not, ◌||◌, cond, List, [], ◌∷◌, ◌++◌, map, length, get_or, All, unsigned_abs, refl, sym, ap, ◌∙◌, subst, arith}
use Rattle.std.specs.List.{list_any, filter, AllByRecursion}
use Rattle.std.specs.Ordering.{int_eq}
use Rattle.std.proofs.lemmas.Bool.{or_parts, false≢true}
use Rattle.std.proofs.lemmas.Bool.Decides.{Decides-int_eq}
use Rattle.std.proofs.lemmas.List.Elements.{All-from_recursion, All-append}
use Rattle.cnf_form.specs.Literals.{most, IsLiteral, NamesOnce, IsClause, NamesUpTo}
use Rattle.cnf_form.specs.Forms.{IsFormula}
use Rattle.bv_term.specs.declared.op.Op.{Op}
use Rattle.bv_term.specs.Stores.{FitFrom}
use Rattle.bit_circuits.specs.declared.gate.Gate.{Gate}
use Rattle.bit_circuits.specs.Tidy.{has, once, has_both_signs, tidy_clauses}
use Rattle.bit_circuits.specs.Gates.{equality, gates_clauses}
use Rattle.bit_circuits.specs.Circuits.{number_after}
use Rattle.bit_circuits.specs.Words.{true_literal}
use Rattle.bit_circuits.specs.Formula.{first_of, bits_at, terms_wired, variables_of, clauses_of}
use Rattle.bit_circuits.proofs.Circuits.Building.{IsBelow, Below, operands, Scoped, IsBelow-later, Below-later, le-past}
use Rattle.bit_circuits.proofs.Formulas.Gating.{BelowAll, once-true, equality-below, variable-below}
use Rattle.bit_circuits.proofs.Construction.Running.{number_after-length}
use Rattle.bit_circuits.proofs.Formulas.Meaning.{gates-scoped, conditions-scoped}
use Rattle.plain_laws.proofs.Integers.{same_magnitude}

-- l is of another variable than each of these
abbrev Apart : ℤ → List ℤ → Type 0
Apart l ms = AllByRecursion (λ m. unsigned_abs l ≢ unsigned_abs m) ms

abbrev Once : List ℤ → Type 0
Once [] = Unit {0}
Once (l ∷ ls) = Apart l ls × Once ls

not_equal : (l m : ℤ) → int_eq l m ≡ false → l ≢ m
not_equal l m h e = false≢true (sym h ∙ (Decides-int_eq l m).1 e)

kept_step : (l m : ℤ) (b : Bool) (rest : List ℤ) → int_eq l m ≡ b → int_eq (neg_ℤ l) m ≡ false → Apart l rest → Apart l (cond (not b) (m ∷ rest) rest)
kept_step l m true rest is other h = h
kept_step l m false rest is other h = (λ e. ⊎_elim (not_equal l m is) (not_equal (neg_ℤ l) m other) (same_magnitude l m e), h)

kept : (l : ℤ) (ms : List ℤ) → has (neg_ℤ l) ms ≡ false → Apart l (filter (λ m. not (int_eq l m)) ms)
kept l [] h = tt
kept l (m ∷ ms) h =
    let parts = or_parts (int_eq (neg_ℤ l) m) (has (neg_ℤ l) ms) h in
    kept_step l m (int_eq l m) (filter (λ k. not (int_eq l k)) ms) refl parts.0 (kept l ms parts.1)

module _ (p : ℤ → Bool) where
  choice-apart : (l m : ℤ) (b : Bool) (rest : List ℤ) → (unsigned_abs l ≢ unsigned_abs m) → Apart l rest → Apart l (cond b (m ∷ rest) rest)
  choice-apart l m true rest h k = (h, k)
  choice-apart l m false rest h k = k

  Apart-filter : (l : ℤ) (ms : List ℤ) → Apart l ms → Apart l (filter p ms)
  Apart-filter l [] h = tt
  Apart-filter l (m ∷ ms) h = choice-apart l m (p m) (filter p ms) h.0 (Apart-filter l ms h.1)

  choice-once : (m : ℤ) (b : Bool) (rest : List ℤ) → Apart m rest → Once rest → Once (cond b (m ∷ rest) rest)
  choice-once m true rest h k = (h, k)
  choice-once m false rest h k = k

  Once-filter : (ms : List ℤ) → Once ms → Once (filter p ms)
  Once-filter [] h = tt
  Once-filter (m ∷ ms) h = choice-once m (p m) (filter p ms) (Apart-filter m ms h.0) (Once-filter ms h.1)

  choice-below : (n : ℕ) (m : ℤ) (b : Bool) (rest : List ℤ) → IsBelow n m → Below n rest → Below n (cond b (m ∷ rest) rest)
  choice-below n m true rest h k = (h, k)
  choice-below n m false rest h k = k

  Below-filter : (n : ℕ) (ms : List ℤ) → Below n ms → Below n (filter p ms)
  Below-filter n [] h = tt
  Below-filter n (m ∷ ms) h = choice-below n m (p m) (filter p ms) h.0 (Below-filter n ms h.1)

Below-once : (n : ℕ) (ls : List ℤ) → Below n ls → Below n (once ls)
Below-once n [] h = tt
Below-once n (l ∷ ls) h = (h.0, Below-filter (λ m. not (int_eq l m)) n (once ls) (Below-once n ls h.1))

once-once : (ls : List ℤ) → has_both_signs ls ≡ false → Once (once ls)
once-once [] h = tt
once-once (l ∷ ls) h =
    let parts = or_parts (has (neg_ℤ l) ls) (has_both_signs ls) h in
    (kept l (once ls) (once-true (int_eq (neg_ℤ l)) ls ∙ parts.0), Once-filter (λ m. not (int_eq l m)) (once ls) (once-once ls parts.1))

apart-at : (l : ℤ) (ms : List ℤ) → Apart l ms → (k : ℕ) (d : ℤ) → k < length ms → unsigned_abs l ≢ unsigned_abs (get_or ms k d)
apart-at l ms h = All-from_recursion (λ m. unsigned_abs l ≢ unsigned_abs m) ms h

names-once : (ls : List ℤ) → Once ls → NamesOnce ls
names-once [] h i j d lt within = absurd (omega arith)
names-once (l ∷ ls) h i zero d lt within = absurd (omega arith)
names-once (l ∷ ls) h zero (suc j) d lt within = apart-at l ls h.0 j d (omega arith)
names-once (l ∷ ls) h (suc i) (suc j) d lt within = names-once ls h.1 i j d (omega arith) (omega arith)

-- the clause that is left of some literals names no variable twice
pub once-named : (ls : List ℤ) → has_both_signs ls ≡ false → NamesOnce (once ls)
once-named ls h = names-once (once ls) (once-once ls h)

literals : (n : ℕ) (ls : List ℤ) → n ≤ most + 1 → Below n ls → AllByRecursion IsLiteral ls
literals n [] few h = tt
literals n (l ∷ ls) few h = ((h.0.some, omega (arith, h.0.below)), literals n ls few h.1)

named : (n : ℕ) (ls : List ℤ) → Below (suc n) ls → AllByRecursion (λ l. unsigned_abs l ≤ n) ls
named n [] h = tt
named n (l ∷ ls) h = (omega (arith, h.0.below), named n ls h.1)

-- a clause whose literals are of variables up to n
pub record IsClauseUpTo (n : ℕ) (ls : List ℤ) : Type 0 where
  pub clause : IsClause ls
  pub named : NamesUpTo n ls

pub once-clause : (n : ℕ) (ls : List ℤ) → n ≤ most → Below (suc n) ls → has_both_signs ls ≡ false → IsClauseUpTo n (once ls)
once-clause n ls few b h =
    let below = Below-once (suc n) ls b in
    record {
      clause = record { each = All-from_recursion IsLiteral (once ls) (literals (suc n) (once ls) (omega arith) below); once = once-named ls h };
      named = All-from_recursion (λ l. unsigned_abs l ≤ n) (once ls) (named n (once ls) below);
    }

tidy_clauses-choice : (n : ℕ) (b : Bool) (c : List ℤ) (rest : List (List ℤ)) → (b ≡ false → IsClauseUpTo n c) → AllByRecursion (IsClauseUpTo n) rest → AllByRecursion (IsClauseUpTo n) (cond b rest (c ∷ rest))
tidy_clauses-choice n true c rest f h = h
tidy_clauses-choice n false c rest f h = (f refl, h)

pub tidy_clauses-clauses : (n : ℕ) (cs : List (List ℤ)) → n ≤ most → BelowAll (suc n) cs → AllByRecursion (IsClauseUpTo n) (tidy_clauses cs)
tidy_clauses-clauses n [] few b = tt
tidy_clauses-clauses n (c ∷ cs) few b = tidy_clauses-choice n (has_both_signs c) (once c) (tidy_clauses cs) (once-clause n c few b.0) (tidy_clauses-clauses n cs few b.1)

BelowAll-later : (m n : ℕ) (cs : List (List ℤ)) → m ≤ n → BelowAll m cs → BelowAll n cs
BelowAll-later m n [] le h = tt
BelowAll-later m n (c ∷ cs) le h = (Below-later m n c le h.0, BelowAll-later m n cs le h.1)

append-clauses : (n : ℕ) (cs ds : List (List ℤ)) → AllByRecursion (IsClauseUpTo n) cs → AllByRecursion (IsClauseUpTo n) ds → AllByRecursion (IsClauseUpTo n) (cs ++ ds)
append-clauses n [] ds a b = b
append-clauses n (c ∷ cs) ds a b = (a.0, append-clauses n cs ds a.1 b)

pub gates-clauses : (k n : ℕ) (gs : List Gate) → n ≤ most → 0 < k → number_after k gs ≤ suc n → Scoped k gs → AllByRecursion (IsClauseUpTo n) (gates_clauses k gs)
gates-clauses k n [] few some le s = tt
gates-clauses k n (g ∷ gs) few some le s =
    let up : suc k ≤ suc n = omega (arith, le-past (suc k) gs, le) in
    let below : BelowAll (suc k) (equality (pos k) g) = equality-below (suc k) (pos k) g (variable-below k some) (Below-later k (suc k) (operands g) (omega arith) s.0) in
    append-clauses n (tidy_clauses (equality (pos k) g)) (gates_clauses (suc k) gs) (tidy_clauses-clauses n (equality (pos k) g) few (BelowAll-later (suc k) (suc n) (equality (pos k) g) up below)) (gates-clauses (suc k) n gs few (omega arith) le s.1)

both : (n : ℕ) (cs : List (List ℤ)) → AllByRecursion (IsClauseUpTo n) cs → AllByRecursion IsClause cs × AllByRecursion (NamesUpTo n) cs
both n [] h = (tt, tt)
both n (c ∷ cs) h = let rest = both n cs h.1 in ((h.0.clause, rest.0), (h.0.named, rest.1))

pub clauses-formula : (inputs : List Bool) (ops : List Op) (conditions : List ℕ) → FitFrom (length inputs) 0 ops → variables_of (length inputs) ops ≤ most → length (clauses_of (length inputs) ops conditions) ≤ most
    → IsFormula (variables_of (length inputs) ops) (clauses_of (length inputs) ops conditions)
unfolding clauses_of variables_of
clauses-formula inputs ops conditions over few few_clauses =
    let all = terms_wired (length inputs) ops in
    let n = 1 + 32 * length inputs + length all.gates in
    let size : number_after (first_of (length inputs)) all.gates ≡ suc n = number_after-length (first_of (length inputs)) all.gates ∙ omega arith in
    let first_clause : IsClauseUpTo n (once (true_literal ∷ [])) = once-clause n (true_literal ∷ []) few (record { some = omega arith; below = omega arith }, tt) refl in
    let rest : AllByRecursion (IsClauseUpTo n) (gates_clauses (first_of (length inputs)) all.gates ++ tidy_clauses (map (bits_at all.out) conditions)) =
    append-clauses n (gates_clauses (first_of (length inputs)) all.gates) (tidy_clauses (map (bits_at all.out) conditions))
    (gates-clauses (first_of (length inputs)) n all.gates few (omega arith) (omega (arith, size)) (gates-scoped inputs ops conditions over))
    (tidy_clauses-clauses n (map (bits_at all.out) conditions) few (subst (λ k. BelowAll k (map (bits_at all.out) conditions)) size (conditions-scoped inputs ops conditions over))) in
    let parts = both n (once (true_literal ∷ []) ∷ (gates_clauses (first_of (length inputs)) all.gates ++ tidy_clauses (map (bits_at all.out) conditions))) (first_clause, rest) in
    record {
      few_variables = few;
      few_clauses = few_clauses;
      each = All-from_recursion IsClause (clauses_of (length inputs) ops conditions) parts.0;
      named = All-from_recursion (NamesUpTo n) (clauses_of (length inputs) ops conditions) parts.1;
    }
