-- The clauses of a formula while they are read: one more literal, one more clause, and which numbers lead to a new variable.
use Rattle.std.proofs.Common.{◌≡◌, ◌≢◌, ℕ, ℤ, pos, suc, zero, ◌*◌, ◌^◌, ◌<◌, ◌≤◌, Bool, true, false, cond, ◌||◌, ◌⊎◌, ◌==◌, nat_eq, List, [], ◌∷◌, ◌++◌, length, get_or, map, unsigned_abs, refl, sym, ◌∙◌, ap, arith, append_assoc, length-append, eq-eqb, inl, inr}
use Rattle.std.specs.List.{list_any}
use Rattle.std.specs.Fmt.{signed_decimal}
use Rattle.std.proofs.Math.Nat.{one-le-pow, mul-le-mul_left}
use Rattle.std.proofs.lemmas.Bool.{false≢true}
use Rattle.std.proofs.lemmas.Fmt.{signed_decimal_injective}
use Rattle.std.proofs.lemmas.List.{append-nil, map-append}
use Rattle.std.proofs.lemmas.List.Concat.{flat_map-append}
use Rattle.std.proofs.lemmas.List.Folds.{list_any-append, list_any_at}
use Rattle.std.proofs.lemmas.List.Elements.{All-nil, All-push}
use Rattle.std.proofs.lemmas.List.Quantifiers.{all_pairs_push}
use Rattle.cnf_form.specs.Literals.{most, IsLiteral, IsClause, NamesUpTo}
use Rattle.cnf_form.specs.Forms.{numbers_of}
use Rattle.cnf_form.specs.Reading.{IsUnnamed, IsNew, IsFront, front_words, GoesOnBy, LeadsToNew, LeadsAtOnce}
use Rattle.cnf_form.proofs.Formulas.OneFormula.{small_mag}
use Rattle.plain_laws.proofs.Numbers.{shift_decimal}

pub empty_clause : IsClause []
empty_clause = record { each = All-nil IsLiteral; once = λ i j d less within. absurd (omega (arith, within)) }

-- the clause has ended
pub ended : (variables count : ℕ) (clauses : List (List ℤ)) (literals : List ℤ) → IsFront variables count clauses literals → length clauses < count → IsFront variables count (clauses ++ literals ∷ []) []
ended variables count clauses literals front room = record {
  few_variables = front.few_variables;
  few_clauses = front.few_clauses;
  within = omega (arith, length-append clauses (literals ∷ []));
  each = record { each = All-push IsClause clauses literals front.each.each front.clause };
  named = All-push (NamesUpTo variables) clauses literals front.named front.up_to;
  clause = empty_clause;
  up_to = All-nil (λ l. unsigned_abs l ≤ variables);
  ended = λ full. refl;
}

pub ended_words : (clauses : List (List ℤ)) (literals : List ℤ) → front_words (clauses ++ literals ∷ []) [] ≡ front_words clauses literals ++ signed_decimal (pos 0) ∷ []
unfolding front_words
ended_words clauses literals =
    ap (map signed_decimal) (ap (λ ns. ns ++ []) (flat_map-append (λ literals. literals ++ pos 0 ∷ []) clauses (literals ∷ []) ∙ ap (λ ns. numbers_of clauses ++ ns) (append-nil (literals ++ pos 0 ∷ []))) ∙ append-nil (numbers_of clauses ++ (literals ++ pos 0 ∷ [])) ∙ sym (append_assoc (numbers_of clauses) literals (pos 0 ∷ [])))
    ∙ map-append signed_decimal (numbers_of clauses ++ literals) (pos 0 ∷ [])

-- a literal that is not of the variable
pub other_variable : (literals : List ℤ) (number : ℤ) (k : ℕ) (d : ℤ) → IsUnnamed literals (unsigned_abs number) → k < length literals → unsigned_abs (get_or literals k d) ≢ unsigned_abs number
other_variable literals number k d unnamed within same =
    false≢true (sym unnamed ∙ list_any_at (λ l. unsigned_abs l == unsigned_abs number) literals k d within (eq-eqb (unsigned_abs (get_or literals k d)) (unsigned_abs number) same))

-- one more literal
pub longer : (variables count : ℕ) (clauses : List (List ℤ)) (literals : List ℤ) (number : ℤ) → IsFront variables count clauses literals → length clauses < count → IsNew variables literals number → IsFront variables count clauses (literals ++ number ∷ [])
longer variables count clauses literals number front room new = record {
  few_variables = front.few_variables;
  few_clauses = front.few_clauses;
  within = front.within;
  each = front.each;
  named = front.named;
  clause = record {
    each = All-push IsLiteral literals number front.clause.each new.literal;
    once = all_pairs_push (λ (one other : ℤ). unsigned_abs one ≡ unsigned_abs other → ⊥) literals number front.clause.once (λ k d within. other_variable literals number k d new.unnamed within);
  };
  up_to = All-push (λ l. unsigned_abs l ≤ variables) literals number front.up_to new.up_to;
  ended = λ full. absurd (omega (arith, full, room));
}

pub longer_words : (clauses : List (List ℤ)) (literals : List ℤ) (number : ℤ) → front_words clauses (literals ++ number ∷ []) ≡ front_words clauses literals ++ signed_decimal number ∷ []
unfolding front_words
longer_words clauses literals number = ap (map signed_decimal) (sym (append_assoc (numbers_of clauses) literals (number ∷ []))) ∙ map-append signed_decimal (numbers_of clauses ++ literals) (number ∷ [])

-- the names of one more literal
pub named_more : (literals : List ℤ) (number : ℤ) (n v : ℕ) (had : Bool) → n ≡ unsigned_abs number → had ≡ list_any (λ l. unsigned_abs l == v) literals
    → cond (nat_eq n v) true had ≡ list_any (λ l. unsigned_abs l == v) (literals ++ number ∷ [])
named_more literals number n v had same is = by_test (nat_eq (unsigned_abs number) v) had (ap (λ m. nat_eq m v) same) is ∙ sym (list_any-append (λ l. unsigned_abs l == v) literals (number ∷ []))
  where
    by_test : (one had : Bool) → nat_eq n v ≡ one → had ≡ list_any (λ l. unsigned_abs l == v) literals → cond (nat_eq n v) true had ≡ (list_any (λ l. unsigned_abs l == v) literals || (one || false))
    by_test true true e h = rw (e, ← h) refl
    by_test true false e h = rw (e, ← h) refl
    by_test false true e h = rw (e, ← h) refl
    by_test false false e h = rw (e, ← h) refl

-- a word with which they do not go on
pub not_new : (variables count : ℕ) (clauses : List (List ℤ)) (literals : List ℤ) (word : List ℕ) (read number : ℤ) → unsigned_abs read ≤ most → word ≡ signed_decimal read → read ≢ pos 0
    → ¬ ((unsigned_abs read ≤ variables) × IsUnnamed literals (unsigned_abs read)) → ¬ GoesOnBy variables count clauses literals word number
not_new variables count clauses literals word read number small written some stale goes = by_case goes.fits
  where
    is : unsigned_abs number ≤ most → read ≡ number
    is few = signed_decimal_injective read number (small_mag read small) (small_mag number few) (sym written ∙ goes.written)

    by_case : (number ≡ pos 0) ⊎ IsNew variables literals number → ⊥
    by_case (inl zero_is) = some (is (rw zero_is (omega arith)) ∙ zero_is)
    by_case (inr new) = let same = is new.literal.1 in stale (rw same (new.up_to, new.unnamed))

-- ---- numbers that lead to a new variable

pub leads_on : (variables : ℕ) (literals : List ℤ) (low past : ℕ) → LeadsToNew variables literals low past → ¬ LeadsAtOnce variables literals low past → LeadsToNew variables literals (low * 10) (past * 10)
leads_on variables literals low past leads none = by_digits leads.digits leads.from leads.below
  where
    by_digits : (k : ℕ) → low * 10 ^ k ≤ leads.variable → leads.variable < past * 10 ^ k → LeadsToNew variables literals (low * 10) (past * 10)
    by_digits zero from below = absurd (none (record { variable = leads.variable; from = omega arith; below = omega arith; up_to = leads.up_to; unnamed = leads.unnamed }))
    by_digits (suc k) from below = record { digits = k; variable = leads.variable; from = omega (arith, shift_decimal low k); below = omega (arith, shift_decimal past k); up_to = leads.up_to; unnamed = leads.unnamed }

pub leads_back : (variables : ℕ) (literals : List ℤ) (low past : ℕ) → LeadsToNew variables literals (low * 10) (past * 10) → LeadsToNew variables literals low past
leads_back variables literals low past leads = record { digits = suc leads.digits; variable = leads.variable; from = omega (arith, shift_decimal low leads.digits, leads.from); below = omega (arith, shift_decimal past leads.digits, leads.below); up_to = leads.up_to; unnamed = leads.unnamed }

pub leads_nowhere : (variables : ℕ) (literals : List ℤ) (low past : ℕ) → variables < low → ¬ LeadsToNew variables literals low past
leads_nowhere variables literals low past above leads =
    let power = one-le-pow leads.digits 10 (omega arith) in
    let more : low * 1 ≤ low * 10 ^ leads.digits = mul-le-mul_left low power in
    omega (arith, leads.from, leads.up_to)

pub leads_at_once : (variables : ℕ) (literals : List ℤ) (low past : ℕ) → LeadsAtOnce variables literals low past → LeadsToNew variables literals low past
leads_at_once variables literals low past leads = record { digits = 0; variable = leads.variable; from = omega (arith, leads.from); below = omega (arith, leads.below); up_to = leads.up_to; unnamed = leads.unnamed }
