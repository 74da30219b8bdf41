-- Clauses as numbers: the digits to base 3 say, of each variable, whether it is absent, plain or negated.
use Rattle.std.proofs.Common.{◌≡◌, ◌≢◌, ◌⊎◌, inl, inr, ⊎_elim, ℕ, zero, suc, ℤ, pos, negsuc, neg_ℤ, ◌+◌, ◌*◌, ◌^◌, ◌<◌, ◌≤◌, List, [], ◌∷◌, length, get_or, All, Contains, unsigned_abs, refl, sym, ◌∙◌, ap, subst, arith}
use Rattle.std.proofs.Math.Nat.{pow-succ'}
use Rattle.std.proofs.lemmas.Bool.{cases_order}
use Rattle.std.proofs.lemmas.List.{get_or_default}
use Rattle.std.proofs.lemmas.List.Elements.{Contains-get_or}
use Rattle.cnf_form.specs.Literals.{NamesOnce, IsClause, NamesUpTo}
use Rattle.rup_check.proofs.Cases.{int_cases}
use Rattle.rup_check.proofs.Values.{none_made, cons_cases}

contains_first : (x : ℤ) (xs : List ℤ) (l : ℤ) → x ≡ l → Contains (x ∷ xs) l
contains_first x xs l same = (0, omega arith, same)

contains_later : (x : ℤ) (xs : List ℤ) (l : ℤ) → Contains xs l → Contains (x ∷ xs) l
contains_later x xs l here = (suc here.0, omega (arith, here.1), here.2)

-- a list has a literal or has it not
pub contains_cases : (xs : List ℤ) (l : ℤ) → Contains xs l ⊎ (¬ Contains xs l)
contains_cases [] l = inr (none_made l)
contains_cases (x ∷ xs) l = ⊎_elim
    (λ same. inl (contains_first x xs l same))
    (λ differ. ⊎_elim (λ here. inl (contains_later x xs l here)) (λ missing. inr (λ here. ⊎_elim differ missing (cons_cases x xs l here))) (contains_cases xs l))
    (int_cases x l)

digit_of : {P Q : Type 0} → P ⊎ (¬ P) → Q ⊎ (¬ Q) → ℕ
digit_of (inl p) b = 1
digit_of (inr not_p) (inl q) = 2
digit_of (inr not_p) (inr none) = 0

digit_small : {P Q : Type 0} (a : P ⊎ (¬ P)) (b : Q ⊎ (¬ Q)) → digit_of a b < 3
unfolding digit_of
digit_small (inl p) b = omega arith
digit_small (inr not_p) (inl q) = omega arith
digit_small (inr not_p) (inr none) = omega arith

-- equal digits: the first one holds of both
digit_first : {P Q R S : Type 0} (a : P ⊎ (¬ P)) (b : Q ⊎ (¬ Q)) (c : R ⊎ (¬ R)) (d : S ⊎ (¬ S)) → digit_of a b ≡ digit_of c d → P → R
unfolding digit_of
digit_first (inr not_p) b c d same p = absurd (not_p p)
digit_first (inl p) b (inl r) d same holds = r
digit_first (inl p) b (inr not_r) (inl s) same holds = absurd (omega (arith, same))
digit_first (inl p) b (inr not_r) (inr none) same holds = absurd (omega (arith, same))

-- the second one does, where the first does not
digit_second : {P Q R S : Type 0} (a : P ⊎ (¬ P)) (b : Q ⊎ (¬ Q)) (c : R ⊎ (¬ R)) (d : S ⊎ (¬ S)) → digit_of a b ≡ digit_of c d → ¬ P → Q → S
unfolding digit_of
digit_second (inl p) b c d same fails q = absurd (fails p)
digit_second (inr none) (inr not_q) c d same fails q = absurd (not_q q)
digit_second (inr none) (inl q) (inl r) d same fails holds = absurd (omega (arith, same))
digit_second (inr none) (inl q) (inr not_r) (inl s) same fails holds = s
digit_second (inr none) (inl q) (inr not_r) (inr not_s) same fails holds = absurd (omega (arith, same))

abbrev digit : List ℤ → ℕ → ℕ
digit literals v = digit_of (contains_cases literals (pos v)) (contains_cases literals (neg_ℤ (pos v)))

-- the number of a clause over the variables from 1 to n
pub code : ℕ → List ℤ → ℕ
code zero literals = 0
code (suc n) literals = digit literals (suc n) + 3 * code n literals

pub code_small : (n : ℕ) (literals : List ℤ) → code n literals < 3 ^ n
unfolding code
code_small zero literals = omega arith
code_small (suc n) literals =
    let first = digit_small (contains_cases literals (pos (suc n))) (contains_cases literals (neg_ℤ (pos (suc n)))) in
    let rest = code_small n literals in
    rw (pow-succ' 3 n) (omega (arith, first, rest))

code_digits : (n : ℕ) (one other : List ℤ) → code n one ≡ code n other → (v : ℕ) → 0 < v → v ≤ n → digit one v ≡ digit other v
unfolding code
code_digits zero one other same v low high = absurd (omega arith)
code_digits (suc n) one other same v low high =
    let a = small one in
    let b = small other in
    let first : digit one (suc n) ≡ digit other (suc n) = omega (arith, same, a, b) in
    let rest : code n one ≡ code n other = omega (arith, same, a, b) in
    ⊎_elim (λ (here : v ≡ suc n). subst (λ w. digit one w ≡ digit other w) (sym here) first)
    (λ away. code_digits n one other rest v low (⊎_elim (λ below. omega (arith, below)) (λ above. absurd (omega (arith, above))) away))
    (cases_order v (suc n))
  where
    small : (literals : List ℤ) → digit literals (suc n) < 3
    small literals = digit_small (contains_cases literals (pos (suc n))) (contains_cases literals (neg_ℤ (pos (suc n))))

-- a clause has no literal beside its negation
apart : (literals : List ℤ) (l m : ℤ) → NamesOnce literals → l ≢ m → unsigned_abs l ≡ unsigned_abs m → Contains literals l → ¬ Contains literals m
apart literals l m once differ same here there =
    ⊎_elim
    (λ (at : here.0 ≡ there.0). differ (sym here.2 ∙ ap (λ k. get_or literals k l) at ∙ read there.0 there.1 ∙ there.2))
    (λ away. ⊎_elim
    (λ below. once here.0 there.0 l below there.1 (ap unsigned_abs here.2 ∙ same ∙ ap unsigned_abs (sym there.2 ∙ sym (read there.0 there.1))))
    (λ above. once there.0 here.0 l above here.1 (ap unsigned_abs (read there.0 there.1 ∙ there.2) ∙ sym same ∙ ap unsigned_abs (sym here.2)))
    away)
    (cases_order here.0 there.0)
  where
    read : (k : ℕ) → k < length literals → get_or literals k l ≡ get_or literals k m
    read k within = get_or_default literals k l m within

-- clauses of one number have the same literals
pub same_code : (n : ℕ) (one other : List ℤ) → IsClause one → NamesUpTo n one → code n one ≡ code n other → All (Contains other) one
same_code n one other clause named same k d within =
    let l = get_or one k d in
    literal l (clause.each k d within).0 (named k d within) (Contains-get_or one k d within)
  where
    literal : (l : ℤ) → 0 < unsigned_abs l → unsigned_abs l ≤ n → Contains one l → Contains other l
    literal (pos v) low high here =
        digit_first (contains_cases one (pos v)) (contains_cases one (neg_ℤ (pos v))) (contains_cases other (pos v)) (contains_cases other (neg_ℤ (pos v))) (code_digits n one other same v low high) here
    literal (negsuc v) low high here =
        digit_second (contains_cases one (pos (suc v))) (contains_cases one (neg_ℤ (pos (suc v)))) (contains_cases other (pos (suc v))) (contains_cases other (neg_ℤ (pos (suc v)))) (code_digits n one other same (suc v) (omega arith) (omega (arith, high)))
        (λ plain. apart one (pos (suc v)) (negsuc v) clause.once (λ h. cc) refl plain here) here
