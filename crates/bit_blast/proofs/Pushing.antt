-- Clauses that are written one after the other.
use Rattle.std.proofs.Common.{◌≡◌, ℕ, zero, suc, ◌+◌, ◌<◌, ◌≤◌, ℤ, pos, Bool, true, false, if◌then◌else◌, List, [], ◌∷◌, ◌++◌, map, length, get_or, take, drop, slice_get, Option, Some, Result, Ok, Err, OnOk, refl, sym, ap, ◌∙◌, subst, append_assoc, arith}
use Rattle.bit_circuits.specs.Tidy.{once, has_both_signs, tidy_clauses}

tidy_clauses-more : (c : List ℤ) (cs : List (List ℤ)) → tidy_clauses (c ∷ cs) ≡ tidy_clauses (c ∷ []) ++ tidy_clauses cs
tidy_clauses-more c cs = by_signs (has_both_signs c)
  where
    by_signs : (b : Bool) → (if b then tidy_clauses cs else once c ∷ tidy_clauses cs) ≡ (if b then [] else once c ∷ []) ++ tidy_clauses cs
    by_signs true = refl
    by_signs false = refl

-- one clause, and then others
pub pushed : (old mid new : List (List ℤ)) (c : List ℤ) (cs : List (List ℤ)) → mid ≡ old ++ tidy_clauses (c ∷ []) → new ≡ mid ++ tidy_clauses cs → new ≡ old ++ tidy_clauses (c ∷ cs)
pushed old mid new c cs e f =
    f ∙ (ap (λ l. l ++ tidy_clauses cs) e ∙ (append_assoc old (tidy_clauses (c ∷ [])) (tidy_clauses cs) ∙ ap (λ l. old ++ l) (sym (tidy_clauses-more c cs))))

-- the same clause by equal literals
pub same-clause : (s0 s1 : List (List ℤ)) (c d : List ℤ) → d ≡ c → s1 ≡ s0 ++ tidy_clauses (d ∷ []) → s1 ≡ s0 ++ tidy_clauses (c ∷ [])
same-clause s0 s1 c d p e = e ∙ ap (λ k. s0 ++ tidy_clauses (k ∷ [])) p

pub two-same : {a b x y : ℤ} → a ≡ x → b ≡ y → (a ∷ b ∷ []) ≡ (x ∷ y ∷ [])
two-same p q = cc

pub three-same : {a b c x y z : ℤ} → a ≡ x → b ≡ y → c ≡ z → (a ∷ b ∷ c ∷ []) ≡ (x ∷ y ∷ z ∷ [])
three-same p q r = cc

pub three-pushed : (s0 s1 s2 s3 : List (List ℤ)) (c1 c2 c3 : List ℤ) → s1 ≡ s0 ++ tidy_clauses (c1 ∷ []) → s2 ≡ s1 ++ tidy_clauses (c2 ∷ []) → s3 ≡ s2 ++ tidy_clauses (c3 ∷ []) → s3 ≡ s0 ++ tidy_clauses (c1 ∷ c2 ∷ c3 ∷ [])
three-pushed s0 s1 s2 s3 c1 c2 c3 e1 e2 e3 = pushed s0 s1 s3 c1 (c2 ∷ c3 ∷ []) e1 (pushed s1 s2 s3 c2 (c3 ∷ []) e2 e3)

pub four-pushed : (s0 s1 s2 s3 s4 : List (List ℤ)) (c1 c2 c3 c4 : List ℤ) → s1 ≡ s0 ++ tidy_clauses (c1 ∷ []) → s2 ≡ s1 ++ tidy_clauses (c2 ∷ []) → s3 ≡ s2 ++ tidy_clauses (c3 ∷ []) → s4 ≡ s3 ++ tidy_clauses (c4 ∷ []) → s4 ≡ s0 ++ tidy_clauses (c1 ∷ c2 ∷ c3 ∷ c4 ∷ [])
four-pushed s0 s1 s2 s3 s4 c1 c2 c3 c4 e1 e2 e3 e4 = pushed s0 s1 s4 c1 (c2 ∷ c3 ∷ c4 ∷ []) e1 (three-pushed s1 s2 s3 s4 c2 c3 c4 e2 e3 e4)

pub six-pushed : (s0 s1 s2 s3 s4 s5 s6 : List (List ℤ)) (c1 c2 c3 c4 c5 c6 : List ℤ) → s1 ≡ s0 ++ tidy_clauses (c1 ∷ []) → s2 ≡ s1 ++ tidy_clauses (c2 ∷ []) → s3 ≡ s2 ++ tidy_clauses (c3 ∷ []) → s4 ≡ s3 ++ tidy_clauses (c4 ∷ []) → s5 ≡ s4 ++ tidy_clauses (c5 ∷ []) → s6 ≡ s5 ++ tidy_clauses (c6 ∷ [])
    → s6 ≡ s0 ++ tidy_clauses (c1 ∷ c2 ∷ c3 ∷ c4 ∷ c5 ∷ c6 ∷ [])
six-pushed s0 s1 s2 s3 s4 s5 s6 c1 c2 c3 c4 c5 c6 e1 e2 e3 e4 e5 e6 = pushed s0 s1 s6 c1 (c2 ∷ c3 ∷ c4 ∷ c5 ∷ c6 ∷ []) e1 (pushed s1 s2 s6 c2 (c3 ∷ c4 ∷ c5 ∷ c6 ∷ []) e2 (four-pushed s2 s3 s4 s5 s6 c3 c4 c5 c6 e3 e4 e5 e6))

-- ---- lists that grow by the next of another

pub take-one : {A : Type 0} (xs : List A) (i : ℕ) (x : A) → Some x ≡ slice_get xs i → take (i + 1) xs ≡ take i xs ++ x ∷ []
take-one xs i x h = let e : suc i ≡ i + 1 = omega arith in ap (λ k. take k xs) (sym e) ∙ next xs i x h
  where
    next : {A : Type 0} (xs : List A) (i : ℕ) (x : A) → Some x ≡ slice_get xs i → take (suc i) xs ≡ take i xs ++ x ∷ []
    next [] i x h = absurd (cc h)
    next (y ∷ ys) zero x h = let e : y ≡ x = cc h in ap (λ z. z ∷ []) e
    next (y ∷ ys) (suc i) x h = ap (λ l. y ∷ l) (next ys i x h)
