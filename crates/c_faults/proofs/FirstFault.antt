-- The first refusal is one of those that are heard of, and comes before each of them.
use Rattle.std.proofs.Common.{◌≡◌, ℕ, ◌<◌, ◌≤◌, ◌⊎◌, suc, zero, Bool, true, false, List, [], ◌∷◌, ◌++◌, Option, Some, None, inl, inr, ⊎_elim, refl, sym, ap, ◌∙◌, subst, arith}
use Rattle.std.specs.Prelude.{All, if◌then◌else◌, ◌&&◌, ◌||◌, ◌==◌, nat_lt}
use Rattle.std.specs.List.{Contains, flat_map}
use Rattle.std.proofs.lemmas.List.Elements.{All-nil, All-cons}
use Rattle.std.proofs.lemmas.Bool.Decides.{nat_tests}
use Rattle.c_tree.specs.Checking.Uses.{Use}
use Rattle.c_tree.specs.Checking.Refusals.{PlacedFault, fault_number, faults_of, IsFirstOf}
use Rattle.c_faults.specs.Verdicts.{precedes, after_one, after_all, after_use, after_uses}

-- ---- after lists

pub after_all-append : (f : Option PlacedFault) (rs qs : List PlacedFault) → after_all f (rs ++ qs) ≡ after_all (after_all f rs) qs
after_all-append f [] qs = refl
after_all-append f (r ∷ rs) qs = after_all-append (after_one f r) rs qs

pub after_uses-all : (f : Option PlacedFault) (us : List Use) → after_uses f us ≡ after_all f (flat_map faults_of us)
unfolding after_uses after_use
after_uses-all f [] = refl
after_uses-all f (u ∷ us) =
    after_uses-all (after_all f (faults_of u)) us ∙ sym (after_all-append f (faults_of u) (flat_map faults_of us))

-- ---- the first

abbrev earlier : PlacedFault → PlacedFault → PlacedFault
earlier f r = if precedes r f then r else f

abbrev pub first : PlacedFault → List PlacedFault → PlacedFault
first f [] = f
first f (r ∷ rs) = first (earlier f r) rs

one_is : (f r : PlacedFault) (b : Bool) → (if b then Some r else Some f) ≡ Some (if b then r else f)
one_is f r true = refl
one_is f r false = refl

all_is : (f : PlacedFault) (rs : List PlacedFault) → after_all (Some f) rs ≡ Some (first f rs)
all_is f [] = refl
all_is f (r ∷ rs) = ap (λ o. after_all o rs) (one_is f r (precedes r f)) ∙ all_is (earlier f r) rs

IsFirstOf-trans : (a b c : PlacedFault) → IsFirstOf a b → IsFirstOf b c → IsFirstOf a c
IsFirstOf-trans a b c h g =
    ⊎_elim (λ x. ⊎_elim (λ y. inl (omega arith)) (λ y. inl (omega (arith, y.0))) g) (λ x. ⊎_elim (λ y. inl (omega (arith, x.0))) (λ y. inr (x.0 ∙ y.0, omega (arith, x.1, y.1))) g) h

IsFirstOf-refl : (a : PlacedFault) → IsFirstOf a a
IsFirstOf-refl a = inr (refl, omega arith)

before_when : (m n i j : ℕ) → (nat_lt m n || (m == n && nat_lt i j)) ≡ true → (m < n) ⊎ ((m ≡ n) × (i ≤ j))
before_when m n i j h = grind (arith, nat_tests)

before_else : (m n i j : ℕ) → (nat_lt m n || (m == n && nat_lt i j)) ≡ false → (n < m) ⊎ ((n ≡ m) × (j ≤ i))
before_else m n i j h = grind (arith, nat_tests)

-- the earlier of two comes before both, and is one of them
pub record Picked (p f r : PlacedFault) : Type 0 where
  pub old : IsFirstOf p f
  pub new : IsFirstOf p r
  pub one : (p ≡ f) ⊎ (p ≡ r)

picked : (f r : PlacedFault) (b : Bool) → precedes r f ≡ b → Picked (if b then r else f) f r
picked f r true e =
    record { old = before_when (fault_number r.fault) (fault_number f.fault) r.at f.at e; new = IsFirstOf-refl r; one = inr refl }
picked f r false e =
    record { old = IsFirstOf-refl f; new = before_else (fault_number r.fault) (fault_number f.fault) r.at f.at e; one = inl refl }

-- one of f and rs, before each of them
pub record IsLeast (p f : PlacedFault) (rs : List PlacedFault) : Type 0 where
  pub old : IsFirstOf p f
  pub all : All (IsFirstOf p) rs
  pub stands : (p ≡ f) ⊎ Contains rs p

contains_head : (x : PlacedFault) (xs : List PlacedFault) → Contains (x ∷ xs) x
contains_head x xs = (zero, omega arith, refl)

contains_tail : (x y : PlacedFault) (xs : List PlacedFault) → Contains xs y → Contains (x ∷ xs) y
contains_tail x y xs h = (suc h.0, omega (arith, h.1), h.2)

pub first_is_least : (f : PlacedFault) (rs : List PlacedFault) → IsLeast (first f rs) f rs
first_is_least f [] = record { old = IsFirstOf-refl f; all = All-nil (IsFirstOf f); stands = inl refl }
first_is_least f (r ∷ rs) =
    let e = earlier f r in
    let p = first e rs in
    let two = picked f r (precedes r f) refl in
    let rest = first_is_least e rs in
    let where_from : (p ≡ e) → (p ≡ f) ⊎ Contains (r ∷ rs) p =
    λ same. ⊎_elim (λ x. inl (same ∙ x)) (λ x. inr (subst (Contains (r ∷ rs)) (sym (same ∙ x)) (contains_head r rs))) two.one in
    record {
      old = IsFirstOf-trans p e f rest.old two.old;
      all = All-cons (IsFirstOf p) r rs (IsFirstOf-trans p e r rest.old two.new) rest.all;
      stands = ⊎_elim where_from (λ x. inr (contains_tail r p rs x)) rest.stands;
    }

-- ---- of a whole list

pub no_fault_found : (rs : List PlacedFault) → after_all None rs ≡ None → rs ≡ []
no_fault_found [] e = refl
no_fault_found (r ∷ rs) e = let f = all_is r rs in cc

pub first_fault_found : (rs : List PlacedFault) (p : PlacedFault) → after_all None rs ≡ Some p → Contains rs p
first_fault_found [] p e = cc
first_fault_found (r ∷ rs) p e =
    let same : first r rs ≡ p = let f = all_is r rs in cc in
    let least = first_is_least r rs in
    subst (Contains (r ∷ rs)) same (⊎_elim (λ x. subst (Contains (r ∷ rs)) (sym x) (contains_head r rs)) (λ x. contains_tail r (first r rs) rs x) least.stands)

pub first_of_all : (rs : List PlacedFault) (p : PlacedFault) → after_all None rs ≡ Some p → All (IsFirstOf p) rs
first_of_all [] p e = All-nil (IsFirstOf p)
first_of_all (r ∷ rs) p e =
    let same : first r rs ≡ p = let f = all_is r rs in cc in
    let least = first_is_least r rs in
    subst (λ q. All (IsFirstOf q) (r ∷ rs)) same (All-cons (IsFirstOf (first r rs)) r rs least.old least.all)
