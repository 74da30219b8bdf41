-- An assignment satisfies the clauses of gates exactly where each gate's variable equals what it says.
use Rattle.std.proofs.Common.{◌≡◌, ◌↔◌, ℕ, zero, suc, ◌+◌, ◌<◌, ◌≤◌, ℤ, pos, neg_ℤ, Bool, true, false, not, ◌&&◌, ◌||◌, cond, List, [], ◌∷◌, ◌++◌, unsigned_abs, refl, sym, ap, ◌∙◌, subst, arith}
use Rattle.std.specs.List.{list_any, list_all, filter}
use Rattle.std.specs.Ordering.{int_eq}
use Rattle.std.proofs.lemmas.Bool.{and_parts, and_from, or_right}
use Rattle.std.proofs.lemmas.Bool.Decides.{Decides-int_eq}
use Rattle.std.proofs.lemmas.List.Folds.{list_all-append}
use Rattle.bit_circuits.specs.declared.gate.Gate.{Gate}
use Rattle.bit_circuits.specs.declared.gate.Gate.TheVariants as gates
use Rattle.bit_circuits.specs.Tidy.{has, once, has_both_signs, tidy_clauses}
use Rattle.bit_circuits.specs.Gates.{gate_value, exclusive_or, majority, equality, gates_clauses}
use Rattle.bit_circuits.proofs.Circuits.Building.{IsBelow, Below, operands, Scoped, Holds, IsTruth, IsBelow-later, Below-later}
use Rattle.bit_circuits.proofs.WordArithmetic.Values.{IsBelow-neg}

-- a formula, under an assignment of its literals
abbrev pub formula_true : (ℤ → Bool) → List (List ℤ) → Bool
formula_true v cs = list_all (list_any v) cs

agree : Bool → Bool → Bool
agree a b = cond a b (not b)

agree-true : (a b : Bool) → (agree a b ≡ true) ↔ (a ≡ b)
unfolding agree
agree-true true true = (λ h. refl, λ h. refl)
agree-true true false = (λ h. sym h, λ h. sym h)
agree-true false true = (λ h. h, λ h. h)
agree-true false false = (λ h. refl, λ h. refl)

-- ---- tidying

has_step : (v : ℤ → Bool) (l m : ℤ) (b hs r : Bool) → int_eq l m ≡ b → v l ≡ true → (hs ≡ true → r ≡ true) → (b || hs) ≡ true → (v m || r) ≡ true
has_step v l m true hs r is e ih h = ap (λ z. z || r) (ap v (sym ((Decides-int_eq l m).0 is)) ∙ e)
has_step v l m false hs r is e ih h = or_right (v m) r (ih h)

-- a true literal among these makes them true
has-true : (v : ℤ → Bool) (l : ℤ) (ls : List ℤ) → v l ≡ true → has l ls ≡ true → list_any v ls ≡ true
has-true v l [] e h = h
has-true v l (m ∷ ms) e h = has_step v l m (int_eq l m) (has l ms) (list_any v ms) refl e (has-true v l ms e) h

both_step : (vl h b r : Bool) → (vl ≡ false → h ≡ true → r ≡ true) → (b ≡ true → r ≡ true) → (h || b) ≡ true → (vl || r) ≡ true
both_step true h b r opposite ih e = refl
both_step false true b r opposite ih e = opposite refl refl
both_step false false b r opposite ih e = ih e

both_signs-true : (v : ℤ → Bool) (G : Type 0) (n : ℕ) (ls : List ℤ) → IsTruth v G → Below n ls → has_both_signs ls ≡ true → list_any v ls ≡ true
both_signs-true v G n [] t b h = h
both_signs-true v G n (l ∷ ls) t b h =
    both_step (v l) (has (neg_ℤ l) ls) (has_both_signs ls) (list_any v ls)
    (λ is has. has-true v (neg_ℤ l) ls (t.opposite l b.0.some ∙ ap not is) has) (both_signs-true v G n ls t b.1) h

filter_step : (v : ℤ → Bool) (l m : ℤ) (b : Bool) (ms rest : List ℤ) → int_eq l m ≡ b → (v l || list_any v rest) ≡ (v l || list_any v ms) → (v l || list_any v (cond (not b) (m ∷ rest) rest)) ≡ (v l || (v m || list_any v ms))
filter_step v l m true ms rest is ih = ih ∙ repeated (v l) (v m) (list_any v ms) (ap v ((Decides-int_eq l m).0 is))
  where
    repeated : (a b r : Bool) → a ≡ b → (a || r) ≡ (a || (b || r))
    repeated true b r e = refl
    repeated false true r e = ap (λ z. z || r) e
    repeated false false r e = refl
filter_step v l m false ms rest is ih = swap (v l) (v m) (list_any v rest) (list_any v ms) ih
  where
    swap : (a b r s : Bool) → (a || r) ≡ (a || s) → (a || (b || r)) ≡ (a || (b || s))
    swap true b r s e = refl
    swap false true r s e = refl
    swap false false r s e = e

-- what is left out after l is l again
filter-true : (v : ℤ → Bool) (l : ℤ) (ls : List ℤ) → (v l || list_any v (filter (λ m. not (int_eq l m)) ls)) ≡ (v l || list_any v ls)
filter-true v l [] = refl
filter-true v l (m ∷ ms) = filter_step v l m (int_eq l m) ms (filter (λ k. not (int_eq l k)) ms) refl (filter-true v l ms)

pub once-true : (v : ℤ → Bool) (ls : List ℤ) → list_any v (once ls) ≡ list_any v ls
once-true v [] = refl
once-true v (l ∷ ls) = filter-true v l (once ls) ∙ ap (λ z. v l || z) (once-true v ls)

-- each clause names variables below n
abbrev pub BelowAll : ℕ → List (List ℤ) → Type 0
BelowAll n [] = Unit {0}
BelowAll n (c ∷ cs) = Below n c × BelowAll n cs

tidied_step : (v : ℤ → Bool) (b : Bool) (c once_c : List ℤ) (rest cs : List (List ℤ)) → (b ≡ true → list_any v c ≡ true) → list_any v once_c ≡ list_any v c → formula_true v rest ≡ formula_true v cs
    → formula_true v (cond b rest (once_c ∷ rest)) ≡ (list_any v c && formula_true v cs)
tidied_step v true c once_c rest cs both same ih = ih ∙ ap (λ z. z && formula_true v cs) (sym (both refl))
tidied_step v false c once_c rest cs both same ih = ap (λ z. z && formula_true v rest) same ∙ ap (λ z. list_any v c && z) ih

pub tidy_clauses-true : (v : ℤ → Bool) (G : Type 0) (n : ℕ) (cs : List (List ℤ)) → IsTruth v G → BelowAll n cs → formula_true v (tidy_clauses cs) ≡ formula_true v cs
tidy_clauses-true v G n [] t b = refl
tidy_clauses-true v G n (c ∷ cs) t b = tidied_step v (has_both_signs c) c (once c) (tidy_clauses cs) cs (both_signs-true v G n c t b.0) (once-true v c) (tidy_clauses-true v G n cs t b.1)

-- ---- gates

bits_true : List (List Bool) → Bool
bits_true cs = list_all (list_any (λ b. b)) cs

and_clauses : (x a b : Bool) → bits_true ((not x ∷ a ∷ []) ∷ (not x ∷ b ∷ []) ∷ (x ∷ not a ∷ not b ∷ []) ∷ []) ≡ agree x (a && b)
unfolding bits_true agree
and_clauses true true true = refl
and_clauses true true false = refl
and_clauses true false true = refl
and_clauses true false false = refl
and_clauses false true true = refl
and_clauses false true false = refl
and_clauses false false true = refl
and_clauses false false false = refl

or_clauses : (x a b : Bool) → bits_true ((x ∷ not a ∷ []) ∷ (x ∷ not b ∷ []) ∷ (not x ∷ a ∷ b ∷ []) ∷ []) ≡ agree x (a || b)
unfolding bits_true agree
or_clauses true true true = refl
or_clauses true true false = refl
or_clauses true false true = refl
or_clauses true false false = refl
or_clauses false true true = refl
or_clauses false true false = refl
or_clauses false false true = refl
or_clauses false false false = refl

xor_clauses : (x a b : Bool) → bits_true ((not x ∷ a ∷ b ∷ []) ∷ (not x ∷ not a ∷ not b ∷ []) ∷ (x ∷ not a ∷ b ∷ []) ∷ (x ∷ a ∷ not b ∷ []) ∷ []) ≡ agree x (exclusive_or a b)
unfolding bits_true agree
xor_clauses true true true = refl
xor_clauses true true false = refl
xor_clauses true false true = refl
xor_clauses true false false = refl
xor_clauses false true true = refl
xor_clauses false true false = refl
xor_clauses false false true = refl
xor_clauses false false false = refl

majority_clauses : (x a b c : Bool) → bits_true ((not x ∷ a ∷ b ∷ []) ∷ (not x ∷ a ∷ c ∷ []) ∷ (not x ∷ b ∷ c ∷ []) ∷ (x ∷ not a ∷ not b ∷ []) ∷ (x ∷ not a ∷ not c ∷ []) ∷ (x ∷ not b ∷ not c ∷ []) ∷ []) ≡ agree x (majority a b c)
unfolding bits_true agree
majority_clauses true true true true = refl
majority_clauses true true true false = refl
majority_clauses true true false true = refl
majority_clauses true true false false = refl
majority_clauses true false true true = refl
majority_clauses true false true false = refl
majority_clauses true false false true = refl
majority_clauses true false false false = refl
majority_clauses false true true true = refl
majority_clauses false true true false = refl
majority_clauses false true false true = refl
majority_clauses false true false false = refl
majority_clauses false false true true = refl
majority_clauses false false true false = refl
majority_clauses false false false true = refl
majority_clauses false false false false = refl

choice_clauses : (x c a b : Bool) → bits_true ((not x ∷ not c ∷ a ∷ []) ∷ (not x ∷ c ∷ b ∷ []) ∷ (x ∷ not c ∷ not a ∷ []) ∷ (x ∷ c ∷ not b ∷ []) ∷ []) ≡ agree x (cond c a b)
unfolding bits_true agree
choice_clauses true true true true = refl
choice_clauses true true true false = refl
choice_clauses true true false true = refl
choice_clauses true true false false = refl
choice_clauses true false true true = refl
choice_clauses true false true false = refl
choice_clauses true false false true = refl
choice_clauses true false false false = refl
choice_clauses false true true true = refl
choice_clauses false true true false = refl
choice_clauses false true false true = refl
choice_clauses false true false false = refl
choice_clauses false false true true = refl
choice_clauses false false true false = refl
choice_clauses false false false true = refl
choice_clauses false false false false = refl

equality-true : (v : ℤ → Bool) (G : Type 0) (m n : ℕ) (x : ℤ) (g : Gate) → IsTruth v G → IsBelow m x → Below n (operands g) → formula_true v (equality x g) ≡ agree (v x) (gate_value v g)
unfolding bits_true
equality-true v G m n x (gates.And l k) t bx b =
    simp (t.opposite x bx.some, t.opposite l b.0.some, t.opposite k b.1.0.some) (and_clauses (v x) (v l) (v k))
equality-true v G m n x (gates.Or l k) t bx b =
    simp (t.opposite x bx.some, t.opposite l b.0.some, t.opposite k b.1.0.some) (or_clauses (v x) (v l) (v k))
equality-true v G m n x (gates.Xor l k) t bx b =
    simp (t.opposite x bx.some, t.opposite l b.0.some, t.opposite k b.1.0.some) (xor_clauses (v x) (v l) (v k))
equality-true v G m n x (gates.Majority l k j) t bx b =
    simp (t.opposite x bx.some, t.opposite l b.0.some, t.opposite k b.1.0.some, t.opposite j b.1.1.0.some) (majority_clauses (v x) (v l) (v k) (v j))
equality-true v G m n x (gates.Choice c l k) t bx b =
    simp (t.opposite x bx.some, t.opposite c b.0.some, t.opposite l b.1.0.some, t.opposite k b.1.1.0.some) (choice_clauses (v x) (v c) (v l) (v k))

-- the clauses of a gate name its variable and its operands
pub equality-below : (m : ℕ) (x : ℤ) (g : Gate) → IsBelow m x → Below m (operands g) → BelowAll m (equality x g)
equality-below m x (gates.And l k) bx b =
    let nx = IsBelow-neg m x bx in
    ((nx, (b.0, tt)), ((nx, (b.1.0, tt)), ((bx, (IsBelow-neg m l b.0, (IsBelow-neg m k b.1.0, tt))), tt)))
equality-below m x (gates.Or l k) bx b =
    ((bx, (IsBelow-neg m l b.0, tt)), ((bx, (IsBelow-neg m k b.1.0, tt)), ((IsBelow-neg m x bx, (b.0, (b.1.0, tt))), tt)))
equality-below m x (gates.Xor l k) bx b =
    let nx = IsBelow-neg m x bx in
    let nl = IsBelow-neg m l b.0 in
    let nk = IsBelow-neg m k b.1.0 in
    ((nx, (b.0, (b.1.0, tt))), ((nx, (nl, (nk, tt))), ((bx, (nl, (b.1.0, tt))), ((bx, (b.0, (nk, tt))), tt))))
equality-below m x (gates.Majority l k j) bx b =
    let nx = IsBelow-neg m x bx in
    let nl = IsBelow-neg m l b.0 in
    let nk = IsBelow-neg m k b.1.0 in
    let nj = IsBelow-neg m j b.1.1.0 in
    ((nx, (b.0, (b.1.0, tt))), ((nx, (b.0, (b.1.1.0, tt))), ((nx, (b.1.0, (b.1.1.0, tt))), ((bx, (nl, (nk, tt))), ((bx, (nl, (nj, tt))), ((bx, (nk, (nj, tt))), tt))))))
equality-below m x (gates.Choice c l k) bx b =
    let nx = IsBelow-neg m x bx in
    let nc = IsBelow-neg m c b.0 in
    let nl = IsBelow-neg m l b.1.0 in
    let nk = IsBelow-neg m k b.1.1.0 in
    ((nx, (nc, (b.1.0, tt))), ((nx, (b.0, (b.1.1.0, tt))), ((bx, (nc, (nl, tt))), ((bx, (b.0, (nk, tt))), tt))))

pub variable-below : (n : ℕ) → 0 < n → IsBelow (suc n) (pos n)
variable-below n some = record { some = some; below = omega arith }

pub gates-true : (v : ℤ → Bool) (G : Type 0) (n : ℕ) (gs : List Gate) → 0 < n → IsTruth v G → Scoped n gs → (formula_true v (gates_clauses n gs) ≡ true) ↔ Holds v n gs
gates-true v G n [] some t s = (λ h. tt, λ h. refl)
gates-true v G n (g ∷ gs) some t s =
    let below : BelowAll (suc n) (equality (pos n) g) = equality-below (suc n) (pos n) g (variable-below n some) (Below-later n (suc n) (operands g) (omega arith) s.0) in
    let first : formula_true v (tidy_clauses (equality (pos n) g)) ≡ agree (v (pos n)) (gate_value v g) =
    tidy_clauses-true v G (suc n) (equality (pos n) g) t below ∙ equality-true v G (suc n) n (pos n) g t (variable-below n some) s.0 in
    let all : formula_true v (gates_clauses n (g ∷ gs)) ≡ (agree (v (pos n)) (gate_value v g) && formula_true v (gates_clauses (suc n) gs)) =
    list_all-append (list_any v) (tidy_clauses (equality (pos n) g)) (gates_clauses (suc n) gs) ∙ ap (λ z. z && formula_true v (gates_clauses (suc n) gs)) first in
    let rest = gates-true v G (suc n) gs (omega arith) t s.1 in
    let same = agree-true (v (pos n)) (gate_value v g) in (
      λ h. let parts = and_parts (agree (v (pos n)) (gate_value v g)) (formula_true v (gates_clauses (suc n) gs)) (sym all ∙ h) in (same.0 parts.0, rest.0 parts.1),
      λ h. all ∙ and_from (agree (v (pos n)) (gate_value v g)) (formula_true v (gates_clauses (suc n) gs)) (same.1 h.0) (rest.1 h.1),
    )
