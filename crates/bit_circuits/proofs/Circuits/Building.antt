-- What a circuit adds and what comes of it, step by step.
use Rattle.std.proofs.Common.{◌≡◌, ℕ, suc, ◌+◌, ◌<◌, ◌≤◌, ℤ, pos, neg_ℤ, Bool, true, not, length, List, [], ◌∷◌, ◌++◌, unsigned_abs, refl, sym, subst, arith}
use Rattle.bit_circuits.specs.declared.gate.Gate.{Gate}
use Rattle.bit_circuits.specs.declared.gate.Gate.TheVariants as gates
use Rattle.bit_circuits.specs.Gates.{gate_value}
use Rattle.bit_circuits.specs.Words.{word_value}
use Rattle.bit_circuits.specs.Circuits.{Wired, Circuit, number_after, done, gate, ◌>>=◌}

-- a literal of a variable below n
pub record IsBelow (n : ℕ) (l : ℤ) : Type 0 where
  pub some : 0 < unsigned_abs l
  pub below : unsigned_abs l < n

abbrev pub Below : ℕ → List ℤ → Type 0
Below n [] = Unit {0}
Below n (l ∷ ls) = IsBelow n l × Below n ls

abbrev pub operands : Gate → List ℤ
operands (gates.And l m) = l ∷ m ∷ []
operands (gates.Or l m) = l ∷ m ∷ []
operands (gates.Xor l m) = l ∷ m ∷ []
operands (gates.Majority l m k) = l ∷ m ∷ k ∷ []
operands (gates.Choice c l m) = c ∷ l ∷ m ∷ []

-- each gate names earlier variables
abbrev pub Scoped : ℕ → List Gate → Type 0
Scoped n [] = Unit {0}
Scoped n (g ∷ gs) = Below n (operands g) × Scoped (suc n) gs

-- each gate's variable equals what it says
abbrev pub Holds : (ℤ → Bool) → ℕ → List Gate → Type 0
Holds v n [] = Unit {0}
Holds v n (g ∷ gs) = (v (pos n) ≡ gate_value v g) × Holds v (suc n) gs

-- where G makes the gates hold, they name earlier variables, and the outcome is as P says. (At G = ⊥ nothing has to hold; at
-- the fact that all gates hold the outcome's value is known.)
pub record Builds {A : Type 0} (v : ℤ → Bool) (G : Type 0) (n : ℕ) (c : Circuit A) (P : ℕ → A → Type 0) : Type 0 where
  pub built : (G → Holds v n (c n).gates) → Scoped n (c n).gates × P (number_after n (c n).gates) (c n).out

pub number_after-append : (n : ℕ) (gs hs : List Gate) → number_after n (gs ++ hs) ≡ number_after (number_after n gs) hs
number_after-append n [] hs = refl
number_after-append n (g ∷ gs) hs = number_after-append (suc n) gs hs

pub le-past : (n : ℕ) (gs : List Gate) → n ≤ number_after n gs
le-past n [] = omega arith
le-past n (g ∷ gs) = omega (arith, le-past (suc n) gs)

Holds-front : (v : ℤ → Bool) (n : ℕ) (gs hs : List Gate) → Holds v n (gs ++ hs) → Holds v n gs
Holds-front v n [] hs h = tt
Holds-front v n (g ∷ gs) hs h = (h.0, Holds-front v (suc n) gs hs h.1)

Holds-back : (v : ℤ → Bool) (n : ℕ) (gs hs : List Gate) → Holds v n (gs ++ hs) → Holds v (number_after n gs) hs
Holds-back v n [] hs h = h
Holds-back v n (g ∷ gs) hs h = Holds-back v (suc n) gs hs h.1

Scoped-append : (n : ℕ) (gs hs : List Gate) → Scoped n gs → Scoped (number_after n gs) hs → Scoped n (gs ++ hs)
Scoped-append n [] hs s t = t
Scoped-append n (g ∷ gs) hs s t = (s.0, Scoped-append (suc n) gs hs s.1 t)

pub done-builds : {A : Type 0} {v : ℤ → Bool} {G : Type 0} {n : ℕ} {P : ℕ → A → Type 0} (x : A) → P n x → Builds v G n (done x) P
unfolding done
done-builds x p = record { built = λ holds. (tt, p) }

-- a literal that says b
pub record IsBit (v : ℤ → Bool) (G : Type 0) (b : Bool) (n : ℕ) (l : ℤ) : Type 0 where
  pub scope : IsBelow n l
  pub value : G → v l ≡ b

-- a word of this width that writes x
pub record IsWord (v : ℤ → Bool) (G : Type 0) (width x : ℕ) (n : ℕ) (ls : List ℤ) : Type 0 where
  pub scope : Below n ls
  pub wide : length ls ≡ width
  pub value : G → word_value v ls ≡ x

-- the literals 1 and -1 are true and false, and a negated literal is false exactly where the literal is true
pub record IsTruth (v : ℤ → Bool) (G : Type 0) : Type 0 where
  pub one : G → v (pos 1) ≡ true
  pub opposite : (l : ℤ) → 0 < unsigned_abs l → v (neg_ℤ l) ≡ not (v l)

pub gate-builds : {v : ℤ → Bool} {G : Type 0} {n : ℕ} (g : Gate) → 0 < n → Below n (operands g) → Builds v G n (gate g) (IsBit v G (gate_value v g))
unfolding gate
gate-builds g some below = record { built = λ holds. ((below, tt), record { scope = record { some = some; below = omega arith }; value = λ given. (holds given).0 }) }

pub then-builds : {A B : Type 0} {v : ℤ → Bool} {G : Type 0} {n : ℕ} {c : Circuit A} {P : ℕ → A → Type 0} {Q : ℕ → B → Type 0} (f : A → Circuit B)
    → Builds v G n c P → ((m : ℕ) → n ≤ m → (x : A) → P m x → Builds v G m (f x) Q) → Builds v G n (c >>= f) Q
unfolding ◌>>=◌
then-builds {v = v} {n = n} {c = c} {Q = Q} f first then = record {
  built = λ holds.
      let gs = (c n).gates in
      let m = number_after n gs in
      let hs = (f (c n).out m).gates in
      let a = first.built (λ given. Holds-front v n gs hs (holds given)) in
      let b = (then m (le-past n gs) (c n).out a.1).built (λ given. Holds-back v n gs hs (holds given)) in
      (Scoped-append n gs hs a.0 b.0, subst (λ k. Q k (f (c n).out m).out) (sym (number_after-append n gs hs)) b.1);
}

pub weaker-builds : {A : Type 0} {v : ℤ → Bool} {G : Type 0} {n : ℕ} {c : Circuit A} {P Q : ℕ → A → Type 0} → Builds v G n c P → ((m : ℕ) → n ≤ m → (x : A) → P m x → Q m x) → Builds v G n c Q
weaker-builds {n = n} {c = c} first more = record { built = λ holds. let a = first.built holds in (a.0, more (number_after n (c n).gates) (le-past n (c n).gates) (c n).out a.1) }

pub IsBelow-later : {m n : ℕ} {l : ℤ} → m ≤ n → IsBelow m l → IsBelow n l
IsBelow-later le h = record { some = h.some; below = omega arith }

pub Below-later : (m n : ℕ) (ls : List ℤ) → m ≤ n → Below m ls → Below n ls
Below-later m n [] le h = tt
Below-later m n (l ∷ ls) le h = (IsBelow-later le h.0, Below-later m n ls le h.1)
