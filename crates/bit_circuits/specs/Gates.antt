-- Gates: one new variable each, with the clauses of an equality.
use Rattle.std.specs.Prelude.{
  ◌≡◌,
  ℕ,
  suc,
  ℤ,
  pos,
  neg_ℤ,
  Bool,
  true,
  false,
  not,
  ◌&&◌,
  ◌||◌,
  if◌then◌else◌,
  List,
  [],
  ◌∷◌,
  ◌++◌,
}
use Rattle.bit_circuits.specs.declared.gate.Gate.{Gate}
use Rattle.bit_circuits.specs.declared.gate.Gate.TheVariants as gate
use Rattle.bit_circuits.specs.Tidy.{tidy_clauses}

abbrev pub exclusive_or : Bool → Bool → Bool
exclusive_or a b = if a then not b else b

abbrev pub majority : Bool → Bool → Bool → Bool
majority a b c = if a then b || c else b && c

-- what a gate's variable equals, where `v` tells which literals are true
abbrev pub gate_value : (ℤ → Bool) → Gate → Bool
gate_value v (gate.And l m) = v l && v m
gate_value v (gate.Or l m) = v l || v m
gate_value v (gate.Xor l m) = exclusive_or (v l) (v m)
gate_value v (gate.Majority l m k) = majority (v l) (v m) (v k)
gate_value v (gate.Choice c l m) = if v c then v l else v m

-- the clauses that say so of the variable `x`
abbrev pub equality : ℤ → Gate → List (List ℤ)
equality x (gate.And l m) = (neg_ℤ x ∷ l ∷ []) ∷ (neg_ℤ x ∷ m ∷ []) ∷ (x ∷ neg_ℤ l ∷ neg_ℤ m ∷ []) ∷ []
equality x (gate.Or l m) = (x ∷ neg_ℤ l ∷ []) ∷ (x ∷ neg_ℤ m ∷ []) ∷ (neg_ℤ x ∷ l ∷ m ∷ []) ∷ []
equality x (gate.Xor l m) =
    (neg_ℤ x ∷ l ∷ m ∷ []) ∷ (neg_ℤ x ∷ neg_ℤ l ∷ neg_ℤ m ∷ []) ∷ (x ∷ neg_ℤ l ∷ m ∷ []) ∷ (x ∷ l ∷ neg_ℤ m ∷ []) ∷ []
equality x (gate.Majority l m k) =
    (neg_ℤ x ∷ l ∷ m ∷ []) ∷ (neg_ℤ x ∷ l ∷ k ∷ []) ∷ (neg_ℤ x ∷ m ∷ k ∷ [])
    ∷ (x ∷ neg_ℤ l ∷ neg_ℤ m ∷ []) ∷ (x ∷ neg_ℤ l ∷ neg_ℤ k ∷ []) ∷ (x ∷ neg_ℤ m ∷ neg_ℤ k ∷ []) ∷ []
equality x (gate.Choice c l m) =
    (neg_ℤ x ∷ neg_ℤ c ∷ l ∷ []) ∷ (neg_ℤ x ∷ c ∷ m ∷ []) ∷ (x ∷ neg_ℤ c ∷ neg_ℤ l ∷ []) ∷ (x ∷ c ∷ neg_ℤ m ∷ []) ∷ []

-- the clauses of gates whose variables are numbered from `n` on
abbrev pub gates_clauses : ℕ → List Gate → List (List ℤ)
gates_clauses n [] = []
gates_clauses n (g ∷ gs) = tidy_clauses (equality (pos n) g) ++ gates_clauses (suc n) gs
