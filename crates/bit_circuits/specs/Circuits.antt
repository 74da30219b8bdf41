-- Circuits: what adds gates, one after the other, and has an outcome. A circuit is written as what it does where `n`
-- is the number of the next variable.
use Rattle.std.specs.Prelude.{ℕ, suc, ℤ, pos, List, [], ◌∷◌, ◌++◌}
use Rattle.bit_circuits.specs.declared.gate.Gate.{Gate}

-- an outcome, and the gates that were added for it
pub record Wired (A : Type 0) : Type 0 where
  pub out : A
  pub gates : List Gate

abbrev pub Circuit : Type 0 → Type 0
Circuit A = ℕ → Wired A

-- the number of the next variable, after these gates
abbrev pub number_after : ℕ → List Gate → ℕ
number_after n [] = n
number_after n (g ∷ gs) = number_after (suc n) gs

-- no gate
unfoldable pub done : {A : Type 0} → A → Circuit A
done x n = record { out = x; gates = [] }

-- one gate, and its variable
unfoldable pub gate : Gate → Circuit ℤ
gate g n = record { out = pos n; gates = g ∷ [] }

-- one circuit after the other
infixl 10 ◌>>=◌
unfoldable pub ◌>>=◌ : {A B : Type 0} → Circuit A → (A → Circuit B) → Circuit B
(c >>= f) n =
    let first = c n in
    let then = f first.out (number_after n first.gates) in
    record { out = then.out; gates = first.gates ++ then.gates }
