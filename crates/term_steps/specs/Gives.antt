-- What it means that code ran a script on a store of terms. This project's own.
use Rattle.std.specs.Prelude.{◌≡◌, ◌≤◌, ℕ, length}
use Rattle.bv_term.specs.Stores.{Terms}
use Rattle.bv_term.specs.Scripts.{Script, ops_after, outcome}

-- the script took the one store to the other and is done with x, whose terms are there as P says
pub record Gives {A : Type 0} (P : ℕ → A → Type 0) (s : Script A) (old new : Terms) (x : A) : Type 0 where
  pub inputs : new.inputs ≡ old.inputs
  pub ops : new.ops ≡ ops_after s old.ops
  pub done : x ≡ outcome s old.ops
  pub fits : P (length new.ops) x
  pub grows : length old.ops ≤ length new.ops
