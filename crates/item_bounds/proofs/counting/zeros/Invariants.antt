use Rattle.std.proofs.Common.{◌≡◌, ◌≤◌, ℕ, List, length}
use Rattle.std.specs.Prelude.{slice_index}
use Rattle.item_bounds.proofs.counting.zeros.Given as goal

-- so many zeros as turns were made
pub record Zeros (ns : List ℕ) (made most : ℕ) : Type 0 where
  pub long : length ns ≡ made
  pub within : made ≤ most
  pub zero : (e : ℕ) → slice_index ns e ≡ 0

abbrev pub invariant-loop : goal.invariant-loop
invariant-loop l = Zeros l.counts l.counter l.edges
