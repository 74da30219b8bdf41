use Rattle.std.proofs.Common.{◌≡◌, ◌≤◌, ℕ, ◌+◌, List, drop, length}
use Rattle.std.specs.Prelude.{slice_index}
use Rattle.flow_laws.specs.Graphs.{graph, edges}
use Rattle.flow_laws.specs.Paths.{edge_count}
use Rattle.item_bounds.proofs.counting.counts_of.Given as goal

-- a count for each of so many edges; what was counted and what is left to count are at most all
pub record Counted (many : ℕ) (all rest counts : List ℕ) : Type 0 where
  pub long : length counts ≡ many
  pub most : (e : ℕ) → slice_index counts e + edge_count rest e ≤ edge_count all e

abbrev pub invariant-loop-e : goal.invariant-loop-e
invariant-loop-e l = Counted (length (edges (graph l.plan.program))) l.list (drop l.e-index l.list) l.counts
