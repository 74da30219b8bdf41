-- A list that goes on has counts that are at least those of what it begins with.
use Rattle.std.proofs.Common.{◌≡◌, ◌≤◌, ℕ, ◌+◌, List, [], ◌∷◌, ◌++◌, sym, subst, arith}
use Rattle.c_tree.specs.declared.program.Program.{Program}
use Rattle.flow_laws.specs.declared.graph.Edge.{Edge}
use Rattle.flow_laws.specs.Graphs.{graph, edges}
use Rattle.flow_laws.specs.Claims.{Begins}
use Rattle.flow_laws.proofs.Counts.ListsJoined.{counts_join}
use Rattle.ipet_rows.specs.Counts.{counts_from, edge_counts}
use Rattle.race_item.specs.Facts.{IsAtLeast}

joined_at_least : (a b : List ℕ) (i : ℕ) (es : List Edge) → IsAtLeast (counts_from (a ++ b) i es) (counts_from a i es)
joined_at_least a b i [] = tt
joined_at_least a b i (e ∷ es) = (omega (arith, counts_join a b i), joined_at_least a b (i + 1) es)

pub begins_at_least : (p : Program) (prefix q : List ℕ) → Begins prefix q → IsAtLeast (edge_counts p q) (edge_counts p prefix)
begins_at_least p prefix q h =
    subst (λ l. IsAtLeast (edge_counts p l) (edge_counts p prefix)) (sym h.1) (joined_at_least prefix h.0 0 (edges (graph p)))
