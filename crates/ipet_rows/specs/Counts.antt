-- The counts of a list of edges as a vector, and the rows that the counts of all driven paths meet.
use Rattle.std.specs.Prelude.{ℕ, ◌+◌, List, [], ◌∷◌, All}
use Rattle.c_tree.specs.declared.program.Program.{Program}
use Rattle.flow_laws.specs.declared.graph.Edge.{Edge}
use Rattle.flow_laws.specs.Graphs.{graph, edges}
use Rattle.flow_laws.specs.Paths.{edge_count}
use Rattle.flow_laws.specs.Claims.{IsDriven}
use Rattle.lin_rows.specs.declared.row.Row.{Row}
use Rattle.lin_rows.specs.Meeting.{MeetsRow}

-- how often the list has each edge, of which the first has the number i
abbrev pub counts_from : List ℕ → ℕ → List Edge → List ℕ
counts_from q i [] = []
counts_from q i (e ∷ es) = edge_count q i ∷ counts_from q (i + 1) es

-- a count for each edge of the program's graph
abbrev pub edge_counts : Program → List ℕ → List ℕ
edge_counts p q = counts_from q 0 (edges (graph p))

-- the counts of each driven path of the program meet the row
abbrev pub HoldsOnPaths : Program → Row → Type 0
HoldsOnPaths p row = (q : List ℕ) → IsDriven p q → MeetsRow (edge_counts p q) row

-- and so each of the rows
abbrev pub HoldOnPaths : Program → List Row → Type 0
HoldOnPaths p rows = All (HoldsOnPaths p) rows
