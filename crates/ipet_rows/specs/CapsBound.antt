-- The costs and the caps of edges, and what all edges cost, each taken as often as its cap says.
use Rattle.std.specs.Prelude.{◌<◌, ℕ, ◌+◌, ◌*◌, ◌^◌, List, [], ◌∷◌, Option, Some, None, slice_get}
use Rattle.c_tree.specs.declared.program.BlockName.{BlockName}
use Rattle.c_tree.specs.declared.program.Costs.{Costs}
use Rattle.c_tree.specs.Meaning.Claims.{block_cost}
use Rattle.flow_laws.specs.declared.graph.Edge.{Edge}
use Rattle.flow_laws.specs.Sites.{Site}
use Rattle.flow_laws.specs.Graphs.{edges}
use Rattle.flow_laws.specs.Paths.{cap_of, cost_of_edge}

-- how often an edge is taken at most: the cap of its source
abbrev pub cap_of_edge : List Site → Edge → ℕ
cap_of_edge g e = cap_of (slice_get g e.from)

abbrev pub cap_at : List Site → Option Edge → ℕ
cap_at g None = 0
cap_at g (Some e) = cap_of_edge g e

-- what some edges cost at their caps
abbrev pub cost_at_caps : Costs → List Site → List Edge → ℕ
cost_at_caps t g [] = 0
cost_at_caps t g (e ∷ es) = cost_of_edge t g (Some e) * cap_of_edge g e + cost_at_caps t g es

-- what all cost
abbrev pub caps_bound : Costs → List Site → ℕ
caps_bound t g = cost_at_caps t g (edges g)

-- the costs of edges, and their limits, from 0 to the cap
abbrev pub costs_of_edges : Costs → List Site → List Edge → List ℕ
costs_of_edges t g [] = []
costs_of_edges t g (e ∷ es) = cost_of_edge t g (Some e) ∷ costs_of_edges t g es

abbrev pub caps_of_edges : List Site → List Edge → List (ℕ × ℕ)
caps_of_edges g [] = []
caps_of_edges g (e ∷ es) = (0, cap_of_edge g e) ∷ caps_of_edges g es

-- each cost is a number of 32 bits
abbrev pub AreSmall : Costs → Type 0
AreSmall t = (b : BlockName) → block_cost t b < 2 ^ 32
