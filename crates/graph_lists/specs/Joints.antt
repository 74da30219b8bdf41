-- Edges, loop copies and the first cap above a limit, of nodes as they are laid out. This project's own.
use Rattle.std.specs.Prelude.{
  ℕ,
  ◌+◌,
  ◌==◌,
  ◌&&◌,
  not,
  Bool,
  List,
  [],
  ◌∷◌,
  ◌++◌,
  length,
  Option,
  Some,
  None,
  nat_lt,
  if◌then◌else◌,
}
use Rattle.c_tree.specs.declared.program.BlockName.{BlockName}
use Rattle.flow_laws.specs.declared.graph.Way.TheVariants.{Next, True, False}
use Rattle.flow_laws.specs.declared.graph.Edge.{Edge}
use Rattle.flow_laws.specs.declared.graph.Loop.{Loop}
use Rattle.flow_laws.specs.Graphs.{leaves, is_in, positions}
use Rattle.graph_lists.specs.declared.spot.Turn.{Turn}
use Rattle.graph_lists.specs.declared.spot.Ends.{Ends}
use Rattle.graph_lists.specs.declared.spot.Ends.TheVariants as ends
use Rattle.graph_lists.specs.declared.spot.Spot.{Spot}

-- the edges of a node of the number n
abbrev pub spot_outs : ℕ → Ends → ℕ → ℕ → List Edge
spot_outs n ends.Never t u = []
spot_outs n ends.Once t u = leaves n Next t ∷ []
spot_outs n ends.Choice t u = leaves n True t ∷ leaves n False u ∷ []
spot_outs n (ends.Loop l) t u = leaves n True t ∷ leaves n False u ∷ []

abbrev pub outs_of : ℕ → Spot → List Edge
outs_of n s = spot_outs n s.ends s.yes s.no

abbrev pub spot_edges : ℕ → List Spot → List Edge
spot_edges n [] = []
spot_edges n (s ∷ g) = outs_of n s ++ spot_edges (n + 1) g

-- an edge leads into the loop from outside
abbrev pub turn_enters : Turn → Edge → Bool
turn_enters l e = e.to == l.from && not (is_in l.from l.past e.from)

abbrev pub turn_loop : List Edge → ℕ → Turn → Loop
turn_loop es first l = record {
  bound = l.bound;
  into = positions 0 (turn_enters l) es;
  turn = first;
  at_end = l.at_end;
}

-- the loop of a condition, whose first edge has this number
abbrev pub ends_loops : List Edge → ℕ → Ends → List Loop
ends_loops es first ends.Never = []
ends_loops es first ends.Once = []
ends_loops es first ends.Choice = []
ends_loops es first (ends.Loop l) = turn_loop es first l ∷ []

abbrev pub spot_loops : List Edge → ℕ → List Spot → List Loop
spot_loops es first [] = []
spot_loops es first (s ∷ g) = ends_loops es first s.ends ++ spot_loops es (first + length (outs_of 0 s)) g

-- the block of a node whose cap is above the limit, and else what comes later
abbrev pub block_above : ℕ → Option BlockName → ℕ → Option BlockName → Option BlockName
block_above limit None cap later = later
block_above limit (Some b) cap later = if nat_lt limit cap then Some b else later

abbrev pub spot_above : ℕ → List Spot → Option BlockName
spot_above limit [] = None
spot_above limit (s ∷ g) = block_above limit s.node.block s.node.cap (spot_above limit g)
