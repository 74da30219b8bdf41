-- How large a graph may be: at most 1,024 block copies, 2,048 edges, and caps of at most 2^40. This project's own.
use Rattle.std.specs.Prelude.{ℕ, ◌+◌, ◌^◌, nat_lt, if◌then◌else◌, List, [], ◌∷◌, length, Option, Some, None, option_map}
use Rattle.c_tree.specs.declared.program.BlockName.{BlockName}
use Rattle.flow_laws.specs.Sites.{Site}
use Rattle.flow_laws.specs.Graphs.{edges}
use Rattle.graph_lists.specs.Joints.{block_above}
use Rattle.flow_graph.specs.declared.fault.PlanFault.{PlanFault}
use Rattle.flow_graph.specs.declared.fault.PlanFault.TheVariants.{Blocks, Edges, Cap}

-- 1 for a block copy; Entry, Exit and landings have no block
abbrev pub copies_of : Option BlockName → ℕ
copies_of None = 0
copies_of (Some b) = 1

-- how many nodes are block copies
abbrev pub block_copies : List Site → ℕ
block_copies [] = 0
block_copies (s ∷ g) = copies_of s.node.block + block_copies g

-- the first block copy whose cap is above the limit
abbrev pub first_above : ℕ → List Site → Option BlockName
first_above limit [] = None
first_above limit (s ∷ g) = block_above limit s.node.block s.node.cap (first_above limit g)

abbrev pub size_verdict : ℕ → ℕ → Option BlockName → Option PlanFault
size_verdict copies edges above =
    if nat_lt 1024 copies then Some Blocks else (if nat_lt 2048 edges then Some Edges else option_map (λ b. Cap b)
    above)

-- why a graph is too large, if it is
unfoldable pub size_fault : List Site → Option PlanFault
size_fault g = size_verdict (block_copies g) (length (edges g)) (first_above (2 ^ 40) g)
