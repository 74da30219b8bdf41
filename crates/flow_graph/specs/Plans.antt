-- Plans: a well-formed program and its costs, whose graph is within the limits. This project's own.
use Rattle.std.specs.Prelude.{◌≡◌, ℕ, ◌&&◌, Bool, nat_lt, List, length, map, Option, None, Some, slice_get}
use Rattle.std.specs.List.{list_all}
use Rattle.c_tree.specs.declared.program.Program.{Program}
use Rattle.c_tree.specs.declared.program.Costs.{Costs}
use Rattle.c_tree.specs.Meaning.Claims.{AreCostsOf}
use Rattle.c_tree.specs.Keeping.WellFormed.{WellFormed}
use Rattle.flow_laws.specs.declared.graph.Edge.{Edge}
use Rattle.flow_laws.specs.declared.graph.Loop.{Loop}
use Rattle.flow_laws.specs.Sites.{Site}
use Rattle.flow_laws.specs.Graphs.{graph, edges, loops, loop_copies}
use Rattle.flow_laws.specs.Paths.{keeps_each, cost_of_block}
use Rattle.graph_lists.specs.declared.onward.Outs.{Outs}
use Rattle.graph_lists.specs.declared.interval.Span.{Span}
use Rattle.graph_lists.specs.declared.spot.Spot.{Spot}
use Rattle.graph_lists.specs.declared.touch.Touch.{Touch}
use Rattle.flow_graph.specs.Limits.{size_fault, block_copies}
use Rattle.graph_lists.specs.Leaving.{all_outs}
use Rattle.graph_lists.specs.Spans.{span_of}
use Rattle.flow_graph.specs.Spots.{spots}
use Rattle.graph_lists.specs.Touches.{all_touches}

-- what is planned
pub record Planned : Type 0 where
  pub program : Program
  pub costs : Costs

abbrev pub plan_with : Program → Costs → Planned
plan_with p t = record { program = p; costs = t }

-- what every plan keeps: its program is well-formed, its costs are of this program, and no limit refuses its graph
pub record IsPlanned (plan : Planned) : Type 0 where
  pub formed : WellFormed plan.program
  pub costed : AreCostsOf plan.program plan.costs
  pub allowed : size_fault (graph plan.program) ≡ None

-- the lists that a plan owns are those of the graph, and nothing refuses it
pub record IsPlan (p : Program) (t : Costs) (laid : List Spot) (es : List Edge) (outs : List Outs) (ls : List Loop)
    (spans : List Span) (touches : List (List Touch)) (copies : ℕ) : Type 0 where
  pub formed : WellFormed p
  pub costed : AreCostsOf p t
  pub allowed : size_fault (graph p) ≡ None
  pub nodes_are : laid ≡ spots (graph p)
  pub edges_are : es ≡ edges (graph p)
  pub outs_are : outs ≡ all_outs 0 (spots (graph p))
  pub loops_are : ls ≡ loops (graph p)
  pub spans_are : spans ≡ map span_of (loop_copies (graph p))
  pub touches_are : touches ≡ all_touches (loops (graph p)) 0 (edges (graph p))
  pub copies_are : copies ≡ block_copies (graph p)

-- the list names only edges, and keeps each loop's bound
abbrev pub keeps_all : List Site → List ℕ → Bool
keeps_all g q = list_all (λ j. nat_lt j (length (edges g))) q && keeps_each (loops g) q

-- the cost of the block of a node as it is laid out, and 0 where it has none
abbrev pub cost_of_spot : Costs → Option Spot → ℕ
cost_of_spot t None = 0
cost_of_spot t (Some s) = cost_of_block t s.node.block

abbrev pub cost_of_source : Costs → List Spot → Option Edge → ℕ
cost_of_source t laid None = 0
cost_of_source t laid (Some e) = cost_of_spot t (slice_get laid e.from)
