-- Nodes as they are laid out: without their statements, and with caps that stay at the last number of 64 bits. This
-- project's own.
use Rattle.std.specs.Prelude.{List, map, Option, Some, None}
use Rattle.flow_laws.specs.declared.graph.Node.{Node}
use Rattle.flow_laws.specs.Sites.{
  LoopCopy,
  Content,
  Entry,
  Exit,
  Simple,
  Test,
  Jump,
  Give,
  Enter,
  Missing,
  Land,
  Site,
  call_of,
}
use Rattle.graph_lists.specs.declared.spot.Turn.{Turn}
use Rattle.graph_lists.specs.declared.spot.Ends.{Ends}
use Rattle.graph_lists.specs.declared.spot.Ends.TheVariants as ends
use Rattle.graph_lists.specs.declared.spot.Spot.{Spot}
use Rattle.graph_lists.specs.Amounts.{capped_amount}

abbrev pub turn_of : LoopCopy → Turn
turn_of l = record { from = l.from; past = l.past; bound = l.bound; at_end = l.at_end }

abbrev pub test_ends : Option LoopCopy → Ends
test_ends None = ends.Choice
test_ends (Some l) = ends.Loop (turn_of l)

abbrev pub ends_of : Content → Ends
ends_of Exit = ends.Never
ends_of (Test l e) = test_ends l
ends_of Entry = ends.Once
ends_of (Simple ss) = ends.Once
ends_of Jump = ends.Once
ends_of (Give e) = ends.Once
ends_of (Enter t ls es) = ends.Once
ends_of Missing = ends.Once
ends_of (Land t ty b) = ends.Once

abbrev pub kept_node : Node → Node
kept_node nd = record { block = nd.block; chain = nd.chain; cap = capped_amount nd.cap }

abbrev pub spot_of : Site → Spot
spot_of s = record {
  node = kept_node s.node;
  call = call_of s.content;
  ends = ends_of s.content;
  yes = s.yes;
  no =
      s.no;
}

abbrev pub spots : List Site → List Spot
spots g = map spot_of g
