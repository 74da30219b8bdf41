-- Where loop copies stand. This project's own.
use Rattle.std.specs.Prelude.{ℕ, ◌+◌, List, [], ◌∷◌, ◌++◌}
use Rattle.flow_laws.specs.Sites.{LoopCopy}
use Rattle.graph_lists.specs.declared.interval.Span.{Span}
use Rattle.graph_lists.specs.declared.spot.Ends.{Ends}
use Rattle.graph_lists.specs.declared.spot.Ends.TheVariants as ends
use Rattle.graph_lists.specs.declared.spot.Spot.{Spot}

-- the interval of a loop copy, and its condition's node
abbrev pub span_of : LoopCopy → Span
span_of l = record { from = l.from; past = l.past; test = l.test }

-- ---- of nodes as they are laid out, of which the first has the number n

abbrev pub ends_spans : ℕ → Ends → List Span
ends_spans n ends.Never = []
ends_spans n ends.Once = []
ends_spans n ends.Choice = []
ends_spans n (ends.Loop l) = record { from = l.from; past = l.past; test = n } ∷ []

abbrev pub spot_spans : ℕ → List Spot → List Span
spot_spans n [] = []
spot_spans n (s ∷ g) = ends_spans n s.ends ++ spot_spans (n + 1) g
