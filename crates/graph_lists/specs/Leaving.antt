-- The edges that leave a node: none, one, or the two of a condition. This project's own.
use Rattle.std.specs.Prelude.{◌≡◌, ◌⊎◌, ℕ, ◌+◌, List, [], ◌∷◌, length, Some, slice_get}
use Rattle.flow_laws.specs.declared.graph.Way.{Way}
use Rattle.flow_laws.specs.declared.graph.Way.TheVariants.{Next, True, False}
use Rattle.flow_laws.specs.declared.graph.Edge.{Edge}
use Rattle.graph_lists.specs.declared.onward.Outs.{Outs}
use Rattle.graph_lists.specs.declared.onward.Outs.TheVariants.{Nowhere, One, Two}
use Rattle.graph_lists.specs.declared.spot.Ends.{Ends}
use Rattle.graph_lists.specs.declared.spot.Ends.TheVariants as ends
use Rattle.graph_lists.specs.declared.spot.Spot.{Spot}
use Rattle.graph_lists.specs.Joints.{outs_of}

-- the edge number e leaves the node n by this way
pub record IsOutBy (es : List Edge) (n e : ℕ) (way : Way) : Type 0 where
  pub edge : Edge
  pub is : slice_get es e ≡ Some edge
  pub from_is : edge.from ≡ n
  pub way_is : edge.way ≡ way

-- these edges leave the node n, of a condition's first the one by `True`
abbrev pub Leave : List Edge → ℕ → Outs → Type 0
Leave es n Nowhere = Unit {0}
Leave es n (One e) = IsOutBy es n e Next
Leave es n (Two t f) = IsOutBy es n t True × IsOutBy es n f False

-- the edge number j is one of them
abbrev pub IsAmong : Outs → ℕ → Type 0
IsAmong Nowhere j = ⊥
IsAmong (One e) j = j ≡ e
IsAmong (Two t f) j = (j ≡ t) ⊎ (j ≡ f)

-- these are the edges that leave the node n
pub record AreOuts (es : List Edge) (n : ℕ) (o : Outs) : Type 0 where
  pub leave : Leave es n o
  pub all : (j : ℕ) (e : Edge) → slice_get es j ≡ Some e → e.from ≡ n → IsAmong o j

-- ---- of nodes as they are laid out, where the first edge has this number

abbrev pub outs_from : ℕ → Ends → Outs
outs_from first ends.Never = Nowhere
outs_from first ends.Once = One first
outs_from first ends.Choice = Two first (first + 1)
outs_from first (ends.Loop l) = Two first (first + 1)

abbrev pub all_outs : ℕ → List Spot → List Outs
all_outs first [] = []
all_outs first (s ∷ g) = outs_from first s.ends ∷ all_outs (first + length (outs_of 0 s)) g
