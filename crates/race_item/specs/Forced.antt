-- Forced lists: what all driven paths of a region begin with.
use Rattle.std.specs.Prelude.{◌⊎◌, ◌≡◌, ℕ, List, IsTrue}
use Rattle.c_tree.specs.declared.program.Program.{Program}
use Rattle.flow_laws.specs.Graphs.{graph, edges}
use Rattle.flow_laws.specs.Paths.{follows}
use Rattle.flow_laws.specs.Claims.{Begins, IsDriven}
use Rattle.race_item.specs.declared.region.Cut.{Cut}
use Rattle.race_item.specs.declared.region.Region.{Region}
use Rattle.race_item.specs.Regions.{Covers, MayGoOn}

-- the list is contiguous from Entry, and every driven path that the region covers begins with it
pub record IsForcedFor (p : Program) (r : Region) (q : List ℕ) : Type 0 where
  pub contiguous : IsTrue (follows (edges (graph p)) q)
  pub begins_all : (w : List ℕ) → IsDriven p w → Covers p r w → Begins q w

-- the list may go on with the edge `on`, and with no edge but this and `other`
pub record GoesOnByTwo (p : Program) (cuts : List Cut) (q : List ℕ) (on other : ℕ) : Type 0 where
  pub may : MayGoOn p cuts q on
  pub others : (e : ℕ) → MayGoOn p cuts q e → (e ≡ on) ⊎ (e ≡ other)
