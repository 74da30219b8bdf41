-- How far the paths of an item go the same way, and where they part.
use Rattle.std.specs.Prelude.{◌≡◌, ◌⊎◌, ℕ, List, [], ◌∷◌, ◌++◌}
use Rattle.c_tree.specs.declared.program.Program.{Program}
use Rattle.flow_laws.specs.declared.graph.Way.TheVariants.{True, False}
use Rattle.flow_laws.specs.Graphs.{graph, edges}
use Rattle.flow_laws.specs.Paths.{IsPath, LeavesBy}
use Rattle.flow_laws.specs.Claims.{Begins}
use Rattle.flow_graph.specs.Plans.{Planned}
use Rattle.path_walk.specs.declared.next.Next.{Next}
use Rattle.path_walk.specs.declared.next.Next.TheVariants as next
use Rattle.race_item.specs.declared.region.Region.{Region}
use Rattle.race_item.specs.Regions.{MayGoOn, IsFront}
use Rattle.race_item.specs.Facts.{IsRefuted, IsHeavy}
use Rattle.race_item.specs.Forced.{IsForcedFor}
use Rattle.item_turn.specs.declared.onward.Onward.{Onward}
use Rattle.item_turn.specs.declared.onward.Onward.TheVariants.{Nowhere, Path, Fork, Long}

-- a list that begins with the region's prefix, and with which all driven paths of the region begin
pub record IsStretch (p : Program) (r : Region) (q : List ℕ) : Type 0 where
  pub forced : IsForcedFor p r q
  pub begins : Begins r.prefix q

-- behind the stem, paths may go on by one edge and by another, and by no third
pub record PartsAt (p : Program) (r : Region) (stem : List ℕ) (left right : ℕ) : Type 0 where
  pub left_may : MayGoOn p r.cuts stem left
  pub left_is : LeavesBy (edges (graph p)) left True
  pub right_may : MayGoOn p r.cuts stem right
  pub right_is : LeavesBy (edges (graph p)) right False
  pub others : (e : ℕ) → MayGoOn p r.cuts stem e → (e ≡ left) ⊎ (e ≡ right)

-- the two lists are a stretch with one edge more each, by which paths part
pub record AreFork (p : Program) (r : Region) (a b : List ℕ) : Type 0 where
  pub stem : List ℕ
  pub left : ℕ
  pub right : ℕ
  pub first : a ≡ stem ++ left ∷ []
  pub second : b ≡ stem ++ right ∷ []
  pub stretch : IsStretch p r stem
  pub parts : PartsAt p r stem left right

-- a stretch that is a front of the region, where it was gone on to from the region's prefix
pub record IsOnFrom (p : Program) (r : Region) (from q : List ℕ) : Type 0 where
  pub stretch : IsStretch p r q
  pub front : from ≡ r.prefix → IsFront p r q

-- to where a stretch goes on
abbrev pub IsOnward : Planned → Region → List ℕ → Onward → Type 0
IsOnward plan r from Nowhere = IsRefuted plan r
IsOnward plan r from (Path q) = IsOnFrom plan.program r from q × IsPath (edges (graph plan.program)) q
IsOnward plan r from (Fork a b) = (f : AreFork plan.program r a b) × IsOnFrom plan.program r from f.stem
IsOnward plan r from (Long q) = IsOnFrom plan.program r from q × IsHeavy plan.program q

-- a front of the region is too heavy to be decided
pub record HasHeavyFront (p : Program) (r : Region) : Type 0 where
  pub front : List ℕ
  pub is_front : IsFront p r front
  pub heavy : IsHeavy p front

-- a fork whose stem is a front of the region
pub record IsForkFrom (p : Program) (r : Region) (a b : List ℕ) : Type 0 where
  pub fork : AreFork p r a b
  pub front : IsFront p r fork.stem

-- to where the answer of an extension leads
abbrev pub onward_of : Next → Onward
onward_of (next.Long q) = Long q
onward_of (next.Whole q) = Path q
onward_of (next.Dead q) = Nowhere
onward_of (next.Fork a b) = Fork a b
