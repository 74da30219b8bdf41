-- Trials: what is tried with an input, to split an item at its next fork and to settle it by a path.
use Rattle.std.specs.Prelude.{
  ◌≡◌,
  ◌≤◌,
  ◌⊎◌,
  ◌&&◌,
  nat_le,
  ℕ,
  zero,
  suc,
  Bool,
  false,
  List,
  [],
  ◌∷◌,
  slice_get,
  slice_set,
}
use Rattle.std.specs.List.{list_all}
use Rattle.std.specs.Prelude.{Option, None, Some, option_and_then, length, slice_index}
use Rattle.c_tree.specs.declared.program.Program.{Program}
use Rattle.c_tree.specs.declared.program.Input.{Input}
use Rattle.flow_laws.specs.Graphs.{graph, edges}
use Rattle.flow_laws.specs.Paths.{IsPath}
use Rattle.flow_laws.specs.Claims.{Begins}
use Rattle.flow_graph.specs.Plans.{Planned}
use Rattle.ipet_rows.specs.Counts.{edge_counts}
use Rattle.cond_laws.specs.Weights.{weight, most_weight}
use Rattle.path_formulas.specs.FormulasOfLists.{IsDrivenBy}
use Rattle.path_walk.specs.declared.next.Next.{Next}
use Rattle.path_walk.specs.declared.next.Next.TheVariants.{Long, Whole, Dead, Fork}
use Rattle.race_item.specs.declared.region.Cut.{Cut}
use Rattle.race_item.specs.declared.region.Region.{Region}
use Rattle.race_item.specs.declared.settlement.Conclusion.{Conclusion}
use Rattle.race_item.specs.declared.settlement.Conclusion.TheVariants.{Found}
use Rattle.race_item.specs.Lists.{EachOf}
use Rattle.race_item.specs.Regions.{IsWithin, upper_limit}
use Rattle.race_item.specs.Items.{list_cost}
use Rattle.race_item.specs.Forks.{IsWithinLimits, IsRoomBehind, ForkOf, SplitsAt, FindsBy, fork_split}

-- ---- what is concluded

-- it is the split at the region's fork, whose stem the input drives
pub record IsSplitByFork (p : Program) (r : Region) (input : Input) (conclusion : Conclusion) : Type 0 where
  pub stem : List ℕ
  pub left : ℕ
  pub right : ℕ
  pub splits : SplitsAt p r input stem left right
  pub is : conclusion ≡ fork_split r stem left right

-- the input splits the region nowhere
abbrev pub SplitsNowhere : Program → Region → Input → Type 0
SplitsNowhere p r input = (stem : List ℕ) (left right : ℕ) → ¬ SplitsAt p r input stem left right

-- it says that the input was found, at the price of the path
pub record IsFoundByPath (plan : Planned) (r : Region) (path : List ℕ) (input : Input) (conclusion : Conclusion) : Type
    0 where
  pub finds : FindsBy plan r path input
  pub is : conclusion ≡ Found input (list_cost plan path)

-- ---- steps inside

-- the region has no fork
abbrev pub HasNoFork : Program → Region → Type 0
HasNoFork p r = (a b : List ℕ) → ¬ ForkOf p r a b

-- these lists are its fork, and no others
pub record IsOnlyFork (p : Program) (r : Region) (a b : List ℕ) : Type 0 where
  pub fork : ForkOf p r a b
  pub only : (c d : List ℕ) → ForkOf p r c d → c ≡ a

-- it is no fork
abbrev pub IsNoFork : Next → Type 0
IsNoFork (Long q) = Unit {0}
IsNoFork (Whole q) = Unit {0}
IsNoFork (Dead q) = Unit {0}
IsNoFork (Fork a b) = ⊥

-- the list is within the limit of weight, and the input fits and drives it
pub record IsLightAndDriven (p : Program) (q : List ℕ) (input : Input) : Type 0 where
  pub light : weight p q ≤ most_weight
  pub driven : IsDrivenBy p q input

-- the upper limits of the edges, one after the other
pub record AreUpperLimits (p : Program) (cuts : List Cut) (limits : List ℕ) : Type 0 where
  pub many : length limits ≡ length (edges (graph p))
  pub each : (e : ℕ) → slice_index limits e ≡ upper_limit p cuts e

-- one of the room of an edge is taken, of which there is none where the edge has none left or is not there
abbrev pub one_taken : List ℕ → ℕ → Option ℕ → Option (List ℕ)
one_taken room e None = None
one_taken room e (Some zero) = None
one_taken room e (Some (suc n)) = Some (slice_set room e n)

-- the room that is left behind a list
abbrev pub room_after : List ℕ → List ℕ → Option (List ℕ)
room_after room [] = Some room
room_after room (e ∷ q) = option_and_then (λ left. room_after left q) (one_taken room e (slice_get room e))

-- what is left of the upper limits behind a list; there is none where the list passes a limit
abbrev pub IsRoomOf : Program → List Cut → List ℕ → Option (List ℕ) → Type 0
IsRoomOf p cuts q None = ¬ IsWithinLimits p cuts q
IsRoomOf p cuts q (Some room) =
    IsWithinLimits p cuts q × IsRoomBehind p cuts q room × (length room ≡ length (edges (graph p)))

-- whether a count is there and lies within a cut
abbrev pub is_within : Cut → Option ℕ → Bool
is_within cut None = false
is_within cut (Some n) = nat_le cut.lo n && nat_le n cut.hi

-- whether the counts of a list lie within each cut
abbrev pub keeps_cuts : Program → List ℕ → List Cut → Bool
keeps_cuts p q cuts = list_all (λ cut. is_within cut (slice_get (edge_counts p q) cut.edge)) cuts

-- all but that an input drives it
pub record MaySettle (plan : Planned) (r : Region) (path : List ℕ) : Type 0 where
  pub is_path : IsPath (edges (graph plan.program)) path
  pub begins : Begins r.prefix path
  pub within : EachOf (IsWithin (edge_counts plan.program path)) r.cuts
  pub dearest : (list_cost plan path ≡ r.bound) ⊎ (r.prefix ≡ path)
