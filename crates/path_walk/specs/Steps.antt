-- Which edges may follow where a walk stands, and where it stands. This project's own.
use Rattle.std.specs.Prelude.{
  ◌≡◌,
  ◌⊎◌,
  ◌<◌,
  ℕ,
  ◌-◌,
  Bool,
  true,
  false,
  List,
  [],
  ◌∷◌,
  ◌++◌,
  length,
  Option,
  Some,
  slice_index,
}
use Rattle.c_tree.specs.declared.program.Program.{Program}
use Rattle.flow_laws.specs.declared.graph.Way.TheVariants.{True, False}
use Rattle.flow_laws.specs.Graphs.{graph, edges, loops}
use Rattle.flow_laws.specs.Paths.{end_node, keeps_each, edge_count, IsEdgeFrom, LeavesBy}
use Rattle.path_walk.specs.declared.next.Next.{Next}
use Rattle.path_walk.specs.declared.next.Next.TheVariants.{Fork}
use Rattle.path_walk.specs.declared.step.Step.{Step}
use Rattle.path_walk.specs.declared.step.Step.TheVariants.{Stuck, On, Parts}
use Rattle.path_walk.specs.Counters.{MayTurn, AreAfter}
use Rattle.path_walk.specs.Walks.{IsForced}

-- ---- the step

-- the edge has room and keeps the loops' bounds
pub record MayTake (p : Program) (room : List ℕ) (left : List (Option ℕ)) (e : ℕ) : Type 0 where
  pub has_room : 0 < slice_index room e
  pub turns : MayTurn (loops (graph p)) left e

-- and it leaves the node
pub record IsFree (p : Program) (room : List ℕ) (left : List (Option ℕ)) (at e : ℕ) : Type 0 where
  pub leaves : IsEdgeFrom (edges (graph p)) at e
  pub may : MayTake p room left e

-- what may follow is none, one, or two edges
abbrev pub IsChosen : Program → List ℕ → List (Option ℕ) → ℕ → Step → Type 0
IsChosen p room left at Stuck = (e : ℕ) → IsFree p room left at e → ⊥
IsChosen p room left at (On e) = IsFree p room left at e × ((other : ℕ) → IsFree p room left at other → other ≡ e)
IsChosen p room left at (Parts a b) =
    IsFree p room left at a × IsFree p room left at b × LeavesBy (edges (graph p)) a True × LeavesBy (edges (graph p))
    b False × ((other : ℕ) → IsFree p room left at other → (other ≡ a) ⊎ (other ≡ b))

abbrev pub step_of_two : ℕ → ℕ → Bool → Bool → Step
step_of_two a b true true = Parts a b
step_of_two a b true false = On a
step_of_two a b false true = On b
step_of_two a b false false = Stuck

-- ---- where a walk stands

-- the list leads from Entry to the node
abbrev pub LeadsTo : Program → List ℕ → ℕ → Type 0
LeadsTo p q n = end_node (edges (graph p)) 0 q ≡ Some n

-- the fork of a list, by two edges
abbrev pub fork_of : List ℕ → ℕ → ℕ → Next
fork_of q a b = Fork (q ++ a ∷ []) (q ++ b ∷ [])

-- the list is the prefix and what had to follow; it leads to the node, keeps the loops' bounds with these turns left,
-- and leaves this room
pub record Stands (p : Program) (prefix room list free : List ℕ) (left : List (Option ℕ)) (at : ℕ) : Type 0 where
  pub more : List ℕ
  pub is : list ≡ prefix ++ more
  pub forced : IsForced p prefix room more
  pub leads : LeadsTo p list at
  pub kept : keeps_each (loops (graph p)) list ≡ true
  pub turns : AreAfter (loops (graph p)) list left
  pub room_is : (e : ℕ) → slice_index free e ≡ slice_index room e - edge_count more e
  pub as_many : length free ≡ length room
