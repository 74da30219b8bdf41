-- The part that a tree of the code is. This project's own.
use Rattle.std.specs.Prelude.{◌≡◌, ℕ, ◌≤◌, ◌+◌, ◌^◌, max, List, [], ◌∷◌, ◌++◌, Option, Some, None}
use Rattle.ipet_peak.specs.declared.tree.Tree.{Tree, Row_of-Tree, end_of-Tree, more_of-Tree}
use Rattle.ipet_peak.specs.declared.tree.Tree.TheVariants as tree
use Rattle.flow_laws.specs.Sites.{Targets}
use Rattle.ipet_peak.specs.declared.ahead.CostsAhead.{CostsAhead}
use Rattle.ipet_peak.specs.declared.flows.Amounts.{Amounts}
use Rattle.peak_laws.specs.Magnitudes.{node_caps, EachIsAtMost}
use Rattle.peak_laws.specs.Parts.{Part, Nothing, Block, Then, Choice, While, Do, Body, dearest_ways, full_turn_cost}
use Rattle.peak_laws.specs.declared.ways.Ways.{Ways}

unfoldable mutual
  pub part_of : Tree → Part
  part_of tree.Nothing = Nothing
  part_of (tree.Block c l) = Block c l
  part_of (tree.Then' w a x b y) = Then (row_part_of x) (row_part_of y)
  part_of (tree.Choice' w c a x b y) = Choice c (row_part_of x) (row_part_of y)
  part_of (tree.While' w c m s a x) = While c m s (row_part_of x)
  part_of (tree.Do' w c m a x) = Do c m (row_part_of x)
  part_of (tree.Body' w a x) = Body (row_part_of x)

  pub row_part_of : {m : _} → Row_of-Tree m → Part
  row_part_of end_of-Tree = Nothing
  row_part_of (more_of-Tree t rest) = part_of t

-- the ways that a tree and the trees in it keep are the dearest ways of their parts
unfoldable mutual
  pub KeepsWays : Tree → Type 0
  KeepsWays tree.Nothing = Unit {0}
  KeepsWays (tree.Block c l) = Unit {0}
  KeepsWays (tree.Then' w a x b y) = (w ≡ dearest_ways (Then (row_part_of x) (row_part_of y)))
      × (RowKeepsWays x × RowKeepsWays y)
  KeepsWays (tree.Choice' w c a x b y) = (w ≡ dearest_ways (Choice c (row_part_of x) (row_part_of y)))
      × (RowKeepsWays x × RowKeepsWays y)
  KeepsWays (tree.While' w c m s a x) = (w ≡ dearest_ways (While c m s (row_part_of x))) × RowKeepsWays x
  KeepsWays (tree.Do' w c m a x) = (w ≡ dearest_ways (Do c m (row_part_of x))) × RowKeepsWays x
  KeepsWays (tree.Body' w a x) = (w ≡ dearest_ways (Body (row_part_of x))) × RowKeepsWays x

  pub RowKeepsWays : {m : _} → Row_of-Tree m → Type 0
  RowKeepsWays end_of-Tree = Unit {0}
  RowKeepsWays (more_of-Tree t rest) = KeepsWays t

-- a tree of this part
pub record IsTreeOf (t : Tree) (p : Part) : Type 0 where
  pub part : part_of t ≡ p
  pub keeps : KeepsWays t

-- what the turns of each loop cost, by the loops' conditions
abbrev pub turns_of : Part → List ℕ
turns_of Nothing = []
turns_of (Block c l) = []
turns_of (Then p q) = turns_of p ++ turns_of q
turns_of (Choice c p q) = turns_of p ++ turns_of q
turns_of (While c m s p) = full_turn_cost c s (dearest_ways p) ∷ turns_of p
turns_of (Do c m p) = turns_of p ++ (full_turn_cost c None (dearest_ways p) ∷ [])
turns_of (Body p) = turns_of p

-- ---- from ways to what lies ahead

-- what a way and what is ahead of it cost, or 0 where there is no way
abbrev pub cost_by_way : Option ℕ → ℕ → ℕ
cost_by_way None t = 0
cost_by_way (Some d) t = d + t

-- the dearest of the ways with what is ahead of each
abbrev pub dearest_cost : Ways → Targets → ℕ
dearest_cost w t =
    max (max (cost_by_way w.next t.next) (cost_by_way w.breaks t.breaks))
    (max (cost_by_way w.continues t.continues) (cost_by_way w.returns t.returns))

abbrev pub cost_targets : CostsAhead → Targets
cost_targets t = record { next = t.next; breaks = t.breaks; continues = t.continues; returns = t.returns }

-- the greatest of the four
abbrev pub greatest_target : Targets → ℕ
greatest_target t = max (max t.next t.breaks) (max t.continues t.returns)

-- ---- counts

abbrev pub amount_targets : Amounts → Targets
amount_targets a = record { next = a.next; breaks = a.breaks; continues = a.continues; returns = a.returns }

-- a part that is entered k times, no node of which can be reached more than 2^40 times
pub record FitsCaps (p : Part) (k : ℕ) : Type 0 where
  pub entries : k ≤ 2 ^ 40
  pub caps : EachIsAtMost (2 ^ 40) (node_caps p k)

-- ---- trees that were made one after the other, from the last one

-- the stack of parts that these trees are, on top of these parts
abbrev pub stack_onto : List Tree → List Part → List Part
stack_onto [] ps = ps
stack_onto (t ∷ ts) ps = stack_onto ts (part_of t ∷ ps)

abbrev pub parts_of : List Tree → List Part
parts_of ts = stack_onto ts []

abbrev pub EachKeepsWays : List Tree → Type 0
EachKeepsWays [] = Unit {0}
EachKeepsWays (t ∷ ts) = KeepsWays t × EachKeepsWays ts

-- the tree that was made, and the trees that it leaves, are these parts
pub record Makes (t : Tree) (left : List Tree) (ps : List Part) : Type 0 where
  pub parts : part_of t ∷ parts_of left ≡ ps
  pub made : KeepsWays t
  pub others : EachKeepsWays left
