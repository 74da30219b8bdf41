-- A fork at which the search of a turn stands, what a step from it comes to, and the children of a split there.
use Rattle.std.specs.Prelude.{◌≡◌, ◌≤◌, ℕ, List}
use Rattle.flow_laws.specs.Graphs.{graph, edges}
use Rattle.flow_laws.specs.Paths.{IsPath}
use Rattle.ipet_rows.specs.Counts.{edge_counts}
use Rattle.path_formulas.specs.FormulasOfLists.{IsDrivenBy}
use Rattle.race_item.specs.declared.region.Child.{Child}
use Rattle.race_item.specs.Lists.{EachOf}
use Rattle.race_item.specs.Regions.{IsWithin}
use Rattle.race_item.specs.Items.{ItemOf}
use Rattle.race_item.specs.Settled.{SettledOf, NamesLimit}
use Rattle.item_bounds.specs.Bounds.{BoundsDriven}
use Rattle.item_turn.specs.declared.step.Open.{Open}
use Rattle.item_turn.specs.declared.step.Step.{Step}
use Rattle.item_turn.specs.declared.step.Step.TheVariants.{Settled, Split, On}
use Rattle.item_turn.specs.Stretches.{AreFork, IsStretch}

-- a fork of the item, whose stem the input drives
pub record IsOpen (item : ItemOf) (o : Open) : Type 0 where
  pub fork : AreFork item.rows.plan.program item.region o.first o.second
  pub driven : IsDrivenBy item.rows.plan.program fork.stem o.input

-- a settlement of the item, which names the limit
pub record IsOf (item : ItemOf) (limit : ℕ) (s : SettledOf) : Type 0 where
  pub item_is : s.item ≡ item
  pub named : NamesLimit limit s.conclusion

-- the item is settled, or stands at a further fork; that it is to be split says nothing
abbrev pub IsStep : ItemOf → ℕ → Step → Type 0
IsStep item limit (Settled s) = IsOf item limit s
IsStep item limit Split = Unit {0}
IsStep item limit (On o) = IsOpen item o

-- a child with the item's cuts and this prefix, whose bound is that of the item or less and bounds its driven paths
pub record IsChild (item : ItemOf) (prefix : List ℕ) (c : Child) : Type 0 where
  pub cuts : c.cuts ≡ item.region.cuts
  pub prefix_is : c.prefix ≡ prefix
  pub lower : c.bound ≤ item.region.bound
  pub bounds : BoundsDriven item.rows item.region.cuts prefix item.region.bound c.bound

-- a stretch that is a path within the item's cuts
pub record IsOnlyPath (item : ItemOf) (q : List ℕ) : Type 0 where
  pub stretch : IsStretch item.rows.plan.program item.region q
  pub is_path : IsPath (edges (graph item.rows.plan.program)) q
  pub within : EachOf (IsWithin (edge_counts item.rows.plan.program q)) item.region.cuts
