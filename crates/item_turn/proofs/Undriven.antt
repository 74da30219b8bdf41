-- Where a stretch is driven by no input, or is a path that lies outside the cuts, the item covers no driven path; and a stretch that is
-- a path is the only one.
use Rattle.std.proofs.Common.{◌≡◌, ◌⊎◌, inl, inr, ⊎_elim, ℕ, List, [], ◌∷◌, ◌++◌, refl, sym, ap, ◌∙◌, subst, append_assoc}
use Rattle.c_tree.specs.declared.program.Program.{Program}
use Rattle.c_tree.specs.declared.program.Input.{Input}
use Rattle.c_tree.specs.Keeping.WellFormed.{WellFormed}
use Rattle.flow_laws.specs.Graphs.{graph, edges}
use Rattle.flow_laws.specs.Paths.{IsPath}
use Rattle.flow_laws.specs.Driving.{Drives}
use Rattle.flow_laws.specs.Claims.{IsDriven}
use Rattle.flow_laws.proofs.Driving.DrivenPrefixes.{driven_front}
use Rattle.flow_graph.specs.Plans.{Planned}
use Rattle.ipet_rows.specs.Counts.{edge_counts}
use Rattle.path_formulas.specs.FormulasOfLists.{IsDrivenBy, IsDrivenByNone}
use Rattle.race_item.specs.declared.region.Region.{Region}
use Rattle.race_item.specs.Lists.{EachOf}
use Rattle.race_item.specs.Regions.{IsWithin, Covers}
use Rattle.race_item.specs.Items.{ItemOf, list_cost}
use Rattle.race_item.specs.Facts.{IsRefuted, IsFound}
use Rattle.race_item.specs.Forks.{region_behind}
use Rattle.race_item.specs.Forced.{IsForcedFor}
use Rattle.race_item.proofs.Boxes.{driven_in_box}
use Rattle.race_item.proofs.Forced.{past_fork_forced}
use Rattle.race_item.proofs.Forks.{no_further}
use Rattle.item_turn.specs.Stretches.{IsStretch, AreFork}
use Rattle.item_turn.specs.Steps.{IsOnlyPath}

pub undriven : (plan : Planned) (r : Region) (q : List ℕ) → IsForcedFor plan.program r q → IsDrivenByNone plan.program q → IsRefuted plan r
undriven plan r q forced none w driven covers =
    let begins = forced.begins_all w driven covers in
    none driven.0 (record { fitting = driven.1; driving = driven_front plan.program driven.0 q begins.0 (subst (Drives plan.program driven.0) begins.1 driven.2.drives) })

-- all driven paths of the region are this path
only : (p : Program) (r : Region) (q : List ℕ) → IsForcedFor p r q → IsPath (edges (graph p)) q → (w : List ℕ) → IsDriven p w → Covers p r w → w ≡ q
only p r q forced path w driven covers =
    let begins = forced.begins_all w driven covers in
    no_further p q w driven.0 begins.0 path driven.2.drives begins.1

pub outside : (plan : Planned) (r : Region) (q : List ℕ) → IsForcedFor plan.program r q → IsPath (edges (graph plan.program)) q → ¬ EachOf (IsWithin (edge_counts plan.program q)) r.cuts → IsRefuted plan r
outside plan r q forced path out w driven covers =
    let same = only plan.program r q forced path w driven covers in
    out (subst (λ l. EachOf (IsWithin (edge_counts plan.program l)) r.cuts) same covers.counts_in.within)

pub only_is_found : (item : ItemOf) (q : List ℕ) (i : Input) → WellFormed item.rows.plan.program → IsOnlyPath item q → IsDrivenBy item.rows.plan.program q i → IsFound item.rows.plan item.region i (list_cost item.rows.plan q)
only_is_found item q i formed path by =
    let p = item.rows.plan.program in
    let boxed = driven_in_box p q formed (i, by.fitting, record { path = path.is_path; drives = by.driving }) in
    record {
      path = q;
      fitting = by.fitting;
      drives = record { path = path.is_path; drives = by.driving };
      covered = record { counts_in = record { caps = boxed.caps; within = path.within }; begins = path.stretch.begins };
      costs = refl;
      dearest = inr (λ w driven covers. only p item.region q path.stretch.forced path.is_path w driven covers);
    }

-- ---- sides of a fork

-- the region behind a side that no input drives covers no driven path
side : (plan : Planned) (r : Region) (stem : List ℕ) (e : ℕ) → IsDrivenByNone plan.program (stem ++ e ∷ []) → IsRefuted plan (region_behind r stem e)
side plan r stem e none w driven covers =
    none driven.0 (record { fitting = driven.1; driving = driven_front plan.program driven.0 (stem ++ e ∷ []) covers.begins.0 (subst (Drives plan.program driven.0) covers.begins.1 driven.2.drives) })

longer : (r stem : List ℕ) (e : ℕ) → (rest : List ℕ) → stem ≡ r ++ rest → (more : List ℕ) × (stem ++ e ∷ [] ≡ r ++ more)
longer r stem e rest is = (rest ++ e ∷ [], ap (λ l. l ++ e ∷ []) is ∙ append_assoc r rest (e ∷ []))

-- where no input drives the one side, the other is a stretch
pub second_stretch : (plan : Planned) (r : Region) (a b : List ℕ) → (f : AreFork plan.program r a b) → IsDrivenByNone plan.program a → IsStretch plan.program r b
second_stretch plan r a b f none =
    subst (IsStretch plan.program r) (sym f.second) (record {
      forced = past_fork_forced plan r f.stem f.right f.left f.stretch.forced (record { may = f.parts.right_may; others = λ e may. swapped (f.parts.others e may) }) (side plan r f.stem f.left (subst (IsDrivenByNone plan.program) f.first none));
      begins = longer r.prefix f.stem f.right f.stretch.begins.0 f.stretch.begins.1;
    })
  where
    swapped : {A B : Type 0} → A ⊎ B → B ⊎ A
    swapped = ⊎_elim (λ a. inr a) (λ b. inl b)

pub first_stretch : (plan : Planned) (r : Region) (a b : List ℕ) → (f : AreFork plan.program r a b) → IsDrivenByNone plan.program b → IsStretch plan.program r a
first_stretch plan r a b f none =
    subst (IsStretch plan.program r) (sym f.first) (record {
      forced = past_fork_forced plan r f.stem f.left f.right f.stretch.forced (record { may = f.parts.left_may; others = f.parts.others }) (side plan r f.stem f.right (subst (IsDrivenByNone plan.program) f.second none));
      begins = longer r.prefix f.stem f.left f.stretch.begins.0 f.stretch.begins.1;
    })

-- where no input drives either side, the region covers no driven path
pub neither : (plan : Planned) (r : Region) (a b : List ℕ) → (f : AreFork plan.program r a b) → IsDrivenByNone plan.program a → IsDrivenByNone plan.program b → IsRefuted plan r
neither plan r a b f one two = undriven plan r b (second_stretch plan r a b f one).forced two
