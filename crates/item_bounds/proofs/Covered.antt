-- The counts of a driven path that an item covers are among those that the item leaves.
use Rattle.std.proofs.Common.{◌≡◌, ◌≤◌, ◌<◌, ℕ, zero, suc, ◌+◌, List, [], ◌∷◌, ◌++◌, length, get_or, All, refl, sym, ap, ◌∙◌, subst, arith}
use Rattle.std.specs.Prelude.{slice_index}
use Rattle.std.specs.List.{AllZip}
use Rattle.std.proofs.lemmas.List.Elements.{All-weaker}
use Rattle.c_tree.specs.declared.program.Costs.{Costs}
use Rattle.c_tree.specs.declared.program.Program.{Program}
use Rattle.c_tree.specs.Keeping.WellFormed.{WellFormed}
use Rattle.flow_laws.specs.declared.graph.Edge.{Edge}
use Rattle.flow_laws.specs.Sites.{Site}
use Rattle.flow_laws.specs.Graphs.{graph, edges}
use Rattle.flow_laws.specs.Paths.{edge_count}
use Rattle.flow_laws.specs.Claims.{Begins, IsDriven}
use Rattle.flow_laws.proofs.Counts.ListsJoined.{counts_join}
use Rattle.lin_rows.specs.Meeting.{MeetsRow}
use Rattle.lin_rows.specs.Vectors.{cost_by}
use Rattle.lin_rows.specs.declared.count_box.CountBox.{CountBox}
use Rattle.ipet_rows.specs.Counts.{counts_from, edge_counts, HoldsOnPaths, HoldOnPaths}
use Rattle.ipet_rows.specs.CapsBound.{caps_of_edges, costs_of_edges}
use Rattle.ipet_rows.specs.Sound.{PlanRows, AreSoundRows}
use Rattle.ipet_rows.proofs.Counting.{driven_counted}
use Rattle.ipet_rows.proofs.Listed.{limits_ordered}
use Rattle.race_item.specs.declared.region.Cut.{Cut}
use Rattle.race_item.specs.Regions.{region, Covers}
use Rattle.race_item.specs.Items.{list_cost}
use Rattle.race_item.specs.Facts.{IsAtLeast}
use Rattle.item_bounds.specs.Left.{IsLeft}
use Rattle.race_item.proofs.AtLeast.{begins_at_least}

pub caps_long : (g : List Site) (es : List Edge) → length (caps_of_edges g es) ≡ length es
caps_long g [] = refl
caps_long g (e ∷ es) = ap suc (caps_long g es)

-- a vector that is at least some counts is at least what is at most these
at_most : (x ns q : List ℕ) (i : ℕ) (es : List Edge) → length ns ≡ length es → ((k : ℕ) → slice_index ns k ≤ edge_count q (i + k)) → IsAtLeast x (counts_from q i es) → IsAtLeast x ns
at_most [] [] q i es long most least = tt
at_most [] (n ∷ ns) q i [] long most least = absurd (omega (arith, long))
at_most [] (n ∷ ns) q i (e ∷ es) long most least = absurd least
at_most (m ∷ x) [] q i [] long most least = absurd least
at_most (m ∷ x) [] q i (e ∷ es) long most least = absurd (omega (arith, long))
at_most (m ∷ x) (n ∷ ns) q i [] long most least = absurd (omega (arith, long))
at_most (m ∷ x) (n ∷ ns) q i (e ∷ es) long most least =
    let same : i + 0 ≡ i = omega arith in
    let first : n ≤ edge_count q i = subst (λ k. n ≤ edge_count q k) same (most 0) in
    (omega (arith, first, least.0), at_most x ns q (i + 1) es (omega (arith, long)) (λ k. subst (λ j. slice_index ns k ≤ edge_count q j) (later k) (most (suc k))) least.1)
  where
    later : (k : ℕ) → i + suc k ≡ i + 1 + k
    later k = omega arith

pub at_most_of : (p : Program) (x ns q : List ℕ) → length ns ≡ length (edges (graph p)) → ((k : ℕ) → slice_index ns k ≤ edge_count q k) → IsAtLeast x (edge_counts p q) → IsAtLeast x ns
at_most_of p x ns q long most least =
    at_most x ns q 0 (edges (graph p)) long (λ k. subst (λ j. slice_index ns k ≤ edge_count q j) (same k) (most k)) least
  where
    same : (k : ℕ) → k ≡ 0 + k
    same k = omega arith

pub covered_left : (rows : PlanRows) (cuts : List Cut) (prefix q : List ℕ) (most : ℕ) → HoldOnPaths rows.plan.program rows.rows → IsDriven rows.plan.program q → Covers rows.plan.program (region cuts prefix most) q → IsLeft rows cuts prefix (edge_counts rows.plan.program q)
covered_left rows cuts prefix q most hold driven covers = record {
  inside = covers.counts_in;
  least = begins_at_least rows.plan.program prefix q covers.begins;
  meets = All-weaker (HoldsOnPaths rows.plan.program) (MeetsRow (edge_counts rows.plan.program q)) (λ row h. h q driven) rows.rows hold;
}

-- they cost what the path does
pub counts_cost : (rows : PlanRows) (q : List ℕ) → WellFormed rows.plan.program → AreSoundRows rows → IsDriven rows.plan.program q → cost_by rows.costs (edge_counts rows.plan.program q) ≡ list_cost rows.plan q
counts_cost rows q formed sound driven =
    let p = rows.plan.program in
    let within : CountBox = record { limits = caps_of_edges (graph p) (edges (graph p)); ordered = limits_ordered (graph p) (edges (graph p)) } in
    let counted = driven_counted p rows.plan.costs within q formed refl driven in
    ap (λ cs. cost_by cs (edge_counts p q)) sound.costs_are ∙ counted.priced
