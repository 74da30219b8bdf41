-- What is computed is the peak of the plan.
use Rattle.std.proofs.Common.{◌≡◌, pos, List, [], ◌∷◌, None, refl, sym, ap, ◌∙◌, subst, ◌≤◌, ◌^◌}
use Rattle.c_tree.specs.Keeping.WellFormed.{WellFormed}
use Rattle.flow_laws.specs.declared.graph.Edge.{Edge}
use Rattle.flow_laws.specs.Sites.{Site}
use Rattle.flow_laws.specs.Graphs.{graph, edges}
use Rattle.flow_graph.specs.Limits.{size_fault}
use Rattle.flow_graph.specs.Plans.{Planned}
use Rattle.lin_rows.specs.declared.count_box.CountBox.{CountBox}
use Rattle.lin_rows.specs.declared.objective.Objective.{Objective}
use Rattle.lin_rows.specs.declared.row.Rows.{Rows}
use Rattle.ipet_rows.specs.CapsBound.{caps_of_edges, AreSmall}
use Rattle.peak_laws.specs.declared.answer.Peak.{Peak}
use Rattle.peak_laws.specs.Answers.{FromZero, IsPeakDual}
use Rattle.ipet_rows.specs.Optimum.{MeetFlowRows, cost_of_counts, IpetOptimum}
use Rattle.peak_laws.specs.Peaks.{AreOfPlan, IsPeakOf, IsComputed}
use Rattle.peak_laws.proofs.Optima.Greatest.{optimum, attained, attained_cost, fits, bounded}
use Rattle.peak_laws.proofs.Duals.DualFits.{dual_fits}

from_zero : (g : List Site) (es : List Edge) → FromZero (caps_of_edges g es)
from_zero g [] = tt
from_zero g (e ∷ es) = (refl, from_zero g es)

is_dual : (plan : Planned) (peak : Peak) (rows : Rows) (objective : Objective) (within : CountBox) → IsComputed plan peak → AreOfPlan plan rows objective within → IsPeakDual plan.program plan.costs rows objective within peak.by
is_dual plan peak rows objective within c a =
    record { rows_are = a.rows_are; costs_are = a.costs_are; limits = subst FromZero (sym a.limits_are) (from_zero (graph plan.program) (edges (graph plan.program))); divisor = c.divisor; multipliers = c.multipliers }

pub is_peak : (plan : Planned) (peak : Peak) → WellFormed plan.program → AreSmall plan.costs → size_fault (graph plan.program) ≡ None → IsComputed plan peak → IsPeakOf plan peak
is_peak plan peak formed small allowed c =
    let p = plan.program in
    let t = plan.costs in
    record {
      optimum = subst (IpetOptimum p t) (sym c.value) (optimum p t formed);
      counts = subst (MeetFlowRows (graph p)) (sym c.counts) (attained p t formed);
      cost = ap (cost_of_counts t (graph p)) c.counts ∙ attained_cost p t formed ∙ sym c.value;
      by = λ rows objective within a. let d = is_dual plan peak rows objective within c a in record { fits = fits p t rows objective within peak.by formed d; exact = dual_fits p t rows objective within peak.by formed small allowed d; value = bounded p t rows objective within peak.by formed d ∙ ap pos (sym c.value) };
    }
