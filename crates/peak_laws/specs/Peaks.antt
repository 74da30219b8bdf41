-- What it says that an answer is the peak of a plan: its optimum (Li and Malik), counts that attain it, and multipliers
-- that bound it. The rows are those of the plan's graph, and no others.
use Rattle.std.specs.Prelude.{◌≡◌, pos}
use Rattle.flow_laws.specs.Graphs.{graph, edges}
use Rattle.flow_graph.specs.Plans.{Planned}
use Rattle.lin_rows.specs.Steps.{StaysInI128}
use Rattle.lin_rows.specs.declared.count_box.CountBox.{CountBox}
use Rattle.lin_rows.specs.declared.objective.Objective.{Objective}
use Rattle.lin_rows.specs.declared.row.Rows.{Rows}
use Rattle.bound_cert.specs.Dual.{dual}
use Rattle.bound_cert.specs.DualSteps.{dual_steps}
use Rattle.bound_cert.specs.Fitting.{FitsRows}
use Rattle.ipet_rows.specs.FlowRows.{flow_rows}
use Rattle.ipet_rows.specs.CapsBound.{costs_of_edges, caps_of_edges}
use Rattle.peak_laws.specs.declared.answer.Peak.{Peak}
use Rattle.ipet_rows.specs.Optimum.{MeetFlowRows, cost_of_counts, IpetOptimum}
use Rattle.peak_laws.specs.Answers.{peak_value, peak_counts, peak_multipliers}
use Rattle.peak_laws.specs.ProgramParts.{program_part}

-- the rows of a plan, the cost of each edge, and the box from 0 to the caps
pub record AreOfPlan (plan : Planned) (rows : Rows) (objective : Objective) (within : CountBox) : Type 0 where
  pub rows_are : rows.rows ≡ flow_rows (graph plan.program)
  pub costs_are : objective.costs ≡ costs_of_edges plan.costs (graph plan.program) (edges (graph plan.program))
  pub limits_are : within.limits ≡ caps_of_edges (graph plan.program) (edges (graph plan.program))

-- the multipliers of a peak fit the rows, their dual value is the peak's, and no step of its computation leaves i128:
-- so `by_fits` holds of them and `dual_bound` answers the value
pub record Certifies (peak : Peak) (rows : Rows) (objective : Objective) (within : CountBox) : Type 0 where
  pub fits : FitsRows rows peak.by
  pub exact : StaysInI128 (dual_steps rows objective within peak.by)
  pub value : dual rows objective within peak.by ≡ pos peak.value

-- the value is the plan's optimum, the counts meet the plan's rows and cost it, and the multipliers certify it over the
-- box from 0 to the caps
pub record IsPeakOf (plan : Planned) (peak : Peak) : Type 0 where
  pub optimum : IpetOptimum plan.program plan.costs peak.value
  pub counts : MeetFlowRows (graph plan.program) peak.counts
  pub cost : cost_of_counts plan.costs (graph plan.program) peak.counts ≡ peak.value
  pub by : (rows : Rows) (objective : Objective) (within : CountBox)
      → AreOfPlan plan rows objective within → Certifies peak rows objective within

-- what is computed: the value, the counts and the multipliers of the program's part, with the divisor 1
pub record IsComputed (plan : Planned) (peak : Peak) : Type 0 where
  pub value : peak.value ≡ peak_value (program_part plan.program plan.costs)
  pub counts : peak.counts ≡ peak_counts (program_part plan.program plan.costs)
  pub divisor : peak.by.d ≡ pos 1
  pub multipliers : peak.by.y ≡ peak_multipliers (program_part plan.program plan.costs)
