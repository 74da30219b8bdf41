-- What it is that a report tells the race of a board.
use Rattle.std.specs.Prelude.{◌≡◌, ℕ, Bool, List, ◌++◌, Option, Some, None, All}
use Rattle.c_tree.specs.declared.program.Program.{Program}
use Rattle.c_tree.specs.declared.program.Costs.{Costs}
use Rattle.c_tree.specs.declared.program.Input.{Input}
use Rattle.c_input.specs.InputTexts.{input_text}
use Rattle.flow_laws.specs.Graphs.{graph}
use Rattle.flow_graph.specs.Limits.{block_copies}
use Rattle.flow_graph.specs.Plans.{Planned, plan_with}
use Rattle.cond_laws.specs.Weights.{most_weight}
use Rattle.ipet_rows.specs.FlowRows.{flow_rows}
use Rattle.ipet_rows.specs.Optimum.{IpetOptimum}
use Rattle.race_item.specs.declared.region.Limits.{Limits}
use Rattle.board_core.specs.declared.event.Cause.TheVariants as cause
use Rattle.board_core.specs.declared.event.End.{End}
use Rattle.board_core.specs.declared.event.End.TheVariants as end
use Rattle.board_core.specs.Histories.{Legal}
use Rattle.board_core.specs.Kept.{IsSetup, DrivesBest}
use Rattle.board_core.specs.Showing.{shown_bounds, end_of}
use Rattle.board_core.specs.Boards.{BoardOf, state_of}
use Rattle.report_text.specs.declared.report.Shown.{Shown}
use Rattle.report_text.specs.declared.report.Spent.{Spent}
use Rattle.report_text.specs.declared.report.Spent.TheVariants.{Turns, Conflicts, Weight}
use Rattle.report_text.specs.declared.report.Last.{Last}
use Rattle.report_text.specs.declared.report.Last.TheVariants.{Exact, Nothing, Inexact}
use Rattle.report_text.specs.declared.report.Report.{Report}
use Rattle.report_text.specs.declared.report.ReportLine.{ReportLine}
use Rattle.report_text.specs.Texts.{front_lines, shown_lines}
use Rattle.report_text.specs.Conditions.{IsReport}
use Rattle.report_text.specs.WholeLines.{IsLine}
use Rattle.race_report.specs.ShownValues.{AreValues, AreValuesSoFar}

-- ---- races

-- the board was set up as a board is started, its entries may be made one after the other from there, and its best
-- input drives a path of best's cost
pub record IsRace (b : BoardOf) : Type 0 where
  pub set_up : IsSetup b.setup
  pub legal : Legal b.setup b.entries
  pub best_drives : DrivesBest b.setup.rows.plan (state_of b).best b.input

-- it is the race of this program with these costs, over the rows of the program's graph and within these limits
pub record IsRaceOf (p : Program) (t : Costs) (limits : Limits) (b : BoardOf) : Type 0 where
  pub race : IsRace b
  pub plan_is : b.setup.rows.plan ≡ plan_with p t
  pub rows_are : b.setup.rows.rows ≡ flow_rows (graph p)
  pub limits_are : b.setup.limits ≡ limits

-- ---- ends

-- how the race of a board has ended
abbrev pub race_end : BoardOf → Option End
race_end b = end_of b.setup (state_of b)

-- how it ends where this was spent
abbrev pub end_by : Spent → End
end_by Turns = end.Spent
end_by Conflicts = end.Stalled cause.Conflicts
end_by Weight = end.Stalled cause.Weight

-- and the limit of that
abbrev pub limit_of : Limits → Spent → ℕ
limit_of limits Turns = limits.turns
limit_of limits Conflicts = limits.conflicts
limit_of limits Weight = most_weight

-- done with a best: its cost, and the text of its input
pub record TellsExact (b : BoardOf) (bound : ℕ) (text : List ℕ) : Type 0 where
  pub done : race_end b ≡ Some end.Done
  pub cost : (state_of b).best ≡ Some bound
  pub input : Input
  pub input_is : b.input ≡ Some input
  pub spelled : text ≡ input_text b.setup.rows.plan.program input

-- done without a best
pub record TellsNothing (b : BoardOf) : Type 0 where
  pub done : race_end b ≡ Some end.Done
  pub no_best : (state_of b).best ≡ None

-- something was spent: the shown bound, best's cost or none, and the limit
pub record TellsInexact (b : BoardOf) (bound : ℕ) (best : Option ℕ) (spent : Spent) (limit : ℕ) : Type 0 where
  pub ended : race_end b ≡ Some (end_by spent)
  pub bound_is : (shown_bounds (state_of b)).bound ≡ Some bound
  pub best_is : (state_of b).best ≡ best
  pub limit_is : limit ≡ limit_of b.setup.limits spent

abbrev pub TellsEnd : BoardOf → Last → Type 0
TellsEnd b (Exact bound text) = TellsExact b bound text
TellsEnd b Nothing = TellsNothing b
TellsEnd b (Inexact bound best spent limit) = TellsInexact b bound best spent limit

-- ---- reports

-- how many block copies the graph has, and the optimum (Li and Malik)
pub record TellsPlan (plan : Planned) (copies ipet : ℕ) : Type 0 where
  pub copies_are : copies ≡ block_copies (graph plan.program)
  pub optimum : IpetOptimum plan.program plan.costs ipet

-- the report tells the race: of its plan; the values that were shown, where it was watched; and how it ended
pub record Tells (watched : Bool) (b : BoardOf) (r : Report) : Type 0 where
  pub report : IsReport r
  pub plan : TellsPlan b.setup.rows.plan r.copies r.ipet
  pub shown : AreValues watched b.setup b.entries r.shown
  pub last : TellsEnd b r.last

-- the lines of a report on a race that has no end yet, or of which the end was not told
pub record TellsSoFar (watched : Bool) (b : BoardOf) (lines : List ReportLine) : Type 0 where
  pub copies : ℕ
  pub ipet : ℕ
  pub values : List Shown
  pub plan : TellsPlan b.setup.rows.plan copies ipet
  pub shown : AreValuesSoFar watched b.setup b.entries values
  pub lines_are : lines ≡ front_lines copies ipet ++ shown_lines None values
  pub are_lines : All IsLine lines
