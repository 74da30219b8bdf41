-- What the lines of a report claim of the runs of a program.
use Rattle.std.specs.Prelude.{◌≤◌, ℕ, IsTrue, List, Option, Some, None}
use Rattle.std.specs.List.{filter_map}
use Rattle.c_tree.specs.declared.program.Program.{Program}
use Rattle.c_tree.specs.declared.program.Costs.{Costs}
use Rattle.c_tree.specs.declared.program.Input.{Input}
use Rattle.c_tree.specs.Meaning.Runs.{fits}
use Rattle.c_tree.specs.Meaning.Claims.{Above, Tight, NoRun}
use Rattle.c_input.specs.InputTexts.{HasText}
use Rattle.flow_laws.specs.Claims.{EndsAt}
use Rattle.race_item.specs.Lists.{EachOf, EachTwoOf}
use Rattle.board_core.specs.Showing.{IsNotAbove}
use Rattle.report_text.specs.declared.report.Last.{Last}
use Rattle.report_text.specs.declared.report.Last.TheVariants as last
use Rattle.report_text.specs.declared.report.Report.{Report}
use Rattle.report_text.specs.declared.report.ReportLine.{ReportLine}
use Rattle.report_text.specs.declared.report.ReportLine.TheVariants.{
  Copies,
  Ipet,
  Bound,
  Found,
  Exact,
  Input as InputLine,
  Nothing,
  Inexact,
  Best,
  Spent as SpentLine,
}
use Rattle.report_text.specs.Texts.{report_lines}

-- ---- claims of lines

-- the run of some fitting input ends, and costs n
pub record IsReached (p : Program) (t : Costs) (n : ℕ) : Type 0 where
  pub input : Input
  pub fitting : IsTrue (fits p input)
  pub ends : EndsAt p t input n

-- no run costs more than the bound; none says that no run ends
abbrev pub Bounds : Program → Costs → Option ℕ → Type 0
Bounds p t None = NoRun p
Bounds p t (Some n) = Above p t n

-- some run costs so much; none says nothing
abbrev pub MayBeReached : Program → Costs → Option ℕ → Type 0
MayBeReached p t None = Unit {0}
MayBeReached p t (Some n) = IsReached p t n

-- the claim of a line. What an input is claimed to be, and what was spent, is said with the end
abbrev pub LineHolds : Program → Costs → ReportLine → Type 0
LineHolds p t (Copies n) = Unit {0}
LineHolds p t (Ipet n) = Above p t n
LineHolds p t (Bound bound) = Bounds p t bound
LineHolds p t (Found n) = IsReached p t n
LineHolds p t (Exact n) = Above p t n × IsReached p t n
LineHolds p t (InputLine text) = Unit {0}
LineHolds p t Nothing = NoRun p
LineHolds p t (Inexact n) = Above p t n
LineHolds p t (Best best) = MayBeReached p t best
LineHolds p t (SpentLine spent n) = Unit {0}

-- ---- the order of lines

-- the bound that a line tells, and whether it tells one; none of a line is that no run ends
abbrev pub bound_of_line : ReportLine → Option (Option ℕ)
bound_of_line (Copies n) = None
bound_of_line (Ipet n) = Some (Some n)
bound_of_line (Bound bound) = Some bound
bound_of_line (Found n) = None
bound_of_line (Exact n) = Some (Some n)
bound_of_line (InputLine text) = None
bound_of_line Nothing = Some None
bound_of_line (Inexact n) = Some (Some n)
bound_of_line (Best best) = None
bound_of_line (SpentLine spent n) = None

-- the cost that a line tells to be found
abbrev pub found_of_line : ReportLine → Option ℕ
found_of_line (Copies n) = None
found_of_line (Ipet n) = None
found_of_line (Bound bound) = None
found_of_line (Found n) = Some n
found_of_line (Exact n) = None
found_of_line (InputLine text) = None
found_of_line Nothing = None
found_of_line (Inexact n) = None
found_of_line (Best best) = None
found_of_line (SpentLine spent n) = None

-- each line's claim holds; from line to line the bounds never rise, and what was found never falls
pub record LinesHold (p : Program) (t : Costs) (lines : List ReportLine) : Type 0 where
  pub each : EachOf (LineHolds p t) lines
  pub bounds_never_rise : EachTwoOf (λ old new. IsNotAbove new old) (filter_map bound_of_line lines)
  pub found_never_falls : EachTwoOf (λ old new. old ≤ new) (filter_map found_of_line lines)

-- ---- claims of reports

-- the input text is that of an input whose run costs exactly the bound, which no run exceeds; or no run ends; or the
-- bound is above every run
abbrev pub EndHolds : Program → Costs → Last → Type 0
EndHolds p t (last.Exact bound text) = (i : Input) × HasText p text i × Tight p t i bound
EndHolds p t last.Nothing = NoRun p
EndHolds p t (last.Inexact bound best spent limit) = Above p t bound

pub record ReportHolds (p : Program) (t : Costs) (r : Report) : Type 0 where
  pub lines : LinesHold p t (report_lines r)
  pub end : EndHolds p t r.last
