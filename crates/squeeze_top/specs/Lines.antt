-- Lines that were written whole.
use Rattle.std.specs.Prelude.{◌≡◌, ℕ, List, ◌++◌, Option, Some, codes}
use Rattle.c_tree.specs.declared.program.Program.{Program}
use Rattle.c_tree.specs.declared.program.Costs.{Costs}
use Rattle.wc_outside.specs.Growth.{GrewByPrefix}
use Rattle.text_lines.specs.Whole.{HasLine}
use Rattle.report_text.specs.declared.report.ReportLine.{ReportLine}
use Rattle.report_text.specs.declared.report.ReportLine.TheVariants.{Exact, Input}
use Rattle.report_text.specs.Texts.{line_text, lines_text}
use Rattle.race_report.specs.Claims.{bound_of_line, LinesHold}
use Rattle.word_line.specs.declared.job.Mode.{Mode}
use Rattle.word_line.specs.declared.job.Mode.TheVariants.{Squeeze, Bound, Ipet}
use Rattle.squeeze_top.specs.Answers.{bound_line, ipet_line}

-- what was written between the two moments has this line, with its line feed, behind whole lines
pub record WroteLine (old new : Option (List ℕ)) (line : List ℕ) : Type 0 where
  pub before : List ℕ
  pub text : List ℕ
  pub told : old ≡ Some before
  pub written : new ≡ Some (before ++ text)
  pub has : HasLine text line

-- ---- bounds

-- a line of a report that tells the bound n: `ipet N`, `bound N`, `exact N` or `inexact N`
pub record IsReportBound (n : ℕ) (line : List ℕ) : Type 0 where
  pub of_report : ReportLine
  pub bound : bound_of_line of_report ≡ Some (Some n)
  pub is : line ≡ line_text of_report

-- the lines in which a mode prints a bound
abbrev pub IsBoundLine : Mode → ℕ → List ℕ → Type 0
IsBoundLine Squeeze n line = IsReportBound n line
IsBoundLine Bound n line = line ≡ bound_line n
IsBoundLine Ipet n line = line ≡ ipet_line n
IsBoundLine _ n line = ⊥

-- it has a line in which this mode prints the bound n
pub record WroteBound (mode : Mode) (n : ℕ) (old new : Option (List ℕ)) : Type 0 where
  pub line : List ℕ
  pub bound : IsBoundLine mode n line
  pub wrote : WroteLine old new line

-- ---- ends of reports

-- the line of an exact bound, and that of its input
abbrev pub exact_lines : ℕ → List ℕ → List ℕ
exact_lines n input = line_text (Exact n) ++ line_text (Input input)

-- the line that no run ends
abbrev pub nothing_line : List ℕ
nothing_line = codes "none\n"

-- ---- all that was written

-- it is a part of the text of lines that hold: each claim holds, the bounds never rise, and what was found never falls
pub record WroteWhatHolds (p : Program) (t : Costs) (old new : Option (List ℕ)) : Type 0 where
  pub lines : List ReportLine
  pub hold : LinesHold p t lines
  pub written : GrewByPrefix old new (lines_text lines)
