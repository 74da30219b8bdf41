-- Which fault a text has.
use Rattle.std.specs.Prelude.{ℕ, List}
use Rattle.report_text.specs.declared.report_fault.ReportFault.{ReportFault}
use Rattle.report_text.specs.declared.report_fault.ReportFault.TheVariants.{NotReport, NoMemory}
use Rattle.text_lines.specs.Lines.{LeavesAt}

-- the text leaves the form at the line, or memory is wanting
abbrev pub IsFaultOf : (List ℕ → Type 0) → List ℕ → ReportFault → Type 0
IsFaultOf IsText text (NotReport line) = LeavesAt IsText text line
IsFaultOf IsText text NoMemory = Unit {0}
