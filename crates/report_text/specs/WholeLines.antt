-- Which lines a report may have.
use Rattle.text_lines.specs.Cutting.{HasNoFeed}
use Rattle.report_text.specs.declared.report.ReportLine.{ReportLine}
use Rattle.report_text.specs.declared.report.ReportLine.TheVariants.{
  Copies,
  Ipet,
  Bound,
  Found,
  Exact,
  Input,
  Nothing,
  Inexact,
  Best,
  Spent,
}
use Rattle.report_text.specs.Conditions.{IsCost, MayBeCost}

-- its number is one of 128 bits, and its input has no line feed
abbrev pub IsLine : ReportLine → Type 0
IsLine (Copies n) = IsCost n
IsLine (Ipet n) = IsCost n
IsLine (Bound bound) = MayBeCost bound
IsLine (Found n) = IsCost n
IsLine (Exact n) = IsCost n
IsLine (Input input) = HasNoFeed input
IsLine Nothing = Unit {0}
IsLine (Inexact n) = IsCost n
IsLine (Best best) = MayBeCost best
IsLine (Spent spent n) = IsCost n
