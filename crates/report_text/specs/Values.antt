-- The shown values that lines of a report tell, no more than they need.
use Rattle.std.specs.Prelude.{◌≡◌, ◌≢◌, ℕ, ◌+◌, Bool, true, false, Option, Some, None, List, [], ◌∷◌, length, drop}
use Rattle.report_text.specs.declared.report.Shown.{Shown}
use Rattle.report_text.specs.declared.report.ReportLine.{ReportLine}
use Rattle.report_text.specs.declared.report.ReportLine.TheVariants.{Copies, Ipet, Bound, Found}
use Rattle.report_text.specs.declared.report.Last.{Last}
use Rattle.report_text.specs.declared.report.Report.{Report}
use Rattle.report_text.specs.Texts.{best_of, last_lines, report_lines}
use Rattle.report_text.specs.Conditions.{IsReport}

-- the bound of the value before; there is none before the first
abbrev pub bound_of : Option Shown → Option ℕ
bound_of None = None
bound_of (Some before) = before.bound

-- a line of a best right behind one of a bound belongs to the same value; each other line of either begins a value of
-- its own, which keeps the best, or the bound, of the value before
abbrev pub values_of : Option Shown → List ReportLine → List Shown
values_of before (Bound bound ∷ Found cost ∷ lines) = record { bound = bound; best = Some cost }
    ∷ values_of (Some (record { bound = bound; best = Some cost })) lines
values_of before (Bound bound ∷ lines) = record { bound = bound; best = best_of before }
    ∷ values_of (Some (record { bound = bound; best = best_of before })) lines
values_of before (Found cost ∷ lines) = record { bound = bound_of before; best = Some cost }
    ∷ values_of (Some (record { bound = bound_of before; best = Some cost })) lines
values_of before lines = []

-- the first two lines are not those of a report
abbrev pub BeginsNoReport : List ReportLine → Type 0
BeginsNoReport lines = (copies ipet : ℕ) (rest : List ReportLine) → lines ≢ Copies copies ∷ Ipet ipet ∷ rest

-- the first line is none of a best
abbrev pub BeginsNoBest : List ReportLine → Type 0
BeginsNoBest lines = (cost : ℕ) (rest : List ReportLine) → lines ≢ Found cost ∷ rest

-- the lines behind those of the shown values
abbrev pub end_of : List ReportLine → List ReportLine
end_of (Bound bound ∷ lines) = end_of lines
end_of (Found cost ∷ lines) = end_of lines
end_of lines = lines

-- how many values lines need at least: one for each line of a bound, and one for each line of a best that does not
-- stand right behind one of a bound; the test tells whether these lines stand right behind one
abbrev pub fewest : Bool → List ReportLine → ℕ
fewest fresh [] = 0
fewest fresh (Bound bound ∷ lines) = 1 + fewest true lines
fewest true (Found cost ∷ lines) = fewest false lines
fewest false (Found cost ∷ lines) = 1 + fewest false lines
fewest fresh (line ∷ lines) = 0

-- the lines of some end
pub record IsEnding (lines : List ReportLine) : Type 0 where
  pub last : Last
  pub same : last_lines last ≡ lines

-- a report with these lines, as its type has it, with no more shown values than they need
pub record IsReportOf (lines : List ReportLine) (r : Report) : Type 0 where
  pub same : report_lines r ≡ lines
  pub report : IsReport r
  pub few : length r.shown ≡ fewest false (drop 2 lines)
