-- The form of a report as lines that follow one another.
use Rattle.std.specs.Prelude.{◌≡◌, ◌<◌, ◌^◌, ℕ, false, Some, None, List, [], ◌∷◌, ◌++◌, All, IsTrue}
use Rattle.report_text.specs.declared.report.ReportLine.{ReportLine}
use Rattle.report_text.specs.declared.report.ReportLine.TheVariants.{
  Copies,
  Ipet,
  Bound,
  Found,
  Exact,
  Input,
  Nothing,
  Inexact,
  Best,
  Spent as SpentLine,
}
use Rattle.report_text.specs.declared.stage.Stage.{Stage}
use Rattle.report_text.specs.declared.stage.Stage.TheVariants.{
  Start,
  BehindCopies,
  Watching,
  BehindExact,
  BehindInexact,
  BehindBest,
  Whole,
}
use Rattle.report_text.specs.Texts.{same, keeps_bound, best_of, lines_text}
use Rattle.report_text.specs.Conditions.{has_no_feed, is_limit_of, IsCost, MayBeCost}

-- the line may stand here: a shown line tells what differs from the value before
abbrev pub Allows : Stage → ReportLine → Type 0
Allows Start (Copies n) = n < 2 ^ 32
Allows BehindCopies (Ipet n) = IsCost n
Allows (Watching before) (Bound bound) = MayBeCost bound × (keeps_bound before bound ≡ false)
Allows (Watching (Some before)) (Found n) = IsCost n × (same before.best (Some n) ≡ false)
Allows (Watching before) (Exact n) = IsCost n
Allows (Watching before) Nothing = Unit {0}
Allows (Watching before) (Inexact n) = IsCost n
Allows BehindExact (Input input) = IsTrue (has_no_feed input) × All (λ b. b < 2 ^ 8) input
Allows BehindInexact (Best best) = MayBeCost best
Allows BehindBest (SpentLine spent n) = (n < 2 ^ 32) × IsTrue (is_limit_of spent n)
Allows stage line = ⊥

-- how far the lines have come with this one
abbrev pub next : Stage → ReportLine → Stage
next Start line = BehindCopies
next BehindCopies line = Watching None
next (Watching before) (Bound bound) = Watching (Some (record { bound = bound; best = best_of before }))
next (Watching (Some before)) (Found n) = Watching (Some (record { bound = before.bound; best = Some n }))
next (Watching before) (Exact n) = BehindExact
next (Watching before) (Inexact n) = BehindInexact
next BehindInexact line = BehindBest
next stage line = Whole

-- these lines may follow one another, and lead from one stage to the other
abbrev pub Leads : Stage → List ReportLine → Stage → Type 0
Leads from [] to = from ≡ to
Leads from (line ∷ lines) to = Allows from line × Leads (next from line) lines to

-- the text of lines that make a whole report
pub record IsFormOf (text : List ℕ) (lines : List ReportLine) : Type 0 where
  pub leads : Leads Start lines Whole
  pub written : text ≡ lines_text lines

pub record IsFormText (text : List ℕ) : Type 0 where
  pub lines : List ReportLine
  pub form : IsFormOf text lines

-- so far has a text been read: these lines, which lead to the stage, and then the rest
pub record IsReadTo (text rest : List ℕ) (lines : List ReportLine) (stage : Stage) : Type 0 where
  pub split : text ≡ lines_text lines ++ rest
  pub leads : Leads Start lines stage

-- a line with which the end may begin
abbrev pub IsEnd : ReportLine → Type 0
IsEnd (Exact n) = IsCost n
IsEnd Nothing = Unit {0}
IsEnd (Inexact n) = IsCost n
IsEnd line = ⊥
