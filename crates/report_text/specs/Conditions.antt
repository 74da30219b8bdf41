-- Which reports have a text, and which report a text has.
use Rattle.std.specs.Prelude.{
  ◌≡◌,
  ◌≤◌,
  ◌<◌,
  ◌^◌,
  ℕ,
  Bool,
  true,
  false,
  not,
  ◌==◌,
  Option,
  Some,
  None,
  List,
  [],
  ◌∷◌,
  length,
  All,
  IfSome,
  IsTrue,
}
use Rattle.std.specs.List.{list_all}
use Rattle.report_text.specs.declared.report.Shown.{Shown}
use Rattle.report_text.specs.declared.report.Spent.{Spent}
use Rattle.report_text.specs.declared.report.Spent.TheVariants.{Turns, Conflicts, Weight}
use Rattle.report_text.specs.declared.report.Last.{Last}
use Rattle.report_text.specs.declared.report.Last.TheVariants.{Exact, Nothing, Inexact}
use Rattle.report_text.specs.declared.report.Report.{Report}
use Rattle.report_text.specs.Texts.{report_text}

-- ---- the conditions of a report that is written

-- no line feed
abbrev pub has_no_feed : List ℕ → Bool
has_no_feed bytes = list_all (λ b. not (b == 10)) bytes

-- the limit of a weight is always this one
abbrev pub is_limit_of : Spent → ℕ → Bool
is_limit_of Turns limit = true
is_limit_of Conflicts limit = true
is_limit_of Weight limit = limit == 262144

-- the input text is of one line, and the limit of `Weight` is 262,144
abbrev pub IsPlainLast : Last → Type 0
IsPlainLast (Exact bound input) = IsTrue (has_no_feed input)
IsPlainLast Nothing = Unit {0}
IsPlainLast (Inexact bound best spent limit) = IsTrue (is_limit_of spent limit)

-- a best is not lost
abbrev pub keeps_best : Option ℕ → Option ℕ → Bool
keeps_best None after = true
keeps_best (Some cost) None = false
keeps_best (Some cost) (Some other) = true

-- no value without a best follows one with a best
abbrev pub KeepsBests : Option ℕ → List Shown → Type 0
KeepsBests before [] = Unit {0}
KeepsBests before (value ∷ values) = IsTrue (keeps_best before value.best) × KeepsBests value.best values

pub record IsTellable (r : Report) : Type 0 where
  pub last : IsPlainLast r.last
  pub bests : KeepsBests None r.shown

-- ---- the numbers of a report

abbrev pub IsCost : ℕ → Type 0
IsCost n = n < 2 ^ 128

abbrev pub MayBeCost : Option ℕ → Type 0
MayBeCost cost = IfSome cost IsCost

pub record IsValue (value : Shown) : Type 0 where
  pub bound : MayBeCost value.bound
  pub best : MayBeCost value.best

abbrev pub HasNumbers : Last → Type 0
HasNumbers (Exact bound input) = IsCost bound × All (λ b. b < 2 ^ 8) input
HasNumbers Nothing = Unit {0}
HasNumbers (Inexact bound best spent limit) = IsCost bound × MayBeCost best × (limit < 2 ^ 32)

-- a report as its type has it: a number of 32 bits, costs of 128 bits, bytes
pub record IsReport (r : Report) : Type 0 where
  pub copies : r.copies < 2 ^ 32
  pub ipet : IsCost r.ipet
  pub shown : All IsValue r.shown
  pub last : HasNumbers r.last
  pub tellable : IsTellable r

-- ---- the report of a text

pub record IsTextOf (text : List ℕ) (r : Report) : Type 0 where
  pub report : IsReport r
  pub written : text ≡ report_text r

-- the text is that of some report
pub record IsReportText (text : List ℕ) : Type 0 where
  pub report : Report
  pub text_of : IsTextOf text report

-- the report of the text that has the fewest shown values
pub record IsReadAs (text : List ℕ) (r : Report) : Type 0 where
  pub text_of : IsTextOf text r
  pub fewest : (other : Report) → IsTextOf text other → length r.shown ≤ length other.shown
