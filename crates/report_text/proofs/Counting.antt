-- Shown values are never fewer than their lines need.
use Rattle.std.proofs.Common.{ℕ, ◌+◌, ◌≤◌, Bool, true, false, if◌then◌else◌, Option, Some, None, List, [], ◌∷◌, ◌++◌, length, sym, subst, arith, append_assoc}
use Rattle.report_text.specs.declared.report.Shown.{Shown}
use Rattle.report_text.specs.declared.report.Last.{Last}
use Rattle.report_text.specs.declared.report.Last.TheVariants as last
use Rattle.report_text.specs.declared.report.ReportLine.{ReportLine}
use Rattle.report_text.specs.declared.report.ReportLine.TheVariants.{Bound, Found}
use Rattle.report_text.specs.Texts.{same, keeps_bound, best_of, found_lines, value_lines, shown_lines, last_lines}
use Rattle.report_text.specs.Values.{fewest}

-- what any lines behind a value need, they need
abbrev pub Needs : List ReportLine → ℕ → Type 0
Needs ls n = (fresh : Bool) → fewest fresh ls ≤ n

found_needs : (before best : Option ℕ) (ls : List ReportLine) (n : ℕ) → Needs ls n → (fewest true (found_lines before best ++ ls) ≤ n) × (fewest false (found_lines before best ++ ls) ≤ n + 1)
found_needs before None ls n needs = (needs true, omega (arith, needs false))
found_needs before (Some cost) ls n needs = by_same (same before (Some cost))
  where
    by_same : (b : Bool) → (fewest true ((if b then [] else Found cost ∷ []) ++ ls) ≤ n) × (fewest false ((if b then [] else Found cost ∷ []) ++ ls) ≤ n + 1)
    by_same true = (needs true, omega (arith, needs false))
    by_same false = (needs false, omega (arith, needs false))

value_needs : (before : Option Shown) (value : Shown) (ls : List ReportLine) (n : ℕ) → Needs ls n → Needs (value_lines before value ++ ls) (n + 1)
value_needs before value ls n needs = λ fresh. by_bound (keeps_bound before value.bound) fresh
  where
    found : (fewest true (found_lines (best_of before) value.best ++ ls) ≤ n) × (fewest false (found_lines (best_of before) value.best ++ ls) ≤ n + 1)
    found = found_needs (best_of before) value.best ls n needs

    by_bound : (b fresh : Bool) → fewest fresh (((if b then [] else Bound value.bound ∷ []) ++ found_lines (best_of before) value.best) ++ ls) ≤ n + 1
    by_bound true true = omega (arith, found.0)
    by_bound true false = found.1
    by_bound false fresh = omega (arith, found.0)

last_needs : (l : Last) → Needs (last_lines l) 0
last_needs (last.Exact bound input) = λ fresh. omega arith
last_needs last.Nothing = λ fresh. omega arith
last_needs (last.Inexact bound best spent limit) = λ fresh. omega arith

pub shown_needs : (before : Option Shown) (values : List Shown) (l : Last) → Needs (shown_lines before values ++ last_lines l) (length values)
shown_needs before [] l = last_needs l
shown_needs before (value ∷ values) l = λ fresh.
    let rest = value_needs before value (shown_lines (Some value) values ++ last_lines l) (length values) (shown_needs (Some value) values l) fresh in
    let same_needs : fewest fresh ((value_lines before value ++ shown_lines (Some value) values) ++ last_lines l) ≤ length values + 1 =
    subst (λ ls. fewest fresh ls ≤ length values + 1) (sym (append_assoc (value_lines before value) (shown_lines (Some value) values) (last_lines l))) rest in
    omega (arith, same_needs)
