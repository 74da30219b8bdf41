-- Each whole line of a text that begins the text of some lines is one of these.
use Rattle.std.proofs.Common.{◌≡◌, ℕ, suc, ◌<◌, ◌^◌, Bool, true, false, Option, Some, None, List, [], ◌∷◌, ◌++◌, map, refl, sym, ◌∙◌, ap, subst, arith}
use Rattle.std.specs.Prelude.{All, if◌then◌else◌}
use Rattle.std.specs.List.{IsAmong}
use Rattle.std.proofs.lemmas.List.Elements.{All-nil, All-cons, All-head, All-tail, All-append}
use Rattle.text_lines.specs.Lines.{lines_of}
use Rattle.text_lines.specs.Cutting.{HasNoFeed, Anything}
use Rattle.text_lines.specs.Whole.{HasLine}
use Rattle.text_lines.proofs.Joining.{joins_feed}
use Rattle.text_lines.proofs.WholeLines.{line_of_text, goes_on}
use Rattle.report_text.specs.declared.report.Shown.{Shown}
use Rattle.report_text.specs.declared.report.Spent.{Spent}
use Rattle.report_text.specs.declared.report.Last.{Last}
use Rattle.report_text.specs.declared.report.Last.TheVariants as last
use Rattle.report_text.specs.declared.report.Report.{Report}
use Rattle.report_text.specs.declared.report.ReportLine.{ReportLine}
use Rattle.report_text.specs.declared.report.ReportLine.TheVariants.{Copies, Ipet, Bound, Found, Exact, Input, Nothing, Inexact, Best, Spent as SpentLine}
use Rattle.report_text.specs.Texts.{same, keeps_bound, best_of, bound_lines, found_lines, value_lines, shown_lines, last_lines, report_lines, line_text, lines_text, report_text}
use Rattle.report_text.specs.Conditions.{IsCost, MayBeCost, IsValue, HasNumbers, IsPlainLast, IsReport}
use Rattle.report_text.specs.WholeLines.{IsLine}
use Rattle.report_text.proofs.Injective.{one_line, line_ends}

-- ---- whole lines

lines_are : (ls : List ReportLine) → All IsLine ls → lines_of (lines_text ls) ≡ map line_text ls
lines_are [] all = refl
lines_are (l ∷ ls) all =
    (joins_feed Anything (line_text l) (line_ends l (All-head IsLine l ls all))).lines (lines_text ls) tt ∙ ap (λ t. line_text l ∷ t) (lines_are ls (All-tail IsLine l ls all))

among : (ls : List ReportLine) (line : ReportLine) (before behind : List (List ℕ)) → All IsLine ls → IsLine line → map line_text ls ≡ before ++ (line_text line ∷ behind) → IsAmong ls line
among [] line [] behind all is same = absurd (cc)
among [] line (b ∷ before) behind all is same = absurd (cc)
among (l ∷ ls) line [] behind all is same =
    let text : line_text l ≡ line_text line = cc in
    (0, (omega arith, sym (one_line l line (All-head IsLine l ls all) is text)))
among (l ∷ ls) line (b ∷ before) behind all is same =
    let rest : map line_text ls ≡ before ++ (line_text line ∷ behind) = cc in
    let there = among ls line before behind (All-tail IsLine l ls all) is rest in
    (suc there.0, (omega (arith, there.1.0), there.1.1))

pub whole_lines : (ls : List ReportLine) (text more : List ℕ) (line : ReportLine) → All IsLine ls → IsLine line → lines_text ls ≡ text ++ more → HasLine text (line_text line) → IsAmong ls line
whole_lines ls text more line all is split has =
    let there = line_of_text (text ++ more) (line_text line) (line_ends line is) (goes_on text more (line_text line) has) in
    among ls line there.before there.behind all is (sym (lines_are ls all) ∙ ap lines_of split ∙ there.is)

-- ---- the lines of reports

pub each_among : (P : ReportLine → Type 0) (ls : List ReportLine) (line : ReportLine) → All P ls → IsAmong ls line → P line
each_among P ls line all there = subst P (sym there.1.1) (all there.0 line there.1.0)

bound_are : (before : Option Shown) (bound : Option ℕ) → MayBeCost bound → All IsLine (bound_lines before bound)
bound_are before bound cost = by_same (keeps_bound before bound)
  where
    by_same : (kept : Bool) → All IsLine (if kept then [] else Bound bound ∷ [])
    by_same true = All-nil IsLine
    by_same false = All-cons IsLine (Bound bound) [] cost (All-nil IsLine)

found_are : (before best : Option ℕ) → MayBeCost best → All IsLine (found_lines before best)
found_are before None cost = All-nil IsLine
found_are before (Some n) cost = by_same (same before (Some n))
  where
    by_same : (kept : Bool) → All IsLine (if kept then [] else Found n ∷ [])
    by_same true = All-nil IsLine
    by_same false = All-cons IsLine (Found n) [] cost (All-nil IsLine)

pub value_are : (before : Option Shown) (value : Shown) → IsValue value → All IsLine (value_lines before value)
value_are before value is =
    All-append IsLine (bound_lines before value.bound) (found_lines (best_of before) value.best) (bound_are before value.bound is.bound) (found_are (best_of before) value.best is.best)

pub shown_are : (before : Option Shown) (values : List Shown) → All IsValue values → All IsLine (shown_lines before values)
shown_are before [] all = All-nil IsLine
shown_are before (value ∷ values) all =
    All-append IsLine (value_lines before value) (shown_lines (Some value) values) (value_are before value (All-head IsValue value values all)) (shown_are (Some value) values (All-tail IsValue value values all))

pub front_are : (copies ipet : ℕ) (values : List Shown) → copies < 2 ^ 32 → IsCost ipet → All IsValue values → All IsLine (Copies copies ∷ Ipet ipet ∷ shown_lines None values)
front_are copies ipet values few cost all =
    All-cons IsLine (Copies copies) (Ipet ipet ∷ shown_lines None values) (omega (arith, few)) (All-cons IsLine (Ipet ipet) (shown_lines None values) cost (shown_are None values all))

pub exact_are : (bound : ℕ) (input : List ℕ) → IsCost bound → HasNoFeed input → All IsLine (last_lines (last.Exact bound input))
exact_are bound input cost no_feed = All-cons IsLine (Exact bound) (Input input ∷ []) cost (All-cons IsLine (Input input) [] no_feed (All-nil IsLine))

pub nothing_is : All IsLine (last_lines last.Nothing)
nothing_is = All-cons IsLine Nothing [] tt (All-nil IsLine)

pub inexact_are : (bound : ℕ) (best : Option ℕ) (spent : Spent) (limit : ℕ) → IsCost bound → MayBeCost best → limit < 2 ^ 32 → All IsLine (last_lines (last.Inexact bound best spent limit))
inexact_are bound best spent limit cost best_cost small =
    All-cons IsLine (Inexact bound) (Best best ∷ SpentLine spent limit ∷ []) cost
    (All-cons IsLine (Best best) (SpentLine spent limit ∷ []) best_cost (All-cons IsLine (SpentLine spent limit) [] (omega (arith, small)) (All-nil IsLine)))

last_are : (l : Last) → HasNumbers l → IsPlainLast l → All IsLine (last_lines l)
last_are (last.Exact bound input) numbers plain = exact_are bound input numbers.0 plain
last_are last.Nothing numbers plain = nothing_is
last_are (last.Inexact bound best spent limit) numbers plain = inexact_are bound best spent limit numbers.0 numbers.1 numbers.2

pub report_are : (r : Report) → r.copies < 2 ^ 32 → IsCost r.ipet → All IsValue r.shown → All IsLine (last_lines r.last) → All IsLine (report_lines r)
report_are r few cost shown end =
    All-append IsLine (Copies r.copies ∷ Ipet r.ipet ∷ shown_lines None r.shown) (last_lines r.last) (front_are r.copies r.ipet r.shown few cost shown) end

pub whole_lines_of_report : (r : Report) (text more : List ℕ) (line : ReportLine) → IsReport r → IsLine line → report_text r ≡ text ++ more → HasLine text (line_text line) → IsAmong (report_lines r) line
whole_lines_of_report r text more line is line_is split has =
    whole_lines (report_lines r) text more line (report_are r is.copies is.ipet is.shown (last_are r.last is.last is.tellable.last)) line_is split has
