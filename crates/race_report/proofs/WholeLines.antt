-- Lines that stand whole in bytes that begin a report hold.
use Rattle.std.proofs.Common.{◌≡◌, ◌<◌, ℕ, zero, suc, Bool, true, false, if◌then◌else◌, List, [], ◌∷◌, ◌++◌, length, Option, Some, None, refl, sym, ◌∙◌, ap, subst, arith, inr, append_assoc}
use Rattle.std.specs.Prelude.{slice_index_or}
use Rattle.std.specs.List.{IsAmong}
use Rattle.text_lines.specs.Cutting.{EndsInFeed}
use Rattle.text_lines.specs.Whole.{HasLine}
use Rattle.race_item.specs.Lists.{EachOf}
use Rattle.board_core.specs.Boards.{BoardOf}
use Rattle.board_core.proofs.Lists.{EachOf-append}
use Rattle.report_text.specs.declared.report.Shown.{Shown}
use Rattle.report_text.specs.declared.report.Last.{Last}
use Rattle.report_text.specs.declared.report.Last.TheVariants as last
use Rattle.report_text.specs.declared.report.Report.{Report}
use Rattle.report_text.specs.declared.report.ReportLine.{ReportLine}
use Rattle.report_text.specs.declared.report.ReportLine.TheVariants.{Bound, Found, Exact, Input}
use Rattle.report_text.specs.Texts.{same, keeps_bound, best_of, bound_lines, found_lines, value_lines, shown_lines, last_lines, report_lines, line_text, lines_text, report_text}
use Rattle.report_text.specs.WholeLines.{IsLine}
use Rattle.report_text.proofs.Injective.{line_ends}
use Rattle.report_text.proofs.Whole.{whole_lines, whole_lines_of_report}
use Rattle.race_report.specs.Telling.{IsRace, Tells, TellsSoFar}
use Rattle.race_report.specs.Claims.{LineHolds, EndHolds}
use Rattle.race_report.proofs.Reports.{report_holds, lines_so_far_hold}

-- what holds of each line holds of one among them
of_among : (P : ReportLine → Type 0) (lines : List ReportLine) (line : ReportLine) → EachOf P lines → IsAmong lines line → P line
of_among P lines line each there = at lines there.0 each there.1.0 there.1.1
  where
    at : (ls : List ReportLine) (i : ℕ) → EachOf P ls → i < length ls → line ≡ slice_index_or ls i line → P line
    at [] i h below is = absurd (omega (arith, below))
    at (l ∷ ls) zero h below is = subst P (sym is) h.0
    at (l ∷ ls) (suc i) h below is = at ls i h.1 (omega (arith, below)) is

pub line_of_report_holds : (watched : Bool) (b : BoardOf) (r : Report) (text more : List ℕ) (line : ReportLine) → IsRace b → Tells watched b r → IsLine line → report_text r ≡ text ++ more → HasLine text (line_text line) → LineHolds b.setup.rows.plan.program b.setup.rows.plan.costs line
line_of_report_holds watched b r text more line race tells is begins has =
    of_among (LineHolds b.setup.rows.plan.program b.setup.rows.plan.costs) (report_lines r) line (report_holds watched b r race tells).lines.each
    (whole_lines_of_report r text more line tells.report is begins has)

pub line_so_far_holds : (watched : Bool) (b : BoardOf) (lines : List ReportLine) (text more : List ℕ) (line : ReportLine) → IsRace b → TellsSoFar watched b lines → IsLine line → lines_text lines ≡ text ++ more → HasLine text (line_text line) → LineHolds b.setup.rows.plan.program b.setup.rows.plan.costs line
line_so_far_holds watched b lines text more line race tells is begins has =
    of_among (LineHolds b.setup.rows.plan.program b.setup.rows.plan.costs) lines line (lines_so_far_hold watched b lines race tells).each
    (whole_lines lines text more line tells.are_lines is begins has)

-- ---- an exact bound and its input

-- what a line says of the end of its report
abbrev EndSays : Last → ReportLine → Type 0
EndSays end (Exact n) = (text : List ℕ) × (end ≡ last.Exact n text)
EndSays end (Input text) = (n : ℕ) × (end ≡ last.Exact n text)
EndSays end line = Unit {0}

bound_says : (end : Last) (kept : Bool) (bound : Option ℕ) → EachOf (EndSays end) (if kept then [] else Bound bound ∷ [])
bound_says end true bound = tt
bound_says end false bound = (tt, tt)

new_says : (end : Last) (kept : Bool) (n : ℕ) → EachOf (EndSays end) (if kept then [] else Found n ∷ [])
new_says end true n = tt
new_says end false n = (tt, tt)

found_says : (end : Last) (before best : Option ℕ) → EachOf (EndSays end) (found_lines before best)
found_says end before None = tt
found_says end before (Some n) = new_says end (same before (Some n)) n

shown_say : (end : Last) (before : Option Shown) (values : List Shown) → EachOf (EndSays end) (shown_lines before values)
shown_say end before [] = tt
shown_say end before (value ∷ values) =
    EachOf-append (EndSays end) (value_lines before value) (shown_lines (Some value) values)
    (EachOf-append (EndSays end) (bound_lines before value.bound) (found_lines (best_of before) value.best) (bound_says end (keeps_bound before value.bound) value.bound) (found_says end (best_of before) value.best))
    (shown_say end (Some value) values)

last_says : (end : Last) → EachOf (EndSays end) (last_lines end)
last_says (last.Exact bound text) = ((text, refl), ((bound, refl), tt))
last_says last.Nothing = (tt, tt)
last_says (last.Inexact bound best spent limit) = (tt, (tt, (tt, tt)))

report_says : (r : Report) → EachOf (EndSays r.last) (report_lines r)
report_says r = (tt, (tt, EachOf-append (EndSays r.last) (shown_lines None r.shown) (last_lines r.last) (shown_say r.last None r.shown) (last_says r.last)))

-- a whole line, and another one behind it
first_whole : (text line next : List ℕ) → HasLine text (line ++ next) → HasLine text line
first_whole text line next has = record {
  front = has.front;
  back = next ++ has.back;
  is = has.is ∙ ap (λ (bytes : List ℕ). has.front ++ bytes) (append_assoc line next has.back);
  lines = has.lines;
}

next_whole : (text line next : List ℕ) → EndsInFeed line → HasLine text (line ++ next) → HasLine text next
next_whole text line next ends has = record {
  front = has.front ++ line;
  back = has.back;
  is = has.is ∙ ap (λ (bytes : List ℕ). has.front ++ bytes) (append_assoc line next has.back) ∙ sym (append_assoc has.front line (next ++ has.back));
  lines = inr (has.front ++ ends.visible, ap (λ (bytes : List ℕ). has.front ++ bytes) ends.is ∙ sym (append_assoc has.front ends.visible (10 ∷ [])));
}

same_input : (end : Last) (n m : ℕ) (one other : List ℕ) → end ≡ last.Exact n one → end ≡ last.Exact m other → one ≡ other
same_input end n m one other is also = cc

pub exact_lines_hold : (watched : Bool) (b : BoardOf) (r : Report) (text more : List ℕ) (bound : ℕ) (input : List ℕ) → IsRace b → Tells watched b r → IsLine (Exact bound) → IsLine (Input input) → report_text r ≡ text ++ more → HasLine text (line_text (Exact bound) ++ line_text (Input input)) → EndHolds b.setup.rows.plan.program b.setup.rows.plan.costs (last.Exact bound input)
exact_lines_hold watched b r text more bound input race tells small feedless begins has =
    let exact = of_among (EndSays r.last) (report_lines r) (Exact bound) (report_says r)
    (whole_lines_of_report r text more (Exact bound) tells.report small begins (first_whole text (line_text (Exact bound)) (line_text (Input input)) has)) in
    let behind = of_among (EndSays r.last) (report_lines r) (Input input) (report_says r)
    (whole_lines_of_report r text more (Input input) tells.report feedless begins (next_whole text (line_text (Exact bound)) (line_text (Input input)) (line_ends (Exact bound) small) has)) in
    let same_text : exact.0 ≡ input = same_input r.last bound behind.0 exact.0 input exact.1 behind.1 in
    subst (EndHolds b.setup.rows.plan.program b.setup.rows.plan.costs) (exact.1 ∙ ap (last.Exact bound) same_text) (report_holds watched b r race tells).end
