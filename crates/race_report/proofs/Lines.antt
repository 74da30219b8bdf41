-- The lines of a report on a race, read from a state on: each holds, no bound rises and nothing found falls.
use Rattle.std.proofs.Common.{◌≡◌, ℕ, Bool, true, false, if◌then◌else◌, List, [], ◌∷◌, ◌++◌, Option, Some, None, sym, ◌∙◌, ap, subst, append_assoc}
use Rattle.std.specs.List.{filter_map}
use Rattle.c_tree.specs.declared.program.Program.{Program}
use Rattle.c_tree.specs.declared.program.Costs.{Costs}
use Rattle.race_item.specs.Lists.{EachOf}
use Rattle.board_core.specs.declared.event.Entry.{Entry}
use Rattle.board_core.specs.Machine.{Setup, State, state_after_entries}
use Rattle.board_core.specs.Conditions.{LegalFrom}
use Rattle.board_core.specs.Kept.{IsSetup, KeptState, HasBest}
use Rattle.board_core.specs.Showing.{shown_bounds, IsNotAbove}
use Rattle.board_core.proofs.Keeping.Induction.{kept_after}
use Rattle.board_core.proofs.Showing.{same_bound, never_rises_after}
use Rattle.board_core.proofs.ShownValues.{shown_above, best_after}
use Rattle.report_text.specs.declared.report.Shown.{Shown}
use Rattle.report_text.specs.declared.report.ReportLine.{ReportLine}
use Rattle.report_text.specs.declared.report.ReportLine.TheVariants.{Bound, Found}
use Rattle.report_text.specs.Texts.{same, keeps_bound, best_of, bound_lines, found_lines, value_lines, shown_lines}
use Rattle.race_report.specs.ShownValues.{value_in, AreShown}
use Rattle.race_report.specs.Claims.{IsReached, Bounds, MayBeReached, LineHolds, LinesHold, bound_of_line, found_of_line}
use Rattle.race_report.proofs.Orders.{Falls, Rises, falls_below, rises_above, two_fall, two_rise}
use Rattle.race_report.proofs.Runs.{bounds_hold, best_reached}
use Rattle.race_report.proofs.Histories.{after_both, legal_front, legal_rest}

-- ---- lines

-- the lines hold; behind this bound no bound of theirs rises, and behind this cost no cost of theirs falls
pub record HoldFrom (p : Program) (t : Costs) (top low : Option ℕ) (lines : List ReportLine) : Type 0 where
  pub each : EachOf (LineHolds p t) lines
  pub falls : Falls top (filter_map bound_of_line lines)
  pub rises : Rises low (filter_map found_of_line lines)

pub hold : (p : Program) (t : Costs) (top low : Option ℕ) (lines : List ReportLine) → HoldFrom p t top low lines → LinesHold p t lines
hold p t top low lines h = record {
  each = h.each;
  bounds_never_rise = two_fall top (filter_map bound_of_line lines) h.falls;
  found_never_falls = two_rise low (filter_map found_of_line lines) h.rises;
}

-- from a greater bound and a lesser cost on
pub hold_from : (p : Program) (t : Costs) (top low above below : Option ℕ) (lines : List ReportLine) → IsNotAbove top above → IsNotAbove below low → HoldFrom p t top low lines → HoldFrom p t above below lines
hold_from p t top low above below lines le ge h = record {
  each = h.each;
  falls = falls_below top above (filter_map bound_of_line lines) le h.falls;
  rises = rises_above low below (filter_map found_of_line lines) ge h.rises;
}

-- ---- shown values

with_bound : (p : Program) (t : Costs) (kept : Bool) (bound top low : Option ℕ) (rest : List ReportLine) → Bounds p t bound → IsNotAbove bound top → HoldFrom p t bound low rest → HoldFrom p t top low ((if kept then [] else Bound bound ∷ []) ++ rest)
with_bound p t true bound top low rest holds le h = hold_from p t bound low top low rest le (same_bound low) h
with_bound p t false bound top low rest holds le h = record { each = (holds, h.each); falls = (le, h.falls); rises = h.rises }

with_new : (p : Program) (t : Costs) (kept : Bool) (n : ℕ) (top low : Option ℕ) (rest : List ReportLine) → IsReached p t n → IsNotAbove low (Some n) → HoldFrom p t top (Some n) rest → HoldFrom p t top low ((if kept then [] else Found n ∷ []) ++ rest)
with_new p t true n top low rest holds ge h = hold_from p t top (Some n) top low rest (same_bound top) ge h
with_new p t false n top low rest holds ge h = record { each = (holds, h.each); falls = h.falls; rises = (ge, h.rises) }

with_found : (p : Program) (t : Costs) (before best top low : Option ℕ) (rest : List ReportLine) → MayBeReached p t best → IsNotAbove low best → HoldFrom p t top best rest → HoldFrom p t top low (found_lines before best ++ rest)
with_found p t before None top low rest holds ge h = hold_from p t top None top low rest (same_bound top) ge h
with_found p t before (Some n) top low rest holds ge h = with_new p t (same before (Some n)) n top low rest holds ge h

-- the lines of one value
with_value : (p : Program) (t : Costs) (before : Option Shown) (value : Shown) (top low : Option ℕ) (rest : List ReportLine) → Bounds p t value.bound → MayBeReached p t value.best → IsNotAbove value.bound top → IsNotAbove low value.best → HoldFrom p t value.bound value.best rest → HoldFrom p t top low (value_lines before value ++ rest)
with_value p t before value top low rest bounds reached le ge h =
    subst (HoldFrom p t top low) (sym (append_assoc (bound_lines before value.bound) (found_lines (best_of before) value.best) rest))
    (with_bound p t (keeps_bound before value.bound) value.bound top low (found_lines (best_of before) value.best ++ rest) bounds le
    (with_found p t (best_of before) value.best value.bound low rest reached ge h))

-- ---- states

-- what is said of a state that a race can come to
pub record IsState (u : Setup) (s : State) : Type 0 where
  pub kept : KeptState u s
  pub best : HasBest u.rows.plan s.best

pub state_later : (u : Setup) (s : State) (es : List Entry) → IsSetup u → IsState u s → LegalFrom u s es → IsState u (state_after_entries s es)
state_later u s es set_up is legal = record {
  kept = kept_after u s es set_up is.kept legal;
  best = best_after u s es legal is.best;
}

pub bound_holds : (u : Setup) (s : State) → IsSetup u → IsState u s → Bounds u.rows.plan.program u.rows.plan.costs (shown_bounds s).bound
bound_holds u s set_up is = bounds_hold u.rows.plan (shown_bounds s).bound set_up.formed (λ q driven. shown_above u s q is.kept driven)

pub best_holds : (u : Setup) (s : State) → IsSetup u → IsState u s → MayBeReached u.rows.plan.program u.rows.plan.costs s.best
best_holds u s set_up is = best_reached u.rows.plan s.best set_up.formed is.best

-- lines hold behind what a state shows
abbrev pub HoldBehind : Setup → State → List ReportLine → Type 0
HoldBehind u s lines = HoldFrom u.rows.plan.program u.rows.plan.costs (shown_bounds s).bound s.best lines

-- what holds behind a later state holds behind an earlier one
pub hold_earlier : (u : Setup) (s : State) (es : List Entry) (lines : List ReportLine) → IsSetup u → IsState u s → LegalFrom u s es → HoldBehind u (state_after_entries s es) lines → HoldBehind u s lines
hold_earlier u s es lines set_up is legal h =
    let later = state_after_entries s es in
    let never = never_rises_after u s es set_up is.kept legal in
    hold_from u.rows.plan.program u.rows.plan.costs (shown_bounds later).bound later.best (shown_bounds s).bound s.best lines never.bound never.best h

-- the lines of values that are shown from a state on, and then lines that hold behind the last state
pub values_hold : (u : Setup) (s : State) (es : List Entry) (before : Option Shown) (values : List Shown) (rest : List ReportLine) → IsSetup u → IsState u s → LegalFrom u s es → AreShown s es values → HoldBehind u (state_after_entries s es) rest → HoldBehind u s (shown_lines before values ++ rest)
values_hold u s es before [] rest set_up is legal shown h = hold_earlier u s es rest set_up is legal h
values_hold u s es before (value ∷ values) rest set_up is legal shown h =
    let front = shown.0 in
    let behind = shown.1 in
    let split : es ≡ front ++ behind = shown.2 in
    let value_is : value ≡ value_in (state_after_entries s front) = shown.3 in
    let both : LegalFrom u s (front ++ behind) = subst (LegalFrom u s) split legal in
    let last : HoldBehind u (state_after_entries (state_after_entries s front) behind) rest =
    subst (λ (later : State). HoldBehind u later rest) (ap (state_after_entries s) split ∙ after_both s front behind) h in
    one_holds u s front before value (shown_lines (Some value) values) rest set_up is (legal_front u s front behind both) value_is
    (values_hold u (state_after_entries s front) behind (Some value) values rest set_up (state_later u s front set_up is (legal_front u s front behind both)) (legal_rest u s front behind both) shown.4 last)
  where
    one_holds : (u : Setup) (s : State) (front : List Entry) (before : Option Shown) (value : Shown) (lines rest : List ReportLine) → IsSetup u → IsState u s → LegalFrom u s front → value ≡ value_in (state_after_entries s front) → HoldBehind u (state_after_entries s front) (lines ++ rest) → HoldBehind u s ((value_lines before value ++ lines) ++ rest)
    one_holds u s front before value lines rest set_up is legal value_is h =
        let later = state_after_entries s front in
        let never = never_rises_after u s front set_up is.kept legal in
        let is_later = state_later u s front set_up is legal in
        subst (HoldBehind u s) (sym (append_assoc (value_lines before value) lines rest))
        (subst (λ (v : Shown). HoldBehind u s (value_lines before v ++ (lines ++ rest))) (sym value_is)
        (with_value u.rows.plan.program u.rows.plan.costs before (value_in later) (shown_bounds s).bound s.best (lines ++ rest) (bound_holds u later set_up is_later) (best_holds u later set_up is_later) never.bound never.best h))
