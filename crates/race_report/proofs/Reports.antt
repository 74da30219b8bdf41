-- A report that tells a race holds.
use Rattle.std.proofs.Common.{◌≡◌, ℕ, Bool, true, false, List, [], ◌++◌, Option, Some, None, sym, ◌∙◌, ap, subst}
use Rattle.std.proofs.lemmas.List.{append-nil}
use Rattle.c_tree.specs.declared.program.Input.{Input}
use Rattle.c_tree.specs.Meaning.Claims.{Above}
use Rattle.flow_laws.proofs.Runs.WellFormedPrograms.{to_run}
use Rattle.ipet_rows.specs.Optimum.{IpetOptimum}
use Rattle.ipet_rows.proofs.Counting.{one_number}
use Rattle.board_core.specs.declared.event.Entry.{Entry}
use Rattle.board_core.specs.Machine.{Setup, start_state}
use Rattle.board_core.specs.Kept.{IsSetup, DrivesBest}
use Rattle.board_core.specs.Showing.{shown_bounds, IsNotAbove}
use Rattle.board_core.specs.Boards.{BoardOf, state_of}
use Rattle.board_core.proofs.Keeping.Steps.{kept_start}
use Rattle.board_core.proofs.Showing.{same_bound}
use Rattle.board_core.proofs.ShownValues.{done_shows_best}
use Rattle.report_text.specs.declared.report.Shown.{Shown}
use Rattle.report_text.specs.declared.report.Last.{Last}
use Rattle.report_text.specs.declared.report.Last.TheVariants.{Exact, Nothing, Inexact}
use Rattle.report_text.specs.declared.report.Report.{Report}
use Rattle.report_text.specs.declared.report.ReportLine.{ReportLine}
use Rattle.report_text.specs.Texts.{front_lines, shown_lines, last_lines}
use Rattle.race_report.specs.ShownValues.{AreShown, AreValues, AreValuesSoFar}
use Rattle.race_report.specs.Telling.{IsRace, TellsEnd, Tells, TellsSoFar}
use Rattle.race_report.specs.Claims.{Bounds, MayBeReached, EndHolds, LinesHold, ReportHolds}
use Rattle.race_report.proofs.Lines.{HoldFrom, HoldBehind, hold, IsState, state_later, bound_holds, best_holds, values_hold}

-- ---- the states of a race

pub starts : (u : Setup) → IsSetup u → IsState u (start_state u)
starts u set_up = record { kept = kept_start u set_up; best = (None, tt) }

pub comes_to : (b : BoardOf) → IsRace b → IsState b.setup (state_of b)
comes_to b race = state_later b.setup (start_state b.setup) b.entries race.set_up (starts b.setup race.set_up) race.legal.each

-- ---- the end

-- the shown bound of a board that is done is best's cost
done_bound : (b : BoardOf) (best : Option ℕ) → (shown_bounds (state_of b)).bound ≡ (state_of b).best → (state_of b).best ≡ best → IsRace b → Bounds b.setup.rows.plan.program b.setup.rows.plan.costs best
done_bound b best same is race =
    subst (Bounds b.setup.rows.plan.program b.setup.rows.plan.costs) (same ∙ is) (bound_holds b.setup (state_of b) race.set_up (comes_to b race))

best_is_reached : (b : BoardOf) (best : Option ℕ) → (state_of b).best ≡ best → IsRace b → MayBeReached b.setup.rows.plan.program b.setup.rows.plan.costs best
best_is_reached b best is race =
    subst (MayBeReached b.setup.rows.plan.program b.setup.rows.plan.costs) is (best_holds b.setup (state_of b) race.set_up (comes_to b race))

not_above : (one other : Option ℕ) → one ≡ other → IsNotAbove one other
not_above one other same = subst (IsNotAbove one) same (same_bound one)

end_lines_hold : (b : BoardOf) (last : Last) → IsRace b → TellsEnd b last → HoldBehind b.setup (state_of b) (last_lines last)
end_lines_hold b (Exact bound text) race tells =
    let same = done_shows_best b.setup (state_of b) tells.done in
    record {
      each = ((done_bound b (Some bound) same tells.cost race, best_is_reached b (Some bound) tells.cost race), (tt, tt));
      falls = (not_above (Some bound) (shown_bounds (state_of b)).bound (sym (same ∙ tells.cost)), tt);
      rises = tt;
    }
end_lines_hold b Nothing race tells =
    let same = done_shows_best b.setup (state_of b) tells.done in
    record {
      each = (done_bound b None same tells.no_best race, tt);
      falls = (tt, tt);
      rises = tt;
    }
end_lines_hold b (Inexact bound best spent limit) race tells = record {
  each = (subst (Bounds b.setup.rows.plan.program b.setup.rows.plan.costs) tells.bound_is (bound_holds b.setup (state_of b) race.set_up (comes_to b race)), (best_is_reached b best tells.best_is race, (tt, tt)));
  falls = (not_above (Some bound) (shown_bounds (state_of b)).bound (sym tells.bound_is), tt);
  rises = tt;
}

pub end_holds : (b : BoardOf) (last : Last) → IsRace b → TellsEnd b last → EndHolds b.setup.rows.plan.program b.setup.rows.plan.costs last
end_holds b (Exact bound text) race tells =
    let plan = b.setup.rows.plan in
    let drives : DrivesBest plan (Some bound) (Some tells.input) =
    subst (λ (best : Option ℕ). DrivesBest plan best (Some tells.input)) tells.cost
    (subst (λ (input : Option Input). DrivesBest plan (state_of b).best input) tells.input_is race.best_drives) in
    let above : Above plan.program plan.costs bound = done_bound b (Some bound) (done_shows_best b.setup (state_of b) tells.done) tells.cost race in (
      tells.input,
      (drives.0, sym tells.spelled),
      record {
        input_fits = drives.0;
        reached = to_run plan.program plan.costs tells.input bound race.set_up.formed drives.1;
        above = above;
      },
    )
end_holds b Nothing race tells = done_bound b None (done_shows_best b.setup (state_of b) tells.done) tells.no_best race
end_holds b (Inexact bound best spent limit) race tells =
    subst (Bounds b.setup.rows.plan.program b.setup.rows.plan.costs) tells.bound_is (bound_holds b.setup (state_of b) race.set_up (comes_to b race))

-- ---- the lines before it

values_shown : (watched : Bool) (u : Setup) (es : List Entry) (values : List Shown) → AreValues watched u es values → AreShown (start_state u) es values
values_shown true u es values are = are.so_far.shown
values_shown false u es values are = subst (AreShown (start_state u) es) (sym are) tt

values_so_far : (watched : Bool) (u : Setup) (es : List Entry) (values : List Shown) → AreValuesSoFar watched u es values → AreShown (start_state u) es values
values_so_far true u es values are = are.shown
values_so_far false u es values are = subst (AreShown (start_state u) es) (sym are) tt

-- the first two lines, the values, and then lines that hold behind the last state
lines_hold : (b : BoardOf) (copies ipet : ℕ) (values : List Shown) (rest : List ReportLine) → IsRace b → IpetOptimum b.setup.rows.plan.program b.setup.rows.plan.costs ipet → AreShown (start_state b.setup) b.entries values → HoldBehind b.setup (state_of b) rest → LinesHold b.setup.rows.plan.program b.setup.rows.plan.costs (front_lines copies ipet ++ (shown_lines None values ++ rest))
lines_hold b copies ipet values rest race optimum shown h =
    let u = b.setup in
    let p = u.rows.plan.program in
    let t = u.rows.plan.costs in
    let begun = starts u race.set_up in
    let same : u.opening ≡ ipet = one_number p t u.opening ipet race.set_up.optimum optimum in
    let above : Above p t ipet = subst (Above p t) same (bound_holds u (start_state u) race.set_up begun) in
    let behind = values_hold u (start_state u) b.entries None values rest race.set_up begun race.legal.each shown h in
    let from : HoldFrom p t (Some ipet) None (shown_lines None values ++ rest) =
    subst (λ (n : ℕ). HoldFrom p t (Some n) None (shown_lines None values ++ rest)) same behind in
    hold p t (Some ipet) None (front_lines copies ipet ++ (shown_lines None values ++ rest))
    (record { each = (tt, (above, from.each)); falls = (same_bound (Some ipet), from.falls); rises = from.rises })

pub report_holds : (watched : Bool) (b : BoardOf) (r : Report) → IsRace b → Tells watched b r → ReportHolds b.setup.rows.plan.program b.setup.rows.plan.costs r
report_holds watched b r race tells = record {
  lines = lines_hold b r.copies r.ipet r.shown (last_lines r.last) race tells.plan.optimum (values_shown watched b.setup b.entries r.shown tells.shown) (end_lines_hold b r.last race tells.last);
  end = end_holds b r.last race tells.last;
}

pub lines_so_far_hold : (watched : Bool) (b : BoardOf) (lines : List ReportLine) → IsRace b → TellsSoFar watched b lines → LinesHold b.setup.rows.plan.program b.setup.rows.plan.costs lines
lines_so_far_hold watched b lines race tells =
    let p = b.setup.rows.plan.program in
    let t = b.setup.rows.plan.costs in
    let all = lines_hold b tells.copies tells.ipet tells.values [] race tells.plan.optimum (values_so_far watched b.setup b.entries tells.values tells.shown) (record { each = tt; falls = tt; rises = tt }) in
    subst (LinesHold p t) (sym (tells.lines_are ∙ ap (λ (ls : List ReportLine). front_lines tells.copies tells.ipet ++ ls) (sym (append-nil (shown_lines None tells.values))))) all
