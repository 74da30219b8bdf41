-- A report's lines follow one another, and other reports of the text have as many shown values or more.
use Rattle.std.proofs.Common.{◌≡◌, ℕ, Bool, true, false, if◌then◌else◌, Option, Some, None, List, [], ◌∷◌, ◌++◌, All, IsTrue, refl, ap, subst, eqb-true}
use Rattle.std.proofs.lemmas.Bool.{false≢true}
use Rattle.std.proofs.lemmas.List.Elements.{All-head, All-tail}
use Rattle.report_text.specs.declared.report.Shown.{Shown}
use Rattle.report_text.specs.declared.report.Last.{Last}
use Rattle.report_text.specs.declared.report.Last.TheVariants as last
use Rattle.report_text.specs.declared.report.Report.{Report}
use Rattle.report_text.specs.declared.report.ReportLine.TheVariants.{Bound, Found}
use Rattle.report_text.specs.declared.stage.Stage.TheVariants.{Watching, Whole}
use Rattle.report_text.specs.Texts.{same, keeps_bound, best_of, found_lines, value_lines, shown_lines, last_lines, report_lines}
use Rattle.report_text.specs.Conditions.{MayBeCost, IsValue, KeepsBests, keeps_best, IsPlainLast, HasNumbers, IsTextOf}
use Rattle.report_text.specs.Form.{Leads, IsFormOf}
use Rattle.report_text.proofs.Matching.{leads_on}

pub same_is : (a b : Option ℕ) → same a b ≡ true → a ≡ b
same_is None None is = refl
same_is None (Some n) is = absurd (false≢true is)
same_is (Some m) None is = absurd (false≢true is)
same_is (Some m) (Some n) is = ap (λ k. Some k) (eqb-true m n is)

-- the best of a value behind a stage at its bound
best_leads : (at : Shown) (best : Option ℕ) → MayBeCost best → IsTrue (keeps_best at.best best) → Leads (Watching (Some at)) (found_lines at.best best) (Watching (Some (record { bound = at.bound; best = best })))
best_leads at None cost keeps = by_best at.best refl keeps
  where
    by_best : (b : Option ℕ) → at.best ≡ b → IsTrue (keeps_best b None) → Watching (Some at) ≡ Watching (Some (record { bound = at.bound; best = None }))
    by_best None is keeps = ap (λ b. Watching (Some (record { bound = at.bound; best = b }))) is
    by_best (Some n) is keeps = absurd (false≢true keeps)
best_leads at (Some n) cost keeps = by_same (same at.best (Some n)) refl
  where
    by_same : (b : Bool) → same at.best (Some n) ≡ b → Leads (Watching (Some at)) (if b then [] else Found n ∷ []) (Watching (Some (record { bound = at.bound; best = Some n })))
    by_same true is = ap (λ b. Watching (Some (record { bound = at.bound; best = b }))) (same_is at.best (Some n) is)
    by_same false is = ((cost, is), refl)

-- a value behind the one before it
pub value_leads : (before : Option Shown) (value : Shown) → IsValue value → IsTrue (keeps_best (best_of before) value.best) → Leads (Watching before) (value_lines before value) (Watching (Some value))
value_leads before value cost keeps = by_bound before keeps (keeps_bound before value.bound) refl
  where
    by_bound : (before : Option Shown) → IsTrue (keeps_best (best_of before) value.best) → (b : Bool) → keeps_bound before value.bound ≡ b → Leads (Watching before) ((if b then [] else Bound value.bound ∷ []) ++ found_lines (best_of before) value.best) (Watching (Some value))
    by_bound None keeps true is = absurd (false≢true is)
    by_bound (Some at) keeps true is =
        subst (λ bound. Leads (Watching (Some at)) (found_lines at.best value.best) (Watching (Some (record { bound = bound; best = value.best })))) (same_is at.bound value.bound is) (best_leads at value.best cost.best keeps)
    by_bound before keeps false is =
        ((cost.bound, is), best_leads (record { bound = value.bound; best = best_of before }) value.best cost.best keeps)

-- the last value, or the one before
abbrev pub last_value : Option Shown → List Shown → Option Shown
last_value before [] = before
last_value before (value ∷ values) = last_value (Some value) values

pub shown_leads : (before : Option Shown) (values : List Shown) → All IsValue values → KeepsBests (best_of before) values → Leads (Watching before) (shown_lines before values) (Watching (last_value before values))
shown_leads before [] each keeps = refl
shown_leads before (value ∷ values) each keeps =
    leads_on (Watching before) (value_lines before value) (shown_lines (Some value) values) (Watching (Some value)) (Watching (last_value (Some value) values))
    (value_leads before value (All-head IsValue value values each) keeps.0) (shown_leads (Some value) values (All-tail IsValue value values each) keeps.1)

pub last_leads : (before : Option Shown) (l : Last) → HasNumbers l → IsPlainLast l → Leads (Watching before) (last_lines l) Whole
last_leads None (last.Exact bound input) numbers plain = (numbers.0, ((plain, numbers.1), refl))
last_leads (Some before) (last.Exact bound input) numbers plain = (numbers.0, ((plain, numbers.1), refl))
last_leads None last.Nothing numbers plain = (tt, refl)
last_leads (Some before) last.Nothing numbers plain = (tt, refl)
last_leads None (last.Inexact bound best spent limit) numbers plain = (numbers.0, (numbers.1, ((numbers.2, plain), refl)))
last_leads (Some before) (last.Inexact bound best spent limit) numbers plain = (numbers.0, (numbers.1, ((numbers.2, plain), refl)))

-- the text of a report is of the form
pub report_form : (text : List ℕ) (r : Report) → IsTextOf text r → IsFormOf text (report_lines r)
report_form text r is = record {
  leads = (
    is.report.copies,
    (
      is.report.ipet,
      leads_on (Watching None) (shown_lines None r.shown) (last_lines r.last) (Watching (last_value None r.shown)) Whole
          (shown_leads None r.shown is.report.shown is.report.tellable.bests) (last_leads (last_value None r.shown) r.last is.report.last is.report.tellable.last),
    ),
  );
  written = is.written;
}
