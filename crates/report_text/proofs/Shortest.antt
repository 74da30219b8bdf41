-- The shortest list of shown values that has a text is one.
use Rattle.std.proofs.Common.{◌≡◌, ℕ, ◌+◌, ◌≤◌, Bool, true, false, if◌then◌else◌, Option, Some, None, List, [], ◌∷◌, ◌++◌, length, drop, refl, sym, ◌∙◌, ap, subst, arith, append_assoc}
use Rattle.std.proofs.lemmas.Bool.{false≢true}
use Rattle.report_text.specs.declared.report.Shown.{Shown}
use Rattle.report_text.specs.declared.report.Last.{Last}
use Rattle.report_text.specs.declared.report.Last.TheVariants as last
use Rattle.report_text.specs.declared.report.Report.{Report}
use Rattle.report_text.specs.declared.report.ReportLine.{ReportLine}
use Rattle.report_text.specs.declared.report.ReportLine.TheVariants.{Bound, Found}
use Rattle.report_text.specs.Texts.{same, keeps_bound, best_of, found_lines, value_lines, shown_lines, last_lines, report_lines}
use Rattle.report_text.specs.Conditions.{keeps_best, KeepsBests, IsReadAs}
use Rattle.report_text.specs.Form.{IsFormOf}
use Rattle.report_text.specs.Values.{bound_of, values_of, end_of, fewest, IsReportOf}
use Rattle.report_text.proofs.Matching.{one_form}
use Rattle.report_text.proofs.Complete.{same_is, report_form}
use Rattle.report_text.proofs.Counting.{Needs, shown_needs}
use Rattle.report_text.proofs.Assembling.{one_last, reports, text_of}

-- ---- what is read is shortest

pub read_as : (text : List ℕ) (ls : List ReportLine) (r : Report) → IsFormOf text ls → IsReportOf ls r → IsReadAs text r
read_as text ls r form is = record {
  text_of = text_of text ls r form.written is;
  fewest = λ other of.
      let lines : ls ≡ report_lines other = one_form text ls (report_lines other) form (report_form text other of) in
      let few : length r.shown ≡ fewest false (shown_lines None other.shown ++ last_lines other.last) = is.few ∙ ap (λ t. fewest false (drop 2 t)) lines in
      let needs = shown_needs None other.shown other.last false in
      omega (arith, few, needs);
}

-- ---- each value of a shortest list is the one that its lines tell

-- what the values behind one come to, where they are no more than their lines need
abbrev Further : Shown → List Shown → List ReportLine → Type 0
Further value vs rest = length vs ≤ fewest false rest → vs ≡ values_of (Some value) rest

no_best : (a : Option ℕ) → keeps_best a None ≡ true → a ≡ None
no_best None keeps = refl
no_best (Some n) keeps = absurd (false≢true keeps)

kept_bound : (before : Option Shown) (bound : Option ℕ) → keeps_bound before bound ≡ true → bound_of before ≡ bound
kept_bound None bound keeps = absurd (false≢true keeps)
kept_bound (Some value) bound keeps = same_is value.bound bound keeps

-- a line of a bound alone: no line of a best follows
alone : (before : Option Shown) (bound best : Option ℕ) (vs : List Shown) (rest : List ReportLine) → best_of before ≡ best → Needs rest (length vs) → length vs + 1 ≤ fewest false (Bound bound ∷ rest) → Further (record { bound = bound; best = best }) vs rest
    → record { bound = bound; best = best } ∷ vs ≡ values_of before (Bound bound ∷ rest)
alone before bound best vs [] is needs enough further = rw is (ap (λ t. record { bound = bound; best = best } ∷ t) (further (omega (arith, enough))))
alone before bound best vs (Found n ∷ ls) is needs enough further = absurd (omega (arith, enough, needs false))
alone before bound best vs (l ∷ ls) is needs enough further = rw is (ap (λ t. record { bound = bound; best = best } ∷ t) (further (omega (arith, enough))))

told : (before : Option Shown) (bound best : Option ℕ) (vs : List Shown) (rest : List ReportLine) → keeps_best (best_of before) best ≡ true → Needs rest (length vs) → length vs + 1 ≤ fewest false (Bound bound ∷ (found_lines (best_of before) best ++ rest)) → Further (record { bound = bound; best = best }) vs rest
    → record { bound = bound; best = best } ∷ vs ≡ values_of before (Bound bound ∷ (found_lines (best_of before) best ++ rest))
told before bound None vs rest keeps needs enough further = alone before bound None vs rest (no_best (best_of before) keeps) needs enough further
told before bound (Some n) vs rest keeps needs enough further = by_same (same (best_of before) (Some n)) refl enough
  where
    by_same : (b : Bool) → same (best_of before) (Some n) ≡ b → length vs + 1 ≤ fewest false (Bound bound ∷ ((if b then [] else Found n ∷ []) ++ rest)) → record { bound = bound; best = Some n } ∷ vs ≡ values_of before (Bound bound ∷ ((if b then [] else Found n ∷ []) ++ rest))
    by_same true is enough = alone before bound (Some n) vs rest (same_is (best_of before) (Some n) is) needs enough further
    by_same false is enough = ap (λ t. record { bound = bound; best = Some n } ∷ t) (further (omega (arith, enough)))

kept : (before : Option Shown) (bound best : Option ℕ) (vs : List Shown) (rest : List ReportLine) → bound_of before ≡ bound → Needs rest (length vs) → length vs + 1 ≤ fewest false (found_lines (best_of before) best ++ rest) → Further (record { bound = bound; best = best }) vs rest
    → record { bound = bound; best = best } ∷ vs ≡ values_of before (found_lines (best_of before) best ++ rest)
kept before bound None vs rest is needs enough further = absurd (omega (arith, enough, needs false))
kept before bound (Some n) vs rest is needs enough further = by_same (same (best_of before) (Some n)) enough
  where
    by_same : (b : Bool) → length vs + 1 ≤ fewest false ((if b then [] else Found n ∷ []) ++ rest) → record { bound = bound; best = Some n } ∷ vs ≡ values_of before ((if b then [] else Found n ∷ []) ++ rest)
    by_same true enough = absurd (omega (arith, enough, needs false))
    by_same false enough = rw is (ap (λ t. record { bound = bound; best = Some n } ∷ t) (further (omega (arith, enough))))

value_told : (before : Option Shown) (value : Shown) (vs : List Shown) (rest : List ReportLine) → keeps_best (best_of before) value.best ≡ true → Needs rest (length vs) → length vs + 1 ≤ fewest false (value_lines before value ++ rest) → Further value vs rest
    → value ∷ vs ≡ values_of before (value_lines before value ++ rest)
value_told before value vs rest keeps needs enough further = by_bound (keeps_bound before value.bound) refl enough
  where
    by_bound : (b : Bool) → keeps_bound before value.bound ≡ b → length vs + 1 ≤ fewest false (((if b then [] else Bound value.bound ∷ []) ++ found_lines (best_of before) value.best) ++ rest)
        → value ∷ vs ≡ values_of before (((if b then [] else Bound value.bound ∷ []) ++ found_lines (best_of before) value.best) ++ rest)
    by_bound true is enough = kept before value.bound value.best vs rest (kept_bound before value.bound is) needs enough further
    by_bound false is enough = told before value.bound value.best vs rest keeps needs enough further

no_values : (before : Option Shown) (l : Last) → [] ≡ values_of before (last_lines l)
no_values before (last.Exact bound input) = refl
no_values before last.Nothing = refl
no_values before (last.Inexact bound best spent limit) = refl

values_told : (before : Option Shown) (vs : List Shown) (l : Last) → KeepsBests (best_of before) vs → length vs ≤ fewest false (shown_lines before vs ++ last_lines l) → vs ≡ values_of before (shown_lines before vs ++ last_lines l)
values_told before [] l keeps enough = no_values before l
values_told before (value ∷ vs) l keeps enough =
    let rest : List ReportLine = shown_lines (Some value) vs ++ last_lines l in
    let split = append_assoc (value_lines before value) (shown_lines (Some value) vs) (last_lines l) in
    let more : length vs + 1 ≤ fewest false (value_lines before value ++ (shown_lines (Some value) vs ++ last_lines l)) = subst (λ t. length vs + 1 ≤ fewest false t) split (omega (arith, enough)) in
    value_told before value vs (shown_lines (Some value) vs ++ last_lines l) keeps.0 (shown_needs (Some value) vs l) more (values_told (Some value) vs l keeps.1)
    ∙ ap (values_of before) (sym split)

-- ---- and the end

found_end : (before best : Option ℕ) (ls : List ReportLine) → end_of (found_lines before best ++ ls) ≡ end_of ls
found_end before None ls = refl
found_end before (Some n) ls = by_same (same before (Some n))
  where
    by_same : (b : Bool) → end_of ((if b then [] else Found n ∷ []) ++ ls) ≡ end_of ls
    by_same true = refl
    by_same false = refl

value_end : (before : Option Shown) (value : Shown) (ls : List ReportLine) → end_of (value_lines before value ++ ls) ≡ end_of ls
value_end before value ls = by_bound (keeps_bound before value.bound)
  where
    by_bound : (b : Bool) → end_of (((if b then [] else Bound value.bound ∷ []) ++ found_lines (best_of before) value.best) ++ ls) ≡ end_of ls
    by_bound true = found_end (best_of before) value.best ls
    by_bound false = found_end (best_of before) value.best ls

last_end : (l : Last) → end_of (last_lines l) ≡ last_lines l
last_end (last.Exact bound input) = refl
last_end last.Nothing = refl
last_end (last.Inexact bound best spent limit) = refl

shown_end : (before : Option Shown) (vs : List Shown) (l : Last) → end_of (shown_lines before vs ++ last_lines l) ≡ last_lines l
shown_end before [] l = last_end l
shown_end before (value ∷ vs) l =
    ap end_of (append_assoc (value_lines before value) (shown_lines (Some value) vs) (last_lines l)) ∙ value_end before value (shown_lines (Some value) vs ++ last_lines l) ∙ shown_end (Some value) vs l

-- ---- one report

same_report : (one other : Report) → one.copies ≡ other.copies → one.ipet ≡ other.ipet → one.shown ≡ other.shown → one.last ≡ other.last → one ≡ other
same_report one other copies ipet shown end =
    ap (λ c. record { copies = c; ipet = one.ipet; shown = one.shown; last = one.last }) copies ∙ ap (λ c. record { copies = other.copies; ipet = c; shown = one.shown; last = one.last }) ipet
    ∙ ap (λ c. record { copies = other.copies; ipet = other.ipet; shown = c; last = one.last }) shown ∙ ap (λ c. record { copies = other.copies; ipet = other.ipet; shown = other.shown; last = c }) end

-- the values of a report that is read are those that its lines tell
read_values : (text : List ℕ) (r : Report) → IsReadAs text r → r.shown ≡ values_of None (shown_lines None r.shown ++ last_lines r.last)
read_values text r is =
    let form = report_form text r is.text_of in
    let made = reports (report_lines r) form.leads in
    let less = is.fewest made.report (text_of text (report_lines r) made.report form.written made.is) in
    values_told None r.shown r.last is.text_of.report.tellable.bests (omega (arith, less, made.is.few))

pub one_shortest : (text : List ℕ) (one other : Report) → IsReadAs text one → IsReadAs text other → one ≡ other
one_shortest text one other is is_other =
    let lines : report_lines one ≡ report_lines other = one_form text (report_lines one) (report_lines other) (report_form text one is.text_of) (report_form text other is_other.text_of) in
    let copies : one.copies ≡ other.copies = cc in
    let ipet : one.ipet ≡ other.ipet = cc in
    let behind : shown_lines None one.shown ++ last_lines one.last ≡ shown_lines None other.shown ++ last_lines other.last = ap (drop 2) lines in
    same_report one other copies ipet
    (read_values text one is ∙ ap (values_of None) behind ∙ sym (read_values text other is_other))
    (one_last one.last other.last (sym (shown_end None one.shown one.last) ∙ ap end_of behind ∙ shown_end None other.shown other.last))
