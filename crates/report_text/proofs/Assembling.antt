-- Lines that follow one another are those of a report.
use Rattle.std.proofs.Common.{◌≡◌, ℕ, ◌+◌, true, false, Option, Some, None, List, [], ◌∷◌, ◌++◌, length, All, refl, sym, ◌∙◌, ap, subst, arith, append_assoc, eq-eqb}
use Rattle.std.proofs.lemmas.List.Elements.{All-nil, All-cons}
use Rattle.text_lines.specs.Lines.{Begins, LeavesAt, front}
use Rattle.report_text.specs.declared.report.Shown.{Shown}
use Rattle.report_text.specs.declared.report.Last.{Last}
use Rattle.report_text.specs.declared.report.Last.TheVariants as last
use Rattle.report_text.specs.declared.report.Report.{Report}
use Rattle.report_text.specs.declared.report.ReportLine.{ReportLine}
use Rattle.report_text.specs.declared.report.ReportLine.TheVariants.{Copies, Ipet, Bound, Found, Exact, Input, Nothing, Inexact, Best, Spent as SpentLine}
use Rattle.report_text.specs.declared.stage.Stage.TheVariants.{Start, Watching, BehindExact, BehindInexact, Whole}
use Rattle.report_text.specs.Texts.{same, keeps_bound, best_of, found_lines, value_lines, shown_lines, last_lines, report_lines, lines_text}
use Rattle.report_text.specs.Conditions.{IsCost, MayBeCost, IsValue, KeepsBests, keeps_best, IsPlainLast, HasNumbers, IsTextOf, IsReportText}
use Rattle.report_text.specs.Form.{Leads, IsFormText}
use Rattle.report_text.specs.Values.{bound_of, values_of, end_of, fewest, BeginsNoReport, BeginsNoBest, IsReportOf}
use Rattle.report_text.proofs.Complete.{report_form}

-- the end of a report
record Ended (ls : List ReportLine) : Type 0 where
  last : Last
  same : last_lines last ≡ ls
  numbers : HasNumbers last
  plain : IsPlainLast last

nothing_more : (ls : List ReportLine) → Leads Whole ls Whole → [] ≡ ls
nothing_more [] leads = refl
nothing_more (l ∷ ls) leads = absurd leads.0

exact_end : (bound : ℕ) (ls : List ReportLine) → IsCost bound → Leads BehindExact ls Whole → Ended (Exact bound ∷ ls)
exact_end bound [] cost leads = cc
exact_end bound (Input input ∷ ls) cost leads = record { last = last.Exact bound input; same = ap (λ m. Exact bound ∷ Input input ∷ m) (nothing_more ls leads.1); numbers = (cost, leads.0.1); plain = leads.0.0 }
exact_end bound (l ∷ ls) cost leads = absurd leads.0

inexact_end : (bound : ℕ) (ls : List ReportLine) → IsCost bound → Leads BehindInexact ls Whole → Ended (Inexact bound ∷ ls)
inexact_end bound [] cost leads = cc
inexact_end bound (Best best ∷ []) cost leads = let other = leads.1 in cc
inexact_end bound (Best best ∷ SpentLine spent limit ∷ ls) cost leads = record {
  last = last.Inexact bound best spent limit;
  same = ap (λ m. Inexact bound ∷ Best best ∷ SpentLine spent limit ∷ m) (nothing_more ls leads.1.1);
  numbers = (cost, leads.0, leads.1.0.0);
  plain = leads.1.0.1;
}
inexact_end bound (Best best ∷ l ∷ ls) cost leads = absurd leads.1.0
inexact_end bound (l ∷ ls) cost leads = absurd leads.0

-- the shown values and the end
pub record Made (before : Option Shown) (ls : List ReportLine) : Type 0 where
  pub last : Last
  pub end : last_lines last ≡ end_of ls
  pub same : shown_lines before (values_of before ls) ++ end_of ls ≡ ls
  pub count : length (values_of before ls) ≡ fewest false ls
  pub each : All IsValue (values_of before ls)
  pub keeps : KeepsBests (best_of before) (values_of before ls)
  pub numbers : HasNumbers last
  pub plain : IsPlainLast last

at_end : (before : Option Shown) (ls : List ReportLine) → values_of before ls ≡ [] → end_of ls ≡ ls → fewest false ls ≡ 0 → Ended ls → Made before ls
at_end before ls no_values ends none ended = record {
  last = ended.last;
  end = ended.same ∙ sym ends;
  same = ap (λ vs. shown_lines before vs ++ end_of ls) no_values ∙ ends;
  count = ap length no_values ∙ sym none;
  each = subst (All IsValue) (sym no_values) (All-nil IsValue);
  keeps = subst (KeepsBests (best_of before)) (sym no_values) tt;
  numbers = ended.numbers;
  plain = ended.plain;
}

same_self : (a : Option ℕ) → same a a ≡ true
same_self None = refl
same_self (Some n) = eq-eqb n n refl

keeps_self : (a : Option ℕ) → keeps_best a a ≡ true
keeps_self None = refl
keeps_self (Some n) = refl

keeps_some : (a : Option ℕ) (n : ℕ) → keeps_best a (Some n) ≡ true
keeps_some None n = refl
keeps_some (Some m) n = refl

no_found : (a : Option ℕ) → found_lines a a ≡ []
no_found None = refl
no_found (Some n) = rw (same_self (Some n)) refl

-- the first value, and what is made of the lines behind it
record Begun (before : Option Shown) (value : Shown) (ls rest : List ReportLine) : Type 0 where
  values : values_of before ls ≡ value ∷ values_of (Some value) rest
  ends : end_of ls ≡ end_of rest
  lines : value_lines before value ++ rest ≡ ls
  count : fewest false ls ≡ fewest false rest + 1
  cost : IsValue value
  keeps : keeps_best (best_of before) value.best ≡ true

with_value : (before : Option Shown) (value : Shown) (ls rest : List ReportLine) → Begun before value ls rest → Made (Some value) rest → Made before ls
with_value before value ls rest begun made = record {
  last = made.last;
  end = made.end ∙ sym begun.ends;
  same = ap (λ vs. shown_lines before vs ++ end_of ls) begun.values ∙ ap (λ e. (value_lines before value ++ shown_lines (Some value) (values_of (Some value) rest)) ++ e) begun.ends
      ∙ append_assoc (value_lines before value) (shown_lines (Some value) (values_of (Some value) rest)) (end_of rest) ∙ ap (λ t. value_lines before value ++ t) made.same ∙ begun.lines;
  count = omega (arith, ap length begun.values, made.count, begun.count);
  each = subst (All IsValue) (sym begun.values) (All-cons IsValue value (values_of (Some value) rest) begun.cost made.each);
  keeps = subst (KeepsBests (best_of before)) (sym begun.values) (begun.keeps, made.keeps);
  numbers = made.numbers;
  plain = made.plain;
}

bound_alone : (before : Option Shown) (bound : Option ℕ) (rest : List ReportLine) → keeps_bound before bound ≡ false → value_lines before (record { bound = bound; best = best_of before }) ++ rest ≡ Bound bound ∷ rest
bound_alone before bound rest is = rw (is, no_found (best_of before)) refl

bound_and_found : (before : Option Shown) (bound : Option ℕ) (n : ℕ) (rest : List ReportLine) → keeps_bound before bound ≡ false → same (best_of before) (Some n) ≡ false → value_lines before (record { bound = bound; best = Some n }) ++ rest ≡ Bound bound ∷ Found n ∷ rest
bound_and_found before bound n rest is other = rw (is, other) refl

found_alone : (before : Shown) (n : ℕ) (rest : List ReportLine) → same before.best (Some n) ≡ false → value_lines (Some before) (record { bound = before.bound; best = Some n }) ++ rest ≡ Found n ∷ rest
found_alone before n rest is = rw (is, same_self before.bound) refl

-- the value before keeps to its type
pub record IsBefore (before : Option Shown) : Type 0 where
  pub bound : MayBeCost (bound_of before)
  pub best : MayBeCost (best_of before)

before_of : (value : Shown) → IsValue value → IsBefore (Some value)
before_of value is = record { bound = is.bound; best = is.best }

pub made : (before : Option Shown) (ls : List ReportLine) → IsBefore before → Leads (Watching before) ls Whole → Made before ls
made before [] is leads = cc
made before (Bound bound ∷ []) is leads = let other = leads.1 in cc
made before (Bound bound ∷ Found n ∷ ls) is leads =
    let cost : IsValue (record { bound = bound; best = Some n }) = record { bound = leads.0.0; best = leads.1.0.0 } in
    with_value before (record { bound = bound; best = Some n }) (Bound bound ∷ Found n ∷ ls) ls
    (record { values = refl; ends = refl; lines = bound_and_found before bound n ls leads.0.1 leads.1.0.1; count = omega arith; cost = cost; keeps = keeps_some (best_of before) n })
    (made (Some (record { bound = bound; best = Some n })) ls (before_of (record { bound = bound; best = Some n }) cost) leads.1.1)
made before (Bound bound ∷ l ∷ ls) is leads =
    let cost : IsValue (record { bound = bound; best = best_of before }) = record { bound = leads.0.0; best = is.best } in
    with_value before (record { bound = bound; best = best_of before }) (Bound bound ∷ l ∷ ls) (l ∷ ls)
    (record { values = refl; ends = refl; lines = bound_alone before bound (l ∷ ls) leads.0.1; count = omega arith; cost = cost; keeps = keeps_self (best_of before) })
    (made (Some (record { bound = bound; best = best_of before })) (l ∷ ls) (before_of (record { bound = bound; best = best_of before }) cost) leads.1)
made None (Found n ∷ ls) is leads = absurd leads.0
made (Some before) (Found n ∷ ls) is leads =
    let cost : IsValue (record { bound = before.bound; best = Some n }) = record { bound = is.bound; best = leads.0.0 } in
    with_value (Some before) (record { bound = before.bound; best = Some n }) (Found n ∷ ls) ls
    (record { values = refl; ends = refl; lines = found_alone before n ls leads.0.1; count = omega arith; cost = cost; keeps = keeps_some before.best n })
    (made (Some (record { bound = before.bound; best = Some n })) ls (before_of (record { bound = before.bound; best = Some n }) cost) leads.1)
made before (Exact n ∷ ls) is leads = at_end before (Exact n ∷ ls) refl refl refl (exact_end n ls leads.0 leads.1)
made before (Inexact n ∷ ls) is leads = at_end before (Inexact n ∷ ls) refl refl refl (inexact_end n ls leads.0 leads.1)
made before (Nothing ∷ ls) is leads = at_end before (Nothing ∷ ls) refl refl refl (record { last = last.Nothing; same = ap (λ m. Nothing ∷ m) (nothing_more ls leads.1); numbers = tt; plain = tt })
made before (l ∷ ls) is leads = absurd leads.0

pub made_of : (ls : List ReportLine) → Leads (Watching None) ls Whole → Made None ls
made_of ls leads = made None ls (record { bound = tt; best = tt }) leads

-- a line of a bound with none of a best behind it
pub bound_value : (before : Option Shown) (bound : Option ℕ) (ls : List ReportLine) → BeginsNoBest ls → values_of before (Bound bound ∷ ls) ≡ record { bound = bound; best = best_of before } ∷ values_of (Some (record { bound = bound; best = best_of before })) ls
bound_value before bound [] none = refl
bound_value before bound (Found n ∷ ls) none = absurd (none n ls refl)
bound_value before bound (l ∷ ls) none = refl

-- ends with the same lines are the same
pub one_last : (a b : Last) → last_lines a ≡ last_lines b → a ≡ b
one_last (last.Exact m x) (last.Exact n y) same =
    let bound : m ≡ n = cc in
    let input : x ≡ y = cc in
    ap (λ k. last.Exact k x) bound ∙ ap (λ i. last.Exact n i) input
one_last last.Nothing last.Nothing same = refl
one_last (last.Inexact m a s k) (last.Inexact n b t l) same =
    let bound : m ≡ n = cc in
    let best : a ≡ b = cc in
    let spent : s ≡ t = cc in
    let limit : k ≡ l = cc in
    ap (λ z. last.Inexact z a s k) bound ∙ ap (λ z. last.Inexact n z s k) best ∙ ap (λ z. last.Inexact n b z k) spent ∙ ap (λ z. last.Inexact n b t z) limit
one_last a b same = cc

-- the report that is made of these lines
pub report_of : (copies ipet : ℕ) (ls : List ReportLine) (values : List Shown) (end : Last) → Leads Start (Copies copies ∷ Ipet ipet ∷ ls) Whole → values ≡ values_of None ls → last_lines end ≡ end_of ls
    → IsReportOf (Copies copies ∷ Ipet ipet ∷ ls) (record { copies = copies; ipet = ipet; shown = values; last = end })
report_of copies ipet ls values end leads is ends =
    let m = made_of ls leads.1.1 in
    let one : m.last ≡ end = one_last m.last end (m.end ∙ sym ends) in
    record {
      same = ap (λ t. Copies copies ∷ Ipet ipet ∷ t) (ap (λ vs. shown_lines None vs ++ last_lines end) is ∙ ap (λ e. shown_lines None (values_of None ls) ++ e) ends ∙ m.same);
      report = record {
        copies = leads.0;
        ipet = leads.1.0;
        shown = subst (All IsValue) (sym is) m.each;
        last = subst HasNumbers one m.numbers;
        tellable = record { last = subst IsPlainLast one m.plain; bests = subst (KeepsBests None) (sym is) m.keeps };
      };
      few = ap length is ∙ m.count;
    }

-- they do begin with these two
pub begins_report : (ls : List ReportLine) → Leads Start ls Whole → ¬ BeginsNoReport ls
begins_report [] leads none = cc
begins_report (Copies copies ∷ []) leads none = let other = leads.1 in cc
begins_report (Copies copies ∷ Ipet ipet ∷ ls) leads none = none copies ipet ls refl
begins_report (Copies copies ∷ l ∷ ls) leads none = leads.1.0
begins_report (l ∷ ls) leads none = leads.0

-- lines that follow one another are those of a report
pub record Reports (ls : List ReportLine) : Type 0 where
  pub report : Report
  pub is : IsReportOf ls report

pub reports : (ls : List ReportLine) → Leads Start ls Whole → Reports ls
reports [] leads = cc
reports (Copies copies ∷ []) leads = let other = leads.1 in cc
reports (Copies copies ∷ Ipet ipet ∷ ls) leads =
    let m = made_of ls leads.1.1 in
    record { report = record { copies = copies; ipet = ipet; shown = values_of None ls; last = m.last }; is = report_of copies ipet ls (values_of None ls) m.last leads refl m.end }
reports (Copies copies ∷ l ∷ ls) leads = absurd leads.1.0
reports (l ∷ ls) leads = absurd leads.0

pub text_of : (text : List ℕ) (ls : List ReportLine) (r : Report) → text ≡ lines_text ls → IsReportOf ls r → IsTextOf text r
text_of text ls r written is = record { report = is.report; written = written ∙ ap lines_text (sym is.same) }

pub form_is_report : (text : List ℕ) → IsFormText text → IsReportText text
form_is_report text is =
    let made = reports is.lines is.form.leads in
    record { report = made.report; text_of = text_of text is.lines made.report is.form.written made.is }

pub report_is_form : (text : List ℕ) → IsReportText text → IsFormText text
report_is_form text is = record { lines = report_lines is.report; form = report_form text is.report is.text_of }

begins_same : (P Q : List ℕ → Type 0) (text : List ℕ) → ((t : List ℕ) → P t → Q t) → Begins P text → Begins Q text
begins_same P Q text to begins = record { more = begins.more; whole = to (text ++ begins.more) begins.whole }

pub leaves_same : (P Q : List ℕ → Type 0) (text : List ℕ) (k : ℕ) → ((t : List ℕ) → P t → Q t) → ((t : List ℕ) → Q t → P t) → LeavesAt P text k → LeavesAt Q text k
leaves_same P Q text k to from leaves = record {
  none = λ q. leaves.none (from text q);
  within = leaves.within;
  before = λ j less. begins_same P Q (front (j + 1) text) to (leaves.before j less);
  here = λ less begins. leaves.here less (begins_same Q P (front (k + 1) text) from begins);
}

pub report_leaves : (text : List ℕ) (k : ℕ) → LeavesAt IsFormText text k → LeavesAt IsReportText text k
report_leaves text k = leaves_same IsFormText IsReportText text k form_is_report report_is_form
