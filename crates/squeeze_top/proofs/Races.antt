-- What a text that `squeeze` may write claims of the program and the costs that the texts give.
use Rattle.std.proofs.Common.{◌≡◌, ℕ, ◌<◌, ◌^◌, zero, suc, false, List, [], ◌++◌, Option, Some, None, refl, sym, ◌∙◌, ap, subst, arith}
use Rattle.std.specs.Prelude.{IsSome}
use Rattle.std.specs.List.{IsAmong}
use Rattle.std.proofs.lemmas.List.{append-nil, append_assoc}
use Rattle.wc_outside.specs.Contents.{Files}
use Rattle.text_lines.specs.Cutting.{HasNoFeed}
use Rattle.text_lines.specs.Whole.{HasLine}
use Rattle.c_tree.specs.declared.program.Program.{Program}
use Rattle.c_tree.specs.declared.program.Costs.{Costs}
use Rattle.c_tree.specs.Meaning.Claims.{Above}
use Rattle.flow_graph.specs.Plans.{Planned}
use Rattle.race_item.specs.declared.region.Limits.{Limits}
use Rattle.board_core.specs.Boards.{BoardOf}
use Rattle.report_text.specs.declared.report.Report.{Report}
use Rattle.report_text.specs.declared.report.Last.TheVariants as last
use Rattle.report_text.specs.declared.report.ReportLine.{ReportLine}
use Rattle.report_text.specs.declared.report.ReportLine.TheVariants.{Copies, Ipet, Bound, Found, Exact, Input, Nothing, Inexact, Best, Spent}
use Rattle.report_text.specs.Texts.{line_text, lines_text, front_lines, shown_lines, report_lines, report_text}
use Rattle.report_text.specs.Conditions.{IsCost}
use Rattle.report_text.specs.WholeLines.{IsLine}
use Rattle.report_text.proofs.Whole.{whole_lines}
use Rattle.race_report.specs.Telling as race
use Rattle.race_report.specs.Claims.{LineHolds, LinesHold, EndHolds, bound_of_line}
use Rattle.race_report.proofs.Reports.{report_holds, lines_so_far_hold}
use Rattle.race_report.proofs.WholeLines.{line_of_report_holds, line_so_far_holds, exact_lines_hold}
use Rattle.word_line.specs.declared.job.Mode.{Mode}
use Rattle.word_line.specs.declared.job.Mode.TheVariants.{Squeeze}
use Rattle.word_line.specs.declared.job.Job.{Job}
use Rattle.squeeze_top.specs.Answers.{Tells, TellsRace, limits_of}
use Rattle.front_end.specs.Refusing.{HasInput}
use Rattle.squeeze_top.specs.Jobs.{Give, job_input}
use Rattle.squeeze_top.specs.Jobs.IsAnswer.{Told, Made}
use Rattle.squeeze_top.specs.Lines.{exact_lines}
use Rattle.squeeze_top.specs.Written.{IsReportSoFar, MayBeWritten}
use Rattle.squeeze_top.specs.Written.MayBeWritten.{Empty, Answer, SoFar, Line}
use Rattle.squeeze_top.proofs.Agreeing.{given_file, one_given, served, served_stands}

-- ---- claims of a text

-- what a text claims of the program and the costs of a race, where it is that of a report on it, or that of lines of one
-- that has no end yet; and of all, where it is empty
pub record Claims (text : List ℕ) (P : Program → Costs → Type 0) : Type 0 where
  pub nothing : text ≡ [] → (p : Program) (t : Costs) → P p t
  pub of_report : (b : BoardOf) (r : Report) → race.IsRace b → race.Tells false b r → report_text r ≡ text
      → P b.setup.rows.plan.program b.setup.rows.plan.costs
  pub of_lines : (b : BoardOf) (lines : List ReportLine) → race.IsRace b → race.TellsSoFar false b lines → lines_text lines ≡ text
      → P b.setup.rows.plan.program b.setup.rows.plan.costs

-- where the board is of the program and the costs
pub of_race : (P : Program → Costs → Type 0) (p : Program) (t : Costs) (limits : Limits) (b : BoardOf) → race.IsRaceOf p t limits b
    → P b.setup.rows.plan.program b.setup.rows.plan.costs → P p t
of_race P p t limits b raced holds = subst (λ (plan : Planned). P plan.program plan.costs) raced.plan_is holds

pub same_texts : (P : Program → Costs → Type 0) (job : Job) (told : Option Files) (p q : Program) (t u : Costs) → IsSome told → Give job told q u → Give job told p t → P q u → P p t
same_texts P job told p q t u some given give holds =
    let same = one_given job told q p u t some given give in
    subst (λ v. P p v) same.1 (subst (λ r. P r u) same.0 holds)

told_claims : (P : Program → Costs → Type 0) (job : Job) (told : Option Files) (p : Program) (t : Costs) (text : List ℕ) (limits : Limits) (h : IsReportSoFar job told text)
    → IsSome told → Give job told p t → Claims text P → P p t
told_claims P job told p t text limits h some give claims =
    same_texts P job told p h.program t h.costs some h.given give
    (of_race P h.program h.costs (limits_of job) h.board h.raced (claims.of_lines h.board h.lines h.raced.race h.tells (sym h.is)))

-- a claim of a text that may be written holds of the program and the costs
pub claimed : (P : Program → Costs → Type 0) (job : Job) (told : Option Files) (p : Program) (t : Costs) (text : List ℕ) → IsSome told → job.mode ≡ Squeeze
    → Give job told p t → MayBeWritten job told text → Claims text P → P p t
claimed P job told p t text some squeeze give (Empty e) claims = claims.nothing e p t
claimed P job told p t text some squeeze give (Answer s (Told h)) claims =
    let tells : TellsRace (limits_of job) h.program h.costs s text = subst (λ (m : Mode). Tells m job h.program h.costs s text) squeeze h.tells in
    same_texts P job told p h.program t h.costs some h.given give
    (of_race P h.program h.costs (limits_of job) tells.board tells.raced
    (claims.of_report tells.board tells.report tells.raced.race tells.tells (sym tells.lines)))
claimed P job told p t text some squeeze give (Answer s (Made none h)) claims = absurd (given_file job told p t none give)
claimed P job told p t text some squeeze give (SoFar h) claims = told_claims P job told p t text (limits_of job) h some give claims
claimed P job told p t text some squeeze give (Line refusal refused e) claims =
    absurd (served_stands job told refusal some (served job job.file told p t give (subst (λ (m : Mode). HasInput (job_input m job.input) p) (sym squeeze) tt)) refused)

-- ---- lines

-- nothing has no line
nothing_has_none : (line : ReportLine) (text : List ℕ) → IsLine line → HasLine text (line_text line) → text ≡ [] → ⊥
nothing_has_none line text is has none =
    let there = whole_lines [] [] [] line (λ k d h. absurd (omega (arith, h))) is refl (subst (λ x. HasLine x (line_text line)) none has) in
    absurd (omega (arith, there.1.0))

pub line_claims : (text : List ℕ) (line : ReportLine) → IsLine line → HasLine text (line_text line) → Claims text (λ p t. LineHolds p t line)
line_claims text line is has = record {
  nothing = λ none p t. absurd (nothing_has_none line text is has none);
  of_report = λ b r raced tells e. line_of_report_holds false b r text [] line raced tells is (e ∙ sym (append-nil text)) has;
  of_lines = λ b lines raced tells e. line_so_far_holds false b lines text [] line raced tells is (e ∙ sym (append-nil text)) has;
}

-- ---- an exact bound and its input

first_of_two : (text l m : List ℕ) → HasLine text (l ++ m) → HasLine text l
first_of_two text l m has = record {
  front = has.front;
  back = m ++ has.back;
  is = has.is ∙ ap (λ x. has.front ++ x) (append_assoc l m has.back);
  lines = has.lines;
}

-- of a report that has no end yet no line is exact
none_exact : (copies ipet n : ℕ) → IsAmong (front_lines copies ipet) (Exact n) → ⊥
none_exact copies ipet n (zero, h) = let is : Exact n ≡ Copies copies = h.1 in absurd (cc)
none_exact copies ipet n (suc zero, h) = let is : Exact n ≡ Ipet ipet = h.1 in absurd (cc)
none_exact copies ipet n (suc (suc i), h) = absurd (omega (arith, h.0))

not_so_far : (b : BoardOf) (lines : List ReportLine) (text : List ℕ) (n : ℕ) → race.TellsSoFar false b lines → IsLine (Exact n)
    → lines_text lines ≡ text → HasLine text (line_text (Exact n)) → ⊥
not_so_far b lines text n tells is e has =
    none_exact tells.copies tells.ipet n
    (subst (λ ls. IsAmong ls (Exact n))
    (tells.lines_are ∙ ap (λ values. front_lines tells.copies tells.ipet ++ shown_lines None values) tells.shown)
    (whole_lines lines text [] (Exact n) tells.are_lines is (e ∙ sym (append-nil text)) has))

pub exact_claims : (text input : List ℕ) (n : ℕ) → n < 2 ^ 128 → HasNoFeed input → HasLine text (exact_lines n input) → Claims text (λ p t. EndHolds p t (last.Exact n input))
exact_claims text input n small one has =
    let first = first_of_two text (line_text (Exact n)) (line_text (Input input)) has in
    record {
      nothing = λ none p t. absurd (nothing_has_none (Exact n) text small first none);
      of_report = λ b r raced tells e. exact_lines_hold false b r text [] n input raced tells small one (e ∙ sym (append-nil text)) has;
      of_lines = λ b lines raced tells e. absurd (not_so_far b lines text n tells small e first);
    }

-- ---- all lines

-- the text is that of lines that hold
pub record IsOfWhatHolds (text : List ℕ) (p : Program) (t : Costs) : Type 0 where
  pub lines : List ReportLine
  pub hold : LinesHold p t lines
  pub is : text ≡ lines_text lines

pub all_claims : (text : List ℕ) → Claims text (λ p t. IsOfWhatHolds text p t)
all_claims text = record {
  nothing = λ none p t. record { lines = []; hold = record { each = tt; bounds_never_rise = tt; found_never_falls = tt }; is = none };
  of_report = λ b r raced tells e. record { lines = report_lines r; hold = (report_holds false b r raced tells).lines; is = sym e };
  of_lines = λ b lines raced tells e. record { lines = lines; hold = lines_so_far_hold false b lines raced tells; is = sym e };
}

-- ---- bounds

pub is_line : (l : ReportLine) (n : ℕ) → n < 2 ^ 128 → bound_of_line l ≡ Some (Some n) → IsLine l
is_line (Copies m) n small e = absurd (cc)
is_line (Ipet m) n small e = let same : m ≡ n = cc in subst IsCost (sym same) small
is_line (Bound None) n small e = absurd (cc)
is_line (Bound (Some m)) n small e = let same : m ≡ n = cc in subst IsCost (sym same) small
is_line (Found m) n small e = absurd (cc)
is_line (Exact m) n small e = let same : m ≡ n = cc in subst IsCost (sym same) small
is_line (Input text) n small e = absurd (cc)
is_line Nothing n small e = absurd (cc)
is_line (Inexact m) n small e = let same : m ≡ n = cc in subst IsCost (sym same) small
is_line (Best best) n small e = absurd (cc)
is_line (Spent spent m) n small e = absurd (cc)

-- a line that tells a bound claims that it is above every run
pub line_above : (l : ReportLine) (n : ℕ) (p : Program) (t : Costs) → bound_of_line l ≡ Some (Some n) → LineHolds p t l → Above p t n
line_above (Copies m) n p t e h = absurd (cc)
line_above (Ipet m) n p t e h = let same : m ≡ n = cc in subst (Above p t) same h
line_above (Bound None) n p t e h = absurd (cc)
line_above (Bound (Some m)) n p t e h = let same : m ≡ n = cc in subst (Above p t) same h
line_above (Found m) n p t e h = absurd (cc)
line_above (Exact m) n p t e h = let same : m ≡ n = cc in subst (Above p t) same h.0
line_above (Input text) n p t e h = absurd (cc)
line_above Nothing n p t e h = absurd (cc)
line_above (Inexact m) n p t e h = let same : m ≡ n = cc in subst (Above p t) same h
line_above (Best best) n p t e h = absurd (cc)
line_above (Spent spent m) n p t e h = absurd (cc)
