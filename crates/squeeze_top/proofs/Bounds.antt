-- Each whole line in which a bound was printed is above every run of the program and the costs that the texts give.
use Rattle.std.proofs.Common.{◌≡◌, ℕ, ◌<◌, ◌^◌, List, [], ◌∷◌, ◌++◌, Option, refl, sym, ◌∙◌, ap, subst, arith}
use Rattle.std.specs.Prelude.{IsSome, codes}
use Rattle.std.specs.Fmt.{decimal}
use Rattle.wc_outside.specs.Contents.{Files}
use Rattle.text_lines.specs.Whole.{HasLine}
use Rattle.c_tree.specs.declared.program.Program.{Program}
use Rattle.c_tree.specs.declared.program.Costs.{Costs}
use Rattle.c_tree.specs.Meaning.Claims.{Above}
use Rattle.word_line.specs.declared.job.Mode.{Mode}
use Rattle.word_line.specs.declared.job.Mode.TheVariants.{Squeeze, Bound, Ipet, Blocks, Run, Print, Make, Workout}
use Rattle.word_line.specs.declared.job.Job.{Job}
use Rattle.front_end.specs.declared.status.Status.{Status}
use Rattle.front_end.specs.Refusing.{HasInput}
use Rattle.squeeze_top.specs.Answers.{Tells}
use Rattle.squeeze_top.specs.Jobs.{job_input, Give}
use Rattle.squeeze_top.specs.Jobs.IsAnswer.{Told, Made}
use Rattle.squeeze_top.specs.Lines.{IsReportBound, IsBoundLine, WroteBound}
use Rattle.squeeze_top.specs.Written.{MayBeWritten, Wrote}
use Rattle.squeeze_top.specs.Written.MayBeWritten.{Empty, Answer, SoFar, Line}
use Rattle.squeeze_top.proofs.WholeLines.{bound_told, ipet_told}
use Rattle.squeeze_top.proofs.Agreeing.{given_file, one_given, served, served_stands}
use Rattle.squeeze_top.proofs.Standing.{stands}
use Rattle.squeeze_top.proofs.Races.{claimed, line_claims, is_line, line_above}

-- ---- of a report

report_above : (job : Job) (told : Option Files) (text line : List ℕ) (n : ℕ) (p : Program) (t : Costs) → IsSome told → n < 2 ^ 128 → job.mode ≡ Squeeze
    → MayBeWritten job told text → IsReportBound n line → HasLine text line → Give job told p t → Above p t n
report_above job told text line n p t some small squeeze may b has give =
    let is = is_line b.of_report n small b.bound in
    line_above b.of_report n p t b.bound
    (claimed _ job told p t text some squeeze give may (line_claims text b.of_report is (subst (λ l. HasLine text l) b.is has)))

-- ---- what an answer holds

told_bound : (p : Program) (t : Costs) (m n : ℕ) → m ≡ n → Above p t m → Above p t n
told_bound p t m n same above = subst (Above p t) same above

above : (m : Mode) (job : Job) (p : Program) (t : Costs) (s : Status) (text line : List ℕ) (n : ℕ) → n < 2 ^ 128 → (m ≡ Squeeze → ⊥)
    → Tells m job p t s text → IsBoundLine m n line → HasLine text line → Above p t n
above Squeeze job p t s text line n small other h b has = absurd (other refl)
above Bound job p t s text line n small other h b has =
    told_bound p t h.1.bound n (bound_told h.1.bound n has.front has.back h.1.fits small has.lines
    (sym h.1.line ∙ has.is ∙ ap (λ l. has.front ++ (l ++ has.back)) b)) h.1.above
above Ipet job p t s text line n small other h b has =
    told_bound p t h.1.bound n (ipet_told _ h.1.bound n has.front has.back (omega (arith, h.1.few)) h.1.fits small has.lines
    (sym h.1.lines ∙ has.is ∙ ap (λ l. has.front ++ (l ++ has.back)) b)) h.1.above
above Blocks job p t s text line n small other h b has = absurd b
above Run job p t s text line n small other h b has = absurd b
above Print job p t s text line n small other h b has = absurd b
above Make job p t s text line n small other h b has = absurd b
above Workout job p t s text line n small other h b has = absurd b

-- ---- texts that may be written

no_line : (front l back : List ℕ) (x : ℕ) → [] ≡ front ++ ((x ∷ l) ++ back) → ⊥
no_line [] l back x h = absurd (cc)
no_line (y ∷ front) l back x h = absurd (cc)

empty_has_none : (m : Mode) (n : ℕ) (line : List ℕ) → (m ≡ Squeeze → ⊥) → IsBoundLine m n line → HasLine [] line → ⊥
empty_has_none Bound n line other b has =
    no_line has.front (codes "ound " ++ decimal n ++ codes "\n") has.back 98 (has.is ∙ ap (λ l. has.front ++ (l ++ has.back)) b)
empty_has_none Ipet n line other b has =
    no_line has.front (codes "pet " ++ decimal n ++ codes "\n") has.back 105 (has.is ∙ ap (λ l. has.front ++ (l ++ has.back)) b)
empty_has_none Squeeze n line other b has = other refl
empty_has_none Blocks n line other b has = b
empty_has_none Run n line other b has = b
empty_has_none Print n line other b has = b
empty_has_none Make n line other b has = b
empty_has_none Workout n line other b has = b

-- a mode that prints bounds asks for no input
unasked : (m : Mode) (n : ℕ) (line input : List ℕ) (p : Program) → IsBoundLine m n line → HasInput (job_input m input) p
unasked Bound n line input p b = tt
unasked Ipet n line input p b = tt
unasked Squeeze n line input p b = tt
unasked Blocks n line input p b = tt
unasked Run n line input p b = absurd b
unasked Print n line input p b = tt
unasked Make n line input p b = tt
unasked Workout n line input p b = tt

may_above : (job : Job) (told : Option Files) (text line : List ℕ) (n : ℕ) (p : Program) (t : Costs) → IsSome told → n < 2 ^ 128 → (job.mode ≡ Squeeze → ⊥)
    → MayBeWritten job told text → IsBoundLine job.mode n line → HasLine text line → Give job told p t → Above p t n
may_above job told text line n p t some small other (Empty e) b has give =
    absurd (empty_has_none job.mode n line other b (subst (λ x. HasLine x line) e has))
may_above job told text line n p t some small other (Answer s (Told a)) b has give =
    let same = one_given job told a.program p a.costs t some a.given give in
    subst (λ u. Above p u n) same.1 (subst (λ q. Above q a.costs n) same.0 (above job.mode job a.program a.costs s text line n small other a.tells b has))
may_above job told text line n p t some small other (Answer s (Made none h)) b has give = absurd (given_file job told p t none give)
may_above job told text line n p t some small other (SoFar h) b has give = absurd (other h.squeezes)
may_above job told text line n p t some small other (Line refusal refused e) b has give =
    absurd (served_stands job told refusal some (served job job.file told p t give (unasked job.mode n line job.input p b)) refused)

-- ---- by the mode

by_mode : (m : Mode) (job : Job) (told : Option Files) (text line : List ℕ) (n : ℕ) (p : Program) (t : Costs) → m ≡ job.mode → IsSome told → n < 2 ^ 128
    → MayBeWritten job told text → IsBoundLine m n line → HasLine text line → Give job told p t → Above p t n
by_mode Squeeze job told text line n p t is some small may b has give = report_above job told text line n p t some small (sym is) may b has give
by_mode Bound job told text line n p t is some small may b has give =
    may_above job told text line n p t some small (λ e. absurd (cc)) may (subst (λ (m : Mode). IsBoundLine m n line) is b) has give
by_mode Ipet job told text line n p t is some small may b has give =
    may_above job told text line n p t some small (λ e. absurd (cc)) may (subst (λ (m : Mode). IsBoundLine m n line) is b) has give
by_mode Blocks job told text line n p t is some small may b has give = absurd b
by_mode Run job told text line n p t is some small may b has give = absurd b
by_mode Print job told text line n p t is some small may b has give = absurd b
by_mode Make job told text line n p t is some small may b has give = absurd b
by_mode Workout job told text line n p t is some small may b has give = absurd b

pub bound_holds : (s : Status) (job : Job) (told : Option Files) (old new : Option (List ℕ)) (n : ℕ) (p : Program) (t : Costs) → IsSome told → n < 2 ^ 128
    → Wrote s job told old new → WroteBound job.mode n old new → Give job told p t → Above p t n
bound_holds s job told old new n p t some small w b give =
    let there = stands s job told old new b.line w b.wrote in
    by_mode job.mode job told there.text b.line n p t refl some small there.may b.bound there.has give
