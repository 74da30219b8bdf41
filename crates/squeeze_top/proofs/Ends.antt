-- What `squeeze` has written, at whatever status, holds; and how its report ends.
use Rattle.std.proofs.Common.{◌≡◌, ℕ, ◌<◌, ◌^◌, inr, List, [], ◌∷◌, ◌++◌, length, take, Option, Some, None, refl, sym, ◌∙◌, ap, subst, arith}
use Rattle.std.specs.Prelude.{IsSome, option_map}
use Rattle.std.proofs.lemmas.List.{append-nil, append_assoc}
use Rattle.wc_outside.specs.Contents.{Files}
use Rattle.wc_outside.specs.Growth.{Grew, GrewByPrefix}
use Rattle.text_lines.specs.Cutting.{HasNoFeed, EndsInFeed}
use Rattle.c_tree.specs.declared.program.Program.{Program}
use Rattle.c_tree.specs.declared.program.Costs.{Costs}
use Rattle.c_tree.specs.declared.program.Input.{Input as Values}
use Rattle.c_tree.specs.Meaning.Claims.{Tight, NoRun}
use Rattle.c_input.specs.InputTexts.{HasText}
use Rattle.race_item.specs.declared.region.Limits.{Limits}
use Rattle.board_core.specs.Boards.{BoardOf}
use Rattle.report_text.specs.declared.report.Last.{Last}
use Rattle.report_text.specs.declared.report.Last.TheVariants as last
use Rattle.report_text.specs.declared.report.Report.{Report}
use Rattle.report_text.specs.declared.report.Spent.{Spent}
use Rattle.report_text.specs.declared.report.Spent.TheVariants.{Turns, Conflicts, Weight}
use Rattle.report_text.specs.declared.report.ReportLine.TheVariants.{Copies, Ipet, Exact, Input, Nothing}
use Rattle.report_text.specs.Conditions.{IsCost}
use Rattle.report_text.specs.Texts.{line_text, lines_text, shown_lines, last_lines, report_text}
use Rattle.report_text.proofs.Injective.{line_ends}
use Rattle.race_report.specs.Telling as race
use Rattle.race_report.specs.Claims.{IsReached, EndHolds}
use Rattle.race_report.proofs.Reports.{end_holds}
use Rattle.word_line.specs.declared.job.Mode.{Mode}
use Rattle.word_line.specs.declared.job.Mode.TheVariants.{Squeeze}
use Rattle.word_line.specs.declared.job.Job.{Job}
use Rattle.front_end.specs.declared.status.Status.{Status}
use Rattle.front_end.specs.declared.status.Status.TheVariants as status
use Rattle.squeeze_top.specs.Answers.{Tells, TellsRace, limits_of, status_of_end}
use Rattle.squeeze_top.specs.Jobs.{Give, IsAnswer}
use Rattle.squeeze_top.specs.Jobs.IsAnswer.{Told, Made}
use Rattle.squeeze_top.specs.Lines.{WroteLine, WroteWhatHolds, exact_lines, nothing_line}
use Rattle.squeeze_top.specs.Written.{MayBeWritten, Wrote}
use Rattle.squeeze_top.specs.Written.MayBeWritten.{Empty, Answer, Line}
use Rattle.squeeze_top.proofs.Agreeing.{given_file}
use Rattle.squeeze_top.proofs.Standing.{stands}
use Rattle.squeeze_top.proofs.Races.{claimed, line_claims, exact_claims, IsOfWhatHolds, all_claims, same_texts, of_race}
use Rattle.squeeze_top.proofs.Written.{grew_nothing}

-- ---- whole lines

-- the lines of an exact bound and its input, written whole: the run of the input costs the bound, which no run exceeds
pub exact_holds : (s : Status) (job : Job) (told : Option Files) (old new : Option (List ℕ)) (n : ℕ) (input : List ℕ) (p : Program) (t : Costs) → job.mode ≡ Squeeze
    → IsSome told → n < 2 ^ 128 → HasNoFeed input → Wrote s job told old new → WroteLine old new (exact_lines n input) → Give job told p t
    → (i : Values) × HasText p input i × Tight p t i n
exact_holds s job told old new n input p t squeeze some small one w wrote give =
    let there = stands s job told old new (exact_lines n input) w wrote in
    claimed (λ p t. EndHolds p t (last.Exact n input)) job told p t there.text some squeeze give there.may (exact_claims there.text input n small one there.has)

-- that there is none, written whole: no run ends
pub none_holds : (s : Status) (job : Job) (told : Option Files) (old new : Option (List ℕ)) (p : Program) (t : Costs) → job.mode ≡ Squeeze
    → IsSome told → Wrote s job told old new → WroteLine old new nothing_line → Give job told p t → NoRun p
none_holds s job told old new p t squeeze some w wrote give =
    let there = stands s job told old new nothing_line w wrote in
    claimed _ job told p t there.text some squeeze give there.may (line_claims there.text Nothing tt there.has)

-- ---- all that was written

take_all : (text : List ℕ) → take (length text) text ≡ text
take_all [] = refl
take_all (x ∷ text) = ap (λ l. x ∷ l) (take_all text)

whole_part : (old new : Option (List ℕ)) (text : List ℕ) → Grew old new text → GrewByPrefix old new text
whole_part old new text grew = record {
  count = length text;
  within = omega arith;
  grew = subst (λ l. Grew old new l) (sym (take_all text)) grew;
}

part_holds : (job : Job) (told : Option Files) (old new : Option (List ℕ)) (p : Program) (t : Costs) (text : List ℕ) → job.mode ≡ Squeeze
    → IsSome told → Give job told p t → MayBeWritten job told text → GrewByPrefix old new text → WroteWhatHolds p t old new
part_holds job told old new p t text squeeze some give may written =
    let all : IsOfWhatHolds text p t = claimed (λ p t. IsOfWhatHolds text p t) job told p t text some squeeze give may (all_claims text) in
    record { lines = all.lines; hold = all.hold; written = subst (λ l. GrewByPrefix old new l) all.is written }

pub all_holds : (s : Status) (job : Job) (told : Option Files) (old new : Option (List ℕ)) (p : Program) (t : Costs) → job.mode ≡ Squeeze
    → IsSome told → Wrote s job told old new → Give job told p t → WroteWhatHolds p t old new
all_holds status.Whole job told old new p t squeeze some w give =
    part_holds job told old new p t w.text squeeze some give (Answer status.Whole w.answer) (whole_part old new w.text w.written)
all_holds status.Inexact job told old new p t squeeze some w give =
    part_holds job told old new p t w.text squeeze some give (Answer status.Inexact w.answer) (whole_part old new w.text w.written)
all_holds status.Words job told old new p t squeeze some w give =
    part_holds job told old new p t _ squeeze some give (Line w.refusal w.refused refl) (whole_part old new _ w.written)
all_holds status.Program job told old new p t squeeze some w give =
    part_holds job told old new p t _ squeeze some give (Line w.refusal w.refused refl) (whole_part old new _ w.written)
all_holds status.Costs job told old new p t squeeze some w give =
    part_holds job told old new p t _ squeeze some give (Line w.refusal w.refused refl) (whole_part old new _ w.written)
all_holds status.ReadFault job told old new p t squeeze some w give =
    part_holds job told old new p t [] squeeze some give (Empty refl) (whole_part old new [] (grew_nothing old new w))
all_holds status.WriteFault job told old new p t squeeze some w give = part_holds job told old new p t w.text squeeze some give w.may w.written
all_holds status.NoMemory job told old new p t squeeze some w give = part_holds job told old new p t w.text squeeze some give w.may w.written

-- ---- ends

-- the last lines stand behind whole lines
wrote_last : (old new : Option (List ℕ)) (r : Report) (before : List ℕ) → IsCost r.ipet → r.shown ≡ [] → old ≡ Some before → Grew old new (report_text r)
    → WroteLine old new (lines_text (last_lines r.last))
wrote_last old new r before small none told grew =
    let feed : EndsInFeed (line_text (Ipet r.ipet)) = line_ends (Ipet r.ipet) small in
    let first = line_text (Copies r.copies) in
    let second = line_text (Ipet r.ipet) in
    let ends = lines_text (last_lines r.last) in
    let is : report_text r ≡ first ++ (second ++ ends) = ap (λ values. lines_text (Copies r.copies ∷ Ipet r.ipet ∷ (shown_lines None values ++ last_lines r.last))) none in
    record {
      before = before;
      text = first ++ (second ++ ends);
      told = told;
      written = grew ∙ ap (option_map (λ b. b ++ report_text r)) told ∙ ap (λ l. Some (before ++ l)) is;
      has = record {
        front = first ++ second;
        back = [];
        is = sym (append_assoc first second ends) ∙ ap (λ l. (first ++ second) ++ l) (sym (append-nil ends));
        lines = inr (first ++ feed.visible, ap (λ l. first ++ l) feed.is ∙ sym (append_assoc first feed.visible (10 ∷ [])));
      };
    }

-- how a report ends whole: with an exact bound, of which it has written the lines; or with none, where no run ends
pub data EndsSo (p : Program) (t : Costs) (old new : Option (List ℕ)) : Type 0 where
  Exactly : (n : ℕ) (input : List ℕ) → WroteLine old new (exact_lines n input) → EndHolds p t (last.Exact n input) → EndsSo p t old new
  Nowhere : WroteLine old new nothing_line → NoRun p → EndsSo p t old new

not_whole : (spent : Spent) → status.Whole ≡ status_of_end (Some (race.end_by spent)) → ⊥
not_whole Turns h = absurd (cc)
not_whole Conflicts h = absurd (cc)
not_whole Weight h = absurd (cc)

by_last : (p : Program) (t : Costs) (b : BoardOf) (old new : Option (List ℕ)) (end : Last) → status.Whole ≡ status_of_end (race.race_end b)
    → race.TellsEnd b end → EndHolds p t end → WroteLine old new (lines_text (last_lines end)) → EndsSo p t old new
by_last p t b old new (last.Exact n input) whole tells holds w =
    Exactly n input (subst (λ l. WroteLine old new (line_text (Exact n) ++ l)) (append-nil (line_text (Input input))) w) holds
by_last p t b old new last.Nothing whole tells holds w = Nowhere w holds
by_last p t b old new (last.Inexact n best spent limit) whole tells holds w = absurd (not_whole spent (whole ∙ ap status_of_end tells.ended))

raced_so : (limits : Limits) (p : Program) (t : Costs) (old new : Option (List ℕ)) (text before : List ℕ) → TellsRace limits p t status.Whole text → old ≡ Some before
    → Grew old new text → EndsSo p t old new
raced_so limits p t old new text before h told grew =
    let r = h.report in
    by_last p t h.board old new r.last h.ends h.tells.last
    (of_race (λ p t. EndHolds p t r.last) p t limits h.board h.raced (end_holds h.board r.last h.raced.race h.tells.last))
    (wrote_last old new r before h.tells.report.ipet h.tells.shown told (subst (λ l. Grew old new l) h.lines grew))

-- a report that ends whole ends so
pub ends_so : (job : Job) (told : Option Files) (old new : Option (List ℕ)) (p : Program) (t : Costs) (before : List ℕ) → job.mode ≡ Squeeze → IsSome told → old ≡ Some before
    → Wrote status.Whole job told old new → Give job told p t → EndsSo p t old new
ends_so job told old new p t before squeeze some before_is w give = by_answer w.answer
  where
    by_answer : IsAnswer job told status.Whole w.text → EndsSo p t old new
    by_answer (Told h) =
        let tells : TellsRace (limits_of job) h.program h.costs status.Whole w.text = subst (λ (m : Mode). Tells m job h.program h.costs status.Whole w.text) squeeze h.tells in
        same_texts (λ p t. EndsSo p t old new) job told p h.program t h.costs some h.given give
        (raced_so (limits_of job) h.program h.costs old new w.text before tells before_is w.written)
    by_answer (Made none h) = absurd (given_file job told p t none give)

-- where some run ends, it has written an exact bound and its input
pub found : (p : Program) (t : Costs) (old new : Option (List ℕ)) (n : ℕ) → EndsSo p t old new → IsReached p t n → (bound : ℕ) × (input : List ℕ) × WroteLine old new (exact_lines bound input)
found p t old new n (Exactly bound input w holds) reached = (bound, input, w)
found p t old new n (Nowhere w none) reached = absurd (none.none reached.input reached.ends.0 reached.fitting reached.ends.1)

-- where none does, it has written that
pub found_none : (p : Program) (t : Costs) (old new : Option (List ℕ)) → EndsSo p t old new → NoRun p → WroteLine old new nothing_line
found_none p t old new (Exactly bound input w holds) none = let tight = holds.2 in absurd (none.none holds.0 tight.reached.0 tight.input_fits tight.reached.1)
found_none p t old new (Nowhere w holds) none = w

-- what a sink tells
pub some_is : (old : Option (List ℕ)) → IsSome old → (before : List ℕ) × (old ≡ Some before)
some_is None h = absurd (cc)
some_is (Some before) h = (before, refl)
