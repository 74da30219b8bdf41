-- What was written of a race of the job's texts is what may be written for the job.
use Rattle.std.proofs.Common.{◌≡◌, ◌≢◌, inl, inr, ℕ, false, List, Option, Some, None, refl, sym, ap, subst}
use Rattle.std.specs.Prelude.{option_map, IsSomeAnd}
use Rattle.wc_outside.specs.Contents.{Files}
use Rattle.c_tree.specs.declared.program.Program.{Program as Tree}
use Rattle.c_tree.specs.declared.program.Costs.{Costs as Table}
use Rattle.board_core.specs.declared.event.End.{End}
use Rattle.board_core.specs.declared.event.End.TheVariants.{Done, Spent, Stalled}
use Rattle.board_core.specs.Boards.{BoardOf}
use Rattle.report_text.specs.declared.report.Report.{Report}
use Rattle.report_text.specs.Texts.{report_text}
use Rattle.race_report.specs.Telling as race
use Rattle.word_line.specs.declared.job.Mode.{Mode}
use Rattle.word_line.specs.declared.job.Mode.TheVariants.{Squeeze}
use Rattle.word_line.specs.declared.job.Job.{Job}
use Rattle.front_end.specs.declared.status.Status.{Status}
use Rattle.front_end.specs.declared.status.Status.TheVariants as status
use Rattle.front_end.specs.Files.{Source}
use Rattle.squeeze_race.specs.Races as of_board
use Rattle.squeeze_race.specs.Races.MayBeWritten.{Told as IsReport, SoFar as AreLines}
use Rattle.squeeze_race.specs.Texts.{RacedOf, WroteRace}
use Rattle.squeeze_top.specs.Answers.{Tells, TellsRace, limits_of, status_of_end}
use Rattle.squeeze_top.specs.Jobs.{source, OfTexts, Give, IsAnswer}
use Rattle.squeeze_top.specs.Jobs.IsAnswer.{Told}
use Rattle.squeeze_top.specs.Written.{MayBeWritten, WroteAnswer, WrotePart, Wrote}
use Rattle.squeeze_top.specs.Written.MayBeWritten.{Answer, SoFar, Line}
use Rattle.squeeze_top.proofs.Written.{wrote_nothing}

of_file : (job : Job) (file : List ℕ) (P : Source → Type 0) → job.file ≡ Some file → P (source job file) → OfTexts job P
of_file job file P is h = subst (λ f. IsSomeAnd (option_map (source job) f) P) (sym is) h

inexact_end : (e : Option End) → e ≢ Some Done → status.Inexact ≡ status_of_end e
inexact_end None h = refl
inexact_end (Some Done) h = absurd (h refl)
inexact_end (Some Spent) h = refl
inexact_end (Some (Stalled cause)) h = refl

-- ---- answers

-- a report that tells a race is an answer
report_answer : (job : Job) (told : Option Files) (p : Tree) (t : Table) (s : Status) (b : BoardOf) (r : Report) → job.mode ≡ Squeeze → Give job told p t
    → race.IsRaceOf p t (limits_of job) b → race.Tells false b r → s ≡ status_of_end (race.race_end b) → IsAnswer job told s (report_text r)
report_answer job told p t s b r squeeze give raced tells ends =
    let row : TellsRace (limits_of job) p t s (report_text r) = record { board = b; raced = raced; report = r; tells = tells; ends = ends; lines = refl } in
    Told (record { program = p; costs = t; given = give; tells = subst (λ (m : Mode). Tells m job p t s (report_text r)) (sym squeeze) row })

wrote_report : (job : Job) (told : Option Files) (p : Tree) (t : Table) (s : Status) (b : BoardOf) (old new : Option (List ℕ)) → job.mode ≡ Squeeze → Give job told p t
    → race.IsRaceOf p t (limits_of job) b → of_board.WroteReport false b old new → s ≡ status_of_end (race.race_end b) → WroteAnswer s job told old new
wrote_report job told p t s b old new squeeze give raced w ends = record {
  text = report_text w.report;
  answer = report_answer job told p t s b w.report squeeze give raced w.tells ends;
  written = w.written;
}

-- ---- parts

part_text : (job : Job) (told : Option Files) (p : Tree) (t : Table) (b : BoardOf) (text : List ℕ) → job.mode ≡ Squeeze → Give job told p t
    → race.IsRaceOf p t (limits_of job) b → of_board.MayBeWritten false b text → MayBeWritten job told text
part_text job told p t b text squeeze give raced (IsReport r tells e) =
    subst (λ x. MayBeWritten job told x) (sym e) (Answer _ (report_answer job told p t (status_of_end (race.race_end b)) b r squeeze give raced tells refl))
part_text job told p t b text squeeze give raced (AreLines lines tells e) =
    SoFar (record { squeezes = squeeze; program = p; costs = t; given = give; board = b; raced = raced; lines = lines; tells = tells; is = e })

wrote_part : (job : Job) (told : Option Files) (p : Tree) (t : Table) (b : BoardOf) (old new : Option (List ℕ)) → job.mode ≡ Squeeze → Give job told p t
    → race.IsRaceOf p t (limits_of job) b → of_board.WrotePart false b old new → WrotePart job told old new
wrote_part job told p t b old new squeeze give raced w = record {
  text = w.text;
  may = part_text job told p t b w.text squeeze give raced w.may;
  written = w.written;
}

-- ---- by the status

pub wrote_race : (st : Status) (job : Job) (told : Option Files) (file : List ℕ) (old new : Option (List ℕ)) → job.mode ≡ Squeeze → job.file ≡ Some file
    → WroteRace st (source job file) told (limits_of job) old new → Wrote st job told old new
wrote_race status.Whole job told file old new squeeze is w =
    wrote_report job told w.program w.costs status.Whole w.says.board old new squeeze (of_file job file _ is w.accepted) w.says.race w.says.says.0
    (sym (ap status_of_end w.says.says.1))
wrote_race status.Inexact job told file old new squeeze is w =
    wrote_report job told w.program w.costs status.Inexact w.says.board old new squeeze (of_file job file _ is w.accepted) w.says.race w.says.says.0
    (inexact_end (race.race_end w.says.board) w.says.says.1)
wrote_race status.Words job told file old new squeeze is w =
    record { refusal = w.refusal; refused = of_file job file _ is w.refused; same = w.same; written = w.written }
wrote_race status.Program job told file old new squeeze is w =
    record { refusal = w.refusal; refused = of_file job file _ is w.refused; same = w.same; written = w.written }
wrote_race status.Costs job told file old new squeeze is w =
    record { refusal = w.refusal; refused = of_file job file _ is w.refused; same = w.same; written = w.written }
wrote_race status.ReadFault job told file old new squeeze is w = w
wrote_race status.WriteFault job told file old new squeeze is (inl w) =
    record { text = _; may = Line w.refusal (of_file job file _ is w.refused) refl; written = w.written }
wrote_race status.WriteFault job told file old new squeeze is (inr w) =
    wrote_part job told w.program w.costs w.says.board old new squeeze (of_file job file _ is w.accepted) w.says.race w.says.says
wrote_race status.NoMemory job told file old new squeeze is (inl same) = wrote_nothing job told old new same
wrote_race status.NoMemory job told file old new squeeze is (inr w) = by_race w.says
  where
    by_race : RacedOf status.NoMemory w.program w.costs (limits_of job) old new → WrotePart job told old new
    by_race (inl same) = wrote_nothing job told old new same
    by_race (inr r) = wrote_part job told w.program w.costs r.board old new squeeze (of_file job file _ is w.accepted) r.race r.says
