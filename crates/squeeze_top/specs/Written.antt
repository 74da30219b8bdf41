-- What each status says of what was written.
use Rattle.std.specs.Prelude.{◌≡◌, ℕ, false, List, [], Option, codes}
use Rattle.wc_outside.specs.Contents.{Files}
use Rattle.wc_outside.specs.Growth.{Grew, GrewByPrefix}
use Rattle.c_tree.specs.declared.program.Program.{Program as Tree}
use Rattle.c_tree.specs.declared.program.Costs.{Costs as Table}
use Rattle.board_core.specs.Boards.{BoardOf}
use Rattle.report_text.specs.declared.report.ReportLine.{ReportLine}
use Rattle.report_text.specs.Texts.{lines_text}
use Rattle.race_report.specs.Telling as race
use Rattle.word_line.specs.declared.job.Mode.TheVariants.{Squeeze}
use Rattle.word_line.specs.declared.job.Job.{Job}
use Rattle.front_end.specs.declared.refusal.Refusal.{Refusal}
use Rattle.front_end.specs.declared.status.Status.{Status}
use Rattle.front_end.specs.declared.status.Status.TheVariants.{
  Whole,
  Inexact,
  Words,
  Program,
  Costs,
  ReadFault,
  WriteFault,
  NoMemory,
}
use Rattle.front_end.specs.Lines.{refusal_line}
use Rattle.front_end.specs.Statuses.{status_of}
use Rattle.squeeze_top.specs.Answers.{limits_of}
use Rattle.squeeze_top.specs.Jobs.{Give, IsAnswer, AreRefused}

-- the answer with this status was written
pub record WroteAnswer (status : Status) (job : Job) (told : Option Files) (old new : Option (List ℕ)) : Type 0 where
  pub text : List ℕ
  pub answer : IsAnswer job told status text
  pub written : Grew old new text

-- the line of a refusal with this status was written
pub record WroteRefusal (status : Status) (job : Job) (told : Option Files) (old new : Option (List ℕ)) : Type 0 where
  pub refusal : Refusal
  pub refused : AreRefused job told refusal
  pub same : status_of refusal ≡ status
  pub written : Grew old new (refusal_line refusal)

-- the text is that of lines of a report on some race of the job's program, of which the end is not told
pub record IsReportSoFar (job : Job) (told : Option Files) (text : List ℕ) : Type 0 where
  pub squeezes : job.mode ≡ Squeeze
  pub program : Tree
  pub costs : Table
  pub given : Give job told program costs
  pub board : BoardOf
  pub raced : race.IsRaceOf program costs (limits_of job) board
  pub lines : List ReportLine
  pub tells : race.TellsSoFar false board lines
  pub is : text ≡ lines_text lines

-- a text that may be written: none, an answer, a report that has no end yet, or the line of a refusal
pub data MayBeWritten (job : Job) (told : Option Files) (text : List ℕ) : Type 0 where
  Empty : text ≡ [] → MayBeWritten job told text
  Answer : (status : Status) → IsAnswer job told status text → MayBeWritten job told text
  SoFar : IsReportSoFar job told text → MayBeWritten job told text
  Line : (refusal : Refusal) → AreRefused job told refusal → text ≡ refusal_line refusal → MayBeWritten job told text

-- a part of a text that may be written was written
pub record WrotePart (job : Job) (told : Option Files) (old new : Option (List ℕ)) : Type 0 where
  pub text : List ℕ
  pub may : MayBeWritten job told text
  pub written : GrewByPrefix old new text

-- by the status of a call on a job
abbrev pub Wrote : Status → Job → Option Files → Option (List ℕ) → Option (List ℕ) → Type 0
Wrote Whole job told old new = WroteAnswer Whole job told old new
Wrote Inexact job told old new = WroteAnswer Inexact job told old new
Wrote Words job told old new = WroteRefusal Words job told old new
Wrote Program job told old new = WroteRefusal Program job told old new
Wrote Costs job told old new = WroteRefusal Costs job told old new
Wrote ReadFault job told old new = new ≡ old
Wrote WriteFault job told old new = WrotePart job told old new
Wrote NoMemory job told old new = WrotePart job told old new

abbrev pub words_line : List ℕ
words_line = codes "words refused\n"

-- the same where the words ask for no job
abbrev pub WroteNoJob : Status → Option (List ℕ) → Option (List ℕ) → Type 0
WroteNoJob Words old new = Grew old new words_line
WroteNoJob WriteFault old new = GrewByPrefix old new words_line
WroteNoJob NoMemory old new = new ≡ old
WroteNoJob _ old new = ⊥
