-- What a job asks of the texts in its files.
use Rattle.std.specs.Prelude.{◌≡◌, ℕ, List, Option, Some, None, option_map, IsSomeAnd, IfSome}
use Rattle.wc_outside.specs.Contents.{Files}
use Rattle.c_tree.specs.declared.program.Program.{Program}
use Rattle.c_tree.specs.declared.program.Costs.{Costs}
use Rattle.word_line.specs.declared.job.Mode.{Mode}
use Rattle.word_line.specs.declared.job.Mode.TheVariants.{Run}
use Rattle.word_line.specs.declared.job.Job.{Job}
use Rattle.front_end.specs.declared.refusal.Refusal.{Refusal}
use Rattle.front_end.specs.declared.status.Status.{Status}
use Rattle.front_end.specs.declared.stop.Halt.{Halt}
use Rattle.front_end.specs.declared.stop.Halt.TheVariants.{Refused, ReadFault, NoMemory}
use Rattle.front_end.specs.Files.{Source, AreAccepted, IsServed, Refuses}
use Rattle.squeeze_top.specs.Answers.{Tells, TellsMade}

-- a run alone asks for an input
abbrev pub job_input : Mode → List ℕ → Option (List ℕ)
job_input Run text = Some text
job_input _ text = None

-- where the texts of a job come from, this being its file
abbrev pub source : Job → List ℕ → Source
source job file =
    record { file = file; entry = job.entry; input = job_input job.mode job.input; table = job.costs }

-- of the texts of a job
abbrev pub OfTexts : Job → (Source → Type 0) → Type 0
OfTexts job P = IsSomeAnd (option_map (source job) job.file) P

-- the job's texts are accepted, and give this program and these costs
abbrev pub Give : Job → Option Files → Program → Costs → Type 0
Give job told p t = OfTexts job (λ s. AreAccepted s told p t)

-- they are accepted, and the input that is asked for is there; a job without a file asks for no texts
abbrev pub Served : Job → Option Files → Type 0
Served job told = IfSome (option_map (source job) job.file) (λ s. IsServed s told)

-- they are refused so
abbrev pub AreRefused : Job → Option Files → Refusal → Type 0
AreRefused job told refusal = OfTexts job (λ s. Refuses refusal s told)

-- an answer of the job's texts
pub record IsTold (job : Job) (told : Option Files) (status : Status) (text : List ℕ) : Type 0 where
  pub program : Program
  pub costs : Costs
  pub given : Give job told program costs
  pub tells : Tells job.mode job program costs status text

-- the answer to the job: this status, and this text. It is one of texts, or of a made case, which asks for no file
pub data IsAnswer (job : Job) (told : Option Files) (status : Status) (text : List ℕ) : Type 0 where
  Told : IsTold job told status text → IsAnswer job told status text
  Made : job.file ≡ None → TellsMade job.mode job status text → IsAnswer job told status text

-- what is true where there is no answer
abbrev pub IsHalt : Halt → Job → Option Files → Type 0
IsHalt (Refused refusal) job told = AreRefused job told refusal
IsHalt ReadFault job told = Unit {0}
IsHalt NoMemory job told = Unit {0}
