-- What the words of the command line ask for: what `clap` finds in them with our command, read as a job.
use Rattle.std.specs.Prelude.{
  ◌≡◌,
  ◌≤◌,
  ℕ,
  Bool,
  false,
  List,
  [],
  Option,
  Some,
  None,
  is_some,
  option_and_then,
  unwrap_or,
  if◌then◌else◌,
  bytes_eq,
  codes,
  decimal,
}
use Rattle.std.specs.Option.{option_map_or}
use Rattle.clap.specs.Walk.{Row, first_of}
use Rattle.clap.specs.Simple.{matches_of}
use Rattle.clap.specs.Faults.{fault_of}
use Rattle.word_line.specs.declared.job.Mode.{Mode}
use Rattle.word_line.specs.declared.job.Mode.TheVariants.{Squeeze, Bound, Ipet, Blocks, Run, Print, Make}
use Rattle.word_line.specs.declared.job.Job.{Job}
use Rattle.word_line.specs.Command.{command}
use Rattle.word_line.specs.Jobs.{has_file}

-- the modes that are built
abbrev pub mode_of : List ℕ → Option Mode
mode_of word =
    if bytes_eq word (codes "squeeze") then Some Squeeze
    else if bytes_eq word (codes "bound") then Some Bound
    else if bytes_eq word (codes "ipet") then Some Ipet
    else if bytes_eq word (codes "blocks") then Some Blocks
    else if bytes_eq word (codes "run") then Some Run
    else if bytes_eq word (codes "print") then Some Print
    else if bytes_eq word (codes "make") then Some Make
    else None

-- the mode that was found, with a file or without one as the mode asks
pub record IsMode (found : List Row) (mode : Mode) : Type 0 where
  pub named : option_and_then mode_of (first_of (codes "mode") found) ≡ Some mode
  pub file : is_some (first_of (codes "file") found) ≡ has_file mode

-- a number that is written in decimal, without a sign or a leading zero; or, where none is written, its default
abbrev pub IsWritten : ℕ → Option (List ℕ) → ℕ → Type 0
IsWritten default None n = n ≡ default
IsWritten default (Some text) n = text ≡ decimal n

-- such a number within its limits
pub record IsNumber (least most default : ℕ) (value : Option (List ℕ)) (n : ℕ) : Type 0 where
  pub written : IsWritten default value n
  pub enough : least ≤ n
  pub within : n ≤ most

-- a flag that is found has the value `true`
abbrev pub has_flag : List ℕ → List Row → Bool
has_flag name found = option_map_or (λ value. bytes_eq value (codes "true")) (first_of name found) false

-- the job of what was found. An entry that is missing is `main`, and an input that is missing is empty. No words ask
-- for several workers or for a watch yet
pub record IsJobOf (found : List Row) (job : Job) : Type 0 where
  pub mode : IsMode found job.mode
  pub file : job.file ≡ first_of (codes "file") found
  pub costs : job.costs ≡ first_of (codes "costs") found
  pub entry : job.entry ≡ unwrap_or (first_of (codes "entry") found) (codes "main")
  pub workers : job.workers ≡ 1
  pub turns : IsNumber 1 16384 4096 (first_of (codes "turns") found) job.turns
  pub conflicts : IsNumber 1 100000 10000 (first_of (codes "conflicts") found) job.conflicts
  pub input : job.input ≡ unwrap_or (first_of (codes "input") found) []
  pub case_number : IsNumber 0 65535 0 (first_of (codes "case") found) job.«case»
  pub size : IsNumber 1 64 4 (first_of (codes "size") found) job.size
  pub watch : job.watch ≡ false
  pub table : job.table ≡ has_flag (codes "table") found

-- a parse of the words does not fail, and the job is that of what it finds
pub record AskFor (words : List (List ℕ)) (job : Job) : Type 0 where
  pub parsed : fault_of command words ≡ []
  pub found : IsJobOf (matches_of command words) job
