-- What is kept by each job that words ask for.
use Rattle.std.specs.Prelude.{◌≡◌, ◌≤◌, Bool, true, false, IsTrue, is_some}
use Rattle.word_line.specs.declared.job.Mode.{Mode}
use Rattle.word_line.specs.declared.job.Mode.TheVariants.{Squeeze, Bound, Ipet, Blocks, Run, Print, Make, Workout}
use Rattle.word_line.specs.declared.job.Job.{Job}

abbrev pub is_built : Mode → Bool
is_built Squeeze = true
is_built Bound = true
is_built Ipet = true
is_built Blocks = true
is_built Run = true
is_built Print = true
is_built Make = true
is_built Workout = false

-- the modes that are given a file
abbrev pub has_file : Mode → Bool
has_file Make = false
has_file Workout = false
has_file _ = true

-- the modes that need no workers
abbrev pub is_plain : Mode → Bool
is_plain Squeeze = false
is_plain Workout = false
is_plain _ = true

-- the numbers lie within their limits
pub record IsWithinLimits (job : Job) : Type 0 where
  pub workers : (1 ≤ job.workers) × (job.workers ≤ 16)
  pub turns : (1 ≤ job.turns) × (job.turns ≤ 16384)
  pub conflicts : (1 ≤ job.conflicts) × (job.conflicts ≤ 100000)
  pub size : (1 ≤ job.size) × (job.size ≤ 64)

-- the mode is built, has its file or none, and numbers within their limits
pub record IsJob (job : Job) : Type 0 where
  pub built : IsTrue (is_built job.mode)
  pub file : is_some job.file ≡ has_file job.mode
  pub limits : IsWithinLimits job
