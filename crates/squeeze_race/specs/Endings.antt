-- The parts of a report on a race of one: the first lines, and the end.
use Rattle.std.specs.Prelude.{◌≡◌, ◌<◌, ◌^◌, ℕ, Option, List}
use Rattle.wc_outside.specs.Causes.{Rose}
use Rattle.wc_outside.specs.Growth.{Grew, GrewByPrefix}
use Rattle.board_core.specs.Boards.{BoardOf}
use Rattle.flow_graph.specs.Plans.{Planned}
use Rattle.front_end.specs.declared.status.Status.{Status}
use Rattle.front_end.specs.declared.status.Status.TheVariants as status
use Rattle.report_text.specs.declared.report.Last.{Last}
use Rattle.report_text.specs.Texts.{lines_text, front_lines, last_lines}
use Rattle.report_text.specs.Conditions.{IsCost, HasNumbers, IsPlainLast}
use Rattle.race_report.specs.Telling.{TellsPlan, TellsEnd}
use Rattle.squeeze_race.specs.declared.cut.Cut.{Cut}
use Rattle.squeeze_race.specs.declared.cut.Cut.TheVariants.{WriteFault, NoMemory}

-- the first lines tell the plan
pub record IsFront (plan : Planned) (copies ipet : ℕ) : Type 0 where
  pub tells : TellsPlan plan copies ipet
  pub few : copies < 2 ^ 32
  pub cost : IsCost ipet

pub record SomeFront (plan : Planned) : Type 0 where
  pub copies : ℕ
  pub ipet : ℕ
  pub front : IsFront plan copies ipet

-- an end that tells the race, as it may be written
pub record IsEnding (b : BoardOf) (last : Last) : Type 0 where
  pub tells : TellsEnd b last
  pub plain : IsPlainLast last
  pub numbers : HasNumbers last

-- ---- what is written of them

pub record WroteFront (plan : Planned) (old new : Option (List ℕ)) : Type 0 where
  pub copies : ℕ
  pub ipet : ℕ
  pub front : IsFront plan copies ipet
  pub written : Grew old new (lines_text (front_lines copies ipet))

pub record WroteFrontPart (plan : Planned) (old new : Option (List ℕ)) : Type 0 where
  pub copies : ℕ
  pub ipet : ℕ
  pub front : IsFront plan copies ipet
  pub written : GrewByPrefix old new (lines_text (front_lines copies ipet))

pub record WroteEnd (b : BoardOf) (old new : Option (List ℕ)) : Type 0 where
  pub last : Last
  pub ending : IsEnding b last
  pub written : Grew old new (lines_text (last_lines last))

pub record WroteEndPart (b : BoardOf) (old new : Option (List ℕ)) : Type 0 where
  pub last : Last
  pub ending : IsEnding b last
  pub written : GrewByPrefix old new (lines_text (last_lines last))

-- ---- cuts

-- by what cut the writing short, of the bytes
abbrev pub WroteUpTo : Cut → Type 0 → Option (List ℕ) → Option (List ℕ) → Type 0
WroteUpTo WriteFault Part old new = Part
WroteUpTo NoMemory Part old new = new ≡ old

-- and of the count of faults
abbrev pub Counted : Cut → ℕ → ℕ → Type 0
Counted WriteFault before now = Rose before now
Counted NoMemory before now = now ≡ before

abbrev pub status_of_cut : Cut → Status
status_of_cut WriteFault = status.WriteFault
status_of_cut NoMemory = status.NoMemory
