-- What is written where texts are squeezed.
use Rattle.std.specs.Prelude.{◌≡◌, ◌≢◌, ◌⊎◌, ℕ, false, List, Option, Some}
use Rattle.wc_outside.specs.Contents.{Files}
use Rattle.wc_outside.specs.Growth.{Grew, GrewByPrefix}
use Rattle.c_tree.specs.declared.program.Program.{Program as Tree}
use Rattle.c_tree.specs.declared.program.Costs.{Costs as Table}
use Rattle.race_item.specs.declared.region.Limits.{Limits}
use Rattle.board_core.specs.declared.event.End.TheVariants as end
use Rattle.board_core.specs.Boards.{BoardOf}
use Rattle.race_report.specs.Telling.{IsRaceOf, race_end}
use Rattle.front_end.specs.declared.refusal.Refusal.{Refusal}
use Rattle.front_end.specs.declared.status.Status.{Status}
use Rattle.front_end.specs.declared.status.Status.TheVariants.{
  Whole,
  Inexact,
  Words,
  Program,
  Costs,
  ReadFault,
  WriteFault,
  NoMemory,
}
use Rattle.front_end.specs.Files.{Source, AreAccepted, Refuses}
use Rattle.front_end.specs.Lines.{refusal_line}
use Rattle.front_end.specs.Statuses.{status_of}
use Rattle.squeeze_race.specs.Races.{WroteReport, WrotePart}

-- ---- of a plan

-- some race of this program with these costs and within these limits, of which this is true
pub record SomeRace (p : Tree) (t : Table) (limits : Limits) (P : BoardOf → Type 0) : Type 0 where
  pub board : BoardOf
  pub race : IsRaceOf p t limits board
  pub says : P board

-- by the status: a report of some race was written whole, and the first status stands exactly where it is done; or a
-- part of one was written, or nothing
abbrev pub RacedOf : Status → Tree → Table → Limits → Option (List ℕ) → Option (List ℕ) → Type 0
RacedOf Whole p t limits old new =
    SomeRace p t limits (λ b. WroteReport false b old new × (race_end b ≡ Some end.Done))
RacedOf Inexact p t limits old new =
    SomeRace p t limits (λ b. WroteReport false b old new × (race_end b ≢ Some end.Done))
RacedOf Words p t limits old new = ⊥
RacedOf Program p t limits old new = ⊥
RacedOf Costs p t limits old new = ⊥
RacedOf ReadFault p t limits old new = ⊥
RacedOf WriteFault p t limits old new = SomeRace p t limits (λ b. WrotePart false b old new)
RacedOf NoMemory p t limits old new = (new ≡ old) ⊎ SomeRace p t limits (λ b. WrotePart false b old new)

-- ---- of texts

-- the texts give some program and costs, of which this is true
pub record Given (s : Source) (told : Option Files) (P : Tree → Table → Type 0) : Type 0 where
  pub program : Tree
  pub costs : Table
  pub accepted : AreAccepted s told program costs
  pub says : P program costs

-- the line of a refusal of the texts was written
pub record WroteRefusal (status : Status) (s : Source) (told : Option Files) (old new : Option (List ℕ)) : Type 0 where
  pub refusal : Refusal
  pub refused : Refuses refusal s told
  pub same : status_of refusal ≡ status
  pub written : Grew old new (refusal_line refusal)

-- a part of it was
pub record WroteRefusalPart (s : Source) (told : Option Files) (old new : Option (List ℕ)) : Type 0 where
  pub refusal : Refusal
  pub refused : Refuses refusal s told
  pub written : GrewByPrefix old new (refusal_line refusal)

-- by the status of a call on texts
abbrev pub WroteRace : Status → Source → Option Files → Limits → Option (List ℕ) → Option (List ℕ) → Type 0
WroteRace Whole s told limits old new = Given s told (λ p t. RacedOf Whole p t limits old new)
WroteRace Inexact s told limits old new = Given s told (λ p t. RacedOf Inexact p t limits old new)
WroteRace Words s told limits old new = WroteRefusal Words s told old new
WroteRace Program s told limits old new = WroteRefusal Program s told old new
WroteRace Costs s told limits old new = WroteRefusal Costs s told old new
WroteRace ReadFault s told limits old new = new ≡ old
WroteRace WriteFault s told limits old new =
    WroteRefusalPart s told old new ⊎ Given s told (λ p t. RacedOf WriteFault p t limits old new)
WroteRace NoMemory s told limits old new =
    (new ≡ old) ⊎ Given s told (λ p t. RacedOf NoMemory p t limits old new)
