-- How the race of one worker goes on, and what it writes.
use Rattle.std.specs.Prelude.{◌≡◌, ◌≢◌, ◌+◌, ℕ, Bool, false, List, Option, Some, None, is_some, IsTrue, slice_get}
use Rattle.wc_outside.specs.Growth.{Grew, GrewByPrefix}
use Rattle.race_item.specs.Lists.{EachOf}
use Rattle.board_core.specs.declared.event.End.{End}
use Rattle.board_core.specs.declared.event.End.TheVariants as end
use Rattle.board_core.specs.declared.event.ItemState.{ItemState}
use Rattle.board_core.specs.Boards.{BoardOf, state_of}
use Rattle.board_core.specs.Kinds.{is_taken}
use Rattle.board_core.specs.Machine.{Posted, with_item_state}
use Rattle.board_core.specs.Tickets.{TicketOf}
use Rattle.front_end.specs.declared.status.Status.{Status}
use Rattle.front_end.specs.declared.status.Status.TheVariants.{
  Whole,
  Inexact,
  Words,
  Program,
  Costs,
  ReadFault,
  WriteFault,
  NoMemory,
}
use Rattle.report_text.specs.declared.report.Report.{Report}
use Rattle.report_text.specs.declared.report.ReportLine.{ReportLine}
use Rattle.report_text.specs.Texts.{lines_text, report_text}
use Rattle.race_report.specs.Telling.{race_end, Tells, TellsSoFar}

-- ---- races of one

-- no item is taken
abbrev pub AreUntaken : List Posted → Type 0
AreUntaken items = EachOf (λ (item : Posted). is_taken item.state ≡ false) items

abbrev pub NoneTaken : BoardOf → Type 0
NoneTaken b = AreUntaken (state_of b).items

-- no item but that of the ticket is taken: whichever state that gets, it decides
abbrev pub IsTakenAlone : BoardOf → TicketOf → Type 0
IsTakenAlone b t = (state : ItemState) → is_taken state ≡ false → AreUntaken (with_item_state (state_of b).items t.item.id state)

abbrev pub HasEnded : BoardOf → Type 0
HasEnded b = IsTrue (is_some (race_end b))

-- one turn more is settled
abbrev pub HasSettledOne : BoardOf → BoardOf → Type 0
HasSettledOne old new = (state_of new).settled ≡ (state_of old).settled + 1

-- ---- what is written

-- the text of a report that tells the race was written
pub record WroteReport (watched : Bool) (b : BoardOf) (old new : Option (List ℕ)) : Type 0 where
  pub report : Report
  pub tells : Tells watched b report
  pub written : Grew old new (report_text report)

-- a text of which a part may stand: that of a report that tells the race, or the lines of one that has no end yet
pub data MayBeWritten (watched : Bool) (b : BoardOf) (text : List ℕ) : Type 0 where
  Told : (report : Report) → Tells watched b report → text ≡ report_text report → MayBeWritten watched b text
  SoFar : (lines : List ReportLine) → TellsSoFar watched b lines → text ≡ lines_text lines → MayBeWritten watched b text

pub record WrotePart (watched : Bool) (b : BoardOf) (old new : Option (List ℕ)) : Type 0 where
  pub text : List ℕ
  pub may : MayBeWritten watched b text
  pub written : GrewByPrefix old new text

-- what each status says of the board that is handed back, and of what was written: at the first two a whole report, and
-- the first of them exactly where the race is done
abbrev pub Raced : Status → Bool → BoardOf → Option (List ℕ) → Option (List ℕ) → Type 0
Raced Whole watched b old new = WroteReport watched b old new × (race_end b ≡ Some end.Done)
Raced Inexact watched b old new = WroteReport watched b old new × (race_end b ≢ Some end.Done)
Raced Words watched b old new = ⊥
Raced Program watched b old new = ⊥
Raced Costs watched b old new = ⊥
Raced ReadFault watched b old new = ⊥
Raced WriteFault watched b old new = WrotePart watched b old new
Raced NoMemory watched b old new = WrotePart watched b old new
