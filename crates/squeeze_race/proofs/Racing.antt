-- A race on the board of a plan is one of its program; and what was written of it is what is written of texts.
use Rattle.std.proofs.Common.{◌≡◌, ◌≢◌, ◌⊎◌, inl, inr, ℕ, false, List, Option, refl, sym, ◌∙◌, ap}
use Rattle.wc_outside.specs.Contents.{Files}
use Rattle.wc_outside.specs.Growth.{Grew, GrewByPrefix}
use Rattle.c_tree.specs.declared.program.Program.{Program as Tree}
use Rattle.c_tree.specs.declared.program.Costs.{Costs as Table}
use Rattle.flow_laws.specs.Graphs.{graph}
use Rattle.flow_graph.specs.Plans.{Planned}
use Rattle.ipet_rows.specs.FlowRows.{flow_rows}
use Rattle.ipet_rows.specs.Sound.{PlanRows}
use Rattle.race_item.specs.declared.region.Limits.{Limits}
use Rattle.board_core.specs.Machine.{Setup}
use Rattle.board_core.specs.Boards.{BoardOf, setup}
use Rattle.race_report.specs.Telling.{IsRace, IsRaceOf}
use Rattle.front_end.specs.declared.refusal.Refusal.{Refusal}
use Rattle.front_end.specs.declared.status.Status.{Status}
use Rattle.front_end.specs.declared.status.Status.TheVariants as status
use Rattle.front_end.specs.Files.{Source, AreAccepted, Refuses}
use Rattle.front_end.specs.Lines.{refusal_line}
use Rattle.front_end.specs.Statuses.{status_of}
use Rattle.squeeze_race.specs.Races.{Raced}
use Rattle.squeeze_race.specs.Texts.{RacedOf, WroteRace}

-- ---- of a plan

-- a race from the start of a board over the rows of the plan
pub race_of : (plan : Planned) (rows : PlanRows) (limits : Limits) (opening : ℕ) (b : BoardOf) → rows.plan ≡ plan → rows.rows ≡ flow_rows (graph plan.program)
    → b.setup ≡ setup rows limits opening → IsRace b → IsRaceOf plan.program plan.costs limits b
race_of plan rows limits opening b plan_is rows_are is race = record {
  race = race;
  plan_is = ap (λ (u : Setup). u.rows.plan) is ∙ plan_is;
  rows_are = ap (λ (u : Setup). u.rows.rows) is ∙ rows_are;
  limits_are = ap (λ (u : Setup). u.limits) is;
}

pub raced_of : (st : Status) (p : Tree) (t : Table) (limits : Limits) (b : BoardOf) (old new : Option (List ℕ)) → IsRaceOf p t limits b → Raced st false b old new
    → RacedOf st p t limits old new
raced_of status.Whole p t limits b old new race w = record { board = b; race = race; says = w }
raced_of status.Inexact p t limits b old new race w = record { board = b; race = race; says = w }
raced_of status.Words p t limits b old new race w = absurd w
raced_of status.Program p t limits b old new race w = absurd w
raced_of status.Costs p t limits b old new race w = absurd w
raced_of status.ReadFault p t limits b old new race w = absurd w
raced_of status.WriteFault p t limits b old new race w = record { board = b; race = race; says = w }
raced_of status.NoMemory p t limits b old new race w = inr (record { board = b; race = race; says = w })

-- ---- of texts

-- texts that are accepted
pub wrote_race : (st : Status) (s : Source) (told : Option Files) (limits : Limits) (old new : Option (List ℕ)) (p : Tree) (t : Table) → AreAccepted s told p t
    → RacedOf st p t limits old new → WroteRace st s told limits old new
wrote_race status.Whole s told limits old new p t accepted w = record { program = p; costs = t; accepted = accepted; says = w }
wrote_race status.Inexact s told limits old new p t accepted w = record { program = p; costs = t; accepted = accepted; says = w }
wrote_race status.Words s told limits old new p t accepted w = absurd w
wrote_race status.Program s told limits old new p t accepted w = absurd w
wrote_race status.Costs s told limits old new p t accepted w = absurd w
wrote_race status.ReadFault s told limits old new p t accepted w = absurd w
wrote_race status.WriteFault s told limits old new p t accepted w = inr (record { program = p; costs = t; accepted = accepted; says = w })
wrote_race status.NoMemory s told limits old new p t accepted w = inr (record { program = p; costs = t; accepted = accepted; says = w })

-- texts that are refused
pub wrote_refusal : (st : Status) (s : Source) (told : Option Files) (limits : Limits) (old new : Option (List ℕ)) (refusal : Refusal) (faults : Type 0) → Refuses refusal s told
    → (st ≢ status.WriteFault → st ≢ status.NoMemory → (st ≡ status_of refusal) × Grew old new (refusal_line refusal))
    → (st ≡ status.WriteFault → GrewByPrefix old new (refusal_line refusal) × faults) → (st ≡ status.NoMemory → new ≡ old)
    → (st ≢ status.Whole) × (st ≢ status.ReadFault) × (st ≢ status.Inexact) → WroteRace st s told limits old new
wrote_refusal status.Whole s told limits old new refusal faults refused said part memory none = absurd (none.0 refl)
wrote_refusal status.Inexact s told limits old new refusal faults refused said part memory none = absurd (none.2 refl)
wrote_refusal status.ReadFault s told limits old new refusal faults refused said part memory none = absurd (none.1 refl)
wrote_refusal status.Words s told limits old new refusal faults refused said part memory none =
    let h = said (λ e. absurd (cc)) (λ e. absurd (cc)) in
    record { refusal = refusal; refused = refused; same = sym h.0; written = h.1 }
wrote_refusal status.Program s told limits old new refusal faults refused said part memory none =
    let h = said (λ e. absurd (cc)) (λ e. absurd (cc)) in
    record { refusal = refusal; refused = refused; same = sym h.0; written = h.1 }
wrote_refusal status.Costs s told limits old new refusal faults refused said part memory none =
    let h = said (λ e. absurd (cc)) (λ e. absurd (cc)) in
    record { refusal = refusal; refused = refused; same = sym h.0; written = h.1 }
wrote_refusal status.WriteFault s told limits old new refusal faults refused said part memory none =
    inl (record { refusal = refusal; refused = refused; written = (part refl).0 })
wrote_refusal status.NoMemory s told limits old new refusal faults refused said part memory none = inl (memory refl)
