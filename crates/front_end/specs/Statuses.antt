-- The exit status of each way to end, and how the tool ends at each refusal.
use Rattle.std.specs.Prelude.{ℕ}
use Rattle.front_end.specs.declared.status.Status.{Status}
use Rattle.front_end.specs.declared.status.Status.TheVariants as status
use Rattle.front_end.specs.declared.refusal.Refusal.{Refusal}
use Rattle.front_end.specs.declared.refusal.Refusal.TheVariants.{Program, Input, Table, Plan}

abbrev pub code_of : Status → ℕ
code_of status.Whole = 0
code_of status.Inexact = 1
code_of status.Words = 2
code_of status.Program = 3
code_of status.Costs = 4
code_of status.ReadFault = 5
code_of status.WriteFault = 6
code_of status.NoMemory = 7

abbrev pub status_of : Refusal → Status
status_of (Program refusal) = status.Program
status_of Input = status.Words
status_of (Table refusal) = status.Costs
status_of (Plan refusal) = status.Program
