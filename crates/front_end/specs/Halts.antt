-- What is true where the work stops, and of the shelf's count of faults.
use Rattle.std.specs.Prelude.{◌≡◌, ◌≤◌, ℕ, List, length, Option, Result, Ok, Err}
use Rattle.wc_outside.specs.Causes.{Rose}
use Rattle.wc_outside.specs.Contents.{Files, OnFile}
use Rattle.c_tree.specs.declared.program.Program.{Program}
use Rattle.c_token.specs.declared.fault.TokenFault.{TokenFault}
use Rattle.c_token.specs.declared.fault.TokenFault.TheVariants as token
use Rattle.c_parse.specs.declared.fault.ParseFault.{ParseFault}
use Rattle.c_parse.specs.declared.fault.ParseFault.TheVariants as parse
use Rattle.cost_table.specs.declared.fault.CostFault.{CostFault}
use Rattle.cost_table.specs.declared.fault.CostFault.TheVariants as cost
use Rattle.front_end.specs.declared.refusal.ProgramRefusal.{ProgramRefusal}
use Rattle.front_end.specs.declared.refusal.ProgramRefusal.TheVariants as text
use Rattle.front_end.specs.declared.refusal.TableRefusal.{TableRefusal}
use Rattle.front_end.specs.declared.refusal.TableRefusal.TheVariants as table
use Rattle.front_end.specs.declared.refusal.PlanRefusal.{PlanRefusal}
use Rattle.front_end.specs.declared.refusal.Refusal.{Refusal}
use Rattle.front_end.specs.declared.refusal.Refusal.TheVariants as by
use Rattle.front_end.specs.declared.stop.Stop.{Stop}
use Rattle.front_end.specs.declared.stop.Stop.TheVariants as stop
use Rattle.front_end.specs.declared.stop.Halt.{Halt}
use Rattle.front_end.specs.declared.stop.Halt.TheVariants.{Refused, ReadFault, NoMemory}
use Rattle.front_end.specs.Refusing.{HasInput}
use Rattle.front_end.specs.Files.{Source, Refuses}

-- ---- a stage

-- what a refusal says is true; nothing is said of want of memory
abbrev pub IsStop : {R : Type 0} → Stop R → (R → Type 0) → Type 0
IsStop (stop.Refused refusal) P = P refusal
IsStop stop.NoMemory P = Unit {0}

abbrev pub token_stop : TokenFault → Stop ProgramRefusal
token_stop (token.Byte at) = stop.Refused (text.Byte at)
token_stop (token.Comment at) = stop.Refused (text.Comment at)
token_stop (token.Number at) = stop.Refused (text.Number at)
token_stop (token.Directive at) = stop.Refused (text.Directive at)
token_stop token.NoMemory = stop.NoMemory

abbrev pub parse_stop : ParseFault → Stop ProgramRefusal
parse_stop (parse.Syntax at) = stop.Refused (text.Syntax at)
parse_stop (parse.Depth at) = stop.Refused (text.Depth at)
parse_stop parse.NoMemory = stop.NoMemory

abbrev pub table_stop : CostFault → Stop TableRefusal
table_stop cost.NotToml = stop.Refused table.NotToml
table_stop cost.Version = stop.Refused table.Version
table_stop (cost.Key name) = stop.Refused (table.Key name)
table_stop (cost.Block name) = stop.Refused (table.Block name)
table_stop (cost.Number name) = stop.Refused (table.Number name)
table_stop (cost.Missing name) = stop.Refused (table.Missing name)
table_stop cost.NoMemory = stop.NoMemory

abbrev pub program_halt : Stop ProgramRefusal → Halt
program_halt (stop.Refused refusal) = Refused (by.Program refusal)
program_halt stop.NoMemory = NoMemory

abbrev pub table_halt : Stop TableRefusal → Halt
table_halt (stop.Refused refusal) = Refused (by.Table refusal)
table_halt stop.NoMemory = NoMemory

abbrev pub plan_halt : Stop PlanRefusal → Halt
plan_halt (stop.Refused refusal) = Refused (by.Plan refusal)
plan_halt stop.NoMemory = NoMemory

-- ---- the whole work

-- of a file of this name, which is refused so where it is longer than a file may be
abbrev pub IsFileHalt : Halt → Refusal → Option Files → List ℕ → Type 0
IsFileHalt (Refused refusal) too_long told name =
    (refusal ≡ too_long) × OnFile told name (λ bytes. 1048577 ≤ length bytes)
IsFileHalt ReadFault too_long told name = Unit {0}
IsFileHalt NoMemory too_long told name = Unit {0}

-- of the text of an input that is asked for; no file is read
abbrev pub IsInputHalt : Halt → Option (List ℕ) → Program → Type 0
IsInputHalt (Refused refusal) input p = (refusal ≡ by.Input) × ¬ (HasInput input p)
IsInputHalt ReadFault input p = ⊥
IsInputHalt NoMemory input p = Unit {0}

abbrev pub IsHalt : Halt → Source → Option Files → Type 0
IsHalt (Refused refusal) s told = Refuses refusal s told
IsHalt ReadFault s told = Unit {0}
IsHalt NoMemory s told = Unit {0}

-- ---- faults of the shelf

-- the count rises where a read fails, and else stays
abbrev pub HaltCounts : Halt → ℕ → ℕ → Type 0
HaltCounts (Refused refusal) before now = now ≡ before
HaltCounts ReadFault before now = (before ≤ now) × Rose before now
HaltCounts NoMemory before now = now ≡ before

abbrev pub Counts : {T : Type 0} → Result T Halt → ℕ → ℕ → Type 0
Counts (Ok t) before now = now ≡ before
Counts (Err halt) before now = HaltCounts halt before now
