-- The lines of refusals.
use Rattle.std.specs.Prelude.{ℕ, List, ◌++◌, codes, decimal}
use Rattle.c_faults.specs.declared.fault.Fault.{Fault}
use Rattle.c_faults.specs.declared.fault.Fault.TheVariants as fault
use Rattle.c_faults.specs.declared.fault.CheckRefusal.{CheckRefusal}
use Rattle.front_end.specs.declared.refusal.ProgramRefusal.{ProgramRefusal}
use Rattle.front_end.specs.declared.refusal.ProgramRefusal.TheVariants as text
use Rattle.front_end.specs.declared.refusal.TableRefusal.{TableRefusal}
use Rattle.front_end.specs.declared.refusal.TableRefusal.TheVariants as table
use Rattle.front_end.specs.declared.refusal.PlanRefusal.{PlanRefusal}
use Rattle.front_end.specs.declared.refusal.PlanRefusal.TheVariants.{Blocks, Edges, Cap}
use Rattle.front_end.specs.declared.refusal.Refusal.{Refusal}
use Rattle.front_end.specs.declared.refusal.Refusal.TheVariants as by

-- what is wrong with a program, by its stage and name, and its place
abbrev pub place_line : List ℕ → ℕ → List ℕ
place_line name at = codes "program " ++ name ++ codes " at " ++ decimal at ++ codes "\n"

abbrev pub check_name : Fault → List ℕ
check_name fault.NoName = codes "check NoName"
check_name fault.Twice = codes "check Twice"
check_name fault.Kind = codes "check Kind"
check_name fault.Arity = codes "check Arity"
check_name fault.NoValue = codes "check NoValue"
check_name fault.Const = codes "check Const"
check_name fault.Stray = codes "check Stray"
check_name fault.NoBound = codes "check NoBound"
check_name fault.BoundRange = codes "check BoundRange"
check_name fault.NoEntry = codes "check NoEntry"
check_name fault.LaterCall = codes "check LaterCall"
check_name fault.ArrayLength = codes "check ArrayLength"
check_name fault.Inputs = codes "check Inputs"
check_name fault.NoInit = codes "check NoInit"
check_name fault.Span = codes "check Span"

abbrev pub check_line : CheckRefusal → List ℕ
check_line r = place_line (check_name r.fault) r.at

abbrev pub program_line : ProgramRefusal → List ℕ
program_line text.Size = codes "program size\n"
program_line (text.Byte at) = place_line (codes "token Byte") at
program_line (text.Comment at) = place_line (codes "token Comment") at
program_line (text.Number at) = place_line (codes "token Number") at
program_line (text.Directive at) = place_line (codes "token Directive") at
program_line (text.Syntax at) = place_line (codes "parse Syntax") at
program_line (text.Depth at) = place_line (codes "parse Depth") at
program_line (text.Check r) = check_line r

-- what is wrong, and the key or block that it names
abbrev pub named_line : List ℕ → List ℕ → List ℕ
named_line words name = words ++ name ++ codes "\n"

abbrev pub table_line : TableRefusal → List ℕ
table_line table.Size = codes "costs size\n"
table_line table.NotToml = codes "costs NotToml\n"
table_line table.Version = codes "costs Version\n"
table_line (table.Key name) = named_line (codes "costs Key ") name
table_line (table.Block name) = named_line (codes "costs Block ") name
table_line (table.Number name) = named_line (codes "costs Number ") name
table_line (table.Missing name) = named_line (codes "costs Missing ") name

abbrev pub plan_line : PlanRefusal → List ℕ
plan_line Blocks = codes "program plan Blocks\n"
plan_line Edges = codes "program plan Edges\n"
plan_line (Cap block) = named_line (codes "program plan Cap ") block

-- the line of a refusal
abbrev pub refusal_line : Refusal → List ℕ
refusal_line (by.Program refusal) = program_line refusal
refusal_line by.Input = codes "input refused\n"
refusal_line (by.Table refusal) = table_line refusal
refusal_line (by.Plan refusal) = plan_line refusal
