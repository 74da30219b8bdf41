-- What each refusal says of the text that it refuses, by the stage of the work.
use Rattle.std.specs.Prelude.{◌≡◌, ◌≤◌, ℕ, List, [], length, slice_get, Option, Some, None, Err}
use Rattle.c_tree.specs.declared.token.Token.{Token}
use Rattle.c_tree.specs.declared.unit.Unit.{Unit as Tree}
use Rattle.c_tree.specs.declared.program.BlockName.{BlockName}
use Rattle.c_tree.specs.declared.program.Func.{Func}
use Rattle.c_tree.specs.declared.program.Program.{Program}
use Rattle.c_tree.specs.declared.program.Input.{Input}
use Rattle.c_tree.specs.Tokens.Lexing.{Lexes}
use Rattle.c_tree.specs.Checking.Refusals as checking
use Rattle.c_tree.specs.Checking.Refusals.{IsRefused}
use Rattle.c_token.specs.Faults.{HasStrayByte, HasOpenComment, HasBadNumber, HasBadDirective}
use Rattle.c_parse.specs.Answers.{IsPlace}
use Rattle.c_faults.specs.Verdicts.{refusal_of}
use Rattle.c_input.specs.InputTexts.{HasText}
use Rattle.cost_table.specs.declared.fault.CostFault.{CostFault}
use Rattle.cost_table.specs.declared.fault.CostFault.TheVariants as cost
use Rattle.cost_table.specs.Tables.{verdict, block_name}
use Rattle.flow_laws.specs.Graphs.{graph}
use Rattle.flow_graph.specs.declared.fault.PlanFault.TheVariants as plan
use Rattle.flow_graph.specs.Limits.{size_fault as plan_refusal}
use Rattle.front_end.specs.declared.refusal.ProgramRefusal.{ProgramRefusal}
use Rattle.front_end.specs.declared.refusal.ProgramRefusal.TheVariants as text
use Rattle.front_end.specs.declared.refusal.TableRefusal.{TableRefusal}
use Rattle.front_end.specs.declared.refusal.TableRefusal.TheVariants as table
use Rattle.front_end.specs.declared.refusal.PlanRefusal.{PlanRefusal}
use Rattle.front_end.specs.declared.refusal.PlanRefusal.TheVariants.{Blocks, Edges, Cap}
use Rattle.front_end.specs.Accepted.{IsRead}

-- ---- the text of a program

-- the text is no longer than a text may be, and is no tokens
pub record HasNoTokens (bytes : List ℕ) : Type 0 where
  pub short : length bytes ≤ 1048576
  pub none : (tokens : List Token) → ¬ (Lexes bytes tokens)

-- its tokens spell no unit that is no higher than 128. The place is that of a token's first byte, or the text's end
pub record HasNoUnit (bytes : List ℕ) (at : ℕ) : Type 0 where
  pub short : length bytes ≤ 1048576
  pub tokens : List Token
  pub lexed : Lexes bytes tokens
  pub place : IsPlace bytes tokens at
  pub none : (unit : Tree) → ¬ (IsRead bytes unit)

-- its unit has this fault with this entry, and none before it
pub record HasFault (bytes entry : List ℕ) (fault : checking.PlacedFault) : Type 0 where
  pub short : length bytes ≤ 1048576
  pub unit : Tree
  pub read : IsRead bytes unit
  pub refused : IsRefused unit entry fault

-- a refusal of the grammar is `Syntax`
abbrev pub RefusesText : ProgramRefusal → List ℕ → List ℕ → Type 0
RefusesText text.Size bytes entry = 1048577 ≤ length bytes
RefusesText (text.Byte at) bytes entry = HasNoTokens bytes × HasStrayByte bytes at
RefusesText (text.Comment at) bytes entry = HasNoTokens bytes × HasOpenComment bytes at
RefusesText (text.Number at) bytes entry = HasNoTokens bytes × HasBadNumber bytes at
RefusesText (text.Directive at) bytes entry = HasNoTokens bytes × HasBadDirective bytes at
RefusesText (text.Syntax at) bytes entry = HasNoUnit bytes at
RefusesText (text.Depth at) bytes entry = ⊥
RefusesText (text.Check fault) bytes entry = HasFault bytes entry (refusal_of fault)

-- ---- the text of an input

-- no input is asked for, or the text is that of one that fits. It is refused where it is of none
abbrev pub HasInput : Option (List ℕ) → Program → Type 0
HasInput None p = Unit {0}
HasInput (Some bytes) p = (i : Input) × HasText p bytes i

-- the input that is asked for
abbrev pub IsInput : Option (List ℕ) → Program → Option Input → Type 0
IsInput None p input = input ≡ None
IsInput (Some bytes) p None = ⊥
IsInput (Some bytes) p (Some i) = HasText p bytes i

-- ---- the table

-- the table is no longer than a text may be, and has this fault
pub record HasTableFault (p : Program) (bytes : List ℕ) (fault : CostFault) : Type 0 where
  pub short : length bytes ≤ 1048576
  pub faulty : verdict p bytes ≡ Err fault

abbrev pub RefusesTable : TableRefusal → Program → List ℕ → Type 0
RefusesTable table.Size p bytes = 1048577 ≤ length bytes
RefusesTable table.NotToml p bytes = HasTableFault p bytes cost.NotToml
RefusesTable table.Version p bytes = HasTableFault p bytes cost.Version
RefusesTable (table.Key name) p bytes = HasTableFault p bytes (cost.Key name)
RefusesTable (table.Block name) p bytes = HasTableFault p bytes (cost.Block name)
RefusesTable (table.Number name) p bytes = HasTableFault p bytes (cost.Number name)
RefusesTable (table.Missing name) p bytes = HasTableFault p bytes (cost.Missing name)

-- ---- the plan

-- the name of a block of a program
abbrev pub block_func_name : Option Func → List ℕ
block_func_name None = []
block_func_name (Some f) = f.name

abbrev pub name_of_block : Program → BlockName → List ℕ
name_of_block p b = block_name (block_func_name (slice_get p.funcs b.func)) b.number

abbrev pub RefusesPlan : PlanRefusal → Program → Type 0
RefusesPlan Blocks p = plan_refusal (graph p) ≡ Some plan.Blocks
RefusesPlan Edges p = plan_refusal (graph p) ≡ Some plan.Edges
RefusesPlan (Cap name) p =
    (b : BlockName) × (plan_refusal (graph p) ≡ Some (plan.Cap b)) × (name ≡ name_of_block p b)
