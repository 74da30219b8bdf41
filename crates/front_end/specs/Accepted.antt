-- Which texts are accepted, as which program with which costs.
use Rattle.std.specs.Prelude.{◌≡◌, ◌≤◌, ℕ, List, length, Option, Some, None}
use Rattle.c_tree.specs.declared.unit.Unit.{Unit as Tree}
use Rattle.c_tree.specs.declared.program.Program.{Program}
use Rattle.c_tree.specs.declared.program.Costs.{Costs}
use Rattle.c_tree.specs.Checking.Checked.{IsUnitOf}
use Rattle.c_tree.specs.Grammar.Heights.{unit_height}
use Rattle.c_tree.specs.Checking.Refusals.{Typed}
use Rattle.cost_table.specs.Tables.{IsTable, costs_of_one}
use Rattle.flow_laws.specs.Graphs.{graph}
use Rattle.flow_graph.specs.Limits.{size_fault as plan_refusal}

-- the text's tokens spell the unit, which is no higher than 128
pub record IsRead (text : List ℕ) (unit : Tree) : Type 0 where
  pub of_text : IsUnitOf text unit
  pub low : unit_height unit ≤ 128

-- the text has at most 1,048,576 bytes, and its unit is typed with this entry, as the program
pub record IsTextOf (text entry : List ℕ) (program : Program) : Type 0 where
  pub short : length text ≤ 1048576
  pub unit : Tree
  pub read : IsRead text unit
  pub typed : Typed unit entry program

-- the costs are those of the table, which has at most 1,048,576 bytes, or without one 1 everywhere
abbrev pub ArePriced : Option (List ℕ) → Program → Costs → Type 0
ArePriced None p t = t ≡ costs_of_one p
ArePriced (Some table) p t = (length table ≤ 1048576) × IsTable table p t

-- the texts are accepted: the text of a program and the table, if there is one, are those of the program and the costs,
-- and the program's flat graph lies within its limits
pub record Accepts (text : List ℕ) (table : Option (List ℕ)) (entry : List ℕ) (p : Program) (t : Costs) : Type 0 where
  pub program : IsTextOf text entry p
  pub costs : ArePriced table p t
  pub plan : plan_refusal (graph p) ≡ None
