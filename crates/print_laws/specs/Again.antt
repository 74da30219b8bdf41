-- What it means that a text is read as a program.
use Rattle.std.specs.Prelude.{ℕ, List}
use Rattle.c_tree.specs.declared.unit.Unit.{Unit as Tree}
use Rattle.c_tree.specs.declared.program.Program.{Program}
use Rattle.c_tree.specs.Checking.Checked.{IsUnitOf}
use Rattle.c_tree.specs.Checking.Refusals.{Typed}

-- the text has tokens that spell a unit, of whatever height, which with this entry is typed as the program
pub record IsReadAs (text entry : List ℕ) (p : Program) : Type 0 where
  pub unit : Tree
  pub read : IsUnitOf text unit
  pub typed : Typed unit entry p
