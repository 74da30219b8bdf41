-- What every program of the code is: typed from a unit that the tokens of some text spell.
use Rattle.std.specs.Prelude.{ℕ, List}
use Rattle.c_tree.specs.declared.program.Program.TheInside.{Inside}
use Rattle.c_tree.specs.declared.token.Token.{Token}
use Rattle.c_tree.specs.declared.unit.Unit.{Unit as Tree}
use Rattle.c_tree.specs.Keeping.Programs.{Program}
use Rattle.c_tree.specs.Tokens.Lexing.{Lexes}
use Rattle.c_tree.specs.Grammar.Spelling.{Spells}
use Rattle.c_tree.specs.Checking.Refusals.{Typed}

-- the tokens of the text spell the unit
pub record IsUnitOf (text : List ℕ) (unit : Tree) : Type 0 where
  pub tokens : List Token
  pub lexed : Lexes text tokens
  pub spelled : Spells text tokens unit

-- those of some text do
pub record IsSpelled (unit : Tree) : Type 0 where
  pub text : List ℕ
  pub read : IsUnitOf text unit

-- the program is typed from such a unit
pub record IsProgram (program : Program) : Type 0 where
  pub unit : Tree
  pub entry : List ℕ
  pub spelled : IsSpelled unit
  pub typed : Typed unit entry program

-- what contracts see of the fields
abbrev pub parts : Inside → Program
parts a = record { globals = a.globals; funcs = a.funcs; entry = a.entry }
