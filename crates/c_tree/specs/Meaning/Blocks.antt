-- The blocks of a function, numbered from 0 by the place of their first token. A block is a maximal run of simple
-- statements in one list; or one controlling expression; one initialiser or step of a `for`; one call; one `break`,
-- `continue` or `return`. This project's own.
use Rattle.std.specs.Prelude.{◌<◌, Option, Some, None, slice_get, ℕ, ◌+◌, List, [], ◌∷◌, Bool, true, false}
use Rattle.c_tree.specs.declared.tree.Stmt.{Stmt, Row_of-Stmt, end_of-Stmt, more_of-Stmt, Held-Stmt-For-1, None', Some'}
use Rattle.c_tree.specs.declared.tree.Stmt.TheVariants.{
  Empty,
  Scalar,
  Array,
  Assign,
  Call,
  Break,
  Continue,
  Return,
  If',
  While',
  Do',
  For',
  Group',
}
use Rattle.c_tree.specs.declared.program.BlockName.{BlockName}
use Rattle.c_tree.specs.declared.program.Func.{Func}

-- a simple statement: an empty one, a declaration without a call, or an assignment
abbrev pub is_simple : Stmt → Bool
is_simple Empty = true
is_simple (Scalar l e) = true
is_simple (Array l es) = true
is_simple (Assign p op e) = true
is_simple _ = false

-- how many blocks begin with a simple statement, where `goes_on` tells that one stands before it
abbrev pub begun_blocks : Bool → ℕ
begun_blocks true = 0
begun_blocks false = 1

unfoldable mutual
  -- how many blocks begin at a statement of a list, of which `goes_on` tells whether it goes on with a run of simple
  -- ones
  pub blocks : Stmt → Bool → ℕ
  blocks Empty goes_on = begun_blocks goes_on
  blocks (Scalar l e) goes_on = begun_blocks goes_on
  blocks (Array l es) goes_on = begun_blocks goes_on
  blocks (Assign p op e) goes_on = begun_blocks goes_on
  blocks (Call t f es) goes_on = 1
  blocks Break goes_on = 1
  blocks Continue goes_on = 1
  blocks (Return e) goes_on = 1
  blocks (If' e _ x _ y) goes_on = 1 + row_blocks x false + row_blocks y false
  blocks (While' bound e _ x) goes_on = 1 + row_blocks x false
  blocks (Do' bound _ x e) goes_on = row_blocks x false + 1
  blocks (For' bound i e j _ x) goes_on = held_blocks i + 1 + held_blocks j + row_blocks x false
  blocks (Group' _ x) goes_on = row_blocks x false

  pub row_blocks : {m : _} → Row_of-Stmt m → Bool → ℕ
  row_blocks end_of-Stmt goes_on = 0
  row_blocks (more_of-Stmt s rest) goes_on = blocks s goes_on + row_blocks rest (is_simple s)

  pub held_blocks : Held-Stmt-For-1 → ℕ
  held_blocks None' = 0
  held_blocks (Some' _ x) = row_blocks x false

-- the same of a list
abbrev pub list_blocks : List Stmt → Bool → ℕ
list_blocks [] goes_on = 0
list_blocks (s ∷ rest) goes_on = blocks s goes_on + list_blocks rest (is_simple s)

-- ---- the blocks of a program

abbrev pub block_count : Option Func → ℕ
block_count None = 0
block_count (Some f) = list_blocks f.body false

-- a block of a function of the program
abbrev pub IsBlockOf : List Func → BlockName → Type 0
IsBlockOf fs b = b.number < block_count (slice_get fs b.func)

abbrev pub AreBlocksOf : List Func → List BlockName → Type 0
AreBlocksOf fs [] = Unit {0}
AreBlocksOf fs (b ∷ bs) = IsBlockOf fs b × AreBlocksOf fs bs
