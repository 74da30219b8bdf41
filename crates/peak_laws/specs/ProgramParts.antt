-- The part of the flat graph that a program is, calls inlined: a tree of its nodes with their costs. This project's
-- own.
use Rattle.std.specs.Prelude.{
  ℕ,
  ◌+◌,
  ◌-◌,
  Bool,
  true,
  false,
  if◌then◌else◌,
  List,
  [],
  ◌∷◌,
  ◌++◌,
  length,
  Option,
  Some,
  None,
  slice_get,
  unwrap_or,
}
use Rattle.c_tree.specs.declared.tree.Stmt.{Stmt, Row_of-Stmt, end_of-Stmt, more_of-Stmt, Held-Stmt-For-1, None', Some'}
use Rattle.c_tree.specs.declared.tree.Stmt.TheVariants.{
  Empty,
  Scalar,
  Array,
  Assign,
  Call,
  Break,
  Continue,
  Return,
  If',
  While',
  Do',
  For',
  Group',
}
use Rattle.c_tree.specs.declared.program.Costs.{Costs}
use Rattle.c_tree.specs.declared.program.Func.{Func}
use Rattle.c_tree.specs.declared.program.Program.{Program}
use Rattle.c_tree.specs.Meaning.Blocks.{is_simple, blocks, row_blocks, held_blocks}
use Rattle.c_tree.specs.Meaning.Claims.{block_cost}
use Rattle.c_tree.specs.Meaning.Statements.{block}
use Rattle.peak_laws.specs.Parts.{
  ByEnd,
  ByBreak,
  ByContinue,
  ByReturn,
  Part,
  Nothing,
  Block,
  Then,
  Choice,
  While,
  Do,
  Body,
}

-- the part has no node
abbrev pub is_nothing : Part → Bool
is_nothing Nothing = true
is_nothing (Block c l) = false
is_nothing (Then p q) = false
is_nothing (Choice c p q) = false
is_nothing (While c m s p) = false
is_nothing (Do c m p) = false
is_nothing (Body p) = false

-- one after the other, where a part without nodes falls away
abbrev pub sequence : Part → Part → Part
sequence p q = if is_nothing p then q else (if is_nothing q then p else Then p q)

-- the block of simple statements that is begun, if there is one
abbrev pub pending_block : Bool → ℕ → Part
pending_block true c = Block c ByEnd
pending_block false c = Nothing

-- the number of the block after it
abbrev pub block_past_run : Bool → ℕ → ℕ
block_past_run true b = b + 1
block_past_run false b = b

-- a call's node, a copy of the callee, and the landing, which has no block
abbrev pub call_part : Option Part → ℕ → Part
call_part None c = Then (Block c ByEnd) (Block 0 ByEnd)
call_part (Some q) c = Then (Block c ByEnd) (Then (Body q) (Block 0 ByEnd))

-- the step of a `for` is one block
abbrev pub held_step : Held-Stmt-For-1 → ℕ → Option ℕ
held_step None' c = None
held_step (Some' a x) c = Some c

unfoldable mutual
  -- a statement that is not simple, over the functions above its own; `cost` has the costs of its function's blocks,
  -- its first block is b
  pub part : List Part → (ℕ → ℕ) → Stmt → ℕ → Part
  part qs cost Empty b = Nothing
  part qs cost (Scalar l e) b = Nothing
  part qs cost (Array l es) b = Nothing
  part qs cost (Assign p op e) b = Nothing
  part qs cost (Call t g es) b = call_part (slice_get qs g) (cost b)
  part qs cost Break b = Block (cost b) ByBreak
  part qs cost Continue b = Block (cost b) ByContinue
  part qs cost (Return e) b = Block (cost b) ByReturn
  part qs cost (If' e a x c y) b = Choice (cost b) (row_part qs cost x (b + 1) false)
      (row_part qs cost y (b + 1 + row_blocks x false) false)
  part qs cost (While' l e a x) b = While (cost b) (l - 1) None (row_part qs cost x (b + 1) false)
  part qs cost (Do' l a x e) b = Do (cost (b + row_blocks x false)) (l - 1) (row_part qs cost x b false)
  part qs cost (For' l i e j a x) b =
      let bc = b + held_blocks i in
      sequence (held_part qs cost i b) (While (cost bc) (l - 1) (held_step j (cost (bc + 1)))
      (row_part qs cost x (bc + 1 + held_blocks j) false))
  part qs cost (Group' a x) b = row_part qs cost x b false

  -- a list, where `run` tells that the block b of simple statements is begun
  pub row_part : {m : _} → List Part → (ℕ → ℕ) → Row_of-Stmt m → ℕ → Bool → Part
  row_part qs cost end_of-Stmt b run = pending_block run (cost b)
  row_part qs cost (more_of-Stmt s rest) b run =
      if is_simple s then row_part qs cost rest b true else sequence (pending_block run (cost b))
      (sequence (part qs cost s (block_past_run run b)) (row_part qs cost rest (block_past_run run b
      + blocks s false) false))

  -- the initialiser of a `for`
  pub held_part : List Part → (ℕ → ℕ) → Held-Stmt-For-1 → ℕ → Part
  held_part qs cost None' b = Nothing
  held_part qs cost (Some' a x) b = row_part qs cost x b false

-- the same of a list as code has it
abbrev pub list_part : List Part → (ℕ → ℕ) → List Stmt → ℕ → Bool → Part
list_part qs cost [] b run = pending_block run (cost b)
list_part qs cost (s ∷ rest) b run =
    if is_simple s then list_part qs cost rest b true else sequence (pending_block run (cost b))
    (sequence (part qs cost s (block_past_run run b)) (list_part qs cost rest (block_past_run run b
    + blocks s false) false))

-- the costs of the blocks of the function number f
abbrev pub costs_in : Costs → ℕ → ℕ → ℕ
costs_in t f b = block_cost t (block f b)

-- the function number f, over those above it
abbrev pub func_part : Costs → ℕ → Func → List Part → Part
func_part t f func qs = list_part qs (costs_in t f) func.body 0 false

-- each function, over those above it
abbrev pub function_parts : Costs → List Part → List Func → List Part
function_parts t qs [] = qs
function_parts t qs (f ∷ fs) = function_parts t (qs ++ func_part t (length qs) f qs ∷ []) fs

-- the entry function's body
unfoldable pub entry_part : Program → Costs → Part
entry_part p t = unwrap_or (slice_get (function_parts t [] p.funcs) p.entry) Nothing

-- a program's part: the entry function's body, whose `return` leads to its end
abbrev pub program_part : Program → Costs → Part
program_part p t = Body (entry_part p t)

-- the step of a `for`, as code has it
abbrev pub step_part : Option Stmt → ℕ → Option ℕ
step_part None c = None
step_part (Some s) c = Some c
