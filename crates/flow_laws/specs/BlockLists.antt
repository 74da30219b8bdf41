-- The blocks of a function, in the order of their numbers, with their statements, and what they tell of what a node
-- does. This project's own.
use Rattle.std.specs.Prelude.{ℕ, zero, suc, nat_lt, if◌then◌else◌, List, [], ◌∷◌, ◌++◌, slice_get, Option, Some, None}
use Rattle.c_tree.specs.declared.tree.Ty.{Ty}
use Rattle.c_tree.specs.declared.tree.Expr.{Expr}
use Rattle.c_tree.specs.declared.tree.Target.{Target}
use Rattle.c_tree.specs.declared.tree.Stmt.{Stmt, Row_of-Stmt, end_of-Stmt, more_of-Stmt, Held-Stmt-For-1, None', Some'}
use Rattle.c_tree.specs.declared.tree.Stmt.TheVariants.{
  Empty,
  Scalar,
  Array,
  Assign,
  Call,
  Break,
  Continue,
  Return,
  If',
  While',
  Do',
  For',
  Group',
}
use Rattle.c_tree.specs.declared.program.BlockName.{BlockName}
use Rattle.c_tree.specs.declared.program.Func.{Func}
use Rattle.c_tree.specs.declared.program.Program.{Program}
use Rattle.c_tree.specs.Meaning.Blocks.{is_simple}
use Rattle.flow_laws.specs.Sites.{Content, Entry, Exit, Simple, Test, Jump, Give, Enter, Missing, Land}

-- a block: a run of simple statements, a condition, a jump, a `return` or a call
pub data Block : Type 0 where
  Run : (ss : List Stmt) → Block
  Asks : (e : Expr) → Block
  Jumps : Block
  Gives : (e : Option Expr) → Block
  Calls : (target : Target) (callee : ℕ) (es : List Expr) → Block

-- of a run of simple statements, which may be none
abbrev pub block_of_run : List Stmt → List Block
block_of_run [] = []
block_of_run (s ∷ ss) = Run (s ∷ ss) ∷ []

unfoldable mutual
  -- the blocks of a statement that is not simple
  pub blocks_of_stmt : Stmt → List Block
  blocks_of_stmt Empty = []
  blocks_of_stmt (Scalar l e) = []
  blocks_of_stmt (Array l es) = []
  blocks_of_stmt (Assign p o e) = []
  blocks_of_stmt (Call t g es) = Calls t g es ∷ []
  blocks_of_stmt Break = Jumps ∷ []
  blocks_of_stmt Continue = Jumps ∷ []
  blocks_of_stmt (Return e) = Gives e ∷ []
  blocks_of_stmt (If' e a x b y) = Asks e ∷ (blocks_of_row [] x ++ blocks_of_row [] y)
  blocks_of_stmt (While' l e a x) = Asks e ∷ blocks_of_row [] x
  blocks_of_stmt (Do' l a x e) = blocks_of_row [] x ++ Asks e ∷ []
  blocks_of_stmt (For' l i e j a x) = blocks_of_held i ++ (Asks e ∷ (blocks_of_held j ++ blocks_of_row [] x))
  blocks_of_stmt (Group' a x) = blocks_of_row [] x

  -- those of a list, after the simple statements ss of its first block
  pub blocks_of_row : {m : _} → List Stmt → Row_of-Stmt m → List Block
  blocks_of_row ss end_of-Stmt = block_of_run ss
  blocks_of_row ss (more_of-Stmt s rest) =
      if is_simple s then blocks_of_row (ss ++ s ∷ []) rest else block_of_run ss
      ++ (blocks_of_stmt s ++ blocks_of_row [] rest)

  pub blocks_of_held : Held-Stmt-For-1 → List Block
  blocks_of_held None' = []
  blocks_of_held (Some' a x) = blocks_of_row [] x

abbrev pub blocks_of_list : List Stmt → List Stmt → List Block
blocks_of_list ss [] = block_of_run ss
blocks_of_list ss (s ∷ rest) =
    if is_simple s then blocks_of_list (ss ++ s ∷ []) rest else block_of_run ss
    ++ (blocks_of_stmt s ++ blocks_of_list [] rest)

-- the blocks of a function
abbrev pub blocks_of_body : Func → List Block
blocks_of_body f = blocks_of_list [] f.body

abbrev pub blocks_in : Option Func → List Block
blocks_in None = []
blocks_in (Some f) = blocks_of_body f

-- those of the function number k of the program
abbrev pub blocks_of_func : Program → ℕ → List Block
blocks_of_func p k = blocks_in (slice_get p.funcs k)

-- the block of a name, if the program has it
abbrev pub block_at : Program → BlockName → Option Block
block_at p b = slice_get (blocks_of_func p b.func) b.number

-- ---- what a node does, told by its block

-- without the loop of a condition, which acting does not look at
abbrev pub plain : Content → Content
plain Entry = Entry
plain Exit = Exit
plain (Simple ss) = Simple ss
plain (Test l e) = Test None e
plain Jump = Jump
plain (Give e) = Give e
plain (Enter t ls es) = Enter t ls es
plain Missing = Missing
plain (Land t ty b) = Land t ty b

-- a call of this function
abbrev pub call_content : Option Func → Target → List Expr → Content
call_content None t es = Missing
call_content (Some f) t es = Enter t f.locals es

-- a copy of a block of the function number k, from which those above it can be called
abbrev pub block_content : Program → ℕ → Option Block → Content
block_content p k None = Missing
block_content p k (Some (Run ss)) = Simple ss
block_content p k (Some (Asks e)) = Test None e
block_content p k (Some Jumps) = Jump
block_content p k (Some (Gives e)) = Give e
block_content p k (Some (Calls t g es)) = if nat_lt g k then call_content (slice_get p.funcs g) t es else Missing

abbrev pub result_of_func : Option Func → Option Ty
result_of_func None = None
result_of_func (Some f) = f.result

-- the landing of the call that is the block of this name: it has the call's target, and the type of the callee's result
abbrev pub landing_at_block : Program → BlockName → Option Block → Content
landing_at_block p b (Some (Calls t g es)) = Land t (result_of_func (slice_get p.funcs g)) b
landing_at_block p b _ = Missing

abbrev pub landing_content : Program → Option BlockName → Content
landing_content p None = Missing
landing_content p (Some b) = landing_at_block p b (block_at p b)

-- the node number n, which is no copy of a block; of a landing with the block of its call
abbrev pub bare_content : Program → ℕ → Option BlockName → Content
bare_content p zero c = Entry
bare_content p (suc zero) c = Exit
bare_content p (suc (suc n)) c = landing_content p c
