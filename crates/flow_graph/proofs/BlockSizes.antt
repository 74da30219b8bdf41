-- A part has at least as many nodes as blocks.
use Rattle.std.proofs.Common.{◌≤◌, Bool, false, List, [], ◌∷◌, Option, Some, None, arith}
use Rattle.std.specs.Prelude.{slice_get}
use Rattle.c_tree.specs.declared.tree.Stmt.{Stmt, Row_of-Stmt, end_of-Stmt, more_of-Stmt, Held-Stmt-For-1, None', Some'}
use Rattle.c_tree.specs.declared.tree.Stmt.TheVariants.{Empty, Scalar, Array, Assign, Call, Break, Continue, Return, If', While', Do', For', Group'}
use Rattle.c_tree.specs.Meaning.Blocks.{is_simple, blocks, row_blocks, held_blocks, list_blocks}
use Rattle.flow_laws.specs.Sites.{Copy, call_size, site_count, row_size, held_size, list_size}

call_blocks : (o : Option Copy) → 1 ≤ call_size o
call_blocks None = omega arith
call_blocks (Some c) = omega arith

mutual
  unfolding site_count row_size held_size blocks row_blocks held_blocks

  pub blocks_le : (cs : List Copy) (st : Stmt) (run : Bool) → blocks st run ≤ site_count cs st run
  blocks_le cs Empty run = omega arith
  blocks_le cs (Scalar l e) run = omega arith
  blocks_le cs (Array l es) run = omega arith
  blocks_le cs (Assign p op e) run = omega arith
  blocks_le cs (Call t g es) run = call_blocks (slice_get cs g)
  blocks_le cs Break run = omega arith
  blocks_le cs Continue run = omega arith
  blocks_le cs (Return e) run = omega arith
  blocks_le cs (If' e a x b y) run = omega (arith, row_blocks_le cs x false, row_blocks_le cs y false)
  blocks_le cs (While' k e a x) run = omega (arith, row_blocks_le cs x false)
  blocks_le cs (Do' k a x e) run = omega (arith, row_blocks_le cs x false)
  blocks_le cs (For' k i e j a x) run = omega (arith, held_blocks_le cs i, held_blocks_le cs j, row_blocks_le cs x false)
  blocks_le cs (Group' a x) run = row_blocks_le cs x false

  row_blocks_le : {m : _} (cs : List Copy) (x : Row_of-Stmt m) (run : Bool) → row_blocks x run ≤ row_size cs x run
  row_blocks_le cs end_of-Stmt run = omega arith
  row_blocks_le cs (more_of-Stmt s rest) run = omega (arith, blocks_le cs s run, row_blocks_le cs rest (is_simple s))

  held_blocks_le : (cs : List Copy) (x : Held-Stmt-For-1) → held_blocks x ≤ held_size cs x
  held_blocks_le cs None' = omega arith
  held_blocks_le cs (Some' a x) = row_blocks_le cs x false

pub list_blocks_le : (cs : List Copy) (xs : List Stmt) (run : Bool) → list_blocks xs run ≤ list_size cs xs run
list_blocks_le cs [] run = omega arith
list_blocks_le cs (x ∷ xs) run = omega (arith, blocks_le cs x run, list_blocks_le cs xs (is_simple x))
