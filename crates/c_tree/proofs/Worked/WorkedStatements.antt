-- Worked statements, computed.
use Rattle.std.proofs.Common.{◌≡◌, Some, None, [], ◌∷◌, false, refl}
use Rattle.c_tree.specs.declared.tree.Expr.TheBlock as eb
use denote.Hole.Carrier as carrier
use Rattle.c_tree.specs.Meaning.Expressions as expressions
use Rattle.c_tree.specs.declared.tree.Stmt.TheBlock as sb
use Rattle.c_tree.specs.Meaning.Blocks as blocks
use Rattle.c_tree.specs.Meaning.Statements as statements
use Rattle.c_tree.specs.declared.tree.Ty.TheVariants as ty
use Rattle.c_tree.specs.declared.tree.UnOp.TheVariants as un
use Rattle.c_tree.specs.declared.tree.BinOp.TheVariants as bin
use Rattle.c_tree.specs.declared.tree.Var.TheVariants.{Local}
use Rattle.c_tree.specs.declared.tree.Expr.TheVariants.{Num, Elem, Un, Bin}
use Rattle.c_tree.specs.declared.tree.Place.TheVariants as place
use Rattle.c_tree.specs.declared.tree.Target.TheVariants as target
use Rattle.c_tree.specs.declared.tree.Stmt.TheVariants.{Empty, Scalar, Array, Assign, Call}
use Rattle.c_tree.specs.declared.tree.Stmt.TheVariants.{Break, Continue, If, While, Do, For, Group}
use Rattle.c_tree.specs.declared.value.Value.TheVariants.{Unsigned}
use Rattle.c_tree.specs.declared.value.Slot.TheVariants.{Unset, Numbers}
use Rattle.c_tree.specs.declared.value.Way.TheVariants as way
use Rattle.c_tree.specs.Meaning.Literals.{plus, minus}
use Rattle.c_tree.specs.Meaning.Blocks.{list_blocks}
use Rattle.c_tree.specs.Meaning.Statements.{simple, Ends, Undefined, OverBound}
use Rattle.c_tree.specs.Meaning.Worked.{num, local, declares, sets, increment, store, unset, holds, lists, effect, own_block}

-- ---- declarations

pub declarations-no_initialiser : simple (Scalar 0 None) (holds (plus 31)) ≡ Some unset
unfolding eb.shape-the_row-Expr-0 eb.hidden-the_row-Expr-0 sb.shape-the_row-Stmt-0 sb.hidden-the_row-Stmt-0 sb.shape-the_row-Stmt-1 sb.hidden-the_row-Stmt-1 carrier.hidden expressions.val expressions.row_val expressions.type_of expressions.row_type statements.exec statements.row_exec statements.held_exec blocks.blocks blocks.row_blocks blocks.held_blocks
declarations-no_initialiser = refl

pub declarations-own_initialiser : simple (declares 0 (local 0)) (holds (plus 31)) ≡ None
unfolding eb.shape-the_row-Expr-0 eb.hidden-the_row-Expr-0 sb.shape-the_row-Stmt-0 sb.hidden-the_row-Stmt-0 sb.shape-the_row-Stmt-1 sb.hidden-the_row-Stmt-1 carrier.hidden expressions.val expressions.row_val expressions.type_of expressions.row_type statements.exec statements.row_exec statements.held_exec blocks.blocks blocks.row_blocks blocks.held_blocks
declarations-own_initialiser = refl

pub declarations-own_list : simple (Array 0 (Elem (Local 0) (num 0) ∷ [])) (lists ty.Int (plus 31 ∷ [])) ≡ None
unfolding eb.shape-the_row-Expr-0 eb.hidden-the_row-Expr-0 sb.shape-the_row-Stmt-0 sb.hidden-the_row-Stmt-0 sb.shape-the_row-Stmt-1 sb.hidden-the_row-Stmt-1 carrier.hidden expressions.val expressions.row_val expressions.type_of expressions.row_type statements.exec statements.row_exec statements.held_exec blocks.blocks blocks.row_blocks blocks.held_blocks
declarations-own_list = refl

pub declarations-converted : simple (Scalar 0 (Some (Num ty.Unsigned 4294967295))) unset ≡ Some (holds (minus 1))
unfolding eb.shape-the_row-Expr-0 eb.hidden-the_row-Expr-0 sb.shape-the_row-Stmt-0 sb.hidden-the_row-Stmt-0 sb.shape-the_row-Stmt-1 sb.hidden-the_row-Stmt-1 carrier.hidden expressions.val expressions.row_val expressions.type_of expressions.row_type statements.exec statements.row_exec statements.held_exec blocks.blocks blocks.row_blocks blocks.held_blocks
declarations-converted = refl

pub declarations-filled : simple (Array 0 (num 31 ∷ [])) (lists ty.Unsigned (Unsigned 1 ∷ Unsigned 2 ∷ Unsigned 3 ∷ [])) ≡ Some (lists ty.Unsigned (Unsigned 31 ∷ Unsigned 0 ∷ Unsigned 0 ∷ []))
unfolding eb.shape-the_row-Expr-0 eb.hidden-the_row-Expr-0 sb.shape-the_row-Stmt-0 sb.hidden-the_row-Stmt-0 sb.shape-the_row-Stmt-1 sb.hidden-the_row-Stmt-1 carrier.hidden expressions.val expressions.row_val expressions.type_of expressions.row_type statements.exec statements.row_exec statements.held_exec blocks.blocks blocks.row_blocks blocks.held_blocks
declarations-filled = refl

-- ---- assignments

pub assignments-converted : simple (sets 0 None (Num ty.Unsigned 2147483648)) unset ≡ Some (holds (minus 2147483648))
unfolding eb.shape-the_row-Expr-0 eb.hidden-the_row-Expr-0 sb.shape-the_row-Stmt-0 sb.hidden-the_row-Stmt-0 sb.shape-the_row-Stmt-1 sb.hidden-the_row-Stmt-1 carrier.hidden expressions.val expressions.row_val expressions.type_of expressions.row_type statements.exec statements.row_exec statements.held_exec blocks.blocks blocks.row_blocks blocks.held_blocks
assignments-converted = refl

pub assignments-compound : simple (sets 0 (Some bin.Sub) (num 32)) (holds (Unsigned 31)) ≡ Some (holds (Unsigned 4294967295))
unfolding eb.shape-the_row-Expr-0 eb.hidden-the_row-Expr-0 sb.shape-the_row-Stmt-0 sb.hidden-the_row-Stmt-0 sb.shape-the_row-Stmt-1 sb.hidden-the_row-Stmt-1 carrier.hidden expressions.val expressions.row_val expressions.type_of expressions.row_type statements.exec statements.row_exec statements.held_exec blocks.blocks blocks.row_blocks blocks.held_blocks
assignments-compound = refl

pub assignments-compound_unset : simple (sets 0 (Some bin.Add) (num 1)) unset ≡ None
unfolding eb.shape-the_row-Expr-0 eb.hidden-the_row-Expr-0 sb.shape-the_row-Stmt-0 sb.hidden-the_row-Stmt-0 sb.shape-the_row-Stmt-1 sb.hidden-the_row-Stmt-1 carrier.hidden expressions.val expressions.row_val expressions.type_of expressions.row_type statements.exec statements.row_exec statements.held_exec blocks.blocks blocks.row_blocks blocks.held_blocks
assignments-compound_unset = refl

pub assignments-overflow : simple (increment 0) (holds (plus 2147483647)) ≡ None
unfolding eb.shape-the_row-Expr-0 eb.hidden-the_row-Expr-0 sb.shape-the_row-Stmt-0 sb.hidden-the_row-Stmt-0 sb.shape-the_row-Stmt-1 sb.hidden-the_row-Stmt-1 carrier.hidden expressions.val expressions.row_val expressions.type_of expressions.row_type statements.exec statements.row_exec statements.held_exec blocks.blocks blocks.row_blocks blocks.held_blocks
assignments-overflow = refl

pub assignments-element : simple (Assign (place.Elem (Local 0) (num 1)) (Some bin.Mul) (num 31)) (lists ty.Int (plus 1 ∷ plus 2 ∷ [])) ≡ Some (lists ty.Int (plus 1 ∷ plus 62 ∷ []))
unfolding eb.shape-the_row-Expr-0 eb.hidden-the_row-Expr-0 sb.shape-the_row-Stmt-0 sb.hidden-the_row-Stmt-0 sb.shape-the_row-Stmt-1 sb.hidden-the_row-Stmt-1 carrier.hidden expressions.val expressions.row_val expressions.type_of expressions.row_type statements.exec statements.row_exec statements.held_exec blocks.blocks blocks.row_blocks blocks.held_blocks
assignments-element = refl

pub assignments-outside : simple (Assign (place.Elem (Local 0) (num 2)) None (num 31)) (lists ty.Int (plus 1 ∷ plus 2 ∷ [])) ≡ None
unfolding eb.shape-the_row-Expr-0 eb.hidden-the_row-Expr-0 sb.shape-the_row-Stmt-0 sb.hidden-the_row-Stmt-0 sb.shape-the_row-Stmt-1 sb.hidden-the_row-Stmt-1 carrier.hidden expressions.val expressions.row_val expressions.type_of expressions.row_type statements.exec statements.row_exec statements.held_exec blocks.blocks blocks.row_blocks blocks.held_blocks
assignments-outside = refl

pub assignments-below : simple (Assign (place.Elem (Local 0) (Un un.Minus (num 1))) None (num 31)) (lists ty.Int (plus 1 ∷ [])) ≡ None
unfolding eb.shape-the_row-Expr-0 eb.hidden-the_row-Expr-0 sb.shape-the_row-Stmt-0 sb.hidden-the_row-Stmt-0 sb.shape-the_row-Stmt-1 sb.hidden-the_row-Stmt-1 carrier.hidden expressions.val expressions.row_val expressions.type_of expressions.row_type statements.exec statements.row_exec statements.held_exec blocks.blocks blocks.row_blocks blocks.held_blocks
assignments-below = refl

pub assignments-undefined_index : simple (Assign (place.Elem (Local 0) (local 1)) None (num 31)) (store (Numbers ty.Int (plus 1 ∷ []) ∷ Unset ty.Int ∷ [])) ≡ None
unfolding eb.shape-the_row-Expr-0 eb.hidden-the_row-Expr-0 sb.shape-the_row-Stmt-0 sb.hidden-the_row-Stmt-0 sb.shape-the_row-Stmt-1 sb.hidden-the_row-Stmt-1 carrier.hidden expressions.val expressions.row_val expressions.type_of expressions.row_type statements.exec statements.row_exec statements.held_exec blocks.blocks blocks.row_blocks blocks.held_blocks
assignments-undefined_index = refl

pub assignments-undefined_value : simple (sets 0 None (Bin bin.Div (num 1) (num 0))) unset ≡ None
unfolding eb.shape-the_row-Expr-0 eb.hidden-the_row-Expr-0 sb.shape-the_row-Stmt-0 sb.hidden-the_row-Stmt-0 sb.shape-the_row-Stmt-1 sb.hidden-the_row-Stmt-1 carrier.hidden expressions.val expressions.row_val expressions.type_of expressions.row_type statements.exec statements.row_exec statements.held_exec blocks.blocks blocks.row_blocks blocks.held_blocks
assignments-undefined_value = refl

pub assignments-nothing : simple Empty unset ≡ Some unset
unfolding eb.shape-the_row-Expr-0 eb.hidden-the_row-Expr-0 sb.shape-the_row-Stmt-0 sb.hidden-the_row-Stmt-0 sb.shape-the_row-Stmt-1 sb.hidden-the_row-Stmt-1 carrier.hidden expressions.val expressions.row_val expressions.type_of expressions.row_type statements.exec statements.row_exec statements.held_exec blocks.blocks blocks.row_blocks blocks.held_blocks
assignments-nothing = refl

-- ---- block counts

pub block_counts-run : list_blocks (Empty ∷ declares 0 (num 1) ∷ increment 0 ∷ []) false ≡ 1
unfolding eb.shape-the_row-Expr-0 eb.hidden-the_row-Expr-0 sb.shape-the_row-Stmt-0 sb.hidden-the_row-Stmt-0 sb.shape-the_row-Stmt-1 sb.hidden-the_row-Stmt-1 carrier.hidden expressions.val expressions.row_val expressions.type_of expressions.row_type statements.exec statements.row_exec statements.held_exec blocks.blocks blocks.row_blocks blocks.held_blocks
block_counts-run = refl

pub block_counts-group : list_blocks (increment 0 ∷ Group (increment 0 ∷ []) ∷ increment 0 ∷ []) false ≡ 3
unfolding eb.shape-the_row-Expr-0 eb.hidden-the_row-Expr-0 sb.shape-the_row-Stmt-0 sb.hidden-the_row-Stmt-0 sb.shape-the_row-Stmt-1 sb.hidden-the_row-Stmt-1 carrier.hidden expressions.val expressions.row_val expressions.type_of expressions.row_type statements.exec statements.row_exec statements.held_exec blocks.blocks blocks.row_blocks blocks.held_blocks
block_counts-group = refl

pub block_counts-call : list_blocks (increment 0 ∷ Call (target.Declare 1) 0 [] ∷ increment 0 ∷ []) false ≡ 3
unfolding eb.shape-the_row-Expr-0 eb.hidden-the_row-Expr-0 sb.shape-the_row-Stmt-0 sb.hidden-the_row-Stmt-0 sb.shape-the_row-Stmt-1 sb.hidden-the_row-Stmt-1 carrier.hidden expressions.val expressions.row_val expressions.type_of expressions.row_type statements.exec statements.row_exec statements.held_exec blocks.blocks blocks.row_blocks blocks.held_blocks
block_counts-call = refl

pub block_counts-jumps : list_blocks (Break ∷ Continue ∷ []) false ≡ 2
unfolding eb.shape-the_row-Expr-0 eb.hidden-the_row-Expr-0 sb.shape-the_row-Stmt-0 sb.hidden-the_row-Stmt-0 sb.shape-the_row-Stmt-1 sb.hidden-the_row-Stmt-1 carrier.hidden expressions.val expressions.row_val expressions.type_of expressions.row_type statements.exec statements.row_exec statements.held_exec blocks.blocks blocks.row_blocks blocks.held_blocks
block_counts-jumps = refl

pub block_counts-choice : list_blocks (If (num 1) (increment 0 ∷ []) [] ∷ []) false ≡ 2
unfolding eb.shape-the_row-Expr-0 eb.hidden-the_row-Expr-0 sb.shape-the_row-Stmt-0 sb.hidden-the_row-Stmt-0 sb.shape-the_row-Stmt-1 sb.hidden-the_row-Stmt-1 carrier.hidden expressions.val expressions.row_val expressions.type_of expressions.row_type statements.exec statements.row_exec statements.held_exec blocks.blocks blocks.row_blocks blocks.held_blocks
block_counts-choice = refl

pub block_counts-full_for : list_blocks (For 1 (Some (declares 0 (num 0))) (num 1) (Some (increment 0)) (Empty ∷ []) ∷ []) false ≡ 4
unfolding eb.shape-the_row-Expr-0 eb.hidden-the_row-Expr-0 sb.shape-the_row-Stmt-0 sb.hidden-the_row-Stmt-0 sb.shape-the_row-Stmt-1 sb.hidden-the_row-Stmt-1 carrier.hidden expressions.val expressions.row_val expressions.type_of expressions.row_type statements.exec statements.row_exec statements.held_exec blocks.blocks blocks.row_blocks blocks.held_blocks
block_counts-full_for = refl

pub block_counts-bare_for : list_blocks (For 1 None (num 1) None [] ∷ []) false ≡ 1
unfolding eb.shape-the_row-Expr-0 eb.hidden-the_row-Expr-0 sb.shape-the_row-Stmt-0 sb.hidden-the_row-Stmt-0 sb.shape-the_row-Stmt-1 sb.hidden-the_row-Stmt-1 carrier.hidden expressions.val expressions.row_val expressions.type_of expressions.row_type statements.exec statements.row_exec statements.held_exec blocks.blocks blocks.row_blocks blocks.held_blocks
block_counts-bare_for = refl

pub block_counts-do_loop : list_blocks (Do 1 (increment 0 ∷ []) (num 0) ∷ []) false ≡ 2
unfolding eb.shape-the_row-Expr-0 eb.hidden-the_row-Expr-0 sb.shape-the_row-Stmt-0 sb.hidden-the_row-Stmt-0 sb.shape-the_row-Stmt-1 sb.hidden-the_row-Stmt-1 carrier.hidden expressions.val expressions.row_val expressions.type_of expressions.row_type statements.exec statements.row_exec statements.held_exec blocks.blocks blocks.row_blocks blocks.held_blocks
block_counts-do_loop = refl

-- ---- traces

pub traces-else_list : effect (increment 0 ∷ Empty ∷ If (num 0) (increment 0 ∷ []) (increment 0 ∷ []) ∷ []) (holds (plus 0)) ≡ Ends (own_block 0 ∷ own_block 1 ∷ own_block 3 ∷ []) (holds (plus 2)) way.Next
unfolding eb.shape-the_row-Expr-0 eb.hidden-the_row-Expr-0 sb.shape-the_row-Stmt-0 sb.hidden-the_row-Stmt-0 sb.shape-the_row-Stmt-1 sb.hidden-the_row-Stmt-1 carrier.hidden expressions.val expressions.row_val expressions.type_of expressions.row_type statements.exec statements.row_exec statements.held_exec blocks.blocks blocks.row_blocks blocks.held_blocks
traces-else_list = refl

pub traces-for_continue : effect (For 1 (Some (sets 0 None (num 0))) (Bin bin.Lt (local 0) (num 1)) (Some (increment 0)) (Continue ∷ []) ∷ []) unset ≡ Ends (own_block 0 ∷ own_block 1 ∷ own_block 3 ∷ own_block 2 ∷ own_block 1 ∷ []) (holds (plus 1)) way.Next
unfolding eb.shape-the_row-Expr-0 eb.hidden-the_row-Expr-0 sb.shape-the_row-Stmt-0 sb.hidden-the_row-Stmt-0 sb.shape-the_row-Stmt-1 sb.hidden-the_row-Stmt-1 carrier.hidden expressions.val expressions.row_val expressions.type_of expressions.row_type statements.exec statements.row_exec statements.held_exec blocks.blocks blocks.row_blocks blocks.held_blocks
traces-for_continue = refl

pub traces-while_break : effect (While 1 (num 1) (Break ∷ []) ∷ []) (store []) ≡ Ends (own_block 0 ∷ own_block 1 ∷ []) (store []) way.Next
unfolding eb.shape-the_row-Expr-0 eb.hidden-the_row-Expr-0 sb.shape-the_row-Stmt-0 sb.hidden-the_row-Stmt-0 sb.shape-the_row-Stmt-1 sb.hidden-the_row-Stmt-1 carrier.hidden expressions.val expressions.row_val expressions.type_of expressions.row_type statements.exec statements.row_exec statements.held_exec blocks.blocks blocks.row_blocks blocks.held_blocks
traces-while_break = refl

pub traces-do_continue : effect (Do 1 (Continue ∷ []) (num 0) ∷ []) (store []) ≡ Ends (own_block 0 ∷ own_block 1 ∷ []) (store []) way.Next
unfolding eb.shape-the_row-Expr-0 eb.hidden-the_row-Expr-0 sb.shape-the_row-Stmt-0 sb.hidden-the_row-Stmt-0 sb.shape-the_row-Stmt-1 sb.hidden-the_row-Stmt-1 carrier.hidden expressions.val expressions.row_val expressions.type_of expressions.row_type statements.exec statements.row_exec statements.held_exec blocks.blocks blocks.row_blocks blocks.held_blocks
traces-do_continue = refl

pub traces-undefined_first : effect (While 1 (num 1) (sets 0 None (Bin bin.Div (num 1) (num 0)) ∷ []) ∷ []) unset ≡ Undefined
unfolding eb.shape-the_row-Expr-0 eb.hidden-the_row-Expr-0 sb.shape-the_row-Stmt-0 sb.hidden-the_row-Stmt-0 sb.shape-the_row-Stmt-1 sb.hidden-the_row-Stmt-1 carrier.hidden expressions.val expressions.row_val expressions.type_of expressions.row_type statements.exec statements.row_exec statements.held_exec blocks.blocks blocks.row_blocks blocks.held_blocks
traces-undefined_first = refl

pub traces-bound_first : effect (While 1 (num 1) (Empty ∷ []) ∷ sets 0 None (Bin bin.Div (num 1) (num 0)) ∷ []) unset ≡ OverBound
unfolding eb.shape-the_row-Expr-0 eb.hidden-the_row-Expr-0 sb.shape-the_row-Stmt-0 sb.hidden-the_row-Stmt-0 sb.shape-the_row-Stmt-1 sb.hidden-the_row-Stmt-1 carrier.hidden expressions.val expressions.row_val expressions.type_of expressions.row_type statements.exec statements.row_exec statements.held_exec blocks.blocks blocks.row_blocks blocks.held_blocks
traces-bound_first = refl
