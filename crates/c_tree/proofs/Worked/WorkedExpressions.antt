-- Worked expressions, computed.
use Rattle.std.proofs.Common.{◌≡◌, Some, None, [], ◌∷◌, refl}
use Rattle.c_tree.specs.declared.tree.Expr.TheBlock as eb
use denote.Hole.Carrier as carrier
use Rattle.c_tree.specs.Meaning.Expressions as expressions
use Rattle.c_tree.specs.declared.tree.Ty.TheVariants as ty
use Rattle.c_tree.specs.declared.tree.UnOp.TheVariants as un
use Rattle.c_tree.specs.declared.tree.BinOp.TheVariants as bin
use Rattle.c_tree.specs.declared.tree.Var.TheVariants.{Local}
use Rattle.c_tree.specs.declared.tree.Expr.TheVariants.{Num, Elem, Un, Cast, Bin, Cond}
use Rattle.c_tree.specs.declared.value.Value.TheVariants.{Unsigned}
use Rattle.c_tree.specs.declared.value.Slot.TheVariants.{Unset}
use Rattle.c_tree.specs.Meaning.Literals.{plus, minus}
use Rattle.c_tree.specs.Meaning.Expressions.{type_of, val}
use Rattle.c_tree.specs.Meaning.Worked.{num, local, store, unset, holds, lists}

-- ---- reads

pub reads-number : val (local 0) (holds (minus 31)) ≡ Some (minus 31)
unfolding eb.shape-the_row-Expr-0 eb.hidden-the_row-Expr-0 carrier.hidden expressions.val expressions.row_val expressions.type_of expressions.row_type
reads-number = refl

pub reads-unset : val (local 0) unset ≡ None
unfolding eb.shape-the_row-Expr-0 eb.hidden-the_row-Expr-0 carrier.hidden expressions.val expressions.row_val expressions.type_of expressions.row_type
reads-unset = refl

pub reads-element : val (Elem (Local 0) (num 1)) (lists ty.Int (plus 31 ∷ plus 32 ∷ [])) ≡ Some (plus 32)
unfolding eb.shape-the_row-Expr-0 eb.hidden-the_row-Expr-0 carrier.hidden expressions.val expressions.row_val expressions.type_of expressions.row_type
reads-element = refl

pub reads-at_length : val (Elem (Local 0) (num 2)) (lists ty.Int (plus 31 ∷ plus 32 ∷ [])) ≡ None
unfolding eb.shape-the_row-Expr-0 eb.hidden-the_row-Expr-0 carrier.hidden expressions.val expressions.row_val expressions.type_of expressions.row_type
reads-at_length = refl

pub reads-below : val (Elem (Local 0) (Un un.Minus (num 1))) (lists ty.Int (plus 31 ∷ [])) ≡ None
unfolding eb.shape-the_row-Expr-0 eb.hidden-the_row-Expr-0 carrier.hidden expressions.val expressions.row_val expressions.type_of expressions.row_type
reads-below = refl

pub reads-far : val (Elem (Local 0) (Num ty.Unsigned 4294967295)) (lists ty.Int (plus 31 ∷ [])) ≡ None
unfolding eb.shape-the_row-Expr-0 eb.hidden-the_row-Expr-0 carrier.hidden expressions.val expressions.row_val expressions.type_of expressions.row_type
reads-far = refl

pub reads-unset_array : val (Elem (Local 0) (num 0)) unset ≡ None
unfolding eb.shape-the_row-Expr-0 eb.hidden-the_row-Expr-0 carrier.hidden expressions.val expressions.row_val expressions.type_of expressions.row_type
reads-unset_array = refl

-- ---- casts

pub casts-to_int : val (Cast ty.Int (Num ty.Unsigned 4294967295)) (store []) ≡ Some (minus 1)
unfolding eb.shape-the_row-Expr-0 eb.hidden-the_row-Expr-0 carrier.hidden expressions.val expressions.row_val expressions.type_of expressions.row_type
casts-to_int = refl

pub casts-to_unsigned : val (Cast ty.Unsigned (Un un.Minus (num 1))) (store []) ≡ Some (Unsigned 4294967295)
unfolding eb.shape-the_row-Expr-0 eb.hidden-the_row-Expr-0 carrier.hidden expressions.val expressions.row_val expressions.type_of expressions.row_type
casts-to_unsigned = refl

pub casts-of_undefined : val (Cast ty.Int (local 0)) unset ≡ None
unfolding eb.shape-the_row-Expr-0 eb.hidden-the_row-Expr-0 carrier.hidden expressions.val expressions.row_val expressions.type_of expressions.row_type
casts-of_undefined = refl

-- ---- choices

pub choices-converted : val (Cond (num 1) (Un un.Minus (num 1)) (Num ty.Unsigned 0)) (store []) ≡ Some (Unsigned 4294967295)
unfolding eb.shape-the_row-Expr-0 eb.hidden-the_row-Expr-0 carrier.hidden expressions.val expressions.row_val expressions.type_of expressions.row_type
choices-converted = refl

pub choices-second : val (Cond (num 0) (Bin bin.Div (num 1) (num 0)) (num 32)) (store []) ≡ Some (plus 32)
unfolding eb.shape-the_row-Expr-0 eb.hidden-the_row-Expr-0 carrier.hidden expressions.val expressions.row_val expressions.type_of expressions.row_type
choices-second = refl

pub choices-first : val (Cond (Num ty.Unsigned 2147483648) (num 31) (Bin bin.Div (num 1) (num 0))) (store []) ≡ Some (plus 31)
unfolding eb.shape-the_row-Expr-0 eb.hidden-the_row-Expr-0 carrier.hidden expressions.val expressions.row_val expressions.type_of expressions.row_type
choices-first = refl

pub choices-undefined_condition : val (Cond (local 0) (num 1) (num 1)) unset ≡ None
unfolding eb.shape-the_row-Expr-0 eb.hidden-the_row-Expr-0 carrier.hidden expressions.val expressions.row_val expressions.type_of expressions.row_type
choices-undefined_condition = refl

pub choices-undefined_choice : val (Cond (num 1) (local 0) (num 1)) unset ≡ None
unfolding eb.shape-the_row-Expr-0 eb.hidden-the_row-Expr-0 carrier.hidden expressions.val expressions.row_val expressions.type_of expressions.row_type
choices-undefined_choice = refl

-- ---- evaluated operands

pub evaluated_operands-and : val (Bin bin.Both (num 0) (Bin bin.Div (num 1) (num 0))) (store []) ≡ Some (plus 0)
unfolding eb.shape-the_row-Expr-0 eb.hidden-the_row-Expr-0 carrier.hidden expressions.val expressions.row_val expressions.type_of expressions.row_type
evaluated_operands-and = refl

pub evaluated_operands-or : val (Bin bin.Either (num 32) (Bin bin.Div (num 1) (num 0))) (store []) ≡ Some (plus 1)
unfolding eb.shape-the_row-Expr-0 eb.hidden-the_row-Expr-0 carrier.hidden expressions.val expressions.row_val expressions.type_of expressions.row_type
evaluated_operands-or = refl

pub evaluated_operands-and_both : val (Bin bin.Both (num 1) (Bin bin.Div (num 1) (num 0))) (store []) ≡ None
unfolding eb.shape-the_row-Expr-0 eb.hidden-the_row-Expr-0 carrier.hidden expressions.val expressions.row_val expressions.type_of expressions.row_type
evaluated_operands-and_both = refl

pub evaluated_operands-product : val (Bin bin.Mul (num 0) (Bin bin.Div (num 1) (num 0))) (store []) ≡ None
unfolding eb.shape-the_row-Expr-0 eb.hidden-the_row-Expr-0 carrier.hidden expressions.val expressions.row_val expressions.type_of expressions.row_type
evaluated_operands-product = refl

-- ---- types

pub types-sum : type_of (Bin bin.Add (num 1) (Num ty.Unsigned 1)) (store []) ≡ ty.Unsigned
unfolding eb.shape-the_row-Expr-0 eb.hidden-the_row-Expr-0 carrier.hidden expressions.val expressions.row_val expressions.type_of expressions.row_type
types-sum = refl

pub types-left_shift : type_of (Bin bin.Shl (num 1) (Num ty.Unsigned 1)) (store []) ≡ ty.Int
unfolding eb.shape-the_row-Expr-0 eb.hidden-the_row-Expr-0 carrier.hidden expressions.val expressions.row_val expressions.type_of expressions.row_type
types-left_shift = refl

pub types-right_shift : type_of (Bin bin.Shr (Num ty.Unsigned 1) (num 1)) (store []) ≡ ty.Unsigned
unfolding eb.shape-the_row-Expr-0 eb.hidden-the_row-Expr-0 carrier.hidden expressions.val expressions.row_val expressions.type_of expressions.row_type
types-right_shift = refl

pub types-relation : type_of (Bin bin.Lt (Num ty.Unsigned 1) (Num ty.Unsigned 1)) (store []) ≡ ty.Int
unfolding eb.shape-the_row-Expr-0 eb.hidden-the_row-Expr-0 carrier.hidden expressions.val expressions.row_val expressions.type_of expressions.row_type
types-relation = refl

pub types-connective : type_of (Bin bin.Both (Num ty.Unsigned 1) (Num ty.Unsigned 1)) (store []) ≡ ty.Int
unfolding eb.shape-the_row-Expr-0 eb.hidden-the_row-Expr-0 carrier.hidden expressions.val expressions.row_val expressions.type_of expressions.row_type
types-connective = refl

pub types-not : type_of (Un un.Not (Num ty.Unsigned 1)) (store []) ≡ ty.Int
unfolding eb.shape-the_row-Expr-0 eb.hidden-the_row-Expr-0 carrier.hidden expressions.val expressions.row_val expressions.type_of expressions.row_type
types-not = refl

pub types-negation : type_of (Un un.Minus (Num ty.Unsigned 1)) (store []) ≡ ty.Unsigned
unfolding eb.shape-the_row-Expr-0 eb.hidden-the_row-Expr-0 carrier.hidden expressions.val expressions.row_val expressions.type_of expressions.row_type
types-negation = refl

pub types-choice : type_of (Cond (num 1) (num 1) (Num ty.Unsigned 1)) (store []) ≡ ty.Unsigned
unfolding eb.shape-the_row-Expr-0 eb.hidden-the_row-Expr-0 carrier.hidden expressions.val expressions.row_val expressions.type_of expressions.row_type
types-choice = refl

pub types-name : type_of (local 0) (store (Unset ty.Unsigned ∷ [])) ≡ ty.Unsigned
unfolding eb.shape-the_row-Expr-0 eb.hidden-the_row-Expr-0 carrier.hidden expressions.val expressions.row_val expressions.type_of expressions.row_type
types-name = refl
