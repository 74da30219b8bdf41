-- The type and the value of an expression, one layer at a time, as code opens it.
use Rattle.std.proofs.Common.{◌≡◌, ℕ, Some, option_map, refl}
use Rattle.std.specs.Prelude.{option_and_then}
use Rattle.c_tree.specs.declared.tree.Ty.{Ty}
use Rattle.c_tree.specs.declared.tree.UnOp.{UnOp}
use Rattle.c_tree.specs.declared.tree.BinOp.{BinOp}
use Rattle.c_tree.specs.declared.tree.Var.{Var}
use Rattle.c_tree.specs.declared.tree.Expr.{Expr}
use Rattle.c_tree.specs.declared.tree.Expr.TheVariants.{Num, Name, Elem, Un, Cast, Bin, Cond}
use Rattle.c_tree.specs.declared.tree.Expr.TheBlock.{shape-the_row-Expr-0, hidden-the_row-Expr-0}
use denote.Hole.Carrier.{hidden}
use Rattle.c_tree.specs.declared.value.Store.{Store}
use Rattle.c_tree.specs.Meaning.Values.{common, convert, of_word}
use Rattle.c_tree.specs.Meaning.Operators.{unary, operation_value}
use Rattle.c_tree.specs.Meaning.Stores.{slot, slot_ty, number_in}
use Rattle.c_tree.specs.Meaning.Expressions.{element, un_ty, bin_ty, type_of, row_type, choice_value, val, row_val}

pub val-Num : (t : Ty) (n : ℕ) (s : Store) → val (Num t n) s ≡ Some (of_word t n)
unfolding val
val-Num t n s = refl

pub val-Name : (x : Var) (s : Store) → val (Name x) s ≡ number_in (slot s x)
unfolding val
val-Name x s = refl

pub type-Num : (t : Ty) (n : ℕ) (s : Store) → type_of (Num t n) s ≡ t
unfolding type_of
type-Num t n s = refl

pub type-Name : (x : Var) (s : Store) → type_of (Name x) s ≡ slot_ty (slot s x)
unfolding type_of
type-Name x s = refl

pub val-Elem : (x : Var) (i : Expr) (s : Store) → val (Elem x i) s ≡ element (slot s x) (val i s)
unfolding val row_val type_of row_type shape-the_row-Expr-0 hidden-the_row-Expr-0 hidden
val-Elem x i s = refl

pub val-Un : (op : UnOp) (a : Expr) (s : Store) → val (Un op a) s ≡ option_and_then (unary op) (val a s)
unfolding val row_val type_of row_type shape-the_row-Expr-0 hidden-the_row-Expr-0 hidden
val-Un op a s = refl

pub val-Cast : (t : Ty) (a : Expr) (s : Store) → val (Cast t a) s ≡ option_map (convert t) (val a s)
unfolding val row_val type_of row_type shape-the_row-Expr-0 hidden-the_row-Expr-0 hidden
val-Cast t a s = refl

pub val-Bin : (op : BinOp) (a b : Expr) (s : Store) → val (Bin op a b) s ≡ operation_value op (val a s) (val b s)
unfolding val row_val type_of row_type shape-the_row-Expr-0 hidden-the_row-Expr-0 hidden
val-Bin op a b s = refl

pub val-Cond : (c a b : Expr) (s : Store) → val (Cond c a b) s ≡ choice_value (val c s) (common (type_of a s) (type_of b s)) (val a s) (val b s)
unfolding val row_val type_of row_type shape-the_row-Expr-0 hidden-the_row-Expr-0 hidden
val-Cond c a b s = refl

pub type-Elem : (x : Var) (i : Expr) (s : Store) → type_of (Elem x i) s ≡ slot_ty (slot s x)
unfolding val row_val type_of row_type shape-the_row-Expr-0 hidden-the_row-Expr-0 hidden
type-Elem x i s = refl

pub type-Un : (op : UnOp) (a : Expr) (s : Store) → type_of (Un op a) s ≡ un_ty op (type_of a s)
unfolding val row_val type_of row_type shape-the_row-Expr-0 hidden-the_row-Expr-0 hidden
type-Un op a s = refl

pub type-Cast : (t : Ty) (a : Expr) (s : Store) → type_of (Cast t a) s ≡ t
unfolding val row_val type_of row_type shape-the_row-Expr-0 hidden-the_row-Expr-0 hidden
type-Cast t a s = refl

pub type-Bin : (op : BinOp) (a b : Expr) (s : Store) → type_of (Bin op a b) s ≡ bin_ty op (type_of a s) (type_of b s)
unfolding val row_val type_of row_type shape-the_row-Expr-0 hidden-the_row-Expr-0 hidden
type-Bin op a b s = refl

pub type-Cond : (c a b : Expr) (s : Store) → type_of (Cond c a b) s ≡ common (type_of a s) (type_of b s)
unfolding val row_val type_of row_type shape-the_row-Expr-0 hidden-the_row-Expr-0 hidden
type-Cond c a b s = refl

pub ruleset val_layers = (val-Num, val-Name, type-Num, type-Name, val-Elem, val-Un, val-Cast, val-Bin, val-Cond, type-Elem, type-Un, type-Cast, type-Bin, type-Cond)
