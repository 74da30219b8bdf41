-- The type of an expression, and its value, or none where it is undefined (C11 6.5).
use Rattle.std.specs.Prelude.{if◌then◌else◌, List, [], ◌∷◌, Option, Some, None, option_and_then, option_map}
use Rattle.c_tree.specs.declared.tree.Ty.{Ty}
use Rattle.c_tree.specs.declared.tree.Ty.TheVariants as ty
use Rattle.c_tree.specs.declared.tree.UnOp.{UnOp}
use Rattle.c_tree.specs.declared.tree.UnOp.TheVariants as un
use Rattle.c_tree.specs.declared.tree.BinOp.{BinOp}
use Rattle.c_tree.specs.declared.tree.BinOp.TheVariants as bin
use Rattle.c_tree.specs.declared.tree.Expr.{Expr, Row_of-Expr, end_of-Expr, more_of-Expr}
use Rattle.c_tree.specs.declared.tree.Expr.TheVariants.{Num, Name, Elem', Un', Cast', Bin', Cond'}
use Rattle.c_tree.specs.declared.value.Value.{Value}
use Rattle.c_tree.specs.declared.value.Slot.{Slot}
use Rattle.c_tree.specs.declared.value.Store.{Store}
use Rattle.c_tree.specs.Meaning.Values.{common, convert, of_word, is_nonzero}
use Rattle.c_tree.specs.Meaning.Operators.{unary, operation_value}
use Rattle.c_tree.specs.Meaning.Stores.{slot, slot_ty, number_in, number_at, index}

-- ---- types

abbrev pub un_ty : UnOp → Ty → Ty
un_ty un.Not t = ty.Int
un_ty _ t = t

-- the common type; of a shift the left operand's; of relations, `&&` and `||` `int`
abbrev pub bin_ty : BinOp → Ty → Ty → Ty
bin_ty bin.Mul a b = common a b
bin_ty bin.Div a b = common a b
bin_ty bin.Rem a b = common a b
bin_ty bin.Add a b = common a b
bin_ty bin.Sub a b = common a b
bin_ty bin.And a b = common a b
bin_ty bin.Xor a b = common a b
bin_ty bin.Or a b = common a b
bin_ty bin.Shl a b = a
bin_ty bin.Shr a b = a
bin_ty _ a b = ty.Int

-- ---- forms of a tree. A variant that holds trees in boxes or lists is written with a prime in heads of clauses
-- (`Bin'` for `Bin`). In place of each box or list it has two parts: its shape, which no clause looks at (`_`), and
-- its row of trees, of type `Row_of-Expr`: `more_of-Expr` puts one tree before a row, `end_of-Expr` is the end. What
-- may be left out is `None'` or `Some'` with a shape and a row, of a type such as `Held-Stmt-For-1`

unfoldable mutual
  -- the type of an expression, whose names have their types in the store
  pub type_of : Expr → Store → Ty
  type_of (Num t n) s = t
  type_of (Name v) s = slot_ty (slot s v)
  type_of (Elem' v _ i) s = slot_ty (slot s v)
  type_of (Un' op _ x) s = un_ty op (row_type x s)
  type_of (Cast' t _ x) s = t
  type_of (Bin' op _ x _ y) s = bin_ty op (row_type x s) (row_type y s)
  type_of (Cond' _ x _ y _ z) s = common (row_type y s) (row_type z s)

  pub row_type : {m : _} → Row_of-Expr m → Store → Ty
  row_type end_of-Expr s = ty.Int
  row_type (more_of-Expr e rest) s = type_of e s

-- ---- values

-- an element: undefined where the index is, is negative, or lies outside the array
abbrev pub element : Option Slot → Option Value → Option Value
element o v = option_and_then (number_at o) (option_and_then index v)

-- `c ? a : b`: only the chosen one counts, converted to the common type of a and b (6.5.15)
abbrev pub choice_value : Option Value → Ty → Option Value → Option Value → Option Value
choice_value None t y z = None
choice_value (Some c) t y z = option_map (convert t) (if is_nonzero c then y else z)

unfoldable mutual
  -- the value of an expression; where an operand that is evaluated is undefined, it is too
  pub val : Expr → Store → Option Value
  val (Num t n) s = Some (of_word t n)
  val (Name v) s = number_in (slot s v)
  val (Elem' v _ i) s = element (slot s v) (row_val i s)
  val (Un' op _ x) s = option_and_then (unary op) (row_val x s)
  val (Cast' t _ x) s = option_map (convert t) (row_val x s)
  val (Bin' op _ x _ y) s = operation_value op (row_val x s) (row_val y s)
  val (Cond' _ x _ y _ z) s =
      choice_value (row_val x s) (common (row_type y s) (row_type z s)) (row_val y s) (row_val z s)

  pub row_val : {m : _} → Row_of-Expr m → Store → Option Value
  row_val end_of-Expr s = None
  row_val (more_of-Expr e rest) s = val e s

-- the values of a list of expressions, where none is undefined
abbrev pub all_values : List Expr → Store → Option (List Value)
all_values [] s = Some []
all_values (e ∷ es) s = option_and_then (λ v. option_map (λ vs. v ∷ vs) (all_values es s)) (val e s)
