-- A well-formed expression, in a store of the layout: its value is one of its type, and its variables are there.
use Rattle.std.proofs.Common.{ℕ, ◌^◌, List, [], ◌∷◌, Option, Some, None, arith}
use Rattle.std.specs.Prelude.{IsTrue, IfSome, pos}
use Rattle.std.proofs.lemmas.Bool.{ltb-true}
use Rattle.c_tree.specs.declared.tree.Ty.{Ty}
use Rattle.c_tree.specs.declared.tree.Ty.TheVariants as ty
use Rattle.c_tree.specs.declared.tree.Expr.{Expr, Row_of-Expr, end_of-Expr, more_of-Expr}
use Rattle.c_tree.specs.declared.tree.Expr.TheVariants.{Num, Name, Elem', Un', Cast', Bin', Cond'}
use Rattle.c_tree.specs.declared.value.Store.{Store}
use Rattle.c_tree.specs.Meaning.Values.{common, of_word, is_of}
use Rattle.c_tree.specs.Meaning.Stores.{slot}
use Rattle.c_tree.specs.Meaning.Expressions.{type_of, row_type, val, row_val}
use Rattle.c_tree.specs.Keeping.Layouts.{Layout, shape, IsValueOf, HasReadLayout}
use Rattle.c_tree.specs.Keeping.WellFormed.{WellFormedExpr, WellFormedPart, WellFormedExprs, WellFormedOptional}
use Rattle.c_tree.specs.Keeping.Asked.{FindsExpr, FindsPart, FindsExprs, FindsOptional}
use Rattle.c_tree.proofs.Keeping.Ranges.{of_word_in, unary_of, cast_gives, operated_gives, chosen_gives}
use Rattle.c_tree.proofs.Keeping.Slots.{read_at, number_gives, element_gives, scalar_there, array_there}

num_gives : (t : Ty) (n : ℕ) → IsTrue (is_of t (pos n)) → IsValueOf t (of_word t n)
num_gives ty.Int n h = of_word_in ty.Int n (omega (arith, ltb-true n (2 ^ 31) h))
num_gives ty.Unsigned n h = of_word_in ty.Unsigned n (ltb-true n (2 ^ 32) h)

mutual
  unfolding val row_val type_of row_type WellFormedExpr WellFormedPart

  pub val_gives : (l : Layout) (s : Store) → HasReadLayout l s → (e : Expr) → WellFormedExpr l e → IfSome (val e s) (IsValueOf (type_of e s))
  val_gives l s h (Num t n) w = num_gives t n w
  val_gives l s h (Name v) w = number_gives (shape l v) (slot s v) (read_at l s h v)
  val_gives l s h (Elem' v a i) w = element_gives (shape l v) (slot s v) (row_val i s) (read_at l s h v)
  val_gives l s h (Un' op a x) w = unary_of op (row_type x s) (row_val x s) (part_gives l s h x w)
  val_gives l s h (Cast' t a x) w = cast_gives t (row_type x s) (row_val x s) (part_gives l s h x w)
  val_gives l s h (Bin' op a x b y) w =
      operated_gives op (row_type x s) (row_type y s) (row_val x s) (row_val y s) (part_gives l s h x w.0) (part_gives l s h y w.1)
  val_gives l s h (Cond' a x b y c z) w =
      chosen_gives (common (row_type y s) (row_type z s)) (row_type y s) (row_type z s) (row_val x s) (row_val y s) (row_val z s) (part_gives l s h y w.1.0) (part_gives l s h z w.1.1)

  part_gives : {m : _} (l : Layout) (s : Store) → HasReadLayout l s → (x : Row_of-Expr m) → WellFormedPart l x → IfSome (row_val x s) (IsValueOf (row_type x s))
  part_gives l s h end_of-Expr w = absurd w
  part_gives l s h (more_of-Expr e rest) w = val_gives l s h e w

mutual
  unfolding WellFormedExpr WellFormedPart FindsExpr FindsPart

  pub expr_finds : (l : Layout) (s : Store) → HasReadLayout l s → (e : Expr) → WellFormedExpr l e → FindsExpr s e
  expr_finds l s h (Num t n) w = tt
  expr_finds l s h (Name v) w = scalar_there (shape l v) (slot s v) (read_at l s h v) w
  expr_finds l s h (Elem' v a i) w =
      (array_there (shape l v) (slot s v) (read_at l s h v) w.0, part_finds l s h i w.1)
  expr_finds l s h (Un' op a x) w = part_finds l s h x w
  expr_finds l s h (Cast' t a x) w = part_finds l s h x w
  expr_finds l s h (Bin' op a x b y) w = (part_finds l s h x w.0, part_finds l s h y w.1)
  expr_finds l s h (Cond' a x b y c z) w =
      (part_finds l s h x w.0, (part_finds l s h y w.1.0, part_finds l s h z w.1.1))

  part_finds : {m : _} (l : Layout) (s : Store) → HasReadLayout l s → (x : Row_of-Expr m) → WellFormedPart l x → FindsPart s x
  part_finds l s h end_of-Expr w = absurd w
  part_finds l s h (more_of-Expr e rest) w = expr_finds l s h e w

pub exprs_find : (l : Layout) (s : Store) → HasReadLayout l s → (es : List Expr) → WellFormedExprs l es → FindsExprs s es
exprs_find l s h [] w = tt
exprs_find l s h (e ∷ es) w = (expr_finds l s h e w.0, exprs_find l s h es w.1)

pub optional_finds : (l : Layout) (s : Store) → HasReadLayout l s → (e : Option Expr) → WellFormedOptional l e → FindsOptional s e
optional_finds l s h None w = tt
optional_finds l s h (Some e) w = expr_finds l s h e w
