-- A well-formed expression of a function with identifiers for its names is one that a text has.
use Rattle.std.proofs.Common.{◌≤◌, ◌<◌, ◌^◌, ℕ, List, [], ◌∷◌, length, Option, Some, None, arith}
use Rattle.std.specs.Prelude.{IsTrue, pos}
use Rattle.std.proofs.lemmas.Bool.{ltb-true}
use mathlib.Core.Former.{none_left, one_more}
use Rattle.c_tree.specs.declared.tree.Ty.{Ty}
use Rattle.c_tree.specs.declared.tree.Ty.TheVariants as ty
use Rattle.c_tree.specs.declared.tree.UnOp.{UnOp}
use Rattle.c_tree.specs.declared.tree.BinOp.{BinOp}
use Rattle.c_tree.specs.declared.tree.Var.{Var}
use Rattle.c_tree.specs.declared.tree.Expr.{Expr, Row_of-Expr, end_of-Expr, more_of-Expr}
use Rattle.c_tree.specs.declared.tree.Expr.TheVariants.{Num, Name, Elem', Un', Cast', Bin', Cond'}
use Rattle.c_tree.specs.declared.tree.Expr.TheBlock.{shape-the_row-Expr-0, hidden-the_row-Expr-0}
use denote.Hole.Carrier.{hidden}
use Rattle.c_tree.specs.declared.program.Func.{Func}
use Rattle.c_tree.specs.declared.program.Program.{Program}
use Rattle.c_tree.specs.Meaning.Values.{is_of}
use Rattle.c_tree.specs.Keeping.WellFormed.{WellFormedExpr, WellFormedPart, WellFormedExprs, WellFormedOptional}
use Rattle.print_laws.specs.PrintedExpressions.{name_text}
use Rattle.print_laws.proofs.Composing.ComposedExpressions.{IsIdentifier, limit, IsShowable, num, name, elem, un, cast, bin, cond}
use Rattle.print_laws.proofs.Composing.ExpressionLists.{AreShowable, one, more}
use Rattle.print_laws.proofs.Named.Showable.{IsShowableOptional, AreShowableArguments}
use Rattle.print_laws.proofs.Named.NamedVariables.{Stands, layout_of, scalar_named, array_named}

number_fits : (t : Ty) (n : ℕ) → IsTrue (is_of t (pos n)) → n < limit t
number_fits ty.Int n h = ltb-true n (2 ^ 31) h
number_fits ty.Unsigned n h = ltb-true n (2 ^ 32) h

-- ---- what is made of one operand or more

abbrev Operand : Type 0
Operand = Row_of-Expr (one_more none_left)

module _ (p : Program) (f : Func) where
  -- an operand is an expression that a text has
  abbrev IsShowablePart : {m : _} → Row_of-Expr m → Type 0
  IsShowablePart end_of-Expr = ⊥
  IsShowablePart (more_of-Expr e rest) = IsShowable p f e

  elem_made : (v : Var) (a : _) (x : Operand) → IsIdentifier (name_text p f v) → IsShowablePart x → IsShowable p f (Elem' v a x)
  unfolding shape-the_row-Expr-0 hidden-the_row-Expr-0 hidden
  elem_made v a (more_of-Expr e end_of-Expr) named d = elem named d

  un_made : (o : UnOp) (a : _) (x : Operand) → IsShowablePart x → IsShowable p f (Un' o a x)
  unfolding shape-the_row-Expr-0 hidden-the_row-Expr-0 hidden
  un_made o a (more_of-Expr e end_of-Expr) d = un d

  cast_made : (t : Ty) (a : _) (x : Operand) → IsShowablePart x → IsShowable p f (Cast' t a x)
  unfolding shape-the_row-Expr-0 hidden-the_row-Expr-0 hidden
  cast_made t a (more_of-Expr e end_of-Expr) d = cast d

  bin_made : (o : BinOp) (a : _) (x : Operand) (b : _) (y : Operand) → IsShowablePart x → IsShowablePart y → IsShowable p f (Bin' o a x b y)
  unfolding shape-the_row-Expr-0 hidden-the_row-Expr-0 hidden
  bin_made o a (more_of-Expr e end_of-Expr) b (more_of-Expr g end_of-Expr) d h = bin d h

  cond_made : (a : _) (x : Operand) (b : _) (y : Operand) (c : _) (z : Operand) → IsShowablePart x → IsShowablePart y → IsShowablePart z → IsShowable p f (Cond' a x b y c z)
  unfolding shape-the_row-Expr-0 hidden-the_row-Expr-0 hidden
  cond_made a (more_of-Expr e end_of-Expr) b (more_of-Expr g end_of-Expr) c (more_of-Expr i end_of-Expr) d h k =
      cond d h k

-- ---- expressions

module _ (p : Program) (f : Func) (at : Stands p f) where
  mutual
    unfolding WellFormedExpr WellFormedPart

    pub expression_showable : (e : Expr) → WellFormedExpr (layout_of p f) e → IsShowable p f e
    expression_showable (Num t n) h = num (number_fits t n h)
    expression_showable (Name v) h = name (scalar_named p f at v h)
    expression_showable (Elem' v a x) h = elem_made p f v a x (array_named p f at v h.0) (part_showable x h.1)
    expression_showable (Un' o a x) h = un_made p f o a x (part_showable x h)
    expression_showable (Cast' t a x) h = cast_made p f t a x (part_showable x h)
    expression_showable (Bin' o a x b y) h = bin_made p f o a x b y (part_showable x h.0) (part_showable y h.1)
    expression_showable (Cond' a x b y c z) h =
        cond_made p f a x b y c z (part_showable x h.0) (part_showable y h.1.0) (part_showable z h.1.1)

    part_showable : {m : _} (x : Row_of-Expr m) → WellFormedPart (layout_of p f) x → IsShowablePart p f x
    part_showable end_of-Expr h = absurd h
    part_showable (more_of-Expr e rest) h = expression_showable e h

  pub optional_showable : (e : Option Expr) → WellFormedOptional (layout_of p f) e → IsShowableOptional p f e
  optional_showable None h = tt
  optional_showable (Some e) h = expression_showable e h

  -- ---- lists

  listed : (e : Expr) (es : List Expr) → WellFormedExprs (layout_of p f) (e ∷ es) → AreShowable p f (e ∷ es)
  listed e [] h = one (expression_showable e h.0)
  listed e (g ∷ es) h = more (expression_showable e h.0) (listed g es h.1)

  pub list_showable : (es : List Expr) → 1 ≤ length es → WellFormedExprs (layout_of p f) es → AreShowable p f es
  list_showable [] some h = absurd (omega (arith, some))
  list_showable (e ∷ es) some h = listed e es h

  pub arguments_showable : (es : List Expr) → WellFormedExprs (layout_of p f) es → AreShowableArguments p f es
  arguments_showable [] h = tt
  arguments_showable (e ∷ es) h = listed e es h
