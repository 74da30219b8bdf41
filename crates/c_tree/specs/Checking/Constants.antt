-- Expressions with their names replaced by variables, and the values of constant expressions (C11 6.6): those that
-- `val` gives without names.
use Rattle.std.specs.Prelude.{
  ℕ,
  Bool,
  true,
  false,
  ◌||◌,
  if◌then◌else◌,
  List,
  [],
  ◌∷◌,
  length,
  Option,
  Some,
  None,
  ℤ,
  pos,
}
use Rattle.c_tree.specs.declared.tree.Ty.{Ty}
use Rattle.c_tree.specs.declared.tree.Ty.TheVariants as ty
use Rattle.c_tree.specs.declared.tree.Expr.{Expr}
use Rattle.c_tree.specs.declared.tree.Expr.TheVariants as expr
use Rattle.c_tree.specs.declared.unit.RawExpr.{RawExpr, Row_of-RawExpr, end_of-RawExpr, more_of-RawExpr}
use Rattle.c_tree.specs.declared.unit.RawExpr.TheVariants.{Num, Name, Elem', Un', Cast', Bin', Cond', Paren'}
use Rattle.c_tree.specs.declared.unit.RawShape.{RawShape}
use Rattle.c_tree.specs.declared.unit.RawShape.TheVariants.{Scalar, Array}
use Rattle.c_tree.specs.declared.value.Value.{Value}
use Rattle.c_tree.specs.declared.value.Value.TheVariants.{Int, Unsigned}
use Rattle.c_tree.specs.declared.value.Store.{Store}
use Rattle.c_tree.specs.Meaning.Values.{convert}
use Rattle.c_tree.specs.Meaning.Expressions.{val}
use Rattle.c_tree.specs.Checking.Scopes.{Known, entity_of, variable}

-- ---- expressions

unfoldable mutual
  -- an expression, where these names are known. Parentheses are dropped
  pub expr_of : List Known → RawExpr → Expr
  expr_of ks (Num at t n) = expr.Num t n
  expr_of ks (Name x) = expr.Name (variable (entity_of ks x.name))
  expr_of ks (Elem' x _ i) = expr.Elem (variable (entity_of ks x.name)) (row_expr ks i)
  expr_of ks (Un' at op a x) = expr.Un op (row_expr ks x)
  expr_of ks (Cast' at t a x) = expr.Cast t (row_expr ks x)
  expr_of ks (Bin' op _ x _ y) = expr.Bin op (row_expr ks x) (row_expr ks y)
  expr_of ks (Cond' _ x _ y _ z) = expr.Cond (row_expr ks x) (row_expr ks y) (row_expr ks z)
  expr_of ks (Paren' at a x) = row_expr ks x

  pub row_expr : {m : _} → List Known → Row_of-RawExpr m → Expr
  row_expr ks end_of-RawExpr = expr.Num ty.Int 0
  row_expr ks (more_of-RawExpr e rest) = expr_of ks e

abbrev pub exprs_of : List Known → List RawExpr → List Expr
exprs_of ks [] = []
exprs_of ks (e ∷ es) = expr_of ks e ∷ exprs_of ks es

-- ---- places

unfoldable mutual
  -- the place of the first token of an expression
  pub first_token : RawExpr → ℕ
  first_token (Num at t n) = at
  first_token (Name x) = x.at
  first_token (Elem' x _ i) = x.at
  first_token (Un' at op a x) = at
  first_token (Cast' at t a x) = at
  first_token (Bin' op _ x _ y) = row_first_token x
  first_token (Cond' _ x _ y _ z) = row_first_token x
  first_token (Paren' at a x) = at

  pub row_first_token : {m : _} → Row_of-RawExpr m → ℕ
  row_first_token end_of-RawExpr = 0
  row_first_token (more_of-RawExpr e rest) = first_token e

-- ---- constants

unfoldable mutual
  -- whether a name stands in an expression, in an operand that is not evaluated too
  pub has_name : RawExpr → Bool
  has_name (Num at t n) = false
  has_name (Name x) = true
  has_name (Elem' x _ i) = true
  has_name (Un' at op a x) = row_has_name x
  has_name (Cast' at t a x) = row_has_name x
  has_name (Bin' op _ x _ y) = row_has_name x || row_has_name y
  has_name (Cond' _ x _ y _ z) = row_has_name x || (row_has_name y || row_has_name z)
  has_name (Paren' at a x) = row_has_name x

  pub row_has_name : {m : _} → Row_of-RawExpr m → Bool
  row_has_name end_of-RawExpr = false
  row_has_name (more_of-RawExpr e rest) = has_name e

abbrev pub no_store : Store
no_store = record { locals = []; globals = [] }

-- the value of an expression without names, where it is defined
unfoldable pub constant_value : RawExpr → Option Value
constant_value e = if has_name e then None else val (expr_of [] e) no_store

-- a constant converted to a type, as a number
abbrev pub number_of : Value → ℤ
number_of (Int z) = z
number_of (Unsigned n) = pos n

abbrev pub kept_number : Ty → Option Value → ℤ
kept_number t None = pos 0
kept_number t (Some v) = number_of (convert t v)

-- ---- lengths of arrays

-- a constant as a length. No length is 0
abbrev pub length_number : Option Value → ℕ
length_number (Some (Int (pos n))) = n
length_number (Some (Unsigned n)) = n
length_number _ = 0

-- the length that is written, or that of the list where none is (6.7.9 paragraph 22); 0 where neither is there
abbrev pub declared_length : Option RawExpr → Option (List RawExpr) → ℕ
declared_length (Some e) es = length_number (constant_value e)
declared_length None (Some es) = length es
declared_length None None = 0

-- the length of what a declarator makes, which a scalar has not
abbrev pub shape_length : RawShape → Option ℕ
shape_length (Scalar e) = None
shape_length (Array e es) = Some (declared_length e es)
