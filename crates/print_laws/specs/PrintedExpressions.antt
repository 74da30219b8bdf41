-- The text of names, numbers and expressions in a printed program. This project's own layout.
use Rattle.std.specs.Prelude.{
  ℕ,
  suc,
  ◌+◌,
  ◌-◌,
  ◌^◌,
  ◌==◌,
  nat_lt,
  Bool,
  true,
  false,
  if◌then◌else◌,
  List,
  [],
  ◌∷◌,
  ◌++◌,
  flat_map,
  codes,
  decimal,
  slice_get,
  Option,
  Some,
  None,
  ℤ,
  pos,
  negsuc,
}
use Rattle.c_tree.specs.declared.tree.Ty.{Ty}
use Rattle.c_tree.specs.declared.tree.Ty.TheVariants as ty
use Rattle.c_tree.specs.declared.tree.UnOp.{UnOp}
use Rattle.c_tree.specs.declared.tree.UnOp.TheVariants as un
use Rattle.c_tree.specs.declared.tree.BinOp.{BinOp}
use Rattle.c_tree.specs.declared.tree.BinOp.TheVariants as op
use Rattle.c_tree.specs.declared.tree.Var.{Var}
use Rattle.c_tree.specs.declared.tree.Var.TheVariants.{Local, Global}
use Rattle.c_tree.specs.declared.tree.Expr.{Expr, Row_of-Expr, end_of-Expr, more_of-Expr}
use Rattle.c_tree.specs.declared.tree.Expr.TheVariants.{Num, Name, Elem', Un', Cast', Bin', Cond'}
use Rattle.c_tree.specs.declared.program.Local.{Local as Declared}
use Rattle.c_tree.specs.declared.program.Global.{Global as Outside}
use Rattle.c_tree.specs.declared.program.Func.{Func}
use Rattle.c_tree.specs.declared.program.Program.{Program}
use Rattle.c_tree.specs.Grammar.SpelledExpressions.{level}

-- ---- names

abbrev pub local_name : Option Declared → List ℕ
local_name None = []
local_name (Some l) = l.name

abbrev pub global_name : Option Outside → List ℕ
global_name None = []
global_name (Some g) = g.name

-- a variable by its name, in a function of a program
unfoldable pub name_text : Program → Func → Var → List ℕ
name_text p f (Local n) = local_name (slice_get f.locals n)
name_text p f (Global n) = global_name (slice_get p.globals n)

-- ---- types, operators and numbers

unfoldable pub type_text : Ty → List ℕ
type_text ty.Int = codes "int"
type_text ty.Unsigned = codes "unsigned"

unfoldable pub un_text : UnOp → List ℕ
un_text un.Plus = codes "+"
un_text un.Minus = codes "-"
un_text un.Flip = codes "~"
un_text un.Not = codes "!"

unfoldable pub bin_text : BinOp → List ℕ
bin_text op.Mul = codes "*"
bin_text op.Div = codes "/"
bin_text op.Rem = codes "%"
bin_text op.Add = codes "+"
bin_text op.Sub = codes "-"
bin_text op.Shl = codes "<<"
bin_text op.Shr = codes ">>"
bin_text op.Lt = codes "<"
bin_text op.Gt = codes ">"
bin_text op.Le = codes "<="
bin_text op.Ge = codes ">="
bin_text op.Eq = codes "=="
bin_text op.Ne = codes "!="
bin_text op.And = codes "&"
bin_text op.Xor = codes "^"
bin_text op.Or = codes "|"
bin_text op.Both = codes "&&"
bin_text op.Either = codes "||"

abbrev pub suffix : Ty → List ℕ
suffix ty.Int = []
suffix ty.Unsigned = codes "u"

-- a number of a type
unfoldable pub number_text : Ty → ℕ → List ℕ
number_text t n = decimal n ++ suffix t

-- a kept value of a type: the least `int` has no number that a minus could stand before (`negsuc n` is -n - 1)
unfoldable pub value_text : Ty → ℤ → List ℕ
value_text t (pos n) = number_text t n
value_text t (negsuc n) = if n == 2 ^ 31 - 1 then codes "(int)2147483648u" else codes "-" ++ number_text t (suc n)

-- some texts with a comma between any two
unfoldable pub comma_list : {A : Type 0} → (A → List ℕ) → List A → List ℕ
comma_list text [] = []
comma_list text (x ∷ xs) = text x ++ flat_map (λ y. codes ", " ++ text y) xs

-- ---- expressions

-- how tightly an expression holds together: as the levels of the grammar, but a cast more tightly than a unary
-- operator, so that no unary operator stands right before another
abbrev pub strength : Expr → ℕ
strength (Cond' c x a y b z) = 0
strength (Bin' o a x b y) = level o
strength (Un' o a x) = 11
strength (Cast' t a x) = 12
strength (Elem' v i x) = 13
strength (Name v) = 13
strength (Num t n) = 13

-- in parentheses, where it takes them
abbrev pub in_parentheses : Bool → List ℕ → List ℕ
in_parentheses true text = codes "(" ++ text ++ codes ")"
in_parentheses false text = text

-- with a blank on each side
abbrev pub between_blanks : List ℕ → List ℕ
between_blanks text = codes " " ++ text ++ codes " "

unfoldable mutual
  pub expr_text : Program → Func → Expr → List ℕ
  expr_text p f (Num t n) = number_text t n
  expr_text p f (Name v) = name_text p f v
  expr_text p f (Elem' v a i) = name_text p f v ++ codes "[" ++ row_text p f 0 i ++ codes "]"
  expr_text p f (Un' o a x) = un_text o ++ row_text p f 12 x
  expr_text p f (Cast' t a x) = codes "(" ++ type_text t ++ codes ")" ++ row_text p f 11 x
  expr_text p f (Bin' o a x b y) = row_text p f (level o) x ++ codes " " ++ bin_text o ++ codes " "
      ++ row_text p f (level o + 1) y
  expr_text p f (Cond' c x a y b z) = row_text p f 1 x ++ between_blanks (codes "?") ++ row_text p f 0 y
      ++ between_blanks (codes ":") ++ row_text p f 0 z

  -- an operand: in parentheses, where it holds less tightly than asked
  pub row_text : {m : _} → Program → Func → ℕ → Row_of-Expr m → List ℕ
  row_text p f n end_of-Expr = []
  row_text p f n (more_of-Expr e rest) = in_parentheses (nat_lt (strength e) n) (expr_text p f e)

unfoldable pub operand_text : Program → Func → ℕ → Expr → List ℕ
operand_text p f n e = in_parentheses (nat_lt (strength e) n) (expr_text p f e)
