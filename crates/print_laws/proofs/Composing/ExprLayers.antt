-- The text of an expression behind another text, one layer at a time, as code writes it.
use Rattle.std.proofs.Common.{◌≡◌, ℕ, ◌+◌, List, ◌++◌, refl}
use Rattle.std.specs.Prelude.{codes}
use Rattle.c_tree.specs.declared.tree.Ty.{Ty}
use Rattle.c_tree.specs.declared.tree.UnOp.{UnOp}
use Rattle.c_tree.specs.declared.tree.BinOp.{BinOp}
use Rattle.c_tree.specs.declared.tree.Var.{Var}
use Rattle.c_tree.specs.declared.tree.Expr.{Expr}
use Rattle.c_tree.specs.declared.tree.Expr.TheVariants.{Num, Name, Elem, Un, Cast, Bin, Cond}
use Rattle.c_tree.specs.declared.tree.Expr.TheBlock.{shape-the_row-Expr-0, hidden-the_row-Expr-0}
use denote.Hole.Carrier.{hidden}
use Rattle.c_tree.specs.declared.program.Func.{Func}
use Rattle.c_tree.specs.declared.program.Program.{Program}
use Rattle.c_tree.specs.Grammar.SpelledExpressions.{level}
use Rattle.print_laws.specs.PrintedExpressions.{between_blanks, name_text, type_text, un_text, bin_text, number_text, expr_text, row_text, operand_text}
use Rattle.print_laws.proofs.Composing.Pieces.{two, four, five}

pub text-Num : (p : Program) (f : Func) (t : Ty) (n : ℕ) → expr_text p f (Num t n) ≡ number_text t n
unfolding expr_text
text-Num p f t n = refl

pub text-Name : (p : Program) (f : Func) (x : Var) → expr_text p f (Name x) ≡ name_text p f x
unfolding expr_text
text-Name p f x = refl

pub text-Elem : (s : List ℕ) (p : Program) (f : Func) (x : Var) (i : Expr) → s ++ expr_text p f (Elem x i) ≡ (((s ++ name_text p f x) ++ codes "[") ++ operand_text p f 0 i) ++ codes "]"
unfolding expr_text row_text operand_text shape-the_row-Expr-0 hidden-the_row-Expr-0 hidden
text-Elem s p f x i = four s (name_text p f x) (codes "[") (operand_text p f 0 i) (codes "]")

pub text-Un : (s : List ℕ) (p : Program) (f : Func) (o : UnOp) (a : Expr) → s ++ expr_text p f (Un o a) ≡ (s ++ un_text o) ++ operand_text p f 12 a
unfolding expr_text row_text operand_text shape-the_row-Expr-0 hidden-the_row-Expr-0 hidden
text-Un s p f o a = two s (un_text o) (operand_text p f 12 a)

pub text-Cast : (s : List ℕ) (p : Program) (f : Func) (t : Ty) (a : Expr) → s ++ expr_text p f (Cast t a) ≡ (((s ++ codes "(") ++ type_text t) ++ codes ")") ++ operand_text p f 11 a
unfolding expr_text row_text operand_text shape-the_row-Expr-0 hidden-the_row-Expr-0 hidden
text-Cast s p f t a = four s (codes "(") (type_text t) (codes ")") (operand_text p f 11 a)

pub text-Bin : (s : List ℕ) (p : Program) (f : Func) (o : BinOp) (a b : Expr)
    → s ++ expr_text p f (Bin o a b) ≡ ((((s ++ operand_text p f (level o) a) ++ codes " ") ++ bin_text o) ++ codes " ") ++ operand_text p f (level o + 1) b
unfolding expr_text row_text operand_text shape-the_row-Expr-0 hidden-the_row-Expr-0 hidden
text-Bin s p f o a b = five s (operand_text p f (level o) a) (codes " ") (bin_text o) (codes " ") (operand_text p f (level o + 1) b)

pub text-Cond : (s : List ℕ) (p : Program) (f : Func) (c a b : Expr)
    → s ++ expr_text p f (Cond c a b) ≡ ((((s ++ operand_text p f 1 c) ++ between_blanks (codes "?")) ++ operand_text p f 0 a) ++ between_blanks (codes ":")) ++ operand_text p f 0 b
unfolding expr_text row_text operand_text shape-the_row-Expr-0 hidden-the_row-Expr-0 hidden
text-Cond s p f c a b = five s (operand_text p f 1 c) (between_blanks (codes "?")) (operand_text p f 0 a) (between_blanks (codes ":")) (operand_text p f 0 b)

pub ruleset expr_layers = (text-Num, text-Name, text-Elem, text-Un, text-Cast, text-Bin, text-Cond)
