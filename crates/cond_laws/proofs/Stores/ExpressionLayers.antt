-- The terms of an expression, one layer at a time, as code opens it.
use Rattle.std.proofs.Common.{◌≡◌, ℕ, refl}
use Rattle.c_tree.specs.declared.tree.Ty.{Ty}
use Rattle.c_tree.specs.declared.tree.UnOp.{UnOp}
use Rattle.c_tree.specs.declared.tree.BinOp.{BinOp}
use Rattle.c_tree.specs.declared.tree.Var.{Var}
use Rattle.c_tree.specs.declared.tree.Expr.{Expr}
use Rattle.c_tree.specs.declared.tree.Expr.TheVariants.{Num, Name, Elem, Un, Cast, Bin, Cond}
use Rattle.c_tree.specs.declared.tree.Expr.TheBlock.{shape-the_row-Expr-0, hidden-the_row-Expr-0}
use denote.Hole.Carrier.{hidden}
use Rattle.bv_term.specs.declared.op.Op.TheVariants as op
use Rattle.bv_term.specs.Scripts.{put, pure, ◌>>=◌}
use Rattle.cond_laws.specs.Judged.{judged_term, sure}
use Rattle.cond_laws.specs.TermOperators.{operation_term, with_unary, choice_term}
use Rattle.cond_laws.specs.TermStores.{TermStore, held_at, scalar_term, element_term}
use Rattle.cond_laws.specs.TermExpressions.{expr_term, row_expr_term}

pub expr_term-Num : (t : Ty) (n : ℕ) (s : TermStore) → expr_term (Num t n) s ≡ (do r ← put (op.Const n); pure (sure t r))
unfolding expr_term
expr_term-Num t n s = refl

pub expr_term-Name : (x : Var) (s : TermStore) → expr_term (Name x) s ≡ scalar_term (held_at s x)
unfolding expr_term
expr_term-Name x s = refl

pub expr_term-Elem : (x : Var) (i : Expr) (s : TermStore) → expr_term (Elem x i) s ≡ (do e ← expr_term i s; element_term (held_at s x) e)
unfolding expr_term row_expr_term shape-the_row-Expr-0 hidden-the_row-Expr-0 hidden
expr_term-Elem x i s = refl

pub expr_term-Un : (o : UnOp) (a : Expr) (s : TermStore) → expr_term (Un o a) s ≡ (do p ← expr_term a s; with_unary o p)
unfolding expr_term row_expr_term shape-the_row-Expr-0 hidden-the_row-Expr-0 hidden
expr_term-Un o a s = refl

pub expr_term-Cast : (t : Ty) (a : Expr) (s : TermStore) → expr_term (Cast t a) s ≡ (do p ← expr_term a s; pure (judged_term t p.term p.conditions))
unfolding expr_term row_expr_term shape-the_row-Expr-0 hidden-the_row-Expr-0 hidden
expr_term-Cast t a s = refl

pub expr_term-Bin : (o : BinOp) (a b : Expr) (s : TermStore) → expr_term (Bin o a b) s ≡ (do p ← expr_term a s; q ← expr_term b s; operation_term o p q)
unfolding expr_term row_expr_term shape-the_row-Expr-0 hidden-the_row-Expr-0 hidden
expr_term-Bin o a b s = refl

pub expr_term-Cond : (c a b : Expr) (s : TermStore) → expr_term (Cond c a b) s ≡ (do p ← expr_term c s; q ← expr_term a s; r ← expr_term b s; choice_term p q r)
unfolding expr_term row_expr_term shape-the_row-Expr-0 hidden-the_row-Expr-0 hidden
expr_term-Cond c a b s = refl
