-- The weight of an expression, one layer at a time, as code opens it.
use Rattle.std.proofs.Common.{◌≡◌, ℕ, ◌+◌, ◌*◌, List, Option, Some, None, refl}
use Rattle.c_tree.specs.declared.tree.Ty.{Ty}
use Rattle.c_tree.specs.declared.tree.UnOp.{UnOp}
use Rattle.c_tree.specs.declared.tree.BinOp.{BinOp}
use Rattle.c_tree.specs.declared.tree.Var.{Var}
use Rattle.c_tree.specs.declared.tree.Place.{Place}
use Rattle.c_tree.specs.declared.tree.Expr.{Expr}
use Rattle.c_tree.specs.declared.tree.Expr.TheVariants.{Num, Name, Elem, Un, Cast, Bin, Cond}
use Rattle.c_tree.specs.declared.tree.Expr.TheBlock.{shape-the_row-Expr-0, hidden-the_row-Expr-0}
use Rattle.c_tree.specs.declared.tree.Stmt.TheVariants.{Assign}
use denote.Hole.Carrier.{hidden}
use Rattle.c_tree.specs.declared.program.Local.{Local}
use Rattle.c_tree.specs.declared.program.Global.{Global}
use Rattle.cond_laws.specs.Weights.{un_weight, bin_weight, length_of, expr_weight, row_weight, place_weight, simple_weight}
use Rattle.path_weight.specs.Capped.{source_weight}

pub weight-Num : (ls : List Local) (gs : List Global) (t : Ty) (n : ℕ) → expr_weight ls gs (Num t n) ≡ 1
unfolding expr_weight
weight-Num ls gs t n = refl

pub weight-Name : (ls : List Local) (gs : List Global) (x : Var) → expr_weight ls gs (Name x) ≡ 1
unfolding expr_weight
weight-Name ls gs x = refl

pub weight-Elem : (ls : List Local) (gs : List Global) (x : Var) (i : Expr) → expr_weight ls gs (Elem x i) ≡ 32 * length_of ls gs x + expr_weight ls gs i
unfolding expr_weight row_weight shape-the_row-Expr-0 hidden-the_row-Expr-0 hidden
weight-Elem ls gs x i = refl

pub weight-Un : (ls : List Local) (gs : List Global) (o : UnOp) (a : Expr) → expr_weight ls gs (Un o a) ≡ un_weight o + expr_weight ls gs a
unfolding expr_weight row_weight shape-the_row-Expr-0 hidden-the_row-Expr-0 hidden
weight-Un ls gs o a = refl

pub weight-Cast : (ls : List Local) (gs : List Global) (t : Ty) (a : Expr) → expr_weight ls gs (Cast t a) ≡ expr_weight ls gs a
unfolding expr_weight row_weight shape-the_row-Expr-0 hidden-the_row-Expr-0 hidden
weight-Cast ls gs t a = refl

pub weight-Bin : (ls : List Local) (gs : List Global) (o : BinOp) (a b : Expr) → expr_weight ls gs (Bin o a b) ≡ bin_weight o + expr_weight ls gs a + expr_weight ls gs b
unfolding expr_weight row_weight shape-the_row-Expr-0 hidden-the_row-Expr-0 hidden
weight-Bin ls gs o a b = refl

pub weight-Cond : (ls : List Local) (gs : List Global) (c a b : Expr) → expr_weight ls gs (Cond c a b) ≡ 32 + expr_weight ls gs c + expr_weight ls gs a + expr_weight ls gs b
unfolding expr_weight row_weight shape-the_row-Expr-0 hidden-the_row-Expr-0 hidden
weight-Cond ls gs c a b = refl

-- an assignment weighs its place, and what is assigned
pub weight-Assign : (ls : List Local) (gs : List Global) (p : Place) (o : Option BinOp) (e : Expr) → simple_weight ls gs (Assign p o e) ≡ place_weight ls gs p + source_weight ls gs p o e
weight-Assign ls gs p None e = refl
weight-Assign ls gs p (Some o) e = refl

pub ruleset weight_layers = (weight-Num, weight-Name, weight-Elem, weight-Un, weight-Cast, weight-Bin, weight-Cond, weight-Assign)
