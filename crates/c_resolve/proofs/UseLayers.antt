-- What stands in expressions and statements, one layer at a time, as code opens them.
use Rattle.std.proofs.Common.{◌≡◌, ℕ, List, [], ◌∷◌, ◌++◌, true, false, refl}
use Rattle.c_tree.specs.declared.tree.Ty.{Ty}
use Rattle.c_tree.specs.declared.tree.UnOp.{UnOp}
use Rattle.c_tree.specs.declared.tree.BinOp.{BinOp}
use Rattle.c_tree.specs.declared.unit.Spot.{Spot}
use Rattle.c_tree.specs.declared.unit.RawExpr.{RawExpr}
use Rattle.c_tree.specs.declared.unit.RawExpr.TheVariants.{Num, Name, Elem, Un, Cast, Bin, Cond, Paren}
use Rattle.c_tree.specs.declared.unit.RawExpr.TheBlock.{shape-the_row-RawExpr-0, hidden-the_row-RawExpr-0}
use denote.Hole.Carrier.{hidden}
use Rattle.c_tree.specs.Checking.Scopes.{Known, entity_of}
use Rattle.c_tree.specs.Checking.Uses.{Read, expr_uses, row_uses}

pub expr_uses-Num : (ks : List Known) (at : ℕ) (t : Ty) (n : ℕ) → expr_uses ks (Num at t n) ≡ []
unfolding expr_uses
expr_uses-Num ks at t n = refl

pub expr_uses-Name : (ks : List Known) (x : Spot) → expr_uses ks (Name x) ≡ Read x.at (entity_of ks x.name) false ∷ []
unfolding expr_uses
expr_uses-Name ks x = refl

pub expr_uses-Elem : (ks : List Known) (x : Spot) (a : RawExpr) → expr_uses ks (Elem x a) ≡ Read x.at (entity_of ks x.name) true ∷ expr_uses ks a
unfolding expr_uses row_uses shape-the_row-RawExpr-0 hidden-the_row-RawExpr-0 hidden
expr_uses-Elem ks x a = refl

pub expr_uses-Un : (ks : List Known) (at : ℕ) (op : UnOp) (a : RawExpr) → expr_uses ks (Un at op a) ≡ expr_uses ks a
unfolding expr_uses row_uses shape-the_row-RawExpr-0 hidden-the_row-RawExpr-0 hidden
expr_uses-Un ks at op a = refl

pub expr_uses-Cast : (ks : List Known) (at : ℕ) (t : Ty) (a : RawExpr) → expr_uses ks (Cast at t a) ≡ expr_uses ks a
unfolding expr_uses row_uses shape-the_row-RawExpr-0 hidden-the_row-RawExpr-0 hidden
expr_uses-Cast ks at t a = refl

pub expr_uses-Bin : (ks : List Known) (op : BinOp) (a b : RawExpr) → expr_uses ks (Bin op a b) ≡ expr_uses ks a ++ expr_uses ks b
unfolding expr_uses row_uses shape-the_row-RawExpr-0 hidden-the_row-RawExpr-0 hidden
expr_uses-Bin ks op a b = refl

pub expr_uses-Cond : (ks : List Known) (c a b : RawExpr) → expr_uses ks (Cond c a b) ≡ expr_uses ks c ++ (expr_uses ks a ++ expr_uses ks b)
unfolding expr_uses row_uses shape-the_row-RawExpr-0 hidden-the_row-RawExpr-0 hidden
expr_uses-Cond ks c a b = refl

pub expr_uses-Paren : (ks : List Known) (at : ℕ) (a : RawExpr) → expr_uses ks (Paren at a) ≡ expr_uses ks a
unfolding expr_uses row_uses shape-the_row-RawExpr-0 hidden-the_row-RawExpr-0 hidden
expr_uses-Paren ks at a = refl

pub ruleset expr_use_layers = (expr_uses-Num, expr_uses-Name, expr_uses-Elem, expr_uses-Un, expr_uses-Cast, expr_uses-Bin, expr_uses-Cond, expr_uses-Paren)
