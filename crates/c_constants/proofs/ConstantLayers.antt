-- Constant expressions and named expressions, one layer at a time, as code opens them.
use Rattle.std.proofs.Common.{◌≡◌, ℕ, List, true, false, refl}
use Rattle.std.specs.Prelude.{◌||◌}
use Rattle.c_tree.specs.declared.tree.Ty.{Ty}
use Rattle.c_tree.specs.declared.tree.UnOp.{UnOp}
use Rattle.c_tree.specs.declared.tree.BinOp.{BinOp}
use Rattle.c_tree.specs.declared.tree.Expr.TheVariants as expr
use Rattle.c_tree.specs.declared.unit.Spot.{Spot}
use Rattle.c_tree.specs.declared.unit.RawExpr.{RawExpr}
use Rattle.c_tree.specs.declared.unit.RawExpr.TheVariants.{Num, Name, Elem, Un, Cast, Bin, Cond, Paren}
use Rattle.c_tree.specs.declared.unit.RawExpr.TheBlock.{shape-the_row-RawExpr-0, hidden-the_row-RawExpr-0}
use denote.Hole.Carrier.{hidden}
use Rattle.c_tree.specs.Checking.Scopes.{Known, entity_of, variable}
use Rattle.c_tree.specs.Checking.Constants.{expr_of, row_expr, first_token, row_first_token, has_name, row_has_name}

pub expr_of-Num : (ks : List Known) (at : ℕ) (t : Ty) (n : ℕ) → expr_of ks (Num at t n) ≡ expr.Num t n
unfolding expr_of
expr_of-Num ks at t n = refl

pub expr_of-Name : (ks : List Known) (x : Spot) → expr_of ks (Name x) ≡ expr.Name (variable (entity_of ks x.name))
unfolding expr_of
expr_of-Name ks x = refl

pub expr_of-Elem : (ks : List Known) (x : Spot) (a : RawExpr) → expr_of ks (Elem x a) ≡ expr.Elem (variable (entity_of ks x.name)) (expr_of ks a)
unfolding expr_of row_expr shape-the_row-RawExpr-0 hidden-the_row-RawExpr-0 hidden
expr_of-Elem ks x a = refl

pub expr_of-Un : (ks : List Known) (at : ℕ) (op : UnOp) (a : RawExpr) → expr_of ks (Un at op a) ≡ expr.Un op (expr_of ks a)
unfolding expr_of row_expr shape-the_row-RawExpr-0 hidden-the_row-RawExpr-0 hidden
expr_of-Un ks at op a = refl

pub expr_of-Cast : (ks : List Known) (at : ℕ) (t : Ty) (a : RawExpr) → expr_of ks (Cast at t a) ≡ expr.Cast t (expr_of ks a)
unfolding expr_of row_expr shape-the_row-RawExpr-0 hidden-the_row-RawExpr-0 hidden
expr_of-Cast ks at t a = refl

pub expr_of-Bin : (ks : List Known) (op : BinOp) (a b : RawExpr) → expr_of ks (Bin op a b) ≡ expr.Bin op (expr_of ks a) (expr_of ks b)
unfolding expr_of row_expr shape-the_row-RawExpr-0 hidden-the_row-RawExpr-0 hidden
expr_of-Bin ks op a b = refl

pub expr_of-Cond : (ks : List Known) (c a b : RawExpr) → expr_of ks (Cond c a b) ≡ expr.Cond (expr_of ks c) (expr_of ks a) (expr_of ks b)
unfolding expr_of row_expr shape-the_row-RawExpr-0 hidden-the_row-RawExpr-0 hidden
expr_of-Cond ks c a b = refl

pub expr_of-Paren : (ks : List Known) (at : ℕ) (a : RawExpr) → expr_of ks (Paren at a) ≡ expr_of ks a
unfolding expr_of row_expr shape-the_row-RawExpr-0 hidden-the_row-RawExpr-0 hidden
expr_of-Paren ks at a = refl

pub first_token-Num : (at : ℕ) (t : Ty) (n : ℕ) → first_token (Num at t n) ≡ at
unfolding first_token
first_token-Num at t n = refl

pub first_token-Name : (x : Spot) → first_token (Name x) ≡ x.at
unfolding first_token
first_token-Name x = refl

pub first_token-Elem : (x : Spot) (a : RawExpr) → first_token (Elem x a) ≡ x.at
unfolding first_token
first_token-Elem x a = refl

pub first_token-Un : (at : ℕ) (op : UnOp) (a : RawExpr) → first_token (Un at op a) ≡ at
unfolding first_token
first_token-Un at op a = refl

pub first_token-Cast : (at : ℕ) (t : Ty) (a : RawExpr) → first_token (Cast at t a) ≡ at
unfolding first_token
first_token-Cast at t a = refl

pub first_token-Bin : (op : BinOp) (a b : RawExpr) → first_token (Bin op a b) ≡ first_token a
unfolding first_token row_first_token shape-the_row-RawExpr-0 hidden-the_row-RawExpr-0 hidden
first_token-Bin op a b = refl

pub first_token-Cond : (c a b : RawExpr) → first_token (Cond c a b) ≡ first_token c
unfolding first_token row_first_token shape-the_row-RawExpr-0 hidden-the_row-RawExpr-0 hidden
first_token-Cond c a b = refl

pub first_token-Paren : (at : ℕ) (a : RawExpr) → first_token (Paren at a) ≡ at
unfolding first_token
first_token-Paren at a = refl

pub has_name-Num : (at : ℕ) (t : Ty) (n : ℕ) → has_name (Num at t n) ≡ false
unfolding has_name
has_name-Num at t n = refl

pub has_name-Name : (x : Spot) → has_name (Name x) ≡ true
unfolding has_name
has_name-Name x = refl

pub has_name-Elem : (x : Spot) (a : RawExpr) → has_name (Elem x a) ≡ true
unfolding has_name
has_name-Elem x a = refl

pub has_name-Un : (at : ℕ) (op : UnOp) (a : RawExpr) → has_name (Un at op a) ≡ has_name a
unfolding has_name row_has_name shape-the_row-RawExpr-0 hidden-the_row-RawExpr-0 hidden
has_name-Un at op a = refl

pub has_name-Cast : (at : ℕ) (t : Ty) (a : RawExpr) → has_name (Cast at t a) ≡ has_name a
unfolding has_name row_has_name shape-the_row-RawExpr-0 hidden-the_row-RawExpr-0 hidden
has_name-Cast at t a = refl

pub has_name-Bin : (op : BinOp) (a b : RawExpr) → has_name (Bin op a b) ≡ (has_name a || has_name b)
unfolding has_name row_has_name shape-the_row-RawExpr-0 hidden-the_row-RawExpr-0 hidden
has_name-Bin op a b = refl

pub has_name-Cond : (c a b : RawExpr) → has_name (Cond c a b) ≡ (has_name c || (has_name a || has_name b))
unfolding has_name row_has_name shape-the_row-RawExpr-0 hidden-the_row-RawExpr-0 hidden
has_name-Cond c a b = refl

pub has_name-Paren : (at : ℕ) (a : RawExpr) → has_name (Paren at a) ≡ has_name a
unfolding has_name row_has_name shape-the_row-RawExpr-0 hidden-the_row-RawExpr-0 hidden
has_name-Paren at a = refl

pub ruleset expr_layers = (expr_of-Num, expr_of-Name, expr_of-Elem, expr_of-Un, expr_of-Cast, expr_of-Bin, expr_of-Cond, expr_of-Paren)

pub ruleset constant_layers = (expr_layers, first_token-Num, first_token-Name, first_token-Elem, first_token-Un, first_token-Cast, first_token-Bin, first_token-Cond, first_token-Paren, has_name-Num, has_name-Name, has_name-Elem, has_name-Un, has_name-Cast, has_name-Bin, has_name-Cond, has_name-Paren)
