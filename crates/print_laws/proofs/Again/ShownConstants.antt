-- An expression that shows a kept value is a constant of this value.
use Rattle.std.proofs.Common.{◌≡◌, ℕ, suc, ◌<◌, ◌^◌, ◌-◌, Bool, true, false, List, [], ◌∷◌, ◌++◌, length, Some, None, ℤ, pos, negsuc, refl, sym, ap, ◌∙◌, subst, arith, eqb-true, lt-ltb, ltb-true}
use Rattle.std.specs.Prelude.{IsTrue, if◌then◌else◌, ◌==◌}
use Rattle.std.proofs.lemmas.Bool.{eqb-false}
use Rattle.std.proofs.Math.IntN.{+ℤ_idl}
use Rattle.c_tree.specs.declared.tree.Ty.{Ty}
use Rattle.c_tree.specs.declared.tree.Ty.TheVariants as ty
use Rattle.c_tree.specs.declared.tree.UnOp.TheVariants as un
use Rattle.c_tree.specs.declared.tree.Expr.TheBlock.{shape-the_row-Expr-0, hidden-the_row-Expr-0}
use Rattle.c_tree.specs.declared.unit.RawExpr.{RawExpr}
use Rattle.c_tree.specs.declared.unit.RawExpr.TheVariants as e
use Rattle.c_tree.specs.declared.unit.RawExpr.TheBlock.{shape-the_row-RawExpr-0, hidden-the_row-RawExpr-0}
use denote.Hole.Carrier.{hidden}
use Rattle.c_tree.specs.declared.value.Value.{Value}
use Rattle.c_tree.specs.declared.value.Value.TheVariants.{Int}
use Rattle.c_tree.specs.Meaning.Values.{is_of, of_int}
use Rattle.c_tree.specs.Meaning.Operators.{int, unary}
use Rattle.c_tree.specs.Meaning.Expressions.{val, row_val}
use Rattle.c_tree.specs.Checking.Scopes.{Known}
use Rattle.c_tree.specs.Checking.Constants.{expr_of, row_expr, has_name, row_has_name, first_token, constant_value, kept_number}
use Rattle.c_tree.specs.Checking.Naming.{kept_numbers}
use Rattle.c_tree.specs.Checking.Uses.{Constant, expr_uses, row_uses, constant_uses, constants_uses}
use Rattle.c_tree.specs.Keeping.WellFormed.{AreNumbersOf}
use Rattle.print_laws.specs.Shown.{ShowsValue, ShowValues}
use Rattle.print_laws.proofs.Again.LiteralLengths.{small_int}
use Rattle.print_laws.proofs.Again.FaultlessUses.{AreFaultless, faultless_both}

-- ---- the value

least_constant : (at from : ℕ) → constant_value (e.Cast at ty.Int (e.Num from ty.Unsigned 2147483648)) ≡ Some (Int (negsuc (2 ^ 31 - 1)))
unfolding constant_value has_name row_has_name expr_of row_expr val row_val shape-the_row-Expr-0 hidden-the_row-Expr-0 shape-the_row-RawExpr-0 hidden-the_row-RawExpr-0 hidden
least_constant at from = refl

negated : (n : ℕ) → n < 2 ^ 31 → unary un.Minus (Int (pos (suc n))) ≡ Some (Int (negsuc n))
negated n h = ap int (+ℤ_idl (negsuc n)) ∙ ap (λ b. if b then Some (Int (negsuc n)) else None) (lt-ltb n (2 ^ 31) h)

minus_constant : (at from n : ℕ) → suc n < 2 ^ 31 → constant_value (e.Un at un.Minus (e.Num from ty.Int (suc n))) ≡ Some (Int (negsuc n))
unfolding constant_value has_name row_has_name expr_of row_expr val row_val shape-the_row-Expr-0 hidden-the_row-Expr-0 shape-the_row-RawExpr-0 hidden-the_row-RawExpr-0 hidden
minus_constant at from n h =
    ap (λ z. unary un.Minus (Int z)) (small_int (suc n) h) ∙ negated n (omega (arith, h))

negative_constant : (at from n : ℕ) (b : Bool) → (n == 2 ^ 31 - 1) ≡ b → n < 2 ^ 31
    → constant_value (if b then e.Cast at ty.Int (e.Num from ty.Unsigned 2147483648) else e.Un at un.Minus (e.Num from ty.Int (suc n))) ≡ Some (Int (negsuc n))
negative_constant at from n true same h =
    least_constant at from ∙ ap (λ k. Some (Int (negsuc k))) (sym (eqb-true n (2 ^ 31 - 1) same))
negative_constant at from n false other h =
    let apart = eqb-false n (2 ^ 31 - 1) other in minus_constant at from n (grind (arith, apart, h))

num_constant : (at n : ℕ) (t : Ty) → IsTrue (is_of t (pos n)) → constant_value (e.Num at t n) ≡ Some (of_int t (pos n))
unfolding constant_value has_name expr_of val
num_constant at n ty.Int h = ap (λ z. Some (Int z)) (small_int n (ltb-true n (2 ^ 31) h))
num_constant at n ty.Unsigned h = refl

shown_constant : (t : Ty) (a : RawExpr) (z : ℤ) → ShowsValue t a z → IsTrue (is_of t z) → constant_value a ≡ Some (of_int t z)
shown_constant t a (pos n) (at, is) h = ap constant_value is ∙ num_constant at n t h
shown_constant ty.Int a (negsuc n) (at, from, is) h =
    ap constant_value is ∙ negative_constant at from n (n == 2 ^ 31 - 1) refl (ltb-true n (2 ^ 31) h)
shown_constant ty.Unsigned a (negsuc n) shown h = absurd (cc)

kept_again : (t : Ty) (z : ℤ) → IsTrue (is_of t z) → kept_number t (Some (of_int t z)) ≡ z
kept_again ty.Int z h = refl
kept_again ty.Unsigned (pos n) h = refl
kept_again ty.Unsigned (negsuc n) h = absurd (cc)

-- the number that is kept of it
pub shown_kept : (t : Ty) (a : RawExpr) (z : ℤ) → ShowsValue t a z → IsTrue (is_of t z) → kept_number t (constant_value a) ≡ z
shown_kept t a z shown h = ap (kept_number t) (shown_constant t a z shown h) ∙ kept_again t z h

pub shown_numbers : (t : Ty) (es : List RawExpr) (zs : List ℤ) → ShowValues t es zs → AreNumbersOf t zs → kept_numbers t es ≡ zs
shown_numbers t [] [] shown h = refl
shown_numbers t [] (z ∷ zs) shown h = absurd shown
shown_numbers t (a ∷ es) [] shown h = absurd shown
shown_numbers t (a ∷ es) (z ∷ zs) shown h = λ i. shown_kept t a z shown.0 h.0 i ∷ shown_numbers t es zs shown.1 h.1 i

pub shown_count : (t : Ty) (es : List RawExpr) (zs : List ℤ) → ShowValues t es zs → length es ≡ length zs
shown_count t [] [] shown = refl
shown_count t [] (z ∷ zs) shown = absurd shown
shown_count t (a ∷ es) [] shown = absurd shown
shown_count t (a ∷ es) (z ∷ zs) shown = ap suc (shown_count t es zs shown.1)

-- ---- no fault stands in it

negative_nameless : (ks : List Known) (at from n : ℕ) (t : Ty) (b : Bool) → expr_uses ks (if b then e.Cast at ty.Int (e.Num from ty.Unsigned 2147483648) else e.Un at un.Minus (e.Num from t (suc n))) ≡ []
unfolding expr_uses row_uses shape-the_row-RawExpr-0 hidden-the_row-RawExpr-0 hidden
negative_nameless ks at from n t true = refl
negative_nameless ks at from n t false = refl

num_nameless : (ks : List Known) (at n : ℕ) (t : Ty) → expr_uses ks (e.Num at t n) ≡ []
unfolding expr_uses
num_nameless ks at n t = refl

shown_nameless : (ks : List Known) (t : Ty) (a : RawExpr) (z : ℤ) → ShowsValue t a z → expr_uses ks a ≡ []
shown_nameless ks t a (pos n) (at, is) = ap (expr_uses ks) is ∙ num_nameless ks at n t
shown_nameless ks t a (negsuc n) (at, from, is) = ap (expr_uses ks) is ∙ negative_nameless ks at from n t (n == 2 ^ 31 - 1)

constant_faultless : (ks : List Known) (a : RawExpr) (v : Value) → expr_uses ks a ≡ [] → constant_value a ≡ Some v → AreFaultless (constant_uses ks a)
constant_faultless ks a v nameless is =
    let same : constant_uses ks a ≡ Constant (first_token a) (Some v) ∷ [] = (λ i. nameless i ++ Constant (first_token a) (is i) ∷ []) in
    subst AreFaultless (sym same) refl

pub shown_faultless : (ks : List Known) (t : Ty) (a : RawExpr) (z : ℤ) → ShowsValue t a z → IsTrue (is_of t z) → AreFaultless (constant_uses ks a)
shown_faultless ks t a z shown h =
    constant_faultless ks a (of_int t z) (shown_nameless ks t a z shown) (shown_constant t a z shown h)

pub numbers_faultless : (ks : List Known) (t : Ty) (es : List RawExpr) (zs : List ℤ) → ShowValues t es zs → AreNumbersOf t zs → AreFaultless (constants_uses ks es)
numbers_faultless ks t [] [] shown h = refl
numbers_faultless ks t [] (z ∷ zs) shown h = absurd shown
numbers_faultless ks t (a ∷ es) [] shown h = absurd shown
numbers_faultless ks t (a ∷ es) (z ∷ zs) shown h =
    faultless_both (constant_uses ks a) (constants_uses ks es) (shown_faultless ks t a z shown.0 h.0) (numbers_faultless ks t es zs shown.1 h.1)
