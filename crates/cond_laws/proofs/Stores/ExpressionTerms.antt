-- The terms of expressions: they stand for the values and the types of the expressions.
use Rattle.std.proofs.Common.{◌≡◌, ℕ, ◌^◌, ◌<◌, Option, Some, sym, ap, subst}
use Rattle.c_tree.specs.declared.tree.Ty.{Ty}
use Rattle.c_tree.specs.declared.tree.Ty.TheVariants as ty
use Rattle.c_tree.specs.declared.value.Value.{Value}
use Rattle.c_tree.specs.Meaning.Values.{of_word, common}
use Rattle.c_tree.specs.Meaning.Operators as c
use Rattle.bv_term.specs.Scripts.{Script, Done, ◌>>=◌, Always}
use Rattle.cond_laws.specs.Judged.{Judged, judged_term, sure}
use Rattle.cond_laws.specs.TermOperators as spec
use Rattle.cond_laws.proofs.Judging.{Stands, stands}
use Rattle.std.specs.Prelude.{option_map, option_and_then}
use Rattle.c_tree.specs.declared.tree.UnOp.{UnOp}
use Rattle.c_tree.specs.declared.tree.BinOp.{BinOp}
use Rattle.c_tree.specs.declared.tree.Var.{Var}
use Rattle.c_tree.specs.declared.tree.Expr.{Expr, Row_of-Expr, end_of-Expr, more_of-Expr}
use Rattle.c_tree.specs.declared.tree.Expr.TheVariants.{Num, Name, Elem', Un', Cast', Bin', Cond'}
use Rattle.c_tree.specs.Meaning.Values.{convert}
use Rattle.c_tree.specs.Meaning.Stores as cs
use Rattle.c_tree.specs.Meaning.Stores.{slot_ty, number_in}
use Rattle.c_tree.specs.Meaning.Expressions as ce
use Rattle.c_tree.specs.Meaning.Expressions.{val, row_val, type_of, row_type, un_ty, bin_ty}
use Rattle.bv_term.proofs.ScriptLaws.{always_then}
use Rattle.cond_laws.specs.TermStores.{TermStore, store_at, held_at, scalar_term, element_term}
use Rattle.cond_laws.specs.TermExpressions.{expr_term, row_expr_term}
use Rattle.cond_laws.proofs.Stores.SlotTerms.{IsSmall, small_at}
use Rattle.cond_laws.proofs.Operators.OperandTerms.{unary_with, operated_stands, chosen_stand, cast_stands}
use Rattle.cond_laws.proofs.Stores.ElementTerms.{held_is, named_stands, element_stands, never_stands}

-- ---- one layer of each kind

num_part : (input at : ℕ → ℕ) (t : Ty) (n : ℕ) → (r : ℕ) → at r ≡ n → Stands at (Some (of_word t n)) t (sure t r)
num_part input at t n r er = stands at (Some (of_word t n)) (sure t r) (sym (ap (λ n. Some (of_word t n)) er))

name_part : (input at : ℕ → ℕ) (s : TermStore) (x : Var) → Always input at (scalar_term (held_at s x)) (Stands at (number_in (cs.slot (store_at at s) x)) (slot_ty (cs.slot (store_at at s) x)))
name_part input at s x =
    subst (λ o. Always input at (scalar_term (held_at s x)) (Stands at (number_in o) (slot_ty o))) (sym (held_is at s x)) (named_stands input at (held_at s x))

elem_part : (input at : ℕ → ℕ) → ((n : ℕ) → at n < 2 ^ 32) → (s : TermStore) → IsSmall s → (x : Var) (i : Script Judged) (v : Option Value) (u : Ty) → Always input at i (Stands at v u) → Always input at (i >>= (λ e. element_term (held_at s x) e)) (Stands at (ce.element (cs.slot (store_at at s) x) v) (slot_ty (cs.slot (store_at at s) x)))
elem_part input at small s hs x i v u h =
    subst (λ o. Always input at (i >>= (λ e. element_term (held_at s x) e)) (Stands at (ce.element o v) (slot_ty o))) (sym (held_is at s x)) (always_then (Stands at v u) _ input at i (λ e. element_term (held_at s x) e) h (λ e he. element_stands input at small (held_at s x) v u e (small_at s hs x) he))

un_part : (input at : ℕ → ℕ) → ((n : ℕ) → at n < 2 ^ 32) → (o : UnOp) (i : Script Judged) (v : Option Value) (u : Ty) → Always input at i (Stands at v u) → Always input at (i >>= (λ p. spec.with_unary o p)) (Stands at (option_and_then (c.unary o) v) (un_ty o u))
un_part input at small o i v u h = always_then (Stands at v u) _ input at i (λ p. spec.with_unary o p) h (λ p hp. unary_with input at small o v u p hp)

cast_part : (input at : ℕ → ℕ) → ((n : ℕ) → at n < 2 ^ 32) → (t : Ty) (i : Script Judged) (v : Option Value) (u : Ty) → Always input at i (Stands at v u) → Always input at (i >>= (λ p. Done (judged_term t p.term p.conditions))) (Stands at (option_map (convert t) v) t)
cast_part input at small t i v u h = always_then (Stands at v u) (Stands at (option_map (convert t) v) t) input at i (λ p. Done (judged_term t p.term p.conditions)) h (λ p hp. cast_stands at small t v u p hp)

bin_part : (input at : ℕ → ℕ) → ((n : ℕ) → at n < 2 ^ 32) → (o : BinOp) (i j : Script Judged) (x y : Option Value) (t u : Ty) → Always input at i (Stands at x t) → Always input at j (Stands at y u) → Always input at (i >>= (λ p. j >>= (λ q. spec.operation_term o p q))) (Stands at (c.operation_value o x y) (bin_ty o t u))
bin_part input at small o i j x y t u h k = always_then (Stands at x t) _ input at i (λ p. j >>= (λ q. spec.operation_term o p q)) h (λ p hp. always_then (Stands at y u) _ input at j (λ q. spec.operation_term o p q) k (λ q hq. operated_stands input at small o x y t u p q hp hq))

cond_part : (input at : ℕ → ℕ) → ((n : ℕ) → at n < 2 ^ 32) → (i j k : Script Judged) (x y z : Option Value) (s t u : Ty) → Always input at i (Stands at x s) → Always input at j (Stands at y t) → Always input at k (Stands at z u) → Always input at (i >>= (λ p. j >>= (λ q. k >>= (λ r. spec.choice_term p q r)))) (Stands at (ce.choice_value x (common t u) y z) (common t u))
cond_part input at small i j k x y z s t u hi hj hk = always_then (Stands at x s) _ input at i (λ p. j >>= (λ q. k >>= (λ r. spec.choice_term p q r))) hi (λ p hp. always_then (Stands at y t) _ input at j (λ q. k >>= (λ r. spec.choice_term p q r)) hj (λ q hq. always_then (Stands at z u) _ input at k (λ r. spec.choice_term p q r) hk (λ r hr. chosen_stand input at small x y z s t u p q r hp hq hr)))

mutual
  unfolding expr_term row_expr_term val row_val type_of row_type

  pub expr_stands : (input at : ℕ → ℕ) → ((n : ℕ) → at n < 2 ^ 32) → (e : Expr) (s : TermStore) → IsSmall s → Always input at (expr_term e s) (Stands at (val e (store_at at s)) (type_of e (store_at at s)))
  expr_stands input at small (Num t n) s h = λ r er. num_part input at t n r er
  expr_stands input at small (Name x) s h = name_part input at s x
  expr_stands input at small (Elem' x a i) s h = elem_part input at small s h x (row_expr_term i s) (row_val i (store_at at s)) (row_type i (store_at at s)) (row_stands input at small i s h)
  expr_stands input at small (Un' o a x) s h = un_part input at small o (row_expr_term x s) (row_val x (store_at at s)) (row_type x (store_at at s)) (row_stands input at small x s h)
  expr_stands input at small (Cast' t a x) s h = cast_part input at small t (row_expr_term x s) (row_val x (store_at at s)) (row_type x (store_at at s)) (row_stands input at small x s h)
  expr_stands input at small (Bin' o a x b y) s h = bin_part input at small o (row_expr_term x s) (row_expr_term y s) (row_val x (store_at at s)) (row_val y (store_at at s)) (row_type x (store_at at s)) (row_type y (store_at at s)) (row_stands input at small x s h) (row_stands input at small y s h)
  expr_stands input at small (Cond' a x b y d z) s h = cond_part input at small (row_expr_term x s) (row_expr_term y s) (row_expr_term z s) (row_val x (store_at at s)) (row_val y (store_at at s)) (row_val z (store_at at s)) (row_type x (store_at at s)) (row_type y (store_at at s)) (row_type z (store_at at s)) (row_stands input at small x s h) (row_stands input at small y s h) (row_stands input at small z s h)

  pub row_stands : {m : _} (input at : ℕ → ℕ) → ((n : ℕ) → at n < 2 ^ 32) → (x : Row_of-Expr m) (s : TermStore) → IsSmall s → Always input at (row_expr_term x s) (Stands at (row_val x (store_at at s)) (row_type x (store_at at s)))
  row_stands input at small end_of-Expr s h = never_stands input at ty.Int
  row_stands input at small (more_of-Expr e rest) s h = expr_stands input at small e s h
