-- The terms of expressions, statements and lists of edges fit.
use Rattle.std.proofs.Common.{ℕ, zero, suc, ◌+◌, ◌^◌, ◌<◌, ◌≤◌, List, [], ◌∷◌, ◌++◌, Option, Some, None, refl, ap, arith}
use Rattle.c_tree.specs.declared.tree.Ty.{Ty}
use Rattle.c_tree.specs.declared.tree.Ty.TheVariants as ty
use Rattle.bv_term.specs.declared.op.Op.TheVariants as op
use Rattle.bv_term.specs.Scripts.{Script, Done, ◌>>=◌}
pub use Rattle.cond_laws.specs.Fits.{FitSlot, FitSlots, FitHeld, FitStore, Below, FitListed, FitList}
use Rattle.cond_laws.specs.Judged.{Judged, judged_term}
use Rattle.cond_laws.specs.TermOperators as spec
use Rattle.std.specs.Prelude.{length, slice_get, slice_set}
use Rattle.c_tree.specs.declared.tree.Var.{Var}
use Rattle.c_tree.specs.declared.tree.Var.TheVariants.{Local, Global}
use Rattle.c_tree.specs.declared.tree.Expr.{Expr, Row_of-Expr, end_of-Expr, more_of-Expr}
use Rattle.c_tree.specs.declared.tree.Expr.TheVariants.{Num, Name, Elem', Un', Cast', Bin', Cond'}
use Rattle.bv_term.specs.Scripts.{put, pure, Fitting}
use Rattle.bv_term.proofs.FitLaws.{fitting_then}
use Rattle.cond_laws.specs.declared.store.TermSlot.{TermSlot}
use Rattle.cond_laws.specs.declared.store.TermSlot.TheVariants.{Unset, Number, Numbers}
use Rattle.cond_laws.specs.TermStores.{TermStore, held_at, held_ty, scalar_term, element_choice, index_condition, element_term, with_term_slot, unset_local_term, put_term}
use Rattle.cond_laws.specs.TermExpressions.{expr_term, row_expr_term, listed_terms, all_exprs}
use Rattle.cond_laws.specs.Conditions.{AllBelow}
use Rattle.cond_laws.proofs.Fitting.OperandFits.{below_more, below_append, FitJudged, judged_more, never_fits, operated_fits, unary_with_fits, chosen_fits}

-- ---- numbers that are words

unfoldable mutual
  -- each number in the expression is a word
  pub HasWords : Expr → Type 0
  HasWords (Num t n) = n < 2 ^ 32
  HasWords (Name v) = Unit {0}
  HasWords (Elem' v a i) = RowHasWords i
  HasWords (Un' o a x) = RowHasWords x
  HasWords (Cast' t a x) = RowHasWords x
  HasWords (Bin' o a x b y) = RowHasWords x × RowHasWords y
  HasWords (Cond' a x b y c z) = RowHasWords x × RowHasWords y × RowHasWords z

  pub RowHasWords : {m : _} → Row_of-Expr m → Type 0
  RowHasWords end_of-Expr = Unit {0}
  RowHasWords (more_of-Expr e rest) = HasWords e

abbrev pub HaveWords : List Expr → Type 0
HaveWords [] = Unit {0}
HaveWords (e ∷ es) = HasWords e × HaveWords es

-- ---- slots of terms that are there

pub slot_more : (k n : ℕ) (y : TermSlot) → k ≤ n → FitSlot k y → FitSlot n y
slot_more k n (Unset t) l h = tt
slot_more k n (Number t m) l h = omega arith
slot_more k n (Numbers t ns) l h = (below_more k n ns l h.0, h.1)

pub slots_more : (k n : ℕ) (ys : List TermSlot) → k ≤ n → FitSlots k ys → FitSlots n ys
slots_more k n [] l h = tt
slots_more k n (y ∷ ys) l h = (slot_more k n y l h.0, slots_more k n ys l h.1)

pub store_more : (k n : ℕ) (s : TermStore) → k ≤ n → FitStore k s → FitStore n s
store_more k n s l h = record { locals = slots_more k n s.locals l h.locals; globals = slots_more k n s.globals l h.globals }

pub get_fits : (k : ℕ) (ys : List TermSlot) (n : ℕ) → FitSlots k ys → FitHeld k (slice_get ys n)
get_fits k [] n h = tt
get_fits k (y ∷ ys) zero h = h.0
get_fits k (y ∷ ys) (suc n) h = get_fits k ys n h.1

set_fits : (k : ℕ) (ys : List TermSlot) (n : ℕ) (y : TermSlot) → FitSlot k y → FitSlots k ys → FitSlots k (slice_set ys n y)
set_fits k [] n y f h = tt
set_fits k (x ∷ ys) zero y f h = (f, h.1)
set_fits k (x ∷ ys) (suc n) y f h = (h.0, set_fits k ys n y f h.1)

pub held_fits : (k : ℕ) (s : TermStore) (x : Var) → FitStore k s → FitHeld k (held_at s x)
held_fits k s (Local n) h = get_fits k s.locals n h.locals
held_fits k s (Global n) h = get_fits k s.globals n h.globals

pub with_fits : (k : ℕ) (s : TermStore) (x : Var) (y : TermSlot) → FitSlot k y → FitStore k s → FitStore k (with_term_slot s x y)
with_fits k s (Local n) y f h = record { locals = set_fits k s.locals n y f h.locals; globals = h.globals }
with_fits k s (Global n) y f h = record { locals = h.locals; globals = set_fits k s.globals n y f h.globals }

pub unset_fits : (k l : ℕ) (s : TermStore) → FitStore k s → FitStore k (unset_local_term l s)
unset_fits k l s h = with_fits k s (Local l) (Unset (held_ty (slice_get s.locals l))) tt h

pub put_term_fits : (k : ℕ) (s : TermStore) (x : Var) (n : ℕ) → n < k → FitStore k s → FitStore k (put_term s x n)
put_term_fits k s x n f h = with_fits k s x (Number (held_ty (held_at s x)) n) f h

-- ---- names and elements

pub named_fits : (i k : ℕ) (o : Option TermSlot) → FitHeld k o → Fitting i k (scalar_term o) FitJudged
named_fits i k None h = never_fits i k ty.Int
named_fits i k (Some (Unset t)) h = never_fits i k t
named_fits i k (Some (Number t n)) h = record { term = h; conditions = tt }
named_fits i k (Some (Numbers t ns)) h = never_fits i k t

picked_fits : (i k e j x : ℕ) (ns : List ℕ) → e < k → x < k → AllBelow k ns → j + length ns ≤ 2 ^ 32 → Fitting i k (element_choice e j x ns) Below
picked_fits i k e j x [] he hx h l = hx
picked_fits i k e j x (n ∷ ns) he hx h l = (omega arith, λ d k1 hd l1. ((omega arith, omega arith), λ c k2 hc l2. ((omega arith, omega (arith, h.0), omega arith), λ y k3 hy l3. picked_fits i k3 e (j + 1) y ns (omega arith) hy (below_more k k3 ns (omega arith) h.1) (omega arith))))

pub within_fits : (i k e n : ℕ) → e < k → n < 2 ^ 32 → Fitting i k (index_condition e n) Below
within_fits i k e n he hn = (hn, λ l k1 hl l1. ((omega arith, hl), λ c k2 hc l2. hc))

no_element_fits : (i k : ℕ) (t : Ty) (e : Judged) → FitJudged k e → Fitting i k (do z ← put (op.Const 0); pure (judged_term t z (e.conditions ++ z ∷ []))) FitJudged
no_element_fits i k t e he = (omega arith, λ z n hz l. record { term = hz; conditions = below_append n e.conditions (z ∷ []) (below_more k n e.conditions l he.conditions) (hz, tt) })

pub element_fits : (i k : ℕ) (o : Option TermSlot) (e : Judged) → FitHeld k o → FitJudged k e → Fitting i k (element_term o e) FitJudged
element_fits i k None e h he = no_element_fits i k ty.Int e he
element_fits i k (Some (Unset t)) e h he = no_element_fits i k t e he
element_fits i k (Some (Number t n)) e h he = no_element_fits i k t e he
element_fits i k (Some (Numbers t ns)) e h he = (omega arith, λ z k1 hz l1. fitting_then Below FitJudged i k1 (element_choice e.term 0 z ns) (λ x. index_condition e.term (length ns) >>= (λ c. Done (judged_term t x (e.conditions ++ c ∷ [])))) (picked_fits i k1 e.term 0 z ns (omega (arith, he.term)) hz (below_more k k1 ns l1 h.0) (omega (arith, h.1))) (λ k2 x l2 hx. fitting_then Below FitJudged i k2 (index_condition e.term (length ns)) (λ c. Done (judged_term t x (e.conditions ++ c ∷ []))) (within_fits i k2 e.term (length ns) (omega (arith, he.term)) h.1) (λ n c l hc. record { term = omega (arith, hx); conditions = below_append n e.conditions (c ∷ []) (below_more k n e.conditions (omega arith) he.conditions) (hc, tt) })))

-- ---- expressions

pub elem_fit : (i k : ℕ) (o : Option TermSlot) (s : Script Judged) → FitHeld k o → Fitting i k s FitJudged → Fitting i k (s >>= (λ e. element_term o e)) FitJudged
elem_fit i k o s h hs = fitting_then FitJudged FitJudged i k s (λ e. element_term o e) hs (λ n e l he. element_fits i n o e (held_more k n o l h) he)
  where
    held_more : (k n : ℕ) (o : Option TermSlot) → k ≤ n → FitHeld k o → FitHeld n o
    held_more k n None l h = tt
    held_more k n (Some y) l h = slot_more k n y l h

mutual
  unfolding expr_term row_expr_term HasWords RowHasWords

  pub expr_fits : (i k : ℕ) (e : Expr) (s : TermStore) → FitStore k s → HasWords e → Fitting i k (expr_term e s) FitJudged
  expr_fits i k (Num t n) s h w = (w, λ r m hr l. record { term = hr; conditions = tt })
  expr_fits i k (Name x) s h w = named_fits i k (held_at s x) (held_fits k s x h)
  expr_fits i k (Elem' x a y) s h w = elem_fit i k (held_at s x) (row_expr_term y s) (held_fits k s x h) (row_fits i k y s h w)
  expr_fits i k (Un' o a x) s h w = fitting_then FitJudged FitJudged i k (row_expr_term x s) (λ p. spec.with_unary o p) (row_fits i k x s h w) (λ n p l hp. unary_with_fits i n o p hp)
  expr_fits i k (Cast' t a x) s h w = fitting_then FitJudged FitJudged i k (row_expr_term x s) (λ p. Done (judged_term t p.term p.conditions)) (row_fits i k x s h w) (λ n p l hp. record { term = hp.term; conditions = hp.conditions })
  expr_fits i k (Bin' o a x b y) s h w = fitting_then FitJudged FitJudged i k (row_expr_term x s) (λ p. row_expr_term y s >>= (λ q. spec.operation_term o p q)) (row_fits i k x s h w.0) (λ n p l hp. fitting_then FitJudged FitJudged i n (row_expr_term y s) (λ q. spec.operation_term o p q) (row_fits i n y s (store_more k n s l h) w.1) (λ m q l2 hq. operated_fits i m o p q (judged_more n m p l2 hp) hq))
  expr_fits i k (Cond' a x b y d z) s h w = fitting_then FitJudged FitJudged i k (row_expr_term x s) (λ p. row_expr_term y s >>= (λ q. row_expr_term z s >>= (λ r. spec.choice_term p q r))) (row_fits i k x s h w.0) (λ n p l hp. fitting_then FitJudged FitJudged i n (row_expr_term y s) (λ q. row_expr_term z s >>= (λ r. spec.choice_term p q r)) (row_fits i n y s (store_more k n s l h) w.1) (λ m q l2 hq. fitting_then FitJudged FitJudged i m (row_expr_term z s) (λ r. spec.choice_term p q r) (row_fits i m z s (store_more k m s (omega arith) h) w.2) (λ j r l3 hr. chosen_fits i j p q r (judged_more n j p (omega arith) hp) (judged_more m j q l3 hq) hr)))

  pub row_fits : {m : _} (i k : ℕ) (x : Row_of-Expr m) (s : TermStore) → FitStore k s → RowHasWords x → Fitting i k (row_expr_term x s) FitJudged
  row_fits i k end_of-Expr s h w = never_fits i k ty.Int
  row_fits i k (more_of-Expr e rest) s h w = expr_fits i k e s h w

-- ---- lists of expressions

pub all_fit : (i k : ℕ) (es : List Expr) (s : TermStore) → FitStore k s → HaveWords es → Fitting i k (all_exprs es s) (FitList (length es))
all_fit i k [] s h w = (record { terms = tt; conditions = tt }, refl)
all_fit i k (e ∷ es) s h w = fitting_then FitJudged (FitList (length (e ∷ es))) i k (expr_term e s) (λ j. all_exprs es s >>= (λ more. Done (listed_terms (j.term ∷ more.terms) (j.conditions ++ more.conditions)))) (expr_fits i k e s h w.0) (λ n j l hj. fitting_then (FitList (length es)) (FitList (length (e ∷ es))) i n (all_exprs es s) (λ more. Done (listed_terms (j.term ∷ more.terms) (j.conditions ++ more.conditions))) (all_fit i n es s (store_more k n s l h) w.1) (λ m more l2 hm. (record { terms = (omega (arith, hj.term), hm.0.terms); conditions = below_append m j.conditions more.conditions (below_more n m j.conditions l2 hj.conditions) hm.0.conditions }, ap (λ n. suc n) hm.1)))
