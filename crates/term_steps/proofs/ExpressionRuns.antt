-- The scripts of an expression's operands and then that of its operator are the script of the expression.
use Rattle.std.proofs.Common.{◌≡◌, ℕ, List, ◌∷◌, ◌++◌, Option, Result, Ok, Err, append_assoc, sym, ap, subst, ◌∙◌}
use Rattle.std.specs.Result.{IfOk}
use Rattle.c_tree.specs.declared.tree.Ty.{Ty}
use Rattle.c_tree.specs.declared.tree.UnOp.{UnOp}
use Rattle.c_tree.specs.declared.tree.BinOp.{BinOp}
use Rattle.c_tree.specs.declared.tree.Var.{Var}
use Rattle.c_tree.specs.declared.tree.Expr.{Expr}
use Rattle.c_tree.specs.declared.tree.Expr.TheVariants.{Num, Name, Elem, Un, Cast, Bin, Cond}
use Rattle.bv_term.specs.declared.op.Op.TheVariants as op
use Rattle.bv_term.specs.Stores.{Terms}
use Rattle.bv_term.specs.Scripts.{Script, Done, put, ◌>>=◌}
use Rattle.cond_laws.specs.declared.value.Judged.{Judged}
use Rattle.cond_laws.specs.declared.store.TermStore.{TermStore}
use Rattle.cond_laws.specs.declared.store.TermSlot.{TermSlot}
use Rattle.cond_laws.specs.Judged.{judged_term, sure}
use Rattle.cond_laws.specs.TermOperators.{operation_term, with_unary, choice_term}
use Rattle.cond_laws.specs.TermStores.{held_at, scalar_term, element_term}
use Rattle.cond_laws.specs.TermExpressions.{listed_terms, expr_term}
use Rattle.cond_laws.specs.Fits.{Below, FitJudged}
use Rattle.cond_laws.proofs.Stores.ExpressionLayers.{expr_term-Num, expr_term-Name, expr_term-Elem, expr_term-Un, expr_term-Cast, expr_term-Bin, expr_term-Cond}
use Rattle.term_steps.specs.Gives.{Gives}
use Rattle.term_steps.proofs.Runs.{gives_then, gives_done}

-- of what an answer has, if it is one
pub mapped : {T E : Type 0} {P : T → Type 0} (Q : T → Type 0) (r : Result T E) → IfOk r P → ((x : T) → P x → Q x) → IfOk r Q
mapped Q (Ok x) h f = f x h
mapped Q (Err e) h f = tt

-- the same of an equal script
same : {s u : Script Judged} {old new : Terms} {j : Judged} → u ≡ s → Gives FitJudged s old new j → Gives FitJudged u old new j
same {old = old} {new = new} {j = j} e h = subst (λ (s : Script Judged). Gives FitJudged s old new j) (sym e) h

-- the expression is e, and its operands were read as x, y and z
pub num_runs : {e : Expr} (s : TermStore) {old new : Terms} {r : ℕ} {j : Judged} (t : Ty) (n : ℕ) → e ≡ Num t n → Gives Below (put (op.Const n)) old new r → j ≡ sure t r → Gives FitJudged (expr_term e s) old new j
num_runs {e = w} s {old = old} {new = new} {r = r} t n e h is = subst (λ (j : Judged). Gives FitJudged (expr_term w s) old new j) (sym is) (same (ap (λ e. expr_term e s) e ∙ expr_term-Num t n s) (gives_done FitJudged (λ r. sure t r) h (record { term = h.fits; conditions = tt })))

pub name_runs : {e : Expr} (s : TermStore) {old new : Terms} {j : Judged} (x : Var) (o : Option TermSlot) → o ≡ held_at s x → e ≡ Name x → Gives FitJudged (scalar_term o) old new j → Gives FitJudged (expr_term e s) old new j
name_runs s {old = old} {new = new} {j = j} x o is e h = same (ap (λ e. expr_term e s) e ∙ expr_term-Name x s) (subst (λ (o : Option TermSlot). Gives FitJudged (scalar_term o) old new j) is h)

pub elem_runs : {e i y : Expr} (s : TermStore) {old mid new : Terms} {k j : Judged} (x : Var) (o : Option TermSlot) → o ≡ held_at s x → e ≡ Elem x i → y ≡ i → Gives FitJudged (expr_term y s) old mid k → Gives FitJudged (element_term o k) mid new j → Gives FitJudged (expr_term e s) old new j
elem_runs {i = i} {y = y} s {mid = mid} {new = new} {k = v} {j = j} x o is e d h k =
    same (ap (λ e. expr_term e s) e ∙ (expr_term-Elem x i s ∙ ap (λ i. expr_term i s >>= (λ e. element_term (held_at s x) e)) (sym d))) (gives_then (λ e. element_term (held_at s x) e) h (subst (λ (o : Option TermSlot). Gives FitJudged (element_term o v) mid new j) is k))

pub un_runs : {e a x : Expr} (s : TermStore) {old mid new : Terms} {p j : Judged} (o : UnOp) → e ≡ Un o a → x ≡ a → Gives FitJudged (expr_term x s) old mid p → Gives FitJudged (with_unary o p) mid new j → Gives FitJudged (expr_term e s) old new j
un_runs {a = a} s o e d h k = same (ap (λ e. expr_term e s) e ∙ (expr_term-Un o a s ∙ ap (λ a. expr_term a s >>= (λ p. with_unary o p)) (sym d))) (gives_then (λ p. with_unary o p) h k)

pub cast_runs : {e a x : Expr} (s : TermStore) {old new : Terms} {p j : Judged} (t : Ty) → e ≡ Cast t a → x ≡ a → Gives FitJudged (expr_term x s) old new p → j ≡ judged_term t p.term p.conditions → Gives FitJudged (expr_term e s) old new j
cast_runs {e = w} {a = a} s {old = old} {new = new} {p = p} t e d h is =
    subst (λ (j : Judged). Gives FitJudged (expr_term w s) old new j) (sym is) (same (ap (λ e. expr_term e s) e ∙ (expr_term-Cast t a s ∙ ap (λ a. expr_term a s >>= (λ p. Done (judged_term t p.term p.conditions))) (sym d))) (gives_done FitJudged (λ p. judged_term t p.term p.conditions) h (record { term = h.fits.term; conditions = h.fits.conditions })))

pub bin_runs : {e a b x y : Expr} (s : TermStore) {old mid far new : Terms} {p q j : Judged} (o : BinOp) → e ≡ Bin o a b → x ≡ a → y ≡ b → Gives FitJudged (expr_term x s) old mid p → Gives FitJudged (expr_term y s) mid far q → Gives FitJudged (operation_term o p q) far new j → Gives FitJudged (expr_term e s) old new j
bin_runs {a = a} {b = b} {x = x} {y = y} s {p = p} o e d f h k l =
    same (ap (λ e. expr_term e s) e ∙ (expr_term-Bin o a b s ∙ (ap (λ a. expr_term a s >>= (λ p. expr_term b s >>= (λ q. operation_term o p q))) (sym d) ∙ ap (λ b. expr_term x s >>= (λ p. expr_term b s >>= (λ q. operation_term o p q))) (sym f)))) (gives_then (λ p. expr_term y s >>= (λ q. operation_term o p q)) h (gives_then (λ q. operation_term o p q) k l))

pub cond_runs : {e c a b w x y : Expr} (s : TermStore) {old mid far last new : Terms} {p q r j : Judged} → e ≡ Cond c a b → w ≡ c → x ≡ a → y ≡ b → Gives FitJudged (expr_term w s) old mid p → Gives FitJudged (expr_term x s) mid far q → Gives FitJudged (expr_term y s) far last r → Gives FitJudged (choice_term p q r) last new j → Gives FitJudged (expr_term e s) old new j
cond_runs {c = c} {a = a} {b = b} {w = w} {x = x} {y = y} s {p = p} {q = q} e d f g h k l m =
    let script : Expr → Expr → Expr → Script Judged = λ c a b. expr_term c s >>= (λ p. expr_term a s >>= (λ q. expr_term b s >>= (λ r. choice_term p q r))) in
    same (ap (λ e. expr_term e s) e ∙ (expr_term-Cond c a b s ∙ (ap (λ c. script c a b) (sym d) ∙ (ap (λ a. script w a b) (sym f) ∙ ap (λ b. script w x b) (sym g))))) (gives_then (λ p. expr_term x s >>= (λ q. expr_term y s >>= (λ r. choice_term p q r))) h (gives_then (λ q. expr_term y s >>= (λ r. choice_term p q r)) k (gives_then (λ r. choice_term p q r) l m)))

-- ---- lists of expressions

pub listed_is : {ts us cs ds : List ℕ} → ts ≡ us → cs ≡ ds → listed_terms ts cs ≡ listed_terms us ds
listed_is {us = us} {cs = cs} e d = ap (λ ts. listed_terms ts cs) e ∙ ap (λ cs. listed_terms us cs) d
