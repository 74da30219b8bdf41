-- A well-formed statement of a function with identifiers for its names is one that a text has.
use Rattle.std.proofs.Common.{◌≡◌, ◌≤◌, ℕ, zero, suc, Bool, true, false, List, [], ◌∷◌, ◌++◌, length, Option, Some, None, refl, ◌∙◌, ap, subst}
use Rattle.std.specs.Prelude.{IsTrue, is_none, slice_get}
use Rattle.c_tree.specs.declared.tree.Place.{Place}
use Rattle.c_tree.specs.declared.tree.Place.TheVariants as place
use Rattle.c_tree.specs.declared.tree.Target.{Target}
use Rattle.c_tree.specs.declared.tree.Target.TheVariants as target
use Rattle.c_tree.specs.declared.tree.Var.TheVariants as var
use Rattle.c_tree.specs.declared.tree.Stmt.{Stmt, Row_of-Stmt, end_of-Stmt, more_of-Stmt, Held-Stmt-For-1, None', Some'}
use Rattle.c_tree.specs.declared.tree.Stmt.TheVariants.{Empty, Scalar, Array, Assign, Call, Break, Continue, Return, If', While', Do', For', Group'}
use Rattle.c_tree.specs.declared.program.Local.{Local}
use Rattle.c_tree.specs.declared.program.Func.{Func}
use Rattle.c_tree.specs.declared.program.Program.{Program}
use Rattle.c_tree.specs.Keeping.Layouts.{Shape, shape, is_scalar}
use Rattle.c_tree.specs.Keeping.WellFormed.{Context, IsLength, FitsLength, FitsArray, WellFormedPlace, WellFormedTarget, WellFormedCallee, WellFormedStmt, WellFormedRow, WellFormedHeld, WellFormedSole, WellFormedList, is_initialiser, is_step}
use Rattle.print_laws.proofs.Named.Showable.{IsShowablePlace, IsShowableTarget, HasLocal, HasArray, HasFunc, IsShowableStmt, IsShowableRow, IsShowableHeld, IsShowableSole, AreShowableStmts}
use Rattle.print_laws.proofs.Named.NamedPrograms.{HasNames, HaveNames}
use Rattle.print_laws.proofs.Named.NamedVariables.{IsLocalOf, local_there, Stands, layout_of, scalar_named, array_named}
use Rattle.print_laws.proofs.Named.ShowableExpressions.{expression_showable, optional_showable, list_showable, arguments_showable}
use Rattle.plain_laws.proofs.Lists.{get-front}

-- ---- functions that are called

-- a function that is there
func_there : (fs : List Func) (n : ℕ) (f : Func) → HaveNames fs → slice_get fs n ≡ Some f → HasNames f
func_there [] n f names is = absurd (cc)
func_there (g ∷ fs) zero f names is = let same : g ≡ f = cc in subst HasNames same names.0
func_there (g ∷ fs) (suc n) f names is = func_there fs n f names.1 is

-- where a function stands in a program whose names are identifiers: these functions are before it
pub record IsBehind (p : Program) (f : Func) (above : List Func) : Type 0 where
  pub stands : Stands p f
  pub named : HaveNames p.funcs
  pub rest : List Func
  pub split : p.funcs ≡ above ++ rest

length_of : {ls : List Local} {n : ℕ} {x : Shape} (l : IsLocalOf ls n x) → l.local.length ≡ x.length
length_of l = ap (λ (y : Shape). y.length) l.shaped

-- what its statements may name
abbrev pub context_of : Program → Func → List Func → Context
context_of p f above = record { layout = layout_of p f; above = above; result = f.result }

module _ (p : Program) (f : Func) (above : List Func) (at : IsBehind p f above) where
  -- ---- parts of statements

  callee_there : (g n : ℕ) (t : Target) (o : Option Func) → slice_get above g ≡ o → WellFormedCallee o n t → HasFunc p g
  callee_there g n t None is h = absurd h
  callee_there g n t (Some k) is h =
      let there = ap (λ fs. slice_get fs g) at.split ∙ get-front above at.rest g k is in
      record { callee = k; there = there; named = (func_there p.funcs g k at.named there).name }

  local_is : (n : ℕ) (x : Shape) (m : Option ℕ) → IsLocalOf f.locals n x → x.length ≡ m → HasLocal f n m
  local_is n x m l same =
      record { local = l.local; there = l.there; named = l.named; length = length_of l ∙ same }

  scalar_is : (n : ℕ) (x : Shape) (m : Option ℕ) → IsLocalOf f.locals n x → x.length ≡ m → IsTrue (is_none m) → HasLocal f n None
  scalar_is n x None l same h = local_is n x None l same
  scalar_is n x (Some size) l same h = absurd (cc)

  array_is : (n k : ℕ) (x : Shape) (m : Option ℕ) → IsLocalOf f.locals n x → x.length ≡ m → FitsLength m k → HasArray f n × 1 ≤ k
  array_is n k x None l same fits = absurd fits
  array_is n k x (Some size) l same fits =
      (record { size = size; short = (subst IsLength (length_of l ∙ same) l.fits).1; local = local_is n x (Some size) l same }, fits.0)

  scalar_local : (n : ℕ) (o : Option Shape) → shape (layout_of p f) (var.Local n) ≡ o → IsTrue (is_scalar o) → HasLocal f n None
  scalar_local n None is h = absurd (cc)
  scalar_local n (Some x) is h =
      scalar_is n x x.length (local_there f.locals n x at.stands.locals at.stands.formed is) refl h

  array_local : (n k : ℕ) (o : Option Shape) → shape (layout_of p f) (var.Local n) ≡ o → FitsArray o k → HasArray f n × 1 ≤ k
  array_local n k None is h = absurd h
  array_local n k (Some x) is h =
      array_is n k x x.length (local_there f.locals n x at.stands.locals at.stands.formed is) refl h

  place_showable : (v : Place) → WellFormedPlace (layout_of p f) v → IsShowablePlace p f v
  place_showable (place.Scalar v) h = scalar_named p f at.stands v h
  place_showable (place.Elem v i) h = (array_named p f at.stands v h.0, expression_showable p f at.stands i h.1)

  target_showable : (t : Target) → WellFormedTarget (layout_of p f) t → IsShowableTarget p f t
  target_showable target.Nothing h = tt
  target_showable (target.Assign v) h = scalar_named p f at.stands v h
  target_showable (target.Declare n) h = scalar_local n (shape (layout_of p f) (var.Local n)) refl h

  -- ---- statements

  mutual
    unfolding WellFormedStmt WellFormedRow WellFormedHeld WellFormedSole IsShowableStmt IsShowableRow IsShowableHeld IsShowableSole

    pub statement_showable : (looped : Bool) (s : Stmt) → WellFormedStmt (context_of p f above) looped s → IsShowableStmt p f s
    statement_showable looped Empty h = tt
    statement_showable looped (Scalar n e) h =
        (scalar_local n (shape (layout_of p f) (var.Local n)) refl h.0, optional_showable p f at.stands e h.1)
    statement_showable looped (Array n es) h =
        let l = array_local n (length es) (shape (layout_of p f) (var.Local n)) refl h.0 in
        (l.0, list_showable p f at.stands es l.1 h.1)
    statement_showable looped (Assign v o e) h =
        (place_showable v h.0, h.1.0, expression_showable p f at.stands e h.1.1)
    statement_showable looped (Call t g es) h =
        (target_showable t h.0, callee_there g (length es) t (slice_get above g) refl h.1.0, arguments_showable p f at.stands es h.1.1)
    statement_showable looped Break h = tt
    statement_showable looped Continue h = tt
    statement_showable looped (Return e) h = optional_showable p f at.stands e h.1
    statement_showable looped (If' e m xs n ys) h =
        (expression_showable p f at.stands e h.0, row_showable looped xs h.1.0, row_showable looped ys h.1.1)
    statement_showable looped (While' k e m xs) h =
        (h.0.1, expression_showable p f at.stands e h.1.0, row_showable true xs h.1.1)
    statement_showable looped (Do' k m xs e) h =
        (h.0.1, row_showable true xs h.1.0, expression_showable p f at.stands e h.1.1)
    statement_showable looped (For' k i e j m xs) h =
        (h.0.1, held_showable is_initialiser i h.1.0, expression_showable p f at.stands e h.1.1.0, held_showable is_step j h.1.1.1.0, row_showable true xs h.1.1.1.1)
    statement_showable looped (Group' m xs) h = row_showable looped xs h

    row_showable : {m : _} (looped : Bool) (xs : Row_of-Stmt m) → WellFormedRow (context_of p f above) looped xs → IsShowableRow p f xs
    row_showable looped end_of-Stmt h = tt
    row_showable looped (more_of-Stmt s rest) h = (statement_showable looped s h.0, row_showable looped rest h.1)

    held_showable : (sort : Stmt → Bool) (x : Held-Stmt-For-1) → WellFormedHeld (context_of p f above) sort x → IsShowableHeld p f sort x
    held_showable sort None' h = tt
    held_showable sort (Some' m x) h = sole_showable sort x h

    sole_showable : {m : _} (sort : Stmt → Bool) (x : Row_of-Stmt m) → WellFormedSole (context_of p f above) sort x → IsShowableSole p f sort x
    sole_showable sort end_of-Stmt h = absurd h
    sole_showable sort (more_of-Stmt s rest) h = (h.0, statement_showable false s h.1.0)

  pub statements_showable : (looped : Bool) (ss : List Stmt) → WellFormedList (context_of p f above) looped ss → AreShowableStmts p f ss
  statements_showable looped [] h = tt
  statements_showable looped (s ∷ ss) h = (statement_showable looped s h.0, statements_showable looped ss h.1)
