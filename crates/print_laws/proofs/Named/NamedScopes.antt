-- A scope of a text within a function of its program: its names are those that are printed for what they stand for.
use Rattle.std.proofs.Common.{◌≡◌, ℕ, Bool, List, [], ◌∷◌, ◌++◌, length, Option, Some, None, refl, sym, ap, ◌∙◌, subst, append_assoc}
use Rattle.std.specs.Prelude.{is_some, slice_get}
use Rattle.std.proofs.lemmas.List.{append-nil}
use mathlib.Core.Former.{none_left, one_more}
use Rattle.c_tree.specs.declared.tree.Ty.{Ty}
use Rattle.c_tree.specs.declared.tree.Var.TheVariants as var
use Rattle.c_tree.specs.declared.program.Func.{Func}
use Rattle.c_tree.specs.declared.program.Local.{Local}
use Rattle.c_tree.specs.declared.program.Program.{Program}
use Rattle.c_tree.specs.declared.unit.Spot.{Spot}
use Rattle.c_tree.specs.declared.unit.RawExpr.{RawExpr}
use Rattle.c_tree.specs.declared.unit.RawTarget.{RawTarget}
use Rattle.c_tree.specs.declared.unit.RawTarget.TheVariants as target
use Rattle.c_tree.specs.declared.unit.RawStmt.{RawStmt, Row_of-RawStmt, end_of-RawStmt, more_of-RawStmt, Held-RawStmt-For-2, None', Some'}
use Rattle.c_tree.specs.declared.unit.RawStmt.TheVariants.{Empty, Declare, Assign, Call, Break, Continue, Return, If', While', Do', For', Group'}
use Rattle.c_tree.specs.Checking.Scopes.{Variable}
use Rattle.c_tree.specs.Checking.Naming.{Scope, local_of, scope_with_local, inner_scope, loop_scope, scope_past_list, scope_behind_target, stmt_locals, row_locals, held_locals, scope_behind, held_behind, row_behind}
use Rattle.typed_laws.proofs.FileScope.{get_seam}
use Rattle.print_laws.specs.PrintedExpressions.{local_name, name_text}
use Rattle.print_laws.proofs.Again.Scoped.{AreNames}
use Rattle.print_laws.proofs.Again.ScopesAgain.{names_more}

-- these locals come next, and then others
pub record IsNamed (p : Program) (f : Func) (s : Scope) (ls : List Local) : Type 0 where
  pub names : AreNames p f s.known
  pub rest : List Local
  pub split : f.locals ≡ s.locals ++ (ls ++ rest)

module _ (p : Program) (f : Func) where
  -- the local that is declared next
  pub next_local : (s : Scope) (l : Local) (ms : List Local) → IsNamed p f s (l ∷ ms) → slice_get f.locals (length s.locals) ≡ Some l
  next_local s l ms h = ap (λ ls. slice_get ls (length s.locals)) h.split ∙ get_seam s.locals l (ms ++ h.rest)

  next_name : (s : Scope) (l : Local) (ms : List Local) → IsNamed p f s (l ∷ ms) → name_text p f (var.Local (length s.locals)) ≡ l.name
  unfolding name_text
  next_name s l ms h = ap local_name (next_local s l ms h)

  pub declared_named : (s : Scope) (constant : Bool) (t : Ty) (name : List ℕ) (n : Option ℕ) (ms : List Local) → IsNamed p f s (local_of t name n ∷ ms) → IsNamed p f (scope_with_local s constant t name n) ms
  declared_named s constant t name n ms h =
      let l = local_of t name n in
      record {
        names = names_more p f s.known (record { name = name; depth = s.depth; entity = Variable (var.Local (length s.locals)) (is_some n) constant }) (next_name s l ms h) h.names;
        rest = h.rest;
        split = h.split ∙ sym (append_assoc s.locals (l ∷ []) (ms ++ h.rest));
      }

  pub past_named : (s : Scope) (ls ms : List Local) → IsNamed p f s (ls ++ ms) → IsNamed p f (scope_past_list s ls) ms
  past_named s ls ms h = record {
    names = h.names;
    rest = h.rest;
    split = h.split ∙ ap (λ l. s.locals ++ l) (append_assoc ls ms h.rest) ∙ sym (append_assoc s.locals ls (ms ++ h.rest));
  }

  pub first_named : (s : Scope) (ls ms : List Local) → IsNamed p f s (ls ++ ms) → IsNamed p f s ls
  first_named s ls ms h =
      record { names = h.names; rest = ms ++ h.rest; split = h.split ∙ ap (λ l. s.locals ++ l) (append_assoc ls ms h.rest) }

  pub opened_named : (s : Scope) (ls : List Local) → IsNamed p f s ls → IsNamed p f (inner_scope s) ls
  opened_named s ls h = record { names = h.names; rest = h.rest; split = h.split }

  pub looping_named : (s : Scope) (ls : List Local) → IsNamed p f s ls → IsNamed p f (loop_scope s) ls
  looping_named s ls h = record { names = h.names; rest = h.rest; split = h.split }

  -- behind the target of a call
  pub targeted_named : (s : Scope) (u : RawTarget) (g : Spot) (es : List RawExpr) → IsNamed p f s (stmt_locals (Call u g es)) → IsNamed p f (scope_behind_target s u) []
  unfolding stmt_locals
  targeted_named s target.Nothing g es h = h
  targeted_named s (target.Assign x) g es h = h
  targeted_named s (target.Declare constant t x) g es h = declared_named s constant t x.name None [] h

  pub behind_named : (s : Scope) (x : RawStmt) (ms : List Local) → IsNamed p f s (stmt_locals x ++ ms) → IsNamed p f (scope_behind s x) ms
  unfolding scope_behind stmt_locals
  behind_named s (Declare constant t x sh) ms h = declared_named s constant t x.name _ ms h
  behind_named s (Call (target.Declare constant t x) g es) ms h = declared_named s constant t x.name None ms h
  behind_named s (Call target.Nothing g es) ms h = past_named s [] ms h
  behind_named s (Call (target.Assign x) g es) ms h = past_named s [] ms h
  behind_named s Empty ms h = past_named s [] ms h
  behind_named s (Assign q op e) ms h = past_named s [] ms h
  behind_named s (Break at) ms h = past_named s [] ms h
  behind_named s (Continue at) ms h = past_named s [] ms h
  behind_named s (Return at e) ms h = past_named s [] ms h
  behind_named s (If' e a x b y) ms h = past_named s (stmt_locals (If' e a x b y)) ms h
  behind_named s (While' at k e a x) ms h = past_named s (stmt_locals (While' at k e a x)) ms h
  behind_named s (Do' at k a x e) ms h = past_named s (stmt_locals (Do' at k a x e)) ms h
  behind_named s (For' at k i e j a x) ms h = past_named s (stmt_locals (For' at k i e j a x)) ms h
  behind_named s (Group' a x) ms h = past_named s (stmt_locals (Group' a x)) ms h

-- ---- a part of a `for`

-- no statement declares no local
pub none_declared : (x : Row_of-RawStmt none_left) → row_locals x ≡ []
unfolding row_locals
none_declared end_of-RawStmt = refl

module _ (p : Program) (f : Func) where
  sole_named : (s : Scope) (x : Row_of-RawStmt (one_more none_left)) (ms : List Local) → IsNamed p f s (row_locals x ++ ms) → IsNamed p f (row_behind s x) ms
  unfolding row_locals row_behind
  sole_named s (more_of-RawStmt y rest) ms h =
      behind_named p f s y ms (subst (λ ls. IsNamed p f s (ls ++ ms)) (ap (λ ls. stmt_locals y ++ ls) (none_declared rest) ∙ append-nil (stmt_locals y)) h)

  pub held_named : (s : Scope) (x : Held-RawStmt-For-2) (ms : List Local) → IsNamed p f s (held_locals x ++ ms) → IsNamed p f (held_behind s x) ms
  unfolding held_locals held_behind
  held_named s None' ms h = h
  held_named s (Some' a x) ms h = sole_named s x ms h
