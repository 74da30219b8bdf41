-- A scope inside a function: what its names stand for is there, and its locals are the first of the function's.
use Rattle.std.proofs.Common.{◌≡◌, ℕ, Bool, List, [], ◌∷◌, ◌++◌, length, Option, Some, None, refl, sym, ap, ◌∙◌, subst, append_assoc}
use Rattle.std.specs.Prelude.{is_some, slice_get}
use mathlib.Core.Former.{none_left, one_more}
use Rattle.c_tree.specs.declared.tree.Ty.{Ty}
use Rattle.c_tree.specs.declared.program.Local.{Local}
use Rattle.c_tree.specs.declared.program.Func.{Func}
use Rattle.c_tree.specs.declared.unit.RawStmt.{RawStmt, Row_of-RawStmt, end_of-RawStmt, more_of-RawStmt, Held-RawStmt-For-2, None', Some'}
use Rattle.c_tree.specs.declared.unit.RawStmt.TheVariants.{Empty, Declare, Assign, Call, Break, Continue, Return, If', While', Do', For', Group'}
use Rattle.c_tree.specs.declared.unit.RawTarget.TheVariants as target
use Rattle.c_tree.specs.Checking.Naming.{Scope, local_of, scope_with_local, inner_scope, loop_scope, scope_past_list, stmt_locals, row_locals, held_locals, scope_behind, held_behind, row_behind}
use Rattle.c_tree.specs.Keeping.Layouts.{shape_of, local_shapes}
use Rattle.c_tree.specs.Keeping.WellFormed.{Context}
use Rattle.typed_laws.proofs.Standing.{IsThere, AllStand, stand_append, local_there}
use Rattle.std.proofs.lemmas.List.{append-nil}

-- in this scope of a function, these locals and others still follow
pub record Inside (c : Context) (fs : List Func) (s : Scope) (ls : List Local) : Type 0 where
  pub stand : AllStand c.layout fs s.known
  pub func : s.func ≡ length c.above
  pub more : List Func
  pub all : fs ≡ c.above ++ more
  pub result : s.result ≡ c.result
  pub rest : List Local
  pub split : c.layout.locals ≡ local_shapes (s.locals ++ (ls ++ rest))

module _ (c : Context) (fs : List Func) where
  -- the local that is declared next
  pub next_there : (s : Scope) (l : Local) (ms : List Local) → Inside c fs s (l ∷ ms) → slice_get c.layout.locals (length s.locals) ≡ Some (shape_of l.ty l.length)
  next_there s l ms h = ap (λ ls. slice_get ls (length s.locals)) h.split ∙ local_there s.locals l (ms ++ h.rest)

  pub declared_inside : (s : Scope) (constant : Bool) (t : Ty) (name : List ℕ) (n : Option ℕ) (ms : List Local) → Inside c fs s (local_of t name n ∷ ms) → Inside c fs (scope_with_local s constant t name n) ms
  declared_inside s constant t name n ms h = record {
    stand = stand_append c.layout fs s.known _ h.stand (subst (λ o. IsThere o (is_some n)) (sym (next_there s (local_of t name n) ms h)) refl, tt);
    func = h.func;
    more = h.more;
    all = h.all;
    result = h.result;
    rest = h.rest;
    split = h.split ∙ ap local_shapes (sym (append_assoc s.locals (local_of t name n ∷ []) (ms ++ h.rest)));
  }

  pub past_inside : (s : Scope) (ls ms : List Local) → Inside c fs s (ls ++ ms) → Inside c fs (scope_past_list s ls) ms
  past_inside s ls ms h = record {
    stand = h.stand;
    func = h.func;
    more = h.more;
    all = h.all;
    result = h.result;
    rest = h.rest;
    split = h.split ∙ ap local_shapes (ap (λ l. s.locals ++ l) (append_assoc ls ms h.rest) ∙ sym (append_assoc s.locals ls (ms ++ h.rest)));
  }

  pub first_inside : (s : Scope) (ls ms : List Local) → Inside c fs s (ls ++ ms) → Inside c fs s ls
  first_inside s ls ms h = record {
    stand = h.stand;
    func = h.func;
    more = h.more;
    all = h.all;
    result = h.result;
    rest = ms ++ h.rest;
    split = h.split ∙ ap (λ l. local_shapes (s.locals ++ l)) (append_assoc ls ms h.rest);
  }

  pub opened_inside : (s : Scope) (ls : List Local) → Inside c fs s ls → Inside c fs (inner_scope s) ls
  opened_inside s ls h =
      record { stand = h.stand; func = h.func; more = h.more; all = h.all; result = h.result; rest = h.rest; split = h.split }

  pub looping_inside : (s : Scope) (ls : List Local) → Inside c fs s ls → Inside c fs (loop_scope s) ls
  looping_inside s ls h =
      record { stand = h.stand; func = h.func; more = h.more; all = h.all; result = h.result; rest = h.rest; split = h.split }

  pub behind_inside : (s : Scope) (x : RawStmt) (ms : List Local) → Inside c fs s (stmt_locals x ++ ms) → Inside c fs (scope_behind s x) ms
  unfolding scope_behind stmt_locals
  behind_inside s (Declare constant t x sh) ms h = declared_inside s constant t x.name _ ms h
  behind_inside s (Call (target.Declare constant t x) f es) ms h = declared_inside s constant t x.name None ms h
  behind_inside s (Call target.Nothing f es) ms h = past_inside s [] ms h
  behind_inside s (Call (target.Assign x) f es) ms h = past_inside s [] ms h
  behind_inside s Empty ms h = past_inside s [] ms h
  behind_inside s (Assign p op e) ms h = past_inside s [] ms h
  behind_inside s (Break at) ms h = past_inside s [] ms h
  behind_inside s (Continue at) ms h = past_inside s [] ms h
  behind_inside s (Return at e) ms h = past_inside s [] ms h
  behind_inside s (If' e a x b y) ms h = past_inside s (stmt_locals (If' e a x b y)) ms h
  behind_inside s (While' at k e a x) ms h = past_inside s (stmt_locals (While' at k e a x)) ms h
  behind_inside s (Do' at k a x e) ms h = past_inside s (stmt_locals (Do' at k a x e)) ms h
  behind_inside s (For' at k i e j a x) ms h = past_inside s (stmt_locals (For' at k i e j a x)) ms h
  behind_inside s (Group' a x) ms h = past_inside s (stmt_locals (Group' a x)) ms h

  none_declared : (x : Row_of-RawStmt none_left) → row_locals x ≡ []
  unfolding row_locals
  none_declared end_of-RawStmt = refl

  sole_inside : (s : Scope) (x : Row_of-RawStmt (one_more none_left)) (ms : List Local) → Inside c fs s (row_locals x ++ ms) → Inside c fs (row_behind s x) ms
  unfolding row_locals row_behind
  sole_inside s (more_of-RawStmt y rest) ms h =
      behind_inside s y ms (subst (λ ls. Inside c fs s (ls ++ ms)) (ap (λ ls. stmt_locals y ++ ls) (none_declared rest) ∙ append-nil (stmt_locals y)) h)

  pub held_inside : (s : Scope) (x : Held-RawStmt-For-2) (ms : List Local) → Inside c fs s (held_locals x ++ ms) → Inside c fs (held_behind s x) ms
  unfolding held_locals held_behind
  held_inside s None' ms h = h
  held_inside s (Some' a x) ms h = sole_inside s x ms h

pub looped_behind : (s : Scope) (x : RawStmt) → (scope_behind s x).looped ≡ s.looped
unfolding scope_behind
looped_behind s (Declare constant t x sh) = refl
looped_behind s (Call (target.Declare constant t x) f es) = refl
looped_behind s (Call target.Nothing f es) = refl
looped_behind s (Call (target.Assign x) f es) = refl
looped_behind s Empty = refl
looped_behind s (Assign p op e) = refl
looped_behind s (Break at) = refl
looped_behind s (Continue at) = refl
looped_behind s (Return at e) = refl
looped_behind s (If' e a x b y) = refl
looped_behind s (While' at k e a x) = refl
looped_behind s (Do' at k a x e) = refl
looped_behind s (For' at k i e j a x) = refl
looped_behind s (Group' a x) = refl
