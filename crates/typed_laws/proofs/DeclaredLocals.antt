-- The locals that a function declares: its parameters, and then those of its statements, whose arrays have a length.
use Rattle.std.proofs.Common.{◌≡◌, Bool, true, false, List, [], ◌∷◌, ◌++◌, length, Some, None, refl, sym, ap, ◌∙◌, append_assoc}
use Rattle.c_tree.specs.declared.tree.Ty.{Ty}
use Rattle.c_tree.specs.declared.program.Local.{Local}
use Rattle.c_tree.specs.declared.program.Func.{Func}
use Rattle.c_tree.specs.declared.unit.Spot.{Spot}
use Rattle.c_tree.specs.declared.unit.RawParam.{RawParam}
use Rattle.c_tree.specs.declared.unit.RawShape.{RawShape}
use Rattle.c_tree.specs.declared.unit.RawShape.TheVariants as shape
use Rattle.c_tree.specs.declared.unit.RawStmt.{RawStmt, Row_of-RawStmt, end_of-RawStmt, more_of-RawStmt, Held-RawStmt-For-2, None', Some'}
use Rattle.c_tree.specs.declared.unit.RawStmt.TheVariants.{Empty, Declare, Assign, Call, Break, Continue, Return, If', While', Do', For', Group'}
use Rattle.c_tree.specs.declared.unit.RawTarget.TheVariants as target
use Rattle.c_tree.specs.Checking.Constants.{declared_length, shape_length}
use Rattle.c_tree.specs.Checking.Naming.{Scope, local_of, scope_with_local, inner_scope, loop_scope, scope_past_list, stmt_locals, row_locals, held_locals, list_locals, scope_behind, held_behind, list_behind, with_params}
use Rattle.c_tree.specs.Keeping.WellFormed.{Context, IsLength, WellFormedLocals, HasParams}
use Rattle.c_tree.specs.Checking.Uses.{expr_uses, length_uses, declared_at, sized_use, list_uses, declarator_uses, stmt_uses, row_stmt_uses, held_uses, stmts_uses}
use Rattle.typed_laws.proofs.Faultless.{AllClean, clean_parts}
use Rattle.typed_laws.proofs.Inside.{Inside, declared_inside}
use Rattle.std.proofs.lemmas.List.{append-nil}

-- ---- lengths

pub locals_append : (ls ms : List Local) → WellFormedLocals ls → WellFormedLocals ms → WellFormedLocals (ls ++ ms)
locals_append [] ms h g = g
locals_append (l ∷ ls) ms h g = (h.0, locals_append ls ms h.1 g)

shape_is : (s : Scope) (constant : Bool) (t : Ty) (x : Spot) (sh : RawShape) → AllClean (declarator_uses s constant t x sh) → IsLength (shape_length sh)
shape_is s constant t x (shape.Scalar e) clean = tt
shape_is s constant t x (shape.Array e es) clean =
    let after = scope_with_local s constant t x.name (Some (declared_length e es)) in
    let parts = clean_parts (length_uses s.known e) (declared_at s.known s.depth x ∷ (sized_use x e es true ∷ list_uses after.known es)) clean in
    parts.1.1.0.0

mutual
  unfolding stmt_uses row_stmt_uses held_uses stmt_locals row_locals held_locals

  pub stmt_lengths : (s : Scope) (x : RawStmt) → AllClean (stmt_uses s x) → WellFormedLocals (stmt_locals x)
  stmt_lengths s Empty clean = tt
  stmt_lengths s (Declare constant t x sh) clean = (shape_is s constant t x sh clean, tt)
  stmt_lengths s (Assign p op e) clean = tt
  stmt_lengths s (Call target.Nothing f es) clean = tt
  stmt_lengths s (Call (target.Assign x) f es) clean = tt
  stmt_lengths s (Call (target.Declare constant t x) f es) clean = (tt, tt)
  stmt_lengths s (Break at) clean = tt
  stmt_lengths s (Continue at) clean = tt
  stmt_lengths s (Return at e) clean = tt
  stmt_lengths s (If' e a x b y) clean =
      let t = inner_scope (scope_past_list s (row_locals x)) in
      let parts = clean_parts (expr_uses s.known e) (row_stmt_uses (inner_scope s) x ++ row_stmt_uses t y) clean in
      let sides = clean_parts (row_stmt_uses (inner_scope s) x) (row_stmt_uses t y) parts.1 in
      locals_append (row_locals x) (row_locals y) (row_lengths (inner_scope s) x sides.0) (row_lengths t y sides.1)
  stmt_lengths s (While' at k e a x) clean =
      row_lengths (loop_scope s) x (clean_parts (expr_uses s.known e) (row_stmt_uses (loop_scope s) x) clean.1).1
  stmt_lengths s (Do' at k a x e) clean =
      row_lengths (loop_scope s) x (clean_parts (row_stmt_uses (loop_scope s) x) (expr_uses s.known e) clean.1).0
  stmt_lengths s (For' at k i e j a x) clean =
      let p = inner_scope s in
      let t = held_behind p i in
      let u = held_behind t j in
      let first = clean_parts (held_uses p i) (expr_uses t.known e ++ (held_uses t j ++ row_stmt_uses (loop_scope u) x)) clean.1 in
      let second = clean_parts (expr_uses t.known e) (held_uses t j ++ row_stmt_uses (loop_scope u) x) first.1 in
      let third = clean_parts (held_uses t j) (row_stmt_uses (loop_scope u) x) second.1 in
      locals_append (held_locals i) (held_locals j ++ row_locals x) (held_lengths p i first.0) (locals_append (held_locals j) (row_locals x) (held_lengths t j third.0) (row_lengths (loop_scope u) x third.1))
  stmt_lengths s (Group' a x) clean = row_lengths (inner_scope s) x clean

  row_lengths : {m : _} (s : Scope) (x : Row_of-RawStmt m) → AllClean (row_stmt_uses s x) → WellFormedLocals (row_locals x)
  row_lengths s end_of-RawStmt clean = tt
  row_lengths s (more_of-RawStmt x rest) clean =
      let parts = clean_parts (stmt_uses s x) (row_stmt_uses (scope_behind s x) rest) clean in
      locals_append (stmt_locals x) (row_locals rest) (stmt_lengths s x parts.0) (row_lengths (scope_behind s x) rest parts.1)

  held_lengths : (s : Scope) (x : Held-RawStmt-For-2) → AllClean (held_uses s x) → WellFormedLocals (held_locals x)
  held_lengths s None' clean = tt
  held_lengths s (Some' a x) clean = row_lengths s x clean

pub list_lengths : (s : Scope) (xs : List RawStmt) → AllClean (stmts_uses s xs) → WellFormedLocals (list_locals xs)
list_lengths s [] clean = tt
list_lengths s (x ∷ xs) clean =
    let parts = clean_parts (stmt_uses s x) (stmts_uses (scope_behind s x) xs) clean in
    locals_append (stmt_locals x) (list_locals xs) (stmt_lengths s x parts.0) (list_lengths (scope_behind s x) xs parts.1)

-- ---- behind statements

behind_locals : (s : Scope) (x : RawStmt) → (scope_behind s x).locals ≡ s.locals ++ stmt_locals x
unfolding scope_behind stmt_locals
behind_locals s (Declare constant t x sh) = refl
behind_locals s (Call (target.Declare constant t x) f es) = refl
behind_locals s (Call target.Nothing f es) = refl
behind_locals s (Call (target.Assign x) f es) = refl
behind_locals s Empty = refl
behind_locals s (Assign p op e) = refl
behind_locals s (Break at) = refl
behind_locals s (Continue at) = refl
behind_locals s (Return at e) = refl
behind_locals s (If' e a x b y) = refl
behind_locals s (While' at k e a x) = refl
behind_locals s (Do' at k a x e) = refl
behind_locals s (For' at k i e j a x) = refl
behind_locals s (Group' a x) = refl

pub list_behind_locals : (s : Scope) (xs : List RawStmt) → (list_behind s xs).locals ≡ s.locals ++ list_locals xs
list_behind_locals s [] = sym (append-nil s.locals)
list_behind_locals s (x ∷ xs) =
    list_behind_locals (scope_behind s x) xs ∙ ap (λ ls. ls ++ list_locals xs) (behind_locals s x) ∙ append_assoc s.locals (stmt_locals x) (list_locals xs)

-- ---- parameters

abbrev pub params_locals : List RawParam → List Local
params_locals [] = []
params_locals (p ∷ ps) = local_of p.ty p.spot.name None ∷ params_locals ps

pub params_lengths : (ps : List RawParam) → WellFormedLocals (params_locals ps)
params_lengths [] = tt
params_lengths (p ∷ ps) = (tt, params_lengths ps)

pub has_params : (ps : List RawParam) (ls : List Local) → HasParams (length ps) (params_locals ps ++ ls)
has_params [] ls = tt
has_params (p ∷ ps) ls = (refl, has_params ps ls)

pub with_params_locals : (s : Scope) (ps : List RawParam) → (with_params s ps).locals ≡ s.locals ++ params_locals ps
with_params_locals s [] = sym (append-nil s.locals)
with_params_locals s (p ∷ ps) =
    with_params_locals (scope_with_local s false p.ty p.spot.name None) ps ∙ append_assoc s.locals (local_of p.ty p.spot.name None ∷ []) (params_locals ps)

pub with_params_looped : (s : Scope) (ps : List RawParam) → (with_params s ps).looped ≡ s.looped
with_params_looped s [] = refl
with_params_looped s (p ∷ ps) = with_params_looped (scope_with_local s false p.ty p.spot.name None) ps

pub params_inside : (c : Context) (fs : List Func) (s : Scope) (ps : List RawParam) (ms : List Local) → Inside c fs s (params_locals ps ++ ms) → Inside c fs (with_params s ps) ms
params_inside c fs s [] ms h = h
params_inside c fs s (p ∷ ps) ms h =
    params_inside c fs (scope_with_local s false p.ty p.spot.name None) ps ms (declared_inside c fs s false p.ty p.spot.name None (params_locals ps ++ ms) h)
