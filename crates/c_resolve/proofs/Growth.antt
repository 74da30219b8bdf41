-- A scope only grows while its list is read, so that its end gives the scope around it.
use Rattle.std.proofs.Common.{◌≡◌, Bool, false, List, [], ◌∷◌, ◌++◌, Option, Some, None, length, take, refl, sym, ap, ◌∙◌, append_assoc}
use Rattle.std.proofs.Math.Seq.{take-append_seam}
use Rattle.c_tree.specs.declared.program.Local.{Local}
use Rattle.c_tree.specs.declared.unit.RawParam.{RawParam}
use Rattle.c_tree.specs.declared.unit.RawStmt.{RawStmt}
use Rattle.c_tree.specs.declared.unit.RawStmt.TheVariants.{Empty, Declare, Assign, Call, Break, Continue, Return, If', While', Do', For', Group'}
use Rattle.c_tree.specs.declared.unit.RawTarget.TheVariants as target
use Rattle.c_tree.specs.Checking.Scopes.{Known}
use Rattle.c_tree.specs.Checking.Naming.{Scope, local_of, scope_with_local, with_params, scope_past_list, scope_behind, stmt_locals, list_locals, list_behind}
use Rattle.c_resolve.specs.declared.checker.Outer.{Outer}
use Rattle.c_resolve.specs.Walks.{list_scope, IsOuter, scope_at_end, option_behind, option_locals}
use Rattle.std.proofs.lemmas.List.{append-nil}

pub record Grows (s t : Scope) (ls : List Local) : Type 0 where
  pub more : List Known
  pub known : t.known ≡ s.known ++ more
  pub locals : t.locals ≡ s.locals ++ ls
  pub func : t.func ≡ s.func
  pub result : t.result ≡ s.result

grows_past : (s : Scope) (ls : List Local) → Grows s (scope_past_list s ls) ls
grows_past s ls =
    record { more = []; known = sym (append-nil s.known); locals = refl; func = refl; result = refl }

pub grows_behind : (s : Scope) (x : RawStmt) → Grows s (scope_behind s x) (stmt_locals x)
unfolding scope_behind stmt_locals
grows_behind s (Declare constant t x sh) = record { more = _; known = refl; locals = refl; func = refl; result = refl }
grows_behind s (Call (target.Declare constant t x) f es) =
    record { more = _; known = refl; locals = refl; func = refl; result = refl }
grows_behind s (Call target.Nothing f es) = grows_past s []
grows_behind s (Call (target.Assign x) f es) = grows_past s []
grows_behind s Empty = grows_past s []
grows_behind s (Assign p op e) = grows_past s []
grows_behind s (Break at) = grows_past s []
grows_behind s (Continue at) = grows_past s []
grows_behind s (Return at e) = grows_past s []
grows_behind s (If' e a x b y) = grows_past s (stmt_locals (If' e a x b y))
grows_behind s (While' at k e a x) = grows_past s (stmt_locals (While' at k e a x))
grows_behind s (Do' at k a x e) = grows_past s (stmt_locals (Do' at k a x e))
grows_behind s (For' at k i e j a x) = grows_past s (stmt_locals (For' at k i e j a x))
grows_behind s (Group' a x) = grows_past s (stmt_locals (Group' a x))

pub grows_on : (s t u : Scope) (ls ms : List Local) → Grows s t ls → Grows t u ms → Grows s u (ls ++ ms)
grows_on s t u ls ms g h =
    record {
      more = g.more ++ h.more;
      known = h.known ∙ ap (λ ks. ks ++ h.more) g.known ∙ append_assoc s.known g.more h.more;
      locals = h.locals ∙ ap (λ ns. ns ++ ms) g.locals ∙ append_assoc s.locals ls ms;
      func = h.func ∙ g.func;
      result = h.result ∙ g.result;
    }

pub grows_list : (s : Scope) (xs : List RawStmt) → Grows s (list_behind s xs) (list_locals xs)
grows_list s [] =
    record { more = []; known = sym (append-nil s.known); locals = sym (append-nil s.locals); func = refl; result = refl }
grows_list s (x ∷ xs) =
    grows_on s (scope_behind s x) (list_behind (scope_behind s x) xs) (stmt_locals x) (list_locals xs) (grows_behind s x) (grows_list (scope_behind s x) xs)

pub grows_option : (s : Scope) (o : Option RawStmt) → Grows s (option_behind s o) (option_locals o)
grows_option s None =
    record { more = []; known = sym (append-nil s.known); locals = sym (append-nil s.locals); func = refl; result = refl }
grows_option s (Some x) = grows_behind s x

-- what is kept of the outer scope gives it back, but for the locals
pub ended_is : (s t : Scope) (looped : Bool) (ls : List Local) (o : Outer) → Grows (list_scope s looped) t ls → IsOuter s o → scope_at_end t o ≡ scope_past_list s ls
ended_is s t looped ls o g h =
    let known = (λ i. take (h.count i) (g.known i)) ∙ take-append_seam s.known g.more in
    λ i. let u : Scope = record { known = known i; depth = h.depth i; locals = g.locals i; func = g.func i; result = g.result i; looped = h.looped i } in u

-- of a list
pub ended_list : (s : Scope) (looped : Bool) (xs : List RawStmt) (o : Outer) → IsOuter s o → scope_at_end (list_behind (list_scope s looped) xs) o ≡ scope_past_list s (list_locals xs)
ended_list s looped xs o h =
    ended_is s (list_behind (list_scope s looped) xs) looped (list_locals xs) o (grows_list (list_scope s looped) xs) h

-- of a `for`, whose body's list is past
pub ended_for : (s : Scope) (a b : Option RawStmt) (xs : List RawStmt) (o : Outer) → IsOuter s o
    → scope_at_end (scope_past_list (option_behind (option_behind (list_scope s s.looped) a) b) (list_locals xs)) o ≡ scope_past_list s (option_locals a ++ (option_locals b ++ list_locals xs))
ended_for s a b xs o h =
    let inner = list_scope s s.looped in
    let t = option_behind inner a in
    let u = option_behind t b in
    let last = grows_on t u (scope_past_list u (list_locals xs)) (option_locals b) (list_locals xs) (grows_option t b) (grows_past u (list_locals xs)) in
    ended_is s (scope_past_list u (list_locals xs)) s.looped (option_locals a ++ (option_locals b ++ list_locals xs)) o (grows_on inner t (scope_past_list u (list_locals xs)) (option_locals a) (option_locals b ++ list_locals xs) (grows_option inner a) last) h

-- parameters

abbrev params_locals : List RawParam → List Local
params_locals [] = []
params_locals (p ∷ ps) = local_of p.ty p.spot.name None ∷ params_locals ps

grows_params : (s : Scope) (ps : List RawParam) → Grows s (with_params s ps) (params_locals ps)
grows_params s [] =
    record { more = []; known = sym (append-nil s.known); locals = sym (append-nil s.locals); func = refl; result = refl }
grows_params s (p ∷ ps) =
    let t = scope_with_local s false p.ty p.spot.name None in
    let one : Grows s t (local_of p.ty p.spot.name None ∷ []) = record { more = _; known = refl; locals = refl; func = refl; result = refl } in
    grows_on s t (with_params t ps) (local_of p.ty p.spot.name None ∷ []) (params_locals ps) one (grows_params t ps)

-- the names of a function are taken back behind it
pub taken_back : (s : Scope) (ps : List RawParam) (xs : List RawStmt) → take (length s.known) (list_behind (with_params s ps) xs).known ≡ s.known
taken_back s ps xs =
    let t = with_params s ps in
    let g = grows_on s t (list_behind t xs) (params_locals ps) (list_locals xs) (grows_params s ps) (grows_list t xs) in
    ap (take (length s.known)) g.known ∙ take-append_seam s.known g.more
