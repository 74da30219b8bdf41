-- In the graph of a well-formed program the numbers of all statements are words, and their lists are small.
use Rattle.std.proofs.Common.{◌≡◌, ℕ, zero, suc, ◌+◌, ◌^◌, ◌<◌, ◌≤◌, Bool, true, false, if◌then◌else◌, List, [], ◌∷◌, ◌++◌, Option, Some, None, pos, subst, arith}
use Rattle.std.proofs.lemmas.Bool.{ltb-true}
use Rattle.c_tree.specs.declared.tree.Ty.{Ty}
use Rattle.c_tree.specs.declared.tree.Ty.TheVariants as ty
use Rattle.std.specs.Prelude.{length, slice_get, IsTrue}
use Rattle.c_tree.specs.declared.tree.Expr.{Expr, Row_of-Expr, end_of-Expr, more_of-Expr}
use Rattle.c_tree.specs.declared.tree.Expr.TheVariants.{Num, Name, Elem', Un', Cast', Bin', Cond'}
use Rattle.c_tree.specs.declared.tree.Place.TheVariants.{Scalar as PlainPlace, Elem as ElemPlace}
use Rattle.c_tree.specs.declared.tree.Stmt.{Stmt}
use Rattle.c_tree.specs.declared.tree.Stmt.TheVariants as stmt
use Rattle.c_tree.specs.declared.tree.Target.{Target}
use Rattle.c_tree.specs.declared.program.Local.{Local as Declared}
use Rattle.c_tree.specs.declared.program.Program.{Program}
use Rattle.c_tree.specs.Keeping.WellFormed.{IsLength}
use Rattle.c_tree.specs.Meaning.Values.{is_of}
use Rattle.flow_laws.specs.Sites.{Land, Site, Copy}
use Rattle.flow_laws.specs.Graphs.{copies, graph}
use Rattle.cond_laws.proofs.Paths.StartTerms.{IsSmallCopy}
use Rattle.cond_laws.proofs.Paths.MoveTerms.{HasSmallLength, AreSmallLocals}
use Rattle.cond_laws.proofs.Fitting.ExpressionFits.{HasWords, HaveWords}
use Rattle.c_tree.specs.declared.tree.Stmt.{Row_of-Stmt, end_of-Stmt, more_of-Stmt, Held-Stmt-For-1, None', Some'}
use Rattle.c_tree.specs.declared.program.Func.{Func}
use Rattle.c_tree.specs.declared.program.BlockName.{BlockName}
use Rattle.c_tree.specs.Keeping.Layouts.{Shape, Layout, local_shapes, global_shapes}
use Rattle.c_tree.specs.Keeping.WellFormed.{Context, WellFormedExpr, WellFormedPart, WellFormedExprs, WellFormedOptional, WellFormedStmt, WellFormedRow, WellFormedHeld, WellFormedSole, WellFormedList, WellFormedLocals, WellFormedFunc, WellFormedFuncs, WellFormed, FitsArray, FitsLength, is_initialiser, is_step}
use Rattle.c_tree.specs.Meaning.Blocks.{is_simple, blocks, row_blocks, held_blocks}
use Rattle.c_tree.specs.Meaning.Statements.{block}
use Rattle.std.specs.Prelude.{IfSome}
use Rattle.flow_laws.specs.Sites.{Position, Targets, flow, row_flow, held_flow, list_flow, site_count, row_size, held_size, list_size, call_sites, flush, one_end_site, asks, head, number_past, with_next, body_of, times_as_often, loop_at}
use Rattle.flow_laws.specs.Graphs.{copy_of, sites_of, all_to}
use Rattle.cond_laws.proofs.Fitting.ExpressionFits.{RowHasWords}
use Rattle.cond_laws.proofs.Fitting.PathFits.{IsPlainOptional, IsPlain, ArePlain, IsPlainContent, IsPlainGraph}
use Rattle.flow_laws.proofs.Graphs.EndsJoined.{sole_row}

-- ---- expressions

small_number : (t : Ty) (n : ℕ) → IsTrue (is_of t (pos n)) → n < 2 ^ 32
small_number ty.Int n h = omega (arith, ltb-true n (2 ^ 31) h)
small_number ty.Unsigned n h = ltb-true n (2 ^ 32) h

mutual
  unfolding WellFormedExpr WellFormedPart HasWords RowHasWords

  words : (l : Layout) (e : Expr) → WellFormedExpr l e → HasWords e
  words l (Num t n) h = small_number t n h
  words l (Name v) h = tt
  words l (Elem' v a i) h = row_words l i h.1
  words l (Un' o a x) h = row_words l x h
  words l (Cast' t a x) h = row_words l x h
  words l (Bin' o a x b y) h = (row_words l x h.0, row_words l y h.1)
  words l (Cond' a x b y c z) h = (row_words l x h.0, row_words l y h.1.0, row_words l z h.1.1)

  row_words : {m : _} (l : Layout) (x : Row_of-Expr m) → WellFormedPart l x → RowHasWords x
  row_words l end_of-Expr h = tt
  row_words l (more_of-Expr e rest) h = words l e h

all_words : (l : Layout) (es : List Expr) → WellFormedExprs l es → HaveWords es
all_words l [] h = tt
all_words l (e ∷ es) h = (words l e h.0, all_words l es h.1)

optional_words : (l : Layout) (e : Option Expr) → WellFormedOptional l e → IsPlainOptional e
optional_words l None h = tt
optional_words l (Some e) h = words l e h

-- ---- statements

-- the arrays among the locals are small
SmallShapes : List Shape → Type 0
SmallShapes xs = (n : ℕ) → IfSome (slice_get xs n) (λ x. HasSmallLength x.length)

few : (o : Option Shape) (n : ℕ) → IfSome o (λ x. HasSmallLength x.length) → FitsArray o n → n ≤ 2 ^ 31
few None n h f = absurd f
few (Some x) n h f = short x.length n h f
  where
    short : (o : Option ℕ) (n : ℕ) → HasSmallLength o → FitsLength o n → n ≤ 2 ^ 31
    short None n h f = absurd f
    short (Some m) n h f = omega (arith, h, f.1)

plain : (c : Context) (looped : Bool) (s : Stmt) → SmallShapes c.layout.locals → WellFormedStmt c looped s → IsPlain s
unfolding WellFormedStmt SmallShapes
plain c looped stmt.Empty sm h = tt
plain c looped (stmt.Scalar l e) sm h = optional_words c.layout e h.1
plain c looped (stmt.Array l es) sm h = (all_words c.layout es h.1, few (slice_get c.layout.locals l) (length es) (sm l) h.0)
plain c looped (stmt.Assign (PlainPlace x) o e) sm h = (tt, words c.layout e h.1.1)
plain c looped (stmt.Assign (ElemPlace x i) o e) sm h = (words c.layout i h.0.1, words c.layout e h.1.1)
plain c looped _ sm h = tt

plain_append : (ss : List Stmt) (s : Stmt) → ArePlain ss → IsPlain s → ArePlain (ss ++ s ∷ [])
plain_append [] s h k = (k, tt)
plain_append (x ∷ ss) s h k = (h.0, plain_append ss s h.1 k)

-- ---- sites

abbrev pub AllPlain : List Site → Type 0
AllPlain [] = Unit {0}
AllPlain (s ∷ g) = IsPlainContent s.content × AllPlain g

all_append : (a b : List Site) → AllPlain a → AllPlain b → AllPlain (a ++ b)
all_append [] b h k = k
all_append (s ∷ a) b h k = (h.0, all_append a b h.1 k)

pub all_at : (g : List Site) → AllPlain g → IsPlainGraph g
all_at [] h n s is = absurd (cc is)
all_at (x ∷ g) h zero s is =
    let same : x ≡ s = cc is in
    subst (λ (s : Site). IsPlainContent s.content) same h.0
all_at (x ∷ g) h (suc n) s is = all_at g h.1 n s is

flush_plain : (w : Position) (ss : List Stmt) (b : BlockName) (t : ℕ) → ArePlain ss → AllPlain (flush w ss b t)
flush_plain w [] b t h = tt
flush_plain w (s ∷ ss) b t h = (h, tt)

-- a copy of a function: its locals are small and its sites are plain
pub record IsPlainCopy (c : Copy) : Type 0 where
  pub locals : AreSmallLocals c.locals
  pub sites : (chain : List BlockName) (scale n landing : ℕ) → AllPlain (c.sites chain scale n landing)

abbrev pub ArePlainCopies : List Copy → Type 0
ArePlainCopies [] = Unit {0}
ArePlainCopies (c ∷ cs) = IsPlainCopy c × ArePlainCopies cs

abbrev pub IsPlainOne : Option Copy → Type 0
IsPlainOne None = Unit {0}
IsPlainOne (Some c) = IsPlainCopy c

get_copy : (cs : List Copy) (n : ℕ) → ArePlainCopies cs → IsPlainOne (slice_get cs n)
get_copy [] n h = tt
get_copy (c ∷ cs) zero h = h.0
get_copy (c ∷ cs) (suc n) h = get_copy cs n h.1

copies_append : (cs : List Copy) (c : Copy) → ArePlainCopies cs → IsPlainCopy c → ArePlainCopies (cs ++ c ∷ [])
copies_append [] c h k = (k, tt)
copies_append (x ∷ cs) c h k = (h.0, copies_append cs c h.1 k)

call_plain : (w : Position) (o : Option Copy) (t : Target) (es : List Expr) (b : BlockName) (n next : ℕ) → IsPlainOne o → HaveWords es → AllPlain (call_sites w o t es b n next)
call_plain w None t es b n next h k = (tt, (tt, tt))
call_plain w (Some c) t es b n next h k =
    ((h.locals, k), all_append (c.sites (w.chain ++ b ∷ []) w.scale (n + 1) (n + 1 + c.size)) (one_end_site w (Land t c.result b) None next ∷ []) (h.sites (w.chain ++ b ∷ []) w.scale (n + 1) (n + 1 + c.size)) (tt, tt))

either_plain : (b : Bool) (x y : List Site) → AllPlain x → AllPlain y → AllPlain (if b then x else y)
either_plain true x y h k = h
either_plain false x y h k = k

mutual
  unfolding flow row_flow held_flow WellFormedStmt WellFormedRow WellFormedHeld

  flow_plain : (cs : List Copy) (c : Context) (looped : Bool) (w : Position) (s : Stmt) (b n : ℕ) (k : Targets) → ArePlainCopies cs → SmallShapes c.layout.locals → WellFormedStmt c looped s → AllPlain (flow cs w s b n k)
  flow_plain cs c looped w stmt.Empty b n k p sm h = tt
  flow_plain cs c looped w (stmt.Scalar l e) b n k p sm h = tt
  flow_plain cs c looped w (stmt.Array l es) b n k p sm h = tt
  flow_plain cs c looped w (stmt.Assign x o e) b n k p sm h = tt
  flow_plain cs c looped w (stmt.Call t g es) b n k p sm h = call_plain w (slice_get cs g) t es (block w.func b) n k.next (get_copy cs g p) (all_words c.layout es h.1.1)
  flow_plain cs c looped w stmt.Break b n k p sm h = (tt, tt)
  flow_plain cs c looped w stmt.Continue b n k p sm h = (tt, tt)
  flow_plain cs c looped w (stmt.Return e) b n k p sm h = (optional_words c.layout e h.1, tt)
  flow_plain cs c looped w (stmt.If' e a x d y) b n k p sm h =
      (words c.layout e h.0, all_append (row_flow cs w x (b + 1) (n + 1) [] k) (row_flow cs w y (b + 1 + row_blocks x false) (n + 1 + row_size cs x false) [] k) (row_plain cs c looped w x (b + 1) (n + 1) [] k p sm tt h.1.0) (row_plain cs c looped w y (b + 1 + row_blocks x false) (n + 1 + row_size cs x false) [] k p sm tt h.1.1))
  flow_plain cs c looped w (stmt.While' l e a x) b n k p sm h =
      (words c.layout e h.1.0, row_plain cs c true (times_as_often w l) x (b + 1) (n + 1) [] (body_of k n) p sm tt h.1.1)
  flow_plain cs c looped w (stmt.Do' l a x e) b n k p sm h =
      all_append (row_flow cs (times_as_often w l) x b n [] (body_of k (n + row_size cs x false))) (asks (times_as_often w l) (Some (loop_at n (n + row_size cs x false + 1) (n + row_size cs x false) l true)) e (block w.func (b + row_blocks x false)) n k.next ∷ []) (row_plain cs c true (times_as_often w l) x b n [] (body_of k (n + row_size cs x false)) p sm tt h.1.0) (words c.layout e h.1.1, tt)
  flow_plain cs c looped w (stmt.For' l i e j a x) b n k p sm h =
      let bc : ℕ = b + held_blocks i in
      let m : ℕ = n + held_size cs i in
      let r : ℕ = held_size cs j in
      let inside : Position = times_as_often w l in
      all_append (held_flow cs w i b n (with_next k m)) (asks (times_as_often w (l + 1)) (Some (loop_at m (m + 1 + r + row_size cs x false) m l false)) e (block w.func bc) (head (row_size cs x false) (m + 1 + r) (head r (m + 1) m)) k.next ∷ (held_flow cs inside j (bc + 1) (m + 1) (with_next k m) ++ row_flow cs inside x (bc + 1 + held_blocks j) (m + 1 + r) [] (body_of k (head r (m + 1) m)))) (held_plain cs c is_initialiser w i b n (with_next k m) p sm h.1.0) (words c.layout e h.1.1.0, all_append (held_flow cs inside j (bc + 1) (m + 1) (with_next k m)) (row_flow cs inside x (bc + 1 + held_blocks j) (m + 1 + r) [] (body_of k (head r (m + 1) m))) (held_plain cs c is_step inside j (bc + 1) (m + 1) (with_next k m) p sm h.1.1.1.0) (row_plain cs c true inside x (bc + 1 + held_blocks j) (m + 1 + r) [] (body_of k (head r (m + 1) m)) p sm tt h.1.1.1.1))
  flow_plain cs c looped w (stmt.Group' a x) b n k p sm h = row_plain cs c looped w x b n [] k p sm tt h

  row_plain : {m : _} (cs : List Copy) (c : Context) (looped : Bool) (w : Position) (x : Row_of-Stmt m) (b n : ℕ) (ss : List Stmt) (k : Targets) → ArePlainCopies cs → SmallShapes c.layout.locals → ArePlain ss → WellFormedRow c looped x → AllPlain (row_flow cs w x b n ss k)
  row_plain cs c looped w end_of-Stmt b n ss k p sm q h = flush_plain w ss (block w.func b) k.next q
  row_plain cs c looped w (more_of-Stmt s rest) b n ss k p sm q h =
      let n1 : ℕ = number_past ss n in
      let n2 : ℕ = n1 + site_count cs s false in
      let after : ℕ = head (row_size cs rest false) n2 k.next in
      either_plain (is_simple s) (row_flow cs w rest b n (ss ++ s ∷ []) k) (flush w ss (block w.func b) (head (site_count cs s false) n1 after) ++ (flow cs w s (number_past ss b) n1 (with_next k after) ++ row_flow cs w rest (number_past ss b + blocks s false) n2 [] k)) (row_plain cs c looped w rest b n (ss ++ s ∷ []) k p sm (plain_append ss s q (plain c looped s sm h.0)) h.1) (all_append (flush w ss (block w.func b) (head (site_count cs s false) n1 after)) (flow cs w s (number_past ss b) n1 (with_next k after) ++ row_flow cs w rest (number_past ss b + blocks s false) n2 [] k) (flush_plain w ss (block w.func b) (head (site_count cs s false) n1 after) q) (all_append (flow cs w s (number_past ss b) n1 (with_next k after)) (row_flow cs w rest (number_past ss b + blocks s false) n2 [] k) (flow_plain cs c looped w s (number_past ss b) n1 (with_next k after) p sm h.0) (row_plain cs c looped w rest (number_past ss b + blocks s false) n2 [] k p sm tt h.1)))

  held_plain : (cs : List Copy) (c : Context) (sort : Stmt → Bool) (w : Position) (x : Held-Stmt-For-1) (b n : ℕ) (k : Targets) → ArePlainCopies cs → SmallShapes c.layout.locals → WellFormedHeld c sort x → AllPlain (held_flow cs w x b n k)
  held_plain cs c sort w None' b n k p sm h = tt
  held_plain cs c sort w (Some' a x) b n k p sm h = row_plain cs c false w x b n [] k p sm tt (sole_row c sort x h)

-- ---- functions

list_plain : (cs : List Copy) (c : Context) (w : Position) (xs : List Stmt) (b n : ℕ) (ss : List Stmt) (k : Targets) → ArePlainCopies cs → SmallShapes c.layout.locals → ArePlain ss → WellFormedList c false xs → AllPlain (list_flow cs w xs b n ss k)
list_plain cs c w [] b n ss k p sm q h = flush_plain w ss (block w.func b) k.next q
list_plain cs c w (s ∷ rest) b n ss k p sm q h =
    let n1 : ℕ = number_past ss n in
    let n2 : ℕ = n1 + site_count cs s false in
    let after : ℕ = head (list_size cs rest false) n2 k.next in
    either_plain (is_simple s) (list_flow cs w rest b n (ss ++ s ∷ []) k) (flush w ss (block w.func b) (head (site_count cs s false) n1 after) ++ (flow cs w s (number_past ss b) n1 (with_next k after) ++ list_flow cs w rest (number_past ss b + blocks s false) n2 [] k)) (list_plain cs c w rest b n (ss ++ s ∷ []) k p sm (plain_append ss s q (plain c false s sm h.0)) h.1) (all_append (flush w ss (block w.func b) (head (site_count cs s false) n1 after)) (flow cs w s (number_past ss b) n1 (with_next k after) ++ list_flow cs w rest (number_past ss b + blocks s false) n2 [] k) (flush_plain w ss (block w.func b) (head (site_count cs s false) n1 after) q) (all_append (flow cs w s (number_past ss b) n1 (with_next k after)) (list_flow cs w rest (number_past ss b + blocks s false) n2 [] k) (flow_plain cs c false w s (number_past ss b) n1 (with_next k after) p sm h.0) (list_plain cs c w rest (number_past ss b + blocks s false) n2 [] k p sm tt h.1)))

small_length : (o : Option ℕ) → IsLength o → HasSmallLength o
small_length None h = tt
small_length (Some n) h = omega (arith, h.1)

small_locals : (ls : List Declared) → WellFormedLocals ls → AreSmallLocals ls
small_locals [] h = tt
small_locals (l ∷ ls) h = (small_length l.length h.0, small_locals ls h.1)

small_shapes : (ls : List Declared) → WellFormedLocals ls → SmallShapes (local_shapes ls)
unfolding SmallShapes
small_shapes [] h n = tt
small_shapes (l ∷ ls) h zero = small_length l.length h.0
small_shapes (l ∷ ls) h (suc n) = small_shapes ls h.1 n

copy_plain : (globals : List Shape) (above : List Func) (k : ℕ) (f : Func) (cs : List Copy) → ArePlainCopies cs → WellFormedFunc globals above f → IsPlainCopy (copy_of k f cs)
copy_plain globals above k f cs p h = record {
  locals = small_locals f.locals h.locals;
  sites = λ chain scale n landing. list_plain cs (record { layout = record { locals = local_shapes f.locals; globals = globals }; above = above; result = f.result }) (record { func = k; chain = chain; scale = scale }) f.body 0 n [] (all_to landing) p (small_shapes f.locals h.locals) tt h.body;
}

copies_plain : (globals : List Shape) (above : List Func) (cs : List Copy) (fs : List Func) → ArePlainCopies cs → WellFormedFuncs globals above fs → ArePlainCopies (copies cs fs)
copies_plain globals above cs [] p h = p
copies_plain globals above cs (f ∷ fs) p h =
    copies_plain globals (above ++ f ∷ []) (cs ++ copy_of (length cs) f cs ∷ []) fs (copies_append cs (copy_of (length cs) f cs) p (copy_plain globals above (length cs) f cs p h.0)) h.1

entry_plain : (o : Option Copy) → IsPlainOne o → AllPlain (sites_of o)
entry_plain None h = (tt, tt)
entry_plain (Some c) h = (tt, (tt, h.sites [] 1 2 1))

entry_small : (o : Option Copy) → IsPlainOne o → IsSmallCopy o
entry_small None h = tt
entry_small (Some c) h = h.locals

pub graph_plain : (p : Program) → WellFormed p → IsPlainGraph (graph p)
unfolding graph
graph_plain p h = all_at (sites_of (slice_get (copies [] p.funcs) p.entry)) (entry_plain (slice_get (copies [] p.funcs) p.entry) (get_copy (copies [] p.funcs) p.entry (copies_plain (global_shapes p.globals) [] [] p.funcs tt h.funcs)))

pub entry_is_small : (p : Program) → WellFormed p → IsSmallCopy (slice_get (copies [] p.funcs) p.entry)
entry_is_small p h = entry_small (slice_get (copies [] p.funcs) p.entry) (get_copy (copies [] p.funcs) p.entry (copies_plain (global_shapes p.globals) [] [] p.funcs tt h.funcs))
