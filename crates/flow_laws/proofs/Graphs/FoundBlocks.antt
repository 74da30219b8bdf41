-- What a node of a program's graph does is found by the name of its block.
use Rattle.std.proofs.Common.{◌≡◌, ◌≢◌, ◌<◌, ◌≤◌, ℕ, zero, suc, ◌+◌, Bool, true, false, if◌then◌else◌, List, [], ◌∷◌, ◌++◌, length, Option, Some, None, refl, sym, ap, ◌∙◌, subst, arith}
use Rattle.std.specs.Prelude.{slice_get}
use Rattle.std.proofs.lemmas.Bool.{lt-ltb, le-ltb}
use Rattle.std.proofs.lemmas.List.{length-append}
use Rattle.c_tree.specs.declared.tree.Expr.{Expr}
use Rattle.c_tree.specs.declared.tree.Target.{Target}
use Rattle.c_tree.specs.declared.tree.Stmt.{Stmt, Row_of-Stmt, end_of-Stmt, more_of-Stmt, Held-Stmt-For-1, None', Some'}
use Rattle.c_tree.specs.declared.tree.Stmt.TheVariants as stmt
use Rattle.c_tree.specs.declared.program.BlockName.{BlockName}
use Rattle.c_tree.specs.declared.program.Func.{Func}
use Rattle.c_tree.specs.declared.program.Program.{Program}
use Rattle.c_tree.specs.Meaning.Blocks.{is_simple, begun_blocks, blocks, row_blocks, held_blocks}
use Rattle.c_tree.specs.Meaning.Statements.{block}
use Rattle.flow_laws.specs.Sites.{Content, Entry, Exit, Simple, Jump, Give, Enter, Missing, Land, Site, call_of, Copy, Position, Targets, flow, row_flow, held_flow, list_flow, site_count, row_size, held_size, list_size, call_sites, flush, one_end_site, asks, head, number_past, with_next, body_of, times_as_often, loop_at}
use Rattle.flow_laws.specs.Graphs.{copies, copy_of, sites_of, graph, all_to, outermost}
use Rattle.flow_laws.specs.BlockLists.{Block, Run, Asks, Jumps, Gives, Calls, block_of_run, blocks_of_stmt, blocks_of_row, blocks_of_held, blocks_of_list, blocks_in, blocks_of_func, plain as loopless, call_content as called, block_content, result_of_func, landing_at_block, landing_content, bare_content}
use Rattle.flow_laws.proofs.Graphs.PartSizes.{simple_blocks}

-- ---- parts of a list

-- the list has these parts from its place b on
pub record Sits (whole : List Block) (b : ℕ) (ps : List Block) : Type 0 where
  pub each : (j : ℕ) (x : Block) → slice_get ps j ≡ Some x → slice_get whole (b + j) ≡ Some x

front : (xs ys : List Block) (j : ℕ) (x : Block) → slice_get xs j ≡ Some x → slice_get (xs ++ ys) j ≡ Some x
front [] ys j x h = absurd (cc h)
front (z ∷ xs) ys zero x h = h
front (z ∷ xs) ys (suc j) x h = front xs ys j x h

back : (xs ys : List Block) (j : ℕ) (x : Block) → slice_get ys j ≡ Some x → slice_get (xs ++ ys) (length xs + j) ≡ Some x
back [] ys j x h = ap (slice_get ys) (plain j) ∙ h
  where
    plain : (j : ℕ) → 0 + j ≡ j
    plain j = omega arith
back (z ∷ xs) ys j x h = ap (slice_get (z ∷ (xs ++ ys))) (next (length xs) j) ∙ back xs ys j x h
  where
    next : (m j : ℕ) → suc m + j ≡ suc (m + j)
    next m j = omega arith

sits_front : (whole : List Block) (b : ℕ) (xs ys : List Block) → Sits whole b (xs ++ ys) → Sits whole b xs
sits_front whole b xs ys h = record { each = λ j x is. h.each j x (front xs ys j x is) }

sits_back : (whole : List Block) (b c : ℕ) (xs ys : List Block) → b + length xs ≡ c → Sits whole b (xs ++ ys) → Sits whole c ys
sits_back whole b c xs ys e h = record { each = λ j x is. ap (slice_get whole) (same b (length xs) j c e) ∙ h.each (length xs + j) x (back xs ys j x is) }
  where
    same : (b m j c : ℕ) → b + m ≡ c → c + j ≡ b + (m + j)
    same b m j c e = omega arith

sits_first : (whole : List Block) (b : ℕ) (x : Block) (ps : List Block) → Sits whole b (x ∷ ps) → slice_get whole b ≡ Some x
sits_first whole b x ps h = ap (slice_get whole) (plain b) ∙ h.each 0 x refl
  where
    plain : (b : ℕ) → b ≡ b + 0
    plain b = omega arith

sits_rest : (whole : List Block) (b : ℕ) (x : Block) (ps : List Block) → Sits whole b (x ∷ ps) → Sits whole (b + 1) ps
sits_rest whole b x ps h = record { each = λ j y is. ap (slice_get whole) (next b j) ∙ h.each (suc j) y is }
  where
    next : (b j : ℕ) → b + 1 + j ≡ b + suc j
    next b j = omega arith

-- ---- how many

past_by : (ss : List Stmt) (b : ℕ) → b + length (block_of_run ss) ≡ number_past ss b
past_by [] b = omega arith
past_by (s ∷ ss) b = omega arith

started : List Stmt → Bool
started [] = false
started (s ∷ ss) = true

begun_with : (ss : List Stmt) (s : Stmt) (n m : ℕ) → n ≡ 1 + m → n ≡ length (block_of_run ss) + (begun_blocks (started ss) + m)
unfolding started
begun_with [] s n m h = omega arith
begun_with (x ∷ ss) s n m h = omega arith

after_one : (ss : List Stmt) (s : Stmt) → (length (block_of_run (ss ++ s ∷ [])) ≡ 1) × (started (ss ++ s ∷ []) ≡ true)
unfolding started
after_one [] s = (refl, refl)
after_one (x ∷ ss) s = (refl, refl)

-- one statement more, simple or not
many_step : (ss : List Stmt) (s : Stmt) (b : Bool) → is_simple s ≡ b → (more ps rest : List Block) (n : Bool → ℕ) → length more ≡ length (block_of_run (ss ++ s ∷ [])) + n (started (ss ++ s ∷ [])) → (is_simple s ≡ false → length ps ≡ blocks s (started ss)) → length rest ≡ length (block_of_run []) + n (started []) → length (if b then more else block_of_run ss ++ (ps ++ rest)) ≡ length (block_of_run ss) + (blocks s (started ss) + n b)
unfolding started
many_step ss s true e more ps rest n hm hp hr =
    let one_more = after_one ss s in
    let m : length more ≡ 1 + n true = hm ∙ (ap (λ k. k + n (started (ss ++ s ∷ []))) one_more.0 ∙ ap (λ b. 1 + n b) one_more.1) in
    begun_with ss s (length more) (n true) m ∙ ap (λ k. length (block_of_run ss) + (k + n true)) (sym (simple_blocks s (started ss) e))
many_step ss s false e more ps rest n hm hp hr = omega (arith, length-append (block_of_run ss) (ps ++ rest), length-append ps rest, hp e, hr)

mutual
  unfolding blocks row_blocks held_blocks blocks_of_stmt blocks_of_row blocks_of_held started

  many : (s : Stmt) (run : Bool) → is_simple s ≡ false → length (blocks_of_stmt s) ≡ blocks s run
  many stmt.Empty run h = absurd (cc h)
  many (stmt.Scalar l e) run h = absurd (cc h)
  many (stmt.Array l es) run h = absurd (cc h)
  many (stmt.Assign p o e) run h = absurd (cc h)
  many (stmt.Call t g es) run h = refl
  many stmt.Break run h = refl
  many stmt.Continue run h = refl
  many (stmt.Return e) run h = refl
  many (stmt.If' e a x b y) run h = omega (arith, length-append (blocks_of_row [] x) (blocks_of_row [] y), row_many [] x, row_many [] y)
  many (stmt.While' l e a x) run h = omega (arith, row_many [] x)
  many (stmt.Do' l a x e) run h = omega (arith, length-append (blocks_of_row [] x) (Asks e ∷ []), row_many [] x)
  many (stmt.For' l i e j a x) run h = omega (arith, length-append (blocks_of_held i) (Asks e ∷ (blocks_of_held j ++ blocks_of_row [] x)), length-append (blocks_of_held j) (blocks_of_row [] x), held_many i, held_many j, row_many [] x)
  many (stmt.Group' a x) run h = omega (arith, row_many [] x)

  row_many : {m : _} (ss : List Stmt) (x : Row_of-Stmt m) → length (blocks_of_row ss x) ≡ length (block_of_run ss) + row_blocks x (started ss)
  row_many ss end_of-Stmt = omega arith
  row_many ss (more_of-Stmt s rest) = many_step ss s (is_simple s) refl (blocks_of_row (ss ++ s ∷ []) rest) (blocks_of_stmt s) (blocks_of_row [] rest) (row_blocks rest) (row_many (ss ++ s ∷ []) rest) (λ h. many s (started ss) h) (row_many [] rest)

  held_many : (x : Held-Stmt-For-1) → length (blocks_of_held x) ≡ held_blocks x
  held_many None' = refl
  held_many (Some' a x) = omega (arith, row_many [] x)

many_of : {m : _} (x : Row_of-Stmt m) → length (blocks_of_row [] x) ≡ row_blocks x false
unfolding started
many_of x = row_many [] x ∙ plain (row_blocks x false)
  where
    plain : (n : ℕ) → 0 + n ≡ n
    plain n = omega arith

-- ---- sites

-- the function has the block, which says what is done
abbrev Named : Program → Content → ℕ → ℕ → Type 0
Named p c k m = (x : Block) × (slice_get (blocks_of_func p k) m ≡ Some x) × (loopless c ≡ block_content p k (Some x))

-- what the site does is told by its block, and where it has none, by the block of its call
pub record Found (p : Program) (s : Site) : Type 0 where
  pub named : (k m : ℕ) → s.node.block ≡ Some (block k m) → Named p s.content k m
  pub bare : s.node.block ≡ None → s.content ≡ landing_content p (call_of s.content)

abbrev pub AllFound : Program → List Site → Type 0
AllFound p [] = Unit {0}
AllFound p (s ∷ g) = Found p s × AllFound p g

all_append : (p : Program) (a b : List Site) → AllFound p a → AllFound p b → AllFound p (a ++ b)
all_append p [] b h k = k
all_append p (s ∷ a) b h k = (h.0, all_append p a b h.1 k)

pub found_at : (p : Program) (g : List Site) → AllFound p g → (n : ℕ) (s : Site) → slice_get g n ≡ Some s → Found p s
found_at p [] h n s is = absurd (cc is)
found_at p (x ∷ g) h zero s is =
    let same : x ≡ s = cc is in
    subst (Found p) same h.0
found_at p (x ∷ g) h (suc n) s is = found_at p g h.1 n s is

clash : (k m : ℕ) → None ≡ Some (block k m) → ⊥
clash k m h = absurd (cc)

-- a site of this block
own : (p : Program) (s : Site) (f b : ℕ) (x : Block) → s.node.block ≡ Some (block f b) → slice_get (blocks_of_func p f) b ≡ Some x → loopless s.content ≡ block_content p f (Some x) → Found p s
own p s f b x is has does = record {
  named = λ k m e.
      let both : Some (block f b) ≡ Some (block k m) = sym is ∙ e in
      let same : block f b ≡ block k m = cc both in
      let funcs : f ≡ k = ap (λ (n : BlockName). n.func) same in
      let numbers : b ≡ m = ap (λ (n : BlockName). n.number) same in
      subst (Named p s.content k) numbers (subst (λ y. Named p s.content y b) funcs (x, has, does));
  bare = λ e. absurd (clash f b (sym e ∙ is));
}

-- a site without a block
no_block : (p : Program) (s : Site) → s.node.block ≡ None → s.content ≡ landing_content p (call_of s.content) → Found p s
no_block p s is does = record { named = λ k m e. absurd (clash k m (sym is ∙ e)); bare = λ e. does }

flush_found : (p : Program) (w : Position) (ss : List Stmt) (b t : ℕ) → Sits (blocks_of_func p w.func) b (block_of_run ss) → AllFound p (flush w ss (block w.func b) t)
flush_found p w [] b t h = tt
flush_found p w (s ∷ ss) b t h = (own p (one_end_site w (Simple (s ∷ ss)) (Some (block w.func b)) t) w.func b (Run (s ∷ ss)) refl (sits_first (blocks_of_func p w.func) b (Run (s ∷ ss)) [] h) refl, tt)

-- a copy of the function number k
pub record FoundCopy (p : Program) (k : ℕ) (c : Copy) : Type 0 where
  pub func : Func
  pub is : slice_get p.funcs k ≡ Some func
  pub locals_are : func.locals ≡ c.locals
  pub result_is : func.result ≡ c.result
  pub sites : (chain : List BlockName) (scale n landing : ℕ) → AllFound p (c.sites chain scale n landing)

-- copies of the functions from the number k on
abbrev pub FoundCopies : Program → ℕ → List Copy → Type 0
FoundCopies p k [] = Unit {0}
FoundCopies p k (c ∷ cs) = FoundCopy p k c × FoundCopies p (suc k) cs

abbrev pub FoundOne : Program → ℕ → Option Copy → Type 0
FoundOne p k None = Unit {0}
FoundOne p k (Some c) = FoundCopy p k c

get_copy : (p : Program) (k : ℕ) (cs : List Copy) (n : ℕ) → FoundCopies p k cs → FoundOne p (k + n) (slice_get cs n)
get_copy p k [] n h = tt
get_copy p k (c ∷ cs) zero h = subst (λ k. FoundCopy p k c) (plain k) h.0
  where
    plain : (k : ℕ) → k ≡ k + 0
    plain k = omega arith
get_copy p k (c ∷ cs) (suc n) h = subst (λ k. FoundOne p k (slice_get cs n)) (next k n) (get_copy p (suc k) cs n h.1)
  where
    next : (k n : ℕ) → suc k + n ≡ k + suc n
    next k n = omega arith

callee : (p : Program) (cs : List Copy) (g : ℕ) → FoundCopies p 0 cs → FoundOne p g (slice_get cs g)
callee p cs g f = subst (λ k. FoundOne p k (slice_get cs g)) (plain g) (get_copy p 0 cs g f)
  where
    plain : (n : ℕ) → 0 + n ≡ n
    plain n = omega arith

copies_append : (p : Program) (k : ℕ) (cs : List Copy) (c : Copy) → FoundCopies p k cs → FoundCopy p (k + length cs) c → FoundCopies p k (cs ++ c ∷ [])
copies_append p k [] c h f = (subst (λ k. FoundCopy p k c) (plain k) f, tt)
  where
    plain : (k : ℕ) → k + 0 ≡ k
    plain k = omega arith
copies_append p k (x ∷ cs) c h f = (h.0, copies_append p (suc k) cs c h.1 (subst (λ k. FoundCopy p k c) (next k (length cs)) f))
  where
    next : (k n : ℕ) → k + suc n ≡ suc k + n
    next k n = omega arith

-- the copies of all functions above the number k
pub record Over (p : Program) (k : ℕ) (cs : List Copy) : Type 0 where
  pub copies : FoundCopies p 0 cs
  pub count : length cs ≡ k

-- whether the function number g is above the number f
abbrev Reach : Option Copy → ℕ → ℕ → Type 0
Reach None g f = f ≤ g
Reach (Some c) g f = g < f

one_further : (o : Option Copy) (g m f : ℕ) → suc m ≡ f → Reach o g m → Reach o (suc g) f
one_further None g m f e h = omega (arith, e, h)
one_further (Some c) g m f e h = omega (arith, e, h)

reach : (cs : List Copy) (g f : ℕ) → length cs ≡ f → Reach (slice_get cs g) g f
reach [] g f e = omega (arith, e)
reach (c ∷ cs) zero f e = omega (arith, e)
reach (c ∷ cs) (suc g) f e = one_further (slice_get cs g) g (length cs) f e (reach cs g (length cs) refl)

call_found : (p : Program) (w : Position) (g : ℕ) (o : Option Copy) (t : Target) (es : List Expr) (b n next : ℕ) → FoundOne p g o → Reach o g w.func → slice_get (blocks_of_func p w.func) b ≡ Some (Calls t g es) → AllFound p (call_sites w o t es (block w.func b) n next)
call_found p w g None t es b n next h r has =
    let no : Missing ≡ block_content p w.func (Some (Calls t g es)) = sym (ap (λ a. if a then called (slice_get p.funcs g) t es else Missing) (le-ltb g w.func r)) in
    (own p (one_end_site w Missing (Some (block w.func b)) (n + 1)) w.func b (Calls t g es) refl has no, (no_block p (one_end_site w Missing None next) refl refl, tt))
call_found p w g (Some c) t es b n next h r has =
    let name : BlockName = block w.func b in
    let yes : Enter t c.locals es ≡ block_content p w.func (Some (Calls t g es)) = ap (λ ls. Enter t ls es) (sym h.locals_are) ∙ ap (λ o. called o t es) (sym h.is) ∙ sym (ap (λ a. if a then called (slice_get p.funcs g) t es else Missing) (lt-ltb g w.func r)) in
    let lands : Land t c.result name ≡ landing_content p (Some name) = ap (λ y. Land t y name) (sym h.result_is) ∙ ap (λ o. Land t (result_of_func o) name) (sym h.is) ∙ ap (landing_at_block p name) (sym has) in
    (own p (one_end_site w (Enter t c.locals es) (Some (block w.func b)) (head c.size (n + 1) (n + 1 + c.size))) w.func b (Calls t g es) refl has yes, all_append p (c.sites (w.chain ++ block w.func b ∷ []) w.scale (n + 1) (n + 1 + c.size)) (one_end_site w (Land t c.result name) None next ∷ []) (h.sites (w.chain ++ block w.func b ∷ []) w.scale (n + 1) (n + 1 + c.size)) (no_block p (one_end_site w (Land t c.result name) None next) refl lands, tt))

-- a list goes on with a simple statement or with another one
either_found : (p : Program) (whole : List Block) (b : ℕ) (t : Bool) (xs ys : List Block) (g h : List Site) → (Sits whole b xs → AllFound p g) → (t ≡ false → Sits whole b ys → AllFound p h) → Sits whole b (if t then xs else ys) → AllFound p (if t then g else h)
either_found p whole b true xs ys g h f k s = f s
either_found p whole b false xs ys g h f k s = k refl s

mutual
  unfolding flow row_flow held_flow blocks_of_stmt blocks_of_row blocks_of_held

  flow_found : (p : Program) (cs : List Copy) (w : Position) (s : Stmt) (b n : ℕ) (k : Targets) → Over p w.func cs → Sits (blocks_of_func p w.func) b (blocks_of_stmt s) → AllFound p (flow cs w s b n k)
  flow_found p cs w stmt.Empty b n k f h = tt
  flow_found p cs w (stmt.Scalar l e) b n k f h = tt
  flow_found p cs w (stmt.Array l es) b n k f h = tt
  flow_found p cs w (stmt.Assign x o e) b n k f h = tt
  flow_found p cs w (stmt.Call t g es) b n k f h = call_found p w g (slice_get cs g) t es b n k.next (callee p cs g f.copies) (reach cs g w.func f.count) (sits_first (blocks_of_func p w.func) b (Calls t g es) [] h)
  flow_found p cs w stmt.Break b n k f h = (own p (one_end_site w Jump (Some (block w.func b)) k.breaks) w.func b Jumps refl (sits_first (blocks_of_func p w.func) b Jumps [] h) refl, tt)
  flow_found p cs w stmt.Continue b n k f h = (own p (one_end_site w Jump (Some (block w.func b)) k.continues) w.func b Jumps refl (sits_first (blocks_of_func p w.func) b Jumps [] h) refl, tt)
  flow_found p cs w (stmt.Return e) b n k f h = (own p (one_end_site w (Give e) (Some (block w.func b)) k.returns) w.func b (Gives e) refl (sits_first (blocks_of_func p w.func) b (Gives e) [] h) refl, tt)
  flow_found p cs w (stmt.If' e a x d y) b n k f h =
      let whole : List Block = blocks_of_func p w.func in
      let rest : Sits whole (b + 1) (blocks_of_row [] x ++ blocks_of_row [] y) = sits_rest whole b (Asks e) (blocks_of_row [] x ++ blocks_of_row [] y) h in
      (own p (asks w None e (block w.func b) (head (row_size cs x false) (n + 1) k.next) (head (row_size cs y false) (n + 1 + row_size cs x false) k.next)) w.func b (Asks e) refl (sits_first whole b (Asks e) (blocks_of_row [] x ++ blocks_of_row [] y) h) refl, all_append p (row_flow cs w x (b + 1) (n + 1) [] k) (row_flow cs w y (b + 1 + row_blocks x false) (n + 1 + row_size cs x false) [] k) (row_found p cs w x (b + 1) (n + 1) [] k f (sits_front whole (b + 1) (blocks_of_row [] x) (blocks_of_row [] y) rest)) (row_found p cs w y (b + 1 + row_blocks x false) (n + 1 + row_size cs x false) [] k f (sits_back whole (b + 1) (b + 1 + row_blocks x false) (blocks_of_row [] x) (blocks_of_row [] y) (ap (λ m. b + 1 + m) (many_of x)) rest)))
  flow_found p cs w (stmt.While' l e a x) b n k f h =
      let whole : List Block = blocks_of_func p w.func in
      (own p (asks (times_as_often w (l + 1)) (Some (loop_at n (n + 1 + row_size cs x false) n l false)) e (block w.func b) (head (row_size cs x false) (n + 1) n) k.next) w.func b (Asks e) refl (sits_first whole b (Asks e) (blocks_of_row [] x) h) refl, row_found p cs (times_as_often w l) x (b + 1) (n + 1) [] (body_of k n) f (sits_rest whole b (Asks e) (blocks_of_row [] x) h))
  flow_found p cs w (stmt.Do' l a x e) b n k f h =
      let whole : List Block = blocks_of_func p w.func in
      let m : ℕ = row_size cs x false in
      let last : Sits whole (b + row_blocks x false) (Asks e ∷ []) = sits_back whole b (b + row_blocks x false) (blocks_of_row [] x) (Asks e ∷ []) (ap (λ m. b + m) (many_of x)) h in
      let site : Site = asks (times_as_often w l) (Some (loop_at n (n + m + 1) (n + m) l true)) e (block w.func (b + row_blocks x false)) n k.next in
      all_append p (row_flow cs (times_as_often w l) x b n [] (body_of k (n + m))) (site ∷ []) (row_found p cs (times_as_often w l) x b n [] (body_of k (n + m)) f (sits_front whole b (blocks_of_row [] x) (Asks e ∷ []) h)) (own p site w.func (b + row_blocks x false) (Asks e) refl (sits_first whole (b + row_blocks x false) (Asks e) [] last) refl, tt)
  flow_found p cs w (stmt.For' l i e j a x) b n k f h =
      let whole : List Block = blocks_of_func p w.func in
      let bc : ℕ = b + held_blocks i in
      let m : ℕ = n + held_size cs i in
      let r : ℕ = held_size cs j in
      let inside : Position = times_as_often w l in
      let test : Sits whole bc (Asks e ∷ (blocks_of_held j ++ blocks_of_row [] x)) = sits_back whole b bc (blocks_of_held i) (Asks e ∷ (blocks_of_held j ++ blocks_of_row [] x)) (ap (λ m. b + m) (held_many i)) h in
      let rest : Sits whole (bc + 1) (blocks_of_held j ++ blocks_of_row [] x) = sits_rest whole bc (Asks e) (blocks_of_held j ++ blocks_of_row [] x) test in
      let site : Site = asks (times_as_often w (l + 1)) (Some (loop_at m (m + 1 + r + row_size cs x false) m l false)) e (block w.func bc) (head (row_size cs x false) (m + 1 + r) (head r (m + 1) m)) k.next in
      let step : List Site = held_flow cs inside j (bc + 1) (m + 1) (with_next k m) in
      let body : List Site = row_flow cs inside x (bc + 1 + held_blocks j) (m + 1 + r) [] (body_of k (head r (m + 1) m)) in
      all_append p (held_flow cs w i b n (with_next k m)) (site ∷ (step ++ body)) (held_found p cs w i b n (with_next k m) f (sits_front whole b (blocks_of_held i) (Asks e ∷ (blocks_of_held j ++ blocks_of_row [] x)) h)) (own p site w.func bc (Asks e) refl (sits_first whole bc (Asks e) (blocks_of_held j ++ blocks_of_row [] x) test) refl, all_append p step body (held_found p cs inside j (bc + 1) (m + 1) (with_next k m) f (sits_front whole (bc + 1) (blocks_of_held j) (blocks_of_row [] x) rest)) (row_found p cs inside x (bc + 1 + held_blocks j) (m + 1 + r) [] (body_of k (head r (m + 1) m)) f (sits_back whole (bc + 1) (bc + 1 + held_blocks j) (blocks_of_held j) (blocks_of_row [] x) (ap (λ m. bc + 1 + m) (held_many j)) rest)))
  flow_found p cs w (stmt.Group' a x) b n k f h = row_found p cs w x b n [] k f h

  row_found : {m : _} (p : Program) (cs : List Copy) (w : Position) (x : Row_of-Stmt m) (b n : ℕ) (ss : List Stmt) (k : Targets) → Over p w.func cs → Sits (blocks_of_func p w.func) b (blocks_of_row ss x) → AllFound p (row_flow cs w x b n ss k)
  row_found p cs w end_of-Stmt b n ss k f h = flush_found p w ss b k.next h
  row_found p cs w (more_of-Stmt s rest) b n ss k f h =
      let whole : List Block = blocks_of_func p w.func in
      let n1 : ℕ = number_past ss n in
      let n2 : ℕ = n1 + site_count cs s false in
      let after : ℕ = head (row_size cs rest false) n2 k.next in
      let first : List Site = flush w ss (block w.func b) (head (site_count cs s false) n1 after) in
      let second : List Site = flow cs w s (number_past ss b) n1 (with_next k after) in
      let third : List Site = row_flow cs w rest (number_past ss b + blocks s false) n2 [] k in
      either_found p whole b (is_simple s) (blocks_of_row (ss ++ s ∷ []) rest) (block_of_run ss ++ (blocks_of_stmt s ++ blocks_of_row [] rest)) (row_flow cs w rest b n (ss ++ s ∷ []) k) (first ++ (second ++ third)) (λ g. row_found p cs w rest b n (ss ++ s ∷ []) k f g) (λ e g.
      let later : Sits whole (number_past ss b) (blocks_of_stmt s ++ blocks_of_row [] rest) = sits_back whole b (number_past ss b) (block_of_run ss) (blocks_of_stmt s ++ blocks_of_row [] rest) (past_by ss b) g in
      all_append p first (second ++ third) (flush_found p w ss b (head (site_count cs s false) n1 after) (sits_front whole b (block_of_run ss) (blocks_of_stmt s ++ blocks_of_row [] rest) g)) (all_append p second third (flow_found p cs w s (number_past ss b) n1 (with_next k after) f (sits_front whole (number_past ss b) (blocks_of_stmt s) (blocks_of_row [] rest) later)) (row_found p cs w rest (number_past ss b + blocks s false) n2 [] k f (sits_back whole (number_past ss b) (number_past ss b + blocks s false) (blocks_of_stmt s) (blocks_of_row [] rest) (ap (λ m. number_past ss b + m) (many s false e)) later)))) h

  held_found : (p : Program) (cs : List Copy) (w : Position) (x : Held-Stmt-For-1) (b n : ℕ) (k : Targets) → Over p w.func cs → Sits (blocks_of_func p w.func) b (blocks_of_held x) → AllFound p (held_flow cs w x b n k)
  held_found p cs w None' b n k f h = tt
  held_found p cs w (Some' a x) b n k f h = row_found p cs w x b n [] k f h

-- ---- functions

list_found : (p : Program) (cs : List Copy) (w : Position) (xs : List Stmt) (b n : ℕ) (ss : List Stmt) (k : Targets) → Over p w.func cs → Sits (blocks_of_func p w.func) b (blocks_of_list ss xs) → AllFound p (list_flow cs w xs b n ss k)
list_found p cs w [] b n ss k f h = flush_found p w ss b k.next h
list_found p cs w (s ∷ rest) b n ss k f h =
    let whole : List Block = blocks_of_func p w.func in
    let n1 : ℕ = number_past ss n in
    let n2 : ℕ = n1 + site_count cs s false in
    let after : ℕ = head (list_size cs rest false) n2 k.next in
    let first : List Site = flush w ss (block w.func b) (head (site_count cs s false) n1 after) in
    let second : List Site = flow cs w s (number_past ss b) n1 (with_next k after) in
    let third : List Site = list_flow cs w rest (number_past ss b + blocks s false) n2 [] k in
    either_found p whole b (is_simple s) (blocks_of_list (ss ++ s ∷ []) rest) (block_of_run ss ++ (blocks_of_stmt s ++ blocks_of_list [] rest)) (list_flow cs w rest b n (ss ++ s ∷ []) k) (first ++ (second ++ third)) (λ g. list_found p cs w rest b n (ss ++ s ∷ []) k f g) (λ e g.
    let later : Sits whole (number_past ss b) (blocks_of_stmt s ++ blocks_of_list [] rest) = sits_back whole b (number_past ss b) (block_of_run ss) (blocks_of_stmt s ++ blocks_of_list [] rest) (past_by ss b) g in
    all_append p first (second ++ third) (flush_found p w ss b (head (site_count cs s false) n1 after) (sits_front whole b (block_of_run ss) (blocks_of_stmt s ++ blocks_of_list [] rest) g)) (all_append p second third (flow_found p cs w s (number_past ss b) n1 (with_next k after) f (sits_front whole (number_past ss b) (blocks_of_stmt s) (blocks_of_list [] rest) later)) (list_found p cs w rest (number_past ss b + blocks s false) n2 [] k f (sits_back whole (number_past ss b) (number_past ss b + blocks s false) (blocks_of_stmt s) (blocks_of_list [] rest) (ap (λ m. number_past ss b + m) (many s false e)) later)))) h

-- the function number k of the program
copy_found : (p : Program) (cs : List Copy) (k : ℕ) (f : Func) → Over p k cs → slice_get p.funcs k ≡ Some f → FoundCopy p k (copy_of k f cs)
copy_found p cs k f h is = record {
  func = f;
  is = is;
  locals_are = refl;
  result_is = refl;
  sites = λ chain scale n landing. list_found p cs (record { func = k; chain = chain; scale = scale }) f.body 0 n [] (all_to landing) h (record { each = λ j x has. ap (slice_get (blocks_of_func p k)) (plain_sum j) ∙ (ap (λ o. slice_get (blocks_in o) j) is ∙ has) });
}
  where
    plain_sum : (j : ℕ) → 0 + j ≡ j
    plain_sum j = omega arith

-- the functions from here on are those of the program after the copies
pub record FollowOn (p : Program) (n : ℕ) (fs : List Func) : Type 0 where
  pub each : (j : ℕ) (f : Func) → slice_get fs j ≡ Some f → slice_get p.funcs (n + j) ≡ Some f

copies_found : (p : Program) (cs : List Copy) (fs : List Func) → FoundCopies p 0 cs → FollowOn p (length cs) fs → FoundCopies p 0 (copies cs fs)
copies_found p cs [] h f = h
copies_found p cs (x ∷ fs) h f =
    let c : Copy = copy_of (length cs) x cs in
    copies_found p (cs ++ c ∷ []) fs (copies_append p 0 cs c h (subst (λ k. FoundCopy p k c) (plain (length cs)) (copy_found p cs (length cs) x (record { copies = h; count = refl }) (ap (slice_get p.funcs) (none (length cs)) ∙ f.each 0 x refl)))) (record { each = λ j y is. ap (slice_get p.funcs) (next (length cs) j (length (cs ++ c ∷ [])) (length-append cs (c ∷ []))) ∙ f.each (suc j) y is })
  where
    plain : (n : ℕ) → n ≡ 0 + n
    plain n = omega arith

    none : (n : ℕ) → n ≡ n + 0
    none n = omega arith

    next : (n j m : ℕ) → m ≡ n + 1 → m + j ≡ n + suc j
    next n j m e = omega arith

all_copies : (p : Program) → FoundCopies p 0 (copies [] p.funcs)
all_copies p = copies_found p [] p.funcs tt (record { each = λ j f is. ap (slice_get p.funcs) (plain_sum j) ∙ is })
  where
    plain_sum : (j : ℕ) → 0 + j ≡ j
    plain_sum j = omega arith

-- ---- nodes

-- a node told by its block
named_in : (p : Program) (k i : ℕ) (o : Option Copy) (n : ℕ) (s : Site) (m : ℕ) → FoundOne p k o → slice_get (sites_of o) n ≡ Some s → s.node.block ≡ Some (block i m) → Named p s.content i m
named_in p k i None zero s m f is has =
    let site : Site = one_end_site outermost Missing None 1 in
    let same : site ≡ s = cc in
    absurd (clash i m (ap (λ (x : Site). x.node.block) same ∙ has))
named_in p k i None (suc n) s m f is has = absurd (cc is)
named_in p k i (Some c) zero s m f is has =
    let site : Site = one_end_site outermost Entry None (head c.size 2 1) in
    let same : site ≡ s = cc in
    absurd (clash i m (ap (λ (x : Site). x.node.block) same ∙ has))
named_in p k i (Some c) (suc zero) s m f is has =
    let site : Site = one_end_site outermost Exit None 1 in
    let same : site ≡ s = cc in
    absurd (clash i m (ap (λ (x : Site). x.node.block) same ∙ has))
named_in p k i (Some c) (suc (suc n)) s m f is has = (found_at p (c.sites [] 1 2 1) (f.sites [] 1 2 1) n s is).named i m has

entry_copy : (p : Program) → FoundOne p p.entry (slice_get (copies [] p.funcs) p.entry)
entry_copy p = callee p (copies [] p.funcs) p.entry (all_copies p)

pub blocks_found : (p : Program) (n : ℕ) (s : Site) (k m : ℕ) → slice_get (graph p) n ≡ Some s → s.node.block ≡ Some (block k m) → (x : Block) × (slice_get (blocks_of_func p k) m ≡ Some x) × (loopless s.content ≡ block_content p k (Some x))
unfolding graph
blocks_found p n s k m is has = named_in p p.entry k (slice_get (copies [] p.funcs) p.entry) n s m (entry_copy p) is has

-- a node without a block
bare_in : (p : Program) (k : ℕ) (o : Option Copy) (n : ℕ) (s : Site) → o ≢ None → FoundOne p k o → slice_get (sites_of o) n ≡ Some s → s.node.block ≡ None → s.content ≡ bare_content p n (call_of s.content)
bare_in p k None n s some f is none = absurd (some refl)
bare_in p k (Some c) zero s some f is none =
    let site : Site = one_end_site outermost Entry None (head c.size 2 1) in
    let same : site ≡ s = cc in
    ap (λ (x : Site). x.content) (sym same)
bare_in p k (Some c) (suc zero) s some f is none =
    let site : Site = one_end_site outermost Exit None 1 in
    let same : site ≡ s = cc in
    ap (λ (x : Site). x.content) (sym same)
bare_in p k (Some c) (suc (suc n)) s some f is none = (found_at p (c.sites [] 1 2 1) (f.sites [] 1 2 1) n s is).bare none

-- as many copies as functions
pub many_copies : (cs : List Copy) (fs : List Func) → length (copies cs fs) ≡ length cs + length fs
many_copies cs [] = omega arith
many_copies cs (f ∷ fs) =
    let c : Copy = copy_of (length cs) f cs in
    omega (arith, many_copies (cs ++ c ∷ []) fs, length-append cs (c ∷ []))

there : (cs : List Copy) (k : ℕ) → k < length cs → slice_get cs k ≢ None
there [] k lt none = omega (arith, lt)
there (c ∷ cs) zero lt none = cc
there (c ∷ cs) (suc k) lt none = there cs k (omega (arith, lt)) none

pub bare_found : (p : Program) (n : ℕ) (s : Site) → p.entry < length p.funcs → slice_get (graph p) n ≡ Some s → s.node.block ≡ None → s.content ≡ bare_content p n (call_of s.content)
unfolding graph
bare_found p n s within is none =
    let lt : p.entry < length (copies [] p.funcs) = omega (arith, within, many_copies [] p.funcs) in
    bare_in p p.entry (slice_get (copies [] p.funcs) p.entry) n s (there (copies [] p.funcs) p.entry lt) (entry_copy p) is none
