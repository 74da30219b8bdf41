-- The caps of the block copies sum to the span.
use Rattle.std.proofs.Common.{◌≡◌, ℕ, zero, suc, ◌+◌, ◌*◌, Bool, true, false, if◌then◌else◌, List, [], ◌∷◌, ◌++◌, Option, Some, None, refl, sym, ap, ◌∙◌, subst, arith}
use Rattle.std.specs.Prelude.{slice_get, length}
use Rattle.c_tree.specs.declared.tree.Expr.{Expr}
use Rattle.c_tree.specs.declared.tree.Target.{Target}
use Rattle.c_tree.specs.declared.program.BlockName.{BlockName}
use Rattle.c_tree.specs.declared.program.Func.{Func}
use Rattle.c_tree.specs.declared.program.Program.{Program}
use Rattle.c_tree.specs.declared.tree.Stmt.{Stmt, Row_of-Stmt, end_of-Stmt, more_of-Stmt, Held-Stmt-For-1, None', Some'}
use Rattle.c_tree.specs.declared.tree.Stmt.TheVariants.{Empty, Scalar, Array, Assign, Call, Break, Continue, Return, If', While', Do', For', Group'}
use Rattle.c_tree.specs.declared.tree.Stmt.TheBlock.{hidden-the_row-Stmt-0}
use Rattle.c_tree.specs.Meaning.Blocks.{is_simple, blocks, row_blocks, held_blocks}
use Rattle.c_tree.specs.Meaning.Spans.{span_at, begun_span, span, row_span, held_span, list_span, func_span, spans}
use Rattle.c_tree.specs.Meaning.Statements.{block}
use Rattle.flow_laws.specs.Sites.{Land, Site, Position, Copy, Targets, times_as_often, one_end_site, asks, loop_at, head, with_next, body_of, number_past, flush, call_sites, for_sites, site_count, row_size, held_size, flow, row_flow, held_flow, list_flow}
use Rattle.flow_laws.specs.Graphs.{all_to, copy_of, copies, sites_of, graph}
use Rattle.flow_laws.specs.Paths.{copy_caps}
use Rattle.flow_laws.proofs.Graphs.PartSizes.{is_run}
use Rattle.flow_laws.proofs.Runs.CopiesSound.{row_flows}
use Rattle.c_tree.proofs.Layers.SpanLayers.{row_is}

caps_append : (a b : List Site) → copy_caps (a ++ b) ≡ copy_caps a + copy_caps b
caps_append [] b = omega arith
caps_append (s ∷ a) b = omega (arith, caps_append a b)

-- ---- spans are linear in the scale

begun_scaled : (k m : ℕ) (run : Bool) → begun_span (k * m) run ≡ k * begun_span m run
begun_scaled k m true = omega arith
begun_scaled k m false = refl

module _ (ss : List ℕ) where
  mutual
    unfolding span row_span held_span

    span_scaled : (k m : ℕ) (st : Stmt) (run : Bool) → span ss (k * m) st run ≡ k * span ss m st run
    span_scaled k m Empty run = begun_scaled k m run
    span_scaled k m (Scalar l e) run = begun_scaled k m run
    span_scaled k m (Array l es) run = begun_scaled k m run
    span_scaled k m (Assign p op e) run = begun_scaled k m run
    span_scaled k m (Call t g es) run = omega arith
    span_scaled k m Break run = omega arith
    span_scaled k m Continue run = omega arith
    span_scaled k m (Return e) run = omega arith
    span_scaled k m (If' e a x c y) run = omega (arith, row_scaled k m x false, row_scaled k m y false)
    span_scaled k m (While' b e a x) run =
        let z : k * m * b ≡ k * (m * b) = omega arith in
        omega (arith, ap (λ y. row_span ss y x false) z, row_scaled k (m * b) x false)
    span_scaled k m (Do' b a x e) run =
        let z : k * m * b ≡ k * (m * b) = omega arith in
        omega (arith, ap (λ y. row_span ss y x false) z, row_scaled k (m * b) x false)
    span_scaled k m (For' b i e j a x) run =
        let z : k * m * b ≡ k * (m * b) = omega arith in
        omega (arith, held_scaled k m i, ap (λ y. held_span ss y j) z, held_scaled k (m * b) j, ap (λ y. row_span ss y x false) z, row_scaled k (m * b) x false)
    span_scaled k m (Group' a x) run = row_scaled k m x false

    row_scaled : {n : _} (k m : ℕ) (x : Row_of-Stmt n) (run : Bool) → row_span ss (k * m) x run ≡ k * row_span ss m x run
    row_scaled k m end_of-Stmt run = omega arith
    row_scaled k m (more_of-Stmt s rest) run = omega (arith, span_scaled k m s run, row_scaled k m rest (is_simple s))

    held_scaled : (k m : ℕ) (x : Held-Stmt-For-1) → held_span ss (k * m) x ≡ k * held_span ss m x
    held_scaled k m None' = omega arith
    held_scaled k m (Some' a x) = row_scaled k m x false

  list_scaled : (k m : ℕ) (xs : List Stmt) (run : Bool) → list_span ss (k * m) xs run ≡ k * list_span ss m xs run
  list_scaled k m [] run = omega arith
  list_scaled k m (s ∷ rest) run = omega (arith, span_scaled k m s run, list_scaled k m rest (is_simple s))

simple_is : (ss : List ℕ) (k : ℕ) (st : Stmt) (run : Bool) → is_simple st ≡ true → span ss k st run ≡ begun_span k run
unfolding span
simple_is ss k Empty run h = refl
simple_is ss k (Scalar l e) run h = refl
simple_is ss k (Array l es) run h = refl
simple_is ss k (Assign p op e) run h = refl
simple_is ss k _ run h = absurd (cc)

plain_is : (ss : List ℕ) (k : ℕ) (st : Stmt) (run : Bool) → is_simple st ≡ false → span ss k st run ≡ span ss k st false
unfolding span
plain_is ss k Empty run h = absurd (cc)
plain_is ss k (Scalar l e) run h = absurd (cc)
plain_is ss k (Array l es) run h = absurd (cc)
plain_is ss k (Assign p op e) run h = absurd (cc)
plain_is ss k _ run h = refl

-- ---- parts

abbrev HaveSpans : List Copy → List ℕ → Type 0
HaveSpans cs ss = (g : ℕ) (c : Copy) → slice_get cs g ≡ Some c → (h : List BlockName) (s n l : ℕ) → copy_caps (c.sites h s n l) ≡ s * span_at ss g

abbrev HaveNone : List Copy → List ℕ → Type 0
HaveNone cs ss = (g : ℕ) → slice_get cs g ≡ None → span_at ss g ≡ 0

call_caps : (w : Position) (o : Option Copy) (m : ℕ) (t : Target) (es : List Expr) (b : BlockName) (n next : ℕ) → ((c : Copy) → o ≡ Some c → (h : List BlockName) (s n l : ℕ) → copy_caps (c.sites h s n l) ≡ s * m) → (o ≡ None → m ≡ 0) → copy_caps (call_sites w o t es b n next) ≡ w.scale + w.scale * m
call_caps w None m t es b n next some none = omega (arith, ap (λ y. w.scale * y) (none refl))
call_caps w (Some c) m t es b n next some none =
    let landing = n + 1 + c.size in
    let chain = w.chain ++ b ∷ [] in
    let inner = c.sites chain w.scale (n + 1) landing in
    omega (arith, caps_append inner (one_end_site w (Land t c.result b) None next ∷ []), some c refl chain w.scale (n + 1) landing)

-- the cap of a block of simple statements that were passed
abbrev passed_cap : List Stmt → ℕ → ℕ
passed_cap [] k = 0
passed_cap (s ∷ ss) k = k

flush_caps : (w : Position) (ps : List Stmt) (b : BlockName) (t : ℕ) → copy_caps (flush w ps b t) ≡ passed_cap ps w.scale
flush_caps w [] b t = refl
flush_caps w (s ∷ ps) b t = omega arith

simple_caps : (ss : List ℕ) (k : ℕ) (ps : List Stmt) (st : Stmt) (r : Bool → ℕ) → is_simple st ≡ true → passed_cap (ps ++ st ∷ []) k + r (is_run (ps ++ st ∷ [])) ≡ passed_cap ps k + (span ss k st (is_run ps) + r (is_simple st))
simple_caps ss k [] st r is = omega (arith, simple_is ss k st false is, ap r is)
simple_caps ss k (x ∷ ps) st r is = omega (arith, simple_is ss k st true is, ap r is)

row_caps_choose : (ss : List ℕ) (w : Position) (ps : List Stmt) (b : BlockName) (t d : ℕ) (p q1 q2 : List Site) (st : Stmt) (r : Bool → ℕ) → (is_simple st ≡ true → copy_caps p ≡ d) → (is_simple st ≡ false → copy_caps q1 ≡ span ss w.scale st false) → copy_caps q2 ≡ r false → d ≡ passed_cap ps w.scale + (span ss w.scale st (is_run ps) + r (is_simple st)) → (c : Bool) → is_simple st ≡ c → copy_caps (if c then p else flush w ps b t ++ (q1 ++ q2)) ≡ d
row_caps_choose ss w ps b t d p q1 q2 st r hp h1 h2 e true is = hp is
row_caps_choose ss w ps b t d p q1 q2 st r hp h1 h2 e false is =
    omega (arith, caps_append (flush w ps b t) (q1 ++ q2), caps_append q1 q2, flush_caps w ps b t, h1 is, h2, e, plain_is ss w.scale st (is_run ps) is, ap r is)

-- ---- statements

module _ (cs : List Copy) (ss : List ℕ) (have : HaveSpans cs ss) (none : HaveNone cs ss) where
  mutual
    unfolding site_count row_size held_size flow row_flow held_flow span row_span held_span

    st_caps : (w : Position) (st : Stmt) (b n : ℕ) (k : Targets) → is_simple st ≡ false → copy_caps (flow cs w st b n k) ≡ span ss w.scale st false
    st_caps w Empty b n k is = absurd (cc)
    st_caps w (Scalar l e) b n k is = absurd (cc)
    st_caps w (Array l es) b n k is = absurd (cc)
    st_caps w (Assign p op e) b n k is = absurd (cc)
    st_caps w (Call t g es) b n k is = call_caps w (slice_get cs g) (span_at ss g) t es (block w.func b) n k.next (have g) (none g)
    st_caps w Break b n k is = omega arith
    st_caps w Continue b n k is = omega arith
    st_caps w (Return e) b n k is = omega arith
    st_caps w (If' e a x c y) b n k is =
        let m = row_size cs x false in
        let p = row_flow cs w x (b + 1) (n + 1) [] k in
        let q = row_flow cs w y (b + 1 + row_blocks x false) (n + 1 + m) [] k in
        omega (arith, caps_append p q, row_caps w x (b + 1) (n + 1) [] k, row_caps w y (b + 1 + row_blocks x false) (n + 1 + m) [] k)
    st_caps w (While' l e a x) b n k is = omega (arith, row_caps (times_as_often w l) x (b + 1) (n + 1) [] (body_of k n))
    st_caps w (Do' l a x e) b n k is =
        let m = row_size cs x false in
        let inside = times_as_often w l in
        let p = row_flow cs inside x b n [] (body_of k (n + m)) in
        omega (arith, caps_append p (asks inside (Some (loop_at n (n + m + 1) (n + m) l true)) e (block w.func (b + row_blocks x false)) n k.next ∷ []), row_caps inside x b n [] (body_of k (n + m)))
    st_caps w (For' l i e j a x) b n k is =
        let inside = times_as_often w l in
        let bc = b + held_blocks i in
        let c = n + held_size cs i in
        let r = held_size cs j in
        let bx = bc + 1 + held_blocks j in
        let again = head r (c + 1) c in
        let p = held_flow cs w i b n (with_next k c) in
        let q = held_flow cs inside j (bc + 1) (c + 1) (with_next k c) in
        let o = row_flow cs inside x bx (c + 1 + r) [] (body_of k again) in
        omega (arith, caps_append p (for_sites w l e (block w.func bc) c r (row_size cs x false) k.next q o), caps_append q o, held_caps w i b n (with_next k c), held_caps inside j (bc + 1) (c + 1) (with_next k c), row_caps inside x bx (c + 1 + r) [] (body_of k again))
    st_caps w (Group' a x) b n k is = omega (arith, row_caps w x b n [] k)

    row_caps : {m : _} (w : Position) (x : Row_of-Stmt m) (b n : ℕ) (ps : List Stmt) (k : Targets) → copy_caps (row_flow cs w x b n ps k) ≡ passed_cap ps w.scale + row_span ss w.scale x (is_run ps)
    row_caps w end_of-Stmt b n ps k = omega (arith, flush_caps w ps (block w.func b) k.next)
    row_caps w (more_of-Stmt st rest) b n ps k =
        let n1 = number_past ps n in
        let n2 = n1 + site_count cs st false in
        let next = head (row_size cs rest false) n2 k.next in
        let kn = with_next k next in
        let r : Bool → ℕ = λ run. row_span ss w.scale rest run in
        let d = passed_cap ps w.scale + (span ss w.scale st (is_run ps) + r (is_simple st)) in
        let q2 = row_flow cs w rest (number_past ps b + blocks st false) n2 [] k in
        let last : copy_caps q2 ≡ r false = omega (arith, row_caps w rest (number_past ps b + blocks st false) n2 [] k) in
        row_caps_choose ss w ps (block w.func b) (head (site_count cs st false) n1 next) d (row_flow cs w rest b n (ps ++ st ∷ []) k) (flow cs w st (number_past ps b) n1 kn) q2 st r
        (λ is. row_caps w rest b n (ps ++ st ∷ []) k ∙ simple_caps ss w.scale ps st r is)
        (λ is. st_caps w st (number_past ps b) n1 kn is)
        last refl (is_simple st) refl

    held_caps : (w : Position) (x : Held-Stmt-For-1) (b n : ℕ) (k : Targets) → copy_caps (held_flow cs w x b n k) ≡ held_span ss w.scale x
    held_caps w None' b n k = refl
    held_caps w (Some' a x) b n k = omega (arith, row_caps w x b n [] k)

  list_caps : (w : Position) (xs : List Stmt) (b n : ℕ) (k : Targets) → copy_caps (list_flow cs w xs b n [] k) ≡ list_span ss w.scale xs false
  list_caps w xs b n k =
      let r = hidden-the_row-Stmt-0 xs in
      omega (arith, ap copy_caps (row_flows cs w xs b n [] k), row_caps w r b n [] k, row_is ss w.scale xs false)

-- ---- functions

abbrev IsSpanned : Copy → ℕ → Type 0
IsSpanned c m = (h : List BlockName) (s n l : ℕ) → copy_caps (c.sites h s n l) ≡ s * m

abbrev AreSpanned : List Copy → List ℕ → Type 0
AreSpanned [] [] = Unit {0}
AreSpanned (c ∷ cs) (m ∷ ss) = IsSpanned c m × AreSpanned cs ss
AreSpanned _ _ = ⊥

spanned_at : (cs : List Copy) (ss : List ℕ) → AreSpanned cs ss → HaveSpans cs ss
spanned_at [] ss h g c e = absurd (cc)
spanned_at (d ∷ cs) [] h g c e = absurd h
spanned_at (d ∷ cs) (m ∷ ss) h zero c e = let p : d ≡ c = cc in subst (λ y. IsSpanned y m) p h.0
spanned_at (d ∷ cs) (m ∷ ss) h (suc g) c e = spanned_at cs ss h.1 g c e

spanned_none : (cs : List Copy) (ss : List ℕ) → AreSpanned cs ss → HaveNone cs ss
spanned_none [] [] h g e = refl
spanned_none [] (m ∷ ss) h g e = absurd h
spanned_none (d ∷ cs) [] h g e = absurd h
spanned_none (d ∷ cs) (m ∷ ss) h zero e = absurd (cc)
spanned_none (d ∷ cs) (m ∷ ss) h (suc g) e = spanned_none cs ss h.1 g e

spanned_more : (cs : List Copy) (ss : List ℕ) (c : Copy) (m : ℕ) → AreSpanned cs ss → IsSpanned c m → AreSpanned (cs ++ c ∷ []) (ss ++ m ∷ [])
spanned_more [] [] c m h is = (is, tt)
spanned_more [] (o ∷ ss) c m h is = absurd h
spanned_more (d ∷ cs) [] c m h is = absurd h
spanned_more (d ∷ cs) (o ∷ ss) c m h is = (h.0, spanned_more cs ss c m h.1 is)

function_spanned : (k : ℕ) (f : Func) (cs : List Copy) (ss : List ℕ) → AreSpanned cs ss → IsSpanned (copy_of k f cs) (func_span ss f)
function_spanned k f cs ss h chain s n l =
    let w : Position = record { func = k; chain = chain; scale = s } in
    let z : s ≡ s * 1 = omega arith in
    list_caps cs ss (spanned_at cs ss h) (spanned_none cs ss h) w f.body 0 n (all_to l) ∙ ap (λ y. list_span ss y f.body false) z ∙ list_scaled ss s 1 f.body false

all_spanned : (funcs : List Func) (cs : List Copy) (ss : List ℕ) → AreSpanned cs ss → AreSpanned (copies cs funcs) (spans ss funcs)
all_spanned [] cs ss h = h
all_spanned (f ∷ funcs) cs ss h =
    all_spanned funcs (cs ++ copy_of (length cs) f cs ∷ []) (ss ++ func_span ss f ∷ []) (spanned_more cs ss (copy_of (length cs) f cs) (func_span ss f) h (function_spanned (length cs) f cs ss h))

whole_caps : (o : Option Copy) (m : ℕ) → ((c : Copy) → o ≡ Some c → IsSpanned c m) → (o ≡ None → m ≡ 0) → copy_caps (sites_of o) ≡ m
whole_caps None m some none = sym (none refl)
whole_caps (Some c) m some none = omega (arith, some c refl [] 1 2 1)

pub caps_are_span : (p : Program) → copy_caps (graph p) ≡ span_at (spans [] p.funcs) p.entry
unfolding graph
caps_are_span p =
    let cs = copies [] p.funcs in
    let ss = spans [] p.funcs in
    let h = all_spanned p.funcs [] [] tt in
    whole_caps (slice_get cs p.entry) (span_at ss p.entry) (spanned_at cs ss h p.entry) (spanned_none cs ss h p.entry)
