-- Each loop's condition stands at its own number, inside the loop.
use Rattle.std.proofs.Common.{◌≡◌, ℕ, zero, suc, ◌+◌, ◌<◌, ◌≤◌, Bool, true, false, if◌then◌else◌, List, [], ◌∷◌, ◌++◌, length, Option, Some, None, refl, sym, ap, ◌∙◌, subst, arith}
use Rattle.std.specs.Prelude.{slice_get}
use Rattle.c_tree.specs.declared.tree.Expr.{Expr}
use Rattle.c_tree.specs.declared.tree.Target.{Target}
use Rattle.c_tree.specs.declared.program.BlockName.{BlockName}
use Rattle.c_tree.specs.declared.program.Func.{Func}
use Rattle.c_tree.specs.declared.program.Program.{Program}
use Rattle.c_tree.specs.declared.tree.Stmt.{Stmt, Row_of-Stmt, end_of-Stmt, more_of-Stmt, Held-Stmt-For-1, None', Some'}
use Rattle.c_tree.specs.declared.tree.Stmt.TheVariants.{Empty, Scalar, Array, Assign, Call, Break, Continue, Return, If', While', Do', For', Group'}
use Rattle.c_tree.specs.declared.tree.Stmt.TheBlock.{hidden-the_row-Stmt-0}
use Rattle.c_tree.specs.Meaning.Blocks.{is_simple, blocks, row_blocks, held_blocks}
use Rattle.c_tree.specs.Meaning.Statements.{block}
use Rattle.flow_laws.specs.Sites.{Position, times_as_often, list_flow, Content, Copy, Land, LoopCopy, Site, Targets, Test, asks, body_of, call_sites, do_sites, flow, flush, for_sites, head, held_flow, held_size, if_sites, list_flow, loop_at, one_end_site, number_past, row_flow, row_size, site_count, while_sites, with_next}
use Rattle.flow_laws.specs.Graphs.{all_to, copy_of, copies, sites_of, graph}
use Rattle.flow_laws.proofs.Graphs.PartSizes.{HaveSizes, flow_length, row_length, held_length}
use Rattle.flow_laws.proofs.Runs.RunsDriven.{past_flush}
use Rattle.flow_laws.proofs.Runs.CopiesSound.{row_flows, list_length}

pub record TestIs (n : ℕ) (l : LoopCopy) : Type 0 where
  pub test : l.test ≡ n
  pub low : l.from ≤ n
  pub high : n < l.past

abbrev pub IsTested : ℕ → Content → Type 0
IsTested n (Test (Some l) e) = TestIs n l
IsTested n _ = Unit {0}

abbrev pub AllTested : ℕ → List Site → Type 0
AllTested n [] = Unit {0}
AllTested n (nd ∷ g) = IsTested n nd.content × AllTested (n + 1) g

pub turned_append : (n m : ℕ) (a b : List Site) → n + length a ≡ m → AllTested n a → AllTested m b → AllTested n (a ++ b)
turned_append n m [] b e h k = let p : m ≡ n = omega (arith, e) in subst (λ x. AllTested x b) p k
turned_append n m (x ∷ a) b e h k = (h.0, turned_append (n + 1) m a b (omega (arith, e)) h.1 k)

pub turned_at : (n i : ℕ) (g : List Site) (nd : Site) → AllTested n g → slice_get g i ≡ Some nd → IsTested (n + i) nd.content
turned_at n i [] nd h e = absurd (cc)
turned_at n zero (x ∷ g) nd h e =
    let p : x ≡ nd = cc in
    let q : n ≡ n + 0 = omega arith in
    subst (λ y. IsTested y nd.content) q (subst (λ y. IsTested n y.content) p h.0)
turned_at n (suc i) (x ∷ g) nd h e =
    let q : n + 1 + i ≡ n + suc i = omega arith in
    subst (λ y. IsTested y nd.content) q (turned_at (n + 1) i g nd h.1 e)

flush_turned : (w : Position) (ss : List Stmt) (b : BlockName) (n t : ℕ) → AllTested n (flush w ss b t)
flush_turned w [] b n t = tt
flush_turned w (s ∷ ss) b n t = (tt, tt)

abbrev pub HaveTurns : List Copy → Type 0
HaveTurns cs = (g : ℕ) (c : Copy) → slice_get cs g ≡ Some c → (h : List BlockName) (s n l : ℕ) → AllTested n (c.sites h s n l)

call_turned : (w : Position) (o : Option Copy) (t : Target) (es : List Expr) (b : BlockName) (n next : ℕ) → ((c : Copy) → o ≡ Some c → (h : List BlockName) (s n l : ℕ) → length (c.sites h s n l) ≡ c.size) → ((c : Copy) → o ≡ Some c → (h : List BlockName) (s n l : ℕ) → AllTested n (c.sites h s n l)) → AllTested n (call_sites w o t es b n next)
call_turned w None t es b n next h k = (tt, (tt, tt))
call_turned w (Some c) t es b n next h k =
    let landing = n + 1 + c.size in
    (tt, let chain = w.chain ++ b ∷ [] in turned_append (n + 1) landing (c.sites chain w.scale (n + 1) landing) (one_end_site w (Land t c.result b) None next ∷ []) (omega (arith, h c refl chain w.scale (n + 1) landing)) (k c refl chain w.scale (n + 1) landing) (tt, tt))

row_turned_choose : (w : Position) (n n1 n2 t : ℕ) (ss : List Stmt) (b : BlockName) (p q1 q2 : List Site) (st : Stmt) → n1 ≡ number_past ss n → AllTested n p → (is_simple st ≡ false → n1 + length q1 ≡ n2) → (is_simple st ≡ false → AllTested n1 q1) → AllTested n2 q2 → (c : Bool) → is_simple st ≡ c → AllTested n (if c then p else flush w ss b t ++ (q1 ++ q2))
row_turned_choose w n n1 n2 t ss b p q1 q2 st e hp len h1 h2 true is = hp
row_turned_choose w n n1 n2 t ss b p q1 q2 st e hp len h1 h2 false is =
    turned_append n n1 (flush w ss b t) (q1 ++ q2) (past_flush w ss b n t ∙ sym e) (flush_turned w ss b n t) (turned_append n1 n2 q1 q2 (len is) (h1 is) h2)

do_turned : (w : Position) (l : ℕ) (e : Expr) (b : BlockName) (n m next : ℕ) (p : List Site) → length p ≡ m → AllTested n p → AllTested n (do_sites w l e b n m next p)
do_turned w l e b n m next p len h =
    turned_append n (n + m) p (asks (times_as_often w l) (Some (loop_at n (n + m + 1) (n + m) l true)) e b n next ∷ []) (omega (arith, len)) h (record { test = refl; low = omega arith; high = omega arith }, tt)

for_turned : (w : Position) (l : ℕ) (e : Expr) (b : BlockName) (n z r m next : ℕ) (i p q : List Site) → length i ≡ z → length p ≡ r → AllTested n i → AllTested (n + z + 1) p → AllTested (n + z + 1 + r) q → AllTested n (i ++ for_sites w l e b (n + z) r m next p q)
for_turned w l e b n z r m next i p q leni lenp hi hp hq =
    turned_append n (n + z) i (for_sites w l e b (n + z) r m next p q) (omega (arith, leni)) hi (record { test = refl; low = omega arith; high = omega arith }, turned_append (n + z + 1) (n + z + 1 + r) p q (omega (arith, lenp)) hp hq)

if_turned : (w : Position) (e : Expr) (b : BlockName) (n m r next : ℕ) (p q : List Site) → length p ≡ m → AllTested (n + 1) p → AllTested (n + 1 + m) q → AllTested n (if_sites w e b n m r next p q)
if_turned w e b n m r next p q len hp hq = (tt, turned_append (n + 1) (n + 1 + m) p q (omega (arith, len)) hp hq)

while_turned : (w : Position) (l : ℕ) (e : Expr) (b : BlockName) (n m next : ℕ) (p : List Site) → AllTested (n + 1) p → AllTested n (while_sites w l e b n m next p)
while_turned w l e b n m next p h = (record { test = refl; low = omega arith; high = omega arith }, h)

module _ (cs : List Copy) (sizes : HaveSizes cs) (turns : HaveTurns cs) where
  mutual
    unfolding site_count row_size held_size flow row_flow held_flow

    pub st_turned : (w : Position) (st : Stmt) (b n : ℕ) (k : Targets) → is_simple st ≡ false → AllTested n (flow cs w st b n k)
    st_turned w Empty b n k is = absurd (cc)
    st_turned w (Scalar l e) b n k is = absurd (cc)
    st_turned w (Array l es) b n k is = absurd (cc)
    st_turned w (Assign p op e) b n k is = absurd (cc)
    st_turned w (Call t c es) b n k is = call_turned w (slice_get cs c) t es (block w.func b) n k.next (sizes c) (turns c)
    st_turned w Break b n k is = (tt, tt)
    st_turned w Continue b n k is = (tt, tt)
    st_turned w (Return e) b n k is = (tt, tt)
    st_turned w (If' e a x c y) b n k is =
        let m = row_size cs x false in
        if_turned w e (block w.func b) n m (row_size cs y false) k.next _ _ (row_length cs w x (b + 1) (n + 1) [] k sizes) (row_turned w x (b + 1) (n + 1) [] k) (row_turned w y (b + 1 + row_blocks x false) (n + 1 + m) [] k)
    st_turned w (While' l e a x) b n k is =
        let inside = times_as_often w l in
        while_turned w l e (block w.func b) n (row_size cs x false) k.next _ (row_turned inside x (b + 1) (n + 1) [] (body_of k n))
    st_turned w (Do' l a x e) b n k is =
        let inside = times_as_often w l in
        let c = n + row_size cs x false in
        do_turned w l e (block w.func (b + row_blocks x false)) n (row_size cs x false) k.next _ (row_length cs inside x b n [] (body_of k c) sizes) (row_turned inside x b n [] (body_of k c))
    st_turned w (For' l i e j a x) b n k is =
        let inside = times_as_often w l in
        let bc = b + held_blocks i in
        let c = n + held_size cs i in
        let r = held_size cs j in
        let bx = bc + 1 + held_blocks j in
        let again = head r (c + 1) c in
        for_turned w l e (block w.func bc) n (held_size cs i) r (row_size cs x false) k.next _ _ _ (held_length cs w i b n (with_next k c) sizes) (held_length cs inside j (bc + 1) (c + 1) (with_next k c) sizes) (held_turned w i b n (with_next k c)) (held_turned inside j (bc + 1) (c + 1) (with_next k c)) (row_turned inside x bx (c + 1 + r) [] (body_of k again))
    st_turned w (Group' a x) b n k is = row_turned w x b n [] k

    pub row_turned : {m : _} (w : Position) (x : Row_of-Stmt m) (b n : ℕ) (ss : List Stmt) (k : Targets) → AllTested n (row_flow cs w x b n ss k)
    row_turned w end_of-Stmt b n ss k = flush_turned w ss (block w.func b) n k.next
    row_turned w (more_of-Stmt st rest) b n ss k =
        let n1 = number_past ss n in
        let n2 = n1 + site_count cs st false in
        let next = head (row_size cs rest false) n2 k.next in
        let kn = with_next k next in
        row_turned_choose w n n1 n2 (head (site_count cs st false) n1 next) ss (block w.func b) _ (flow cs w st (number_past ss b) n1 kn) (row_flow cs w rest (number_past ss b + blocks st false) n2 [] k) st refl (row_turned w rest b n (ss ++ st ∷ []) k) (λ is. ap (λ z. n1 + z) (flow_length cs w st (number_past ss b) n1 kn sizes is)) (λ is. st_turned w st (number_past ss b) n1 kn is) (row_turned w rest (number_past ss b + blocks st false) n2 [] k) (is_simple st) refl

    pub held_turned : (w : Position) (x : Held-Stmt-For-1) (b n : ℕ) (k : Targets) → AllTested n (held_flow cs w x b n k)
    held_turned w None' b n k = tt
    held_turned w (Some' a x) b n k = row_turned w x b n [] k

-- ---- the copies

abbrev AreTurned : List Copy → Type 0
AreTurned [] = Unit {0}
AreTurned (c ∷ cs) = ((h : List BlockName) (s n l : ℕ) → length (c.sites h s n l) ≡ c.size) × ((h : List BlockName) (s n l : ℕ) → AllTested n (c.sites h s n l)) × AreTurned cs

sizes_at : (cs : List Copy) → AreTurned cs → HaveSizes cs
sizes_at [] h g c e = absurd (cc)
sizes_at (d ∷ cs) h zero c e = let p : d ≡ c = cc in subst (λ x. (h : List BlockName) (s n l : ℕ) → length (x.sites h s n l) ≡ x.size) p h.0
sizes_at (d ∷ cs) h (suc g) c e = sizes_at cs h.2 g c e

turns_at : (cs : List Copy) → AreTurned cs → HaveTurns cs
turns_at [] h g c e = absurd (cc)
turns_at (d ∷ cs) h zero c e = let p : d ≡ c = cc in subst (λ x. (h : List BlockName) (s n l : ℕ) → AllTested n (x.sites h s n l)) p h.1
turns_at (d ∷ cs) h (suc g) c e = turns_at cs h.2 g c e

turned_more : (cs : List Copy) (c : Copy) → AreTurned cs → ((h : List BlockName) (s n l : ℕ) → length (c.sites h s n l) ≡ c.size) → ((h : List BlockName) (s n l : ℕ) → AllTested n (c.sites h s n l)) → AreTurned (cs ++ c ∷ [])
turned_more [] c h x y = (x, y, tt)
turned_more (d ∷ cs) c h x y = (h.0, h.1, turned_more cs c h.2 x y)

abbrev placed : ℕ → List BlockName → ℕ → Position
placed k chain scale = record { func = k; chain = chain; scale = scale }

copy_turned : (cs : List Copy) (k : ℕ) (f : Func) → AreTurned cs → (h : List BlockName) (s n l : ℕ) → AllTested n (list_flow cs (placed k h s) f.body 0 n [] (all_to l))
copy_turned cs k f h chain s n l =
    let w = placed k chain s in
    subst (AllTested n) (row_flows cs w f.body 0 n [] (all_to l)) (row_turned cs (sizes_at cs h) (turns_at cs h) w (hidden-the_row-Stmt-0 f.body) 0 n [] (all_to l))

all_turned : (funcs : List Func) (cs : List Copy) → AreTurned cs → AreTurned (copies cs funcs)
all_turned [] cs h = h
all_turned (f ∷ fs) cs h =
    all_turned fs (cs ++ copy_of (length cs) f cs ∷ []) (turned_more cs (copy_of (length cs) f cs) h (λ chain s n l. list_length cs (placed (length cs) chain s) f.body n (all_to l) (sizes_at cs h)) (copy_turned cs (length cs) f h))

-- each function's copy has as many nodes as its size says
pub copy_sizes : (funcs : List Func) → HaveSizes (copies [] funcs)
copy_sizes funcs = sizes_at (copies [] funcs) (all_turned funcs [] tt)

nodes_turned : (o : Option Copy) → ((c : Copy) → o ≡ Some c → (h : List BlockName) (s n l : ℕ) → AllTested n (c.sites h s n l)) → AllTested 0 (sites_of o)
nodes_turned None h = (tt, tt)
nodes_turned (Some c) h = (tt, (tt, h c refl [] 1 2 1))

pub graph_turned : (p : Program) → AllTested 0 (graph p)
unfolding graph
graph_turned p =
    nodes_turned (slice_get (copies [] p.funcs) p.entry) (turns_at (copies [] p.funcs) (all_turned p.funcs [] tt) p.entry)
