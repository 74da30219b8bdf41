-- Joining open ends gives the edges of the graph: each edge as often.
use Rattle.std.proofs.Common.{◌≡◌, ℕ, suc, ◌+◌, Bool, true, false, if◌then◌else◌, List, [], ◌∷◌, ◌++◌, length, Option, Some, None, refl, sym, ap, ◌∙◌, subst, arith}
use Rattle.std.specs.Prelude.{slice_get}
use Rattle.c_tree.specs.declared.tree.Expr.{Expr}
use Rattle.c_tree.specs.declared.tree.Target.{Target}
use Rattle.c_tree.specs.declared.program.BlockName.{BlockName}
use Rattle.c_tree.specs.declared.tree.Stmt.{Stmt, Row_of-Stmt, end_of-Stmt, more_of-Stmt, Held-Stmt-For-1, None', Some'}
use Rattle.c_tree.specs.declared.tree.Stmt.TheVariants.{Empty, Scalar, Array, Assign, Call, Break, Continue, Return, If', While', Do', For', Group'}
use Rattle.c_tree.specs.Meaning.Blocks.{is_simple, blocks, row_blocks, held_blocks}
use Rattle.c_tree.specs.Meaning.Statements.{block}
use Rattle.c_tree.specs.Keeping.WellFormed.{Context, WellFormedStmt, WellFormedRow, WellFormedHeld, WellFormedSole, is_initialiser, is_step}
use Rattle.flow_laws.specs.declared.graph.Way.TheVariants.{Next, True, False}
use Rattle.flow_laws.specs.declared.graph.Edge.{Edge}
use Rattle.flow_laws.specs.Sites.{Land, Site, Position, Copy, Targets, times_as_often, one_end_site, asks, loop_at, head, with_next, body_of, number_past, flush, call_size, call_sites, if_sites, while_sites, do_sites, for_sites, site_count, row_size, held_size, flow, row_flow, held_flow}
use Rattle.flow_laws.specs.Graphs.{outs, edges_from, all_to}
use Rattle.flow_laws.specs.Paths.{times}
use Rattle.flow_laws.specs.OpenEnds.{End, Piece, end_at, join, through, block_piece, opened_simple, piece_pair, opened_if, opened_while, opened_do, opened_for, Opened, opened_call, opened_stmt, row_opened, held_opened}
use Rattle.flow_laws.proofs.Graphs.PartSizes.{HaveSizes, is_run, head_plus, simple_size, plain_size, flow_length, row_length, held_length}
use Rattle.flow_laws.proofs.Runs.StatementParts.{head_self}
use Rattle.plain_laws.proofs.Booleans.{false_never_holds}

-- ---- counting

abbrev pub mark : Bool → ℕ
mark true = 1
mark false = 0

-- how many of the edges have a property
abbrev pub tally : (Edge → Bool) → List Edge → ℕ
tally p [] = 0
tally p (e ∷ q) = mark (p e) + tally p q

pub tally_times : (p : Edge → Bool) (q : List Edge) → tally p q ≡ times p q
tally_times p [] = refl
tally_times p (e ∷ q) = by_edge (p e) (tally_times p q)
  where
    by_edge : (b : Bool) → tally p q ≡ times p q → mark b + tally p q ≡ (if b then suc (times p q) else times p q)
    by_edge true h = omega (arith, h)
    by_edge false h = omega (arith, h)

pub tally_append : (p : Edge → Bool) (a b : List Edge) → tally p (a ++ b) ≡ tally p a + tally p b
tally_append p [] b = omega arith
tally_append p (e ∷ a) b = omega (arith, tally_append p a b)

pub tally_join : (p : Edge → Bool) (a b : List End) (n : ℕ) → tally p (join (a ++ b) n) ≡ tally p (join a n) + tally p (join b n)
tally_join p [] b n = omega arith
tally_join p (e ∷ a) b n = omega (arith, tally_join p a b n)

-- the edges of sites from n on
abbrev pub out : (Edge → Bool) → ℕ → List Site → ℕ
out p n g = tally p (edges_from n g)

out_append : (p : Edge → Bool) (n m : ℕ) (a b : List Site) → n + length a ≡ m → out p n (a ++ b) ≡ out p n a + out p m b
out_append p n m [] b e = let z : n ≡ m = omega (arith, e) in ap (λ y. out p y b) z ∙ omega arith
out_append p n m (s ∷ a) b e =
    omega (arith, tally_append p (outs n s s.content) (edges_from (n + 1) (a ++ b)), tally_append p (outs n s s.content) (edges_from (n + 1) a), out_append p (n + 1) m a b (omega (arith, e)))

-- the edges of a piece, its ends joined to where they lead
abbrev pub shut : (Edge → Bool) → Piece → Targets → ℕ
shut p a k =
    tally p a.edges + (tally p (join a.next k.next) + (tally p (join a.breaks k.breaks) + (tally p (join a.continues k.continues) + tally p (join a.returns k.returns))))

-- ---- parts

-- a part of z nodes from n on is entered at its first node, or passed where it has none
abbrev pub Shuts : (Edge → Bool) → Piece → Targets → List End → ℕ → ℕ → List Site → Type 0
Shuts p a k ins z n g = shut p a k ≡ tally p (join ins (head z n k.next)) + out p n g

shuts_if : (p : Edge → Bool) (w : Position) (e : Expr) (b : BlockName) (n m r : ℕ) (k : Targets) (ins : List End) (x y : Piece) (g h : List Site) → length g ≡ m → Shuts p x k (end_at n True ∷ []) m (n + 1) g → Shuts p y k (end_at n False ∷ []) r (n + 1 + m) h → Shuts p (opened_if n ins x y) k ins (suc (m + r)) n (if_sites w e b n m r k.next g h)
shuts_if p w e b n m r k ins x y g h len hx hy =
    omega (arith, hx, hy, tally_append p (join ins n) (x.edges ++ y.edges), tally_append p x.edges y.edges, tally_join p x.next y.next k.next, tally_join p x.breaks y.breaks k.breaks, tally_join p x.continues y.continues k.continues, tally_join p x.returns y.returns k.returns, out_append p (n + 1) (n + 1 + m) g h (omega (arith, len)))

shuts_while : (p : Edge → Bool) (w : Position) (l : ℕ) (e : Expr) (b : BlockName) (n m : ℕ) (k : Targets) (ins : List End) (x : Piece) (g : List Site) → Shuts p x (body_of k n) (end_at n True ∷ []) m (n + 1) g → Shuts p (opened_while n ins x) k ins (suc m) n (while_sites w l e b n m k.next g)
shuts_while p w l e b n m k ins x g hx =
    omega (arith, hx, tally_append p (join (ins ++ (x.next ++ x.continues)) n) x.edges, tally_join p ins (x.next ++ x.continues) n, tally_join p x.next x.continues n)

shuts_do : (p : Edge → Bool) (w : Position) (l : ℕ) (e : Expr) (b : BlockName) (n m : ℕ) (k : Targets) (ins : List End) (x : Piece) (g : List Site) → length g ≡ m → Shuts p x (body_of k (n + m)) (ins ++ end_at (n + m) True ∷ []) m n g → Shuts p (opened_do (n + m) x) k ins (suc m) n (do_sites w l e b n m k.next g)
shuts_do p w l e b n m k ins x g len hx =
    let at_head = ap (λ y. tally p (join (ins ++ end_at (n + m) True ∷ []) y)) (head_self m n) in
    omega (arith, hx, at_head, tally_append p x.edges (join (x.next ++ x.continues) (n + m)), tally_join p x.next x.continues (n + m), tally_join p ins (end_at (n + m) True ∷ []) n, out_append p n (n + m) g (asks (times_as_often w l) (Some (loop_at n (n + m + 1) (n + m) l true)) e b n k.next ∷ []) (omega (arith, len)))

no_ends : (p : Edge → Bool) (es : List End) (a b : ℕ) → es ≡ [] → tally p (join es a) ≡ 0
no_ends p es a b h = ap (λ y. tally p (join y a)) h

-- what leaves no `break` and no `continue`
pub record NoJumps (a : Piece) : Type 0 where
  pub breaks : a.breaks ≡ []
  pub continues : a.continues ≡ []

shuts_for : (p : Edge → Bool) (w : Position) (l : ℕ) (e : Expr) (b : BlockName) (n z r m : ℕ) (k : Targets) (ins : List End) (i j x : Piece) (f g h : List Site) → length f ≡ z → length g ≡ r → NoJumps i → NoJumps j → (let c = n + z in let again = head r (c + 1) c in Shuts p i (with_next k c) ins z n f → Shuts p j (with_next k c) (x.next ++ x.continues) r (c + 1) g → Shuts p x (body_of k again) (end_at c True ∷ []) m (c + 1 + r) h → Shuts p (opened_for c i j x) k ins (z + suc (r + m)) n (f ++ for_sites w l e b c r m k.next g h))
shuts_for p w l e b n z r m k ins i j x f g h lenf leng ni nj hi hj hx =
    let c = n + z in
    let again = head r (c + 1) c in
    let start = ap (λ y. tally p (join ins y)) (head_plus z (suc (r + m)) n k.next) in
    let whole = for_sites w l e b c r m k.next g h in
    let a1 = tally_append p i.edges (join (i.next ++ j.next) c ++ (j.edges ++ x.edges)) in
    let a2 = tally_append p (join (i.next ++ j.next) c) (j.edges ++ x.edges) in
    let a3 = tally_append p j.edges x.edges in
    let n1 = tally_join p i.next j.next c in
    let n2 = tally_join p x.next x.continues again in
    let r1 = tally_join p i.returns (j.returns ++ x.returns) k.returns in
    let r2 = tally_join p j.returns x.returns k.returns in
    let o1 = out_append p n c f whole (omega (arith, lenf)) in
    let o2 = out_append p (c + 1) (c + 1 + r) g h (omega (arith, leng)) in
    let b1 = ap (λ y. tally p (join y k.breaks)) ni.breaks in
    let b2 = ap (λ y. tally p (join y k.continues)) ni.continues in
    let b3 = ap (λ y. tally p (join y k.breaks)) nj.breaks in
    let b4 = ap (λ y. tally p (join y k.continues)) nj.continues in
    omega (arith, hi, hj, hx, start, a1, a2, a3, n1, n2, r1, r2, o1, o2, b1, b2, b3, b4)

-- ---- calls

-- the callee's list leaves next and return alone, and joining them to the landing gives its copy's edges
pub record IsJoined (c : Copy) (f : Opened) : Type 0 where
  pub size_is : (h : List BlockName) (s n l : ℕ) → length (c.sites h s n l) ≡ c.size
  pub no_jumps : (n : ℕ) (ins : List End) → NoJumps (f n ins)
  pub shuts : (p : Edge → Bool) (h : List BlockName) (s n l : ℕ) (ins : List End) → Shuts p (f n ins) (all_to l) ins c.size n (c.sites h s n l)

abbrev pub Paired : Option Copy → Option Opened → Type 0
Paired None None = Unit {0}
Paired (Some c) (Some f) = IsJoined c f
Paired _ _ = ⊥

abbrev pub ArePaired : List Copy → List Opened → Type 0
ArePaired cs fs = (g : ℕ) → Paired (slice_get cs g) (slice_get fs g)

shuts_call : (p : Edge → Bool) (w : Position) (o : Option Copy) (q : Option Opened) (t : Target) (es : List Expr) (b : BlockName) (n : ℕ) (k : Targets) (ins : List End) → Paired o q → Shuts p (opened_call o q n ins) k ins (call_size o) n (call_sites w o t es b n k.next)
shuts_call p w None None t es b n k ins h = omega (arith, tally_append p (join ins n) (join (end_at n Next ∷ []) (n + 1)))
shuts_call p w None (Some f) t es b n k ins h = absurd h
shuts_call p w (Some c) None t es b n k ins h = absurd h
shuts_call p w (Some c) (Some f) t es b n k ins h =
    let landing = n + 1 + c.size in
    let chain = w.chain ++ b ∷ [] in
    let inner = c.sites chain w.scale (n + 1) landing in
    let x : Piece = f (n + 1) (end_at n Next ∷ []) in
    let jumps = h.no_jumps (n + 1) (end_at n Next ∷ []) in
    let b1 = ap (λ y. tally p (join y landing)) jumps.breaks in
    let b2 = ap (λ y. tally p (join y landing)) jumps.continues in
    let a1 = tally_append p (join ins n) (x.edges ++ join (x.next ++ x.returns) landing) in
    let a2 = tally_append p x.edges (join (x.next ++ x.returns) landing) in
    let a3 = tally_join p x.next x.returns landing in
    let o1 = out_append p (n + 1) landing inner (one_end_site w (Land t c.result b) None k.next ∷ []) (omega (arith, h.size_is chain w.scale (n + 1) landing)) in
    omega (arith, h.shuts p chain w.scale (n + 1) landing (end_at n Next ∷ []), b1, b2, a1, a2, a3, o1)

-- ---- lists, after the simple statements ss of the block at n

abbrev entered_by : List Stmt → ℕ → List End → List End
entered_by [] n ins = ins
entered_by (s ∷ ss) n ins = end_at n Next ∷ []

abbrev entered : (Edge → Bool) → List Stmt → List End → ℕ → ℕ → Targets → ℕ
entered p [] ins z n k = tally p (join ins (head z n k.next))
entered p (s ∷ ss) ins z n k = 0

abbrev pub RowShuts : (Edge → Bool) → Piece → Targets → List End → List Stmt → ℕ → ℕ → List Site → Type 0
RowShuts p a k ins ss z n g = shut p a k ≡ entered p ss ins z n k + out p n g

-- of one piece after the other
shut_both : (p : Edge → Bool) (a b : Piece) (k : Targets) (x : ℕ) → shut p (piece_pair a b) k + tally p (join a.next x) ≡ shut p a (with_next k x) + shut p b k
shut_both p a b k x =
    omega (arith, tally_append p a.edges b.edges, tally_join p a.breaks b.breaks k.breaks, tally_join p a.continues b.continues k.continues, tally_join p a.returns b.returns k.returns)

end_shuts : (p : Edge → Bool) (w : Position) (k : Targets) (ins : List End) (ss : List Stmt) (n : ℕ) (b : BlockName) → RowShuts p (through (entered_by ss n ins)) k ins ss 0 n (flush w ss b k.next)
end_shuts p w k ins [] n b = omega arith
end_shuts p w k ins (s ∷ ss) n b = omega arith

opened_is_simple : (cs : List Copy) (fs : List Opened) (st : Stmt) (run : Bool) (n : ℕ) (ins : List End) → is_simple st ≡ true → opened_stmt cs fs st run n ins ≡ opened_simple run n ins
unfolding opened_stmt
opened_is_simple cs fs Empty run n ins h = refl
opened_is_simple cs fs (Scalar l e) run n ins h = refl
opened_is_simple cs fs (Array l es) run n ins h = refl
opened_is_simple cs fs (Assign p op e) run n ins h = refl
opened_is_simple cs fs _ run n ins h = absurd (cc)

plain_opened : (cs : List Copy) (fs : List Opened) (st : Stmt) (run : Bool) (n : ℕ) (ins : List End) → is_simple st ≡ false → opened_stmt cs fs st run n ins ≡ opened_stmt cs fs st false n ins
unfolding opened_stmt
plain_opened cs fs Empty run n ins h = absurd (cc)
plain_opened cs fs (Scalar l e) run n ins h = absurd (cc)
plain_opened cs fs (Array l es) run n ins h = absurd (cc)
plain_opened cs fs (Assign p op e) run n ins h = absurd (cc)
plain_opened cs fs _ run n ins h = refl

-- a simple statement and what follows; `go` is that, and r how many nodes follow
simple_shuts : (p : Edge → Bool) (cs : List Copy) (fs : List Opened) (k : Targets) (ins : List End) (ss : List Stmt) (st : Stmt) (n z : ℕ) (g : List Site) (go : Bool → ℕ → List End → Piece) (r : Bool → ℕ) → is_simple st ≡ true → RowShuts p (go (is_run (ss ++ st ∷ [])) (number_past (ss ++ st ∷ []) n) (entered_by (ss ++ st ∷ []) n ins)) k ins (ss ++ st ∷ []) z n g → (let e = entered_by ss n ins in let first = opened_stmt cs fs st (is_run ss) (number_past ss n) e in RowShuts p (piece_pair first (go (is_simple st) (number_past ss n + site_count cs st (is_run ss)) first.next)) k ins ss (site_count cs st (is_run ss) + r (is_simple st)) n g)
simple_shuts p cs fs k ins [] st n z g go r is h =
    let first = sym (opened_is_simple cs fs st false n ins is) in
    let nn : n + 1 ≡ n + site_count cs st false = omega (arith, simple_size cs st false is) in
    let si = sym is in
    let zz : suc (r true) ≡ site_count cs st false + r (is_simple st) = omega (arith, simple_size cs st false is, ap r is) in
    let last : Piece = go true (n + 1) (end_at n Next ∷ []) in
    let whole : shut p (piece_pair (block_piece n ins) last) k ≡ tally p (join ins (head (suc (r true)) n k.next)) + out p n g = omega (arith, h, shut_both p (block_piece n ins) last k n) in
    subst (λ y. shut p (piece_pair (opened_stmt cs fs st false n ins) (go (is_simple st) (n + site_count cs st false) (opened_stmt cs fs st false n ins).next)) k ≡ tally p (join ins (head y n k.next)) + out p n g) zz ((λ i. shut p (piece_pair (sym first i) (go (sym si i) (sym nn i) (sym first i).next)) k) ∙ whole)
simple_shuts p cs fs k ins (x ∷ ss) st n z g go r is h =
    let e : List End = end_at n Next ∷ [] in
    let first = opened_is_simple cs fs st true (n + 1) e is in
    let nn : n + 1 + site_count cs st true ≡ n + 1 = omega (arith, simple_size cs st true is) in
    let last : Piece = go true (n + 1) e in
    let whole : shut p (piece_pair (through e) last) k ≡ 0 + out p n g = omega (arith, h, shut_both p (through e) last k n) in
    (λ i. shut p (piece_pair (first i) (go (is i) (nn i) (first i).next)) k) ∙ whole

-- another statement and what follows
plain_shuts : (p : Edge → Bool) (w : Position) (k : Targets) (ins : List End) (ss : List Stmt) (b : BlockName) (n z r : ℕ) (first second : Piece) (q1 q2 : List Site) → length q1 ≡ z → (let n1 = number_past ss n in let after = head r (n1 + z) k.next in let e = entered_by ss n ins in Shuts p first (with_next k after) e z n1 q1 → RowShuts p second k first.next [] r (n1 + z) q2 → RowShuts p (piece_pair first second) k ins ss (z + r) n (flush w ss b (head z n1 after) ++ (q1 ++ q2)))
plain_shuts p w k ins [] b n z r first second q1 q2 len h1 h2 =
    let after = head r (n + z) k.next in
    omega (arith, h1, h2, shut_both p first second k after, ap (λ y. tally p (join ins y)) (head_plus z r n k.next), out_append p n (n + z) q1 q2 (omega (arith, len)))
plain_shuts p w k ins (x ∷ ss) b n z r first second q1 q2 len h1 h2 =
    let n1 = n + 1 in
    let after = head r (n1 + z) k.next in
    omega (arith, h1, h2, shut_both p first second k after, out_append p n1 (n1 + z) q1 q2 (omega (arith, len)))

-- both, by whether the statement is simple
choose_shuts : (p : Edge → Bool) (a : Piece) (k : Targets) (ins : List End) (ss : List Stmt) (z n : ℕ) (g h : List Site) (b : Bool) → (b ≡ true → RowShuts p a k ins ss z n g) → (b ≡ false → RowShuts p a k ins ss z n h) → RowShuts p a k ins ss z n (if b then g else h)
choose_shuts p a k ins ss z n g h true x y = x refl
choose_shuts p a k ins ss z n g h false x y = y refl

-- ---- outside loops nothing is left by `break` and `continue`

no_jumps_both : (a b : Piece) → NoJumps a → NoJumps b → NoJumps (piece_pair a b)
no_jumps_both a b h k =
    record { breaks = (λ i. h.breaks i ++ b.breaks) ∙ k.breaks; continues = (λ i. h.continues i ++ b.continues) ∙ k.continues }

no_jumps_if : (n : ℕ) (ins : List End) (a b : Piece) → NoJumps a → NoJumps b → NoJumps (opened_if n ins a b)
no_jumps_if n ins a b h k =
    record { breaks = (λ i. h.breaks i ++ b.breaks) ∙ k.breaks; continues = (λ i. h.continues i ++ b.continues) ∙ k.continues }

no_jumps_simple : (run : Bool) (n : ℕ) (ins : List End) → NoJumps (opened_simple run n ins)
no_jumps_simple true n ins = record { breaks = refl; continues = refl }
no_jumps_simple false n ins = record { breaks = refl; continues = refl }

no_jumps_call : (o : Option Copy) (q : Option Opened) (n : ℕ) (ins : List End) → NoJumps (opened_call o q n ins)
no_jumps_call None None n ins = record { breaks = refl; continues = refl }
no_jumps_call None (Some f) n ins = record { breaks = refl; continues = refl }
no_jumps_call (Some c) None n ins = record { breaks = refl; continues = refl }
no_jumps_call (Some c) (Some f) n ins = record { breaks = refl; continues = refl }

module _ (cs : List Copy) (fs : List Opened) (c : Context) where
  mutual
    unfolding opened_stmt row_opened held_opened WellFormedStmt WellFormedRow WellFormedHeld WellFormedSole

    st_no_jumps : (st : Stmt) (run : Bool) (n : ℕ) (ins : List End) → WellFormedStmt c false st → NoJumps (opened_stmt cs fs st run n ins)
    st_no_jumps Empty run n ins h = no_jumps_simple run n ins
    st_no_jumps (Scalar l e) run n ins h = no_jumps_simple run n ins
    st_no_jumps (Array l es) run n ins h = no_jumps_simple run n ins
    st_no_jumps (Assign p op e) run n ins h = no_jumps_simple run n ins
    st_no_jumps (Call t g es) run n ins h = no_jumps_call (slice_get cs g) (slice_get fs g) n ins
    st_no_jumps Break run n ins h = absurd (false_never_holds h)
    st_no_jumps Continue run n ins h = absurd (false_never_holds h)
    st_no_jumps (Return e) run n ins h = record { breaks = refl; continues = refl }
    st_no_jumps (If' e a x b y) run n ins h = no_jumps_if n ins _ _ (row_no_jumps x false (n + 1) (end_at n True ∷ []) h.1.0) (row_no_jumps y false (n + 1 + row_size cs x false) (end_at n False ∷ []) h.1.1)
    st_no_jumps (While' k e a x) run n ins h = record { breaks = refl; continues = refl }
    st_no_jumps (Do' k a x e) run n ins h = record { breaks = refl; continues = refl }
    st_no_jumps (For' k i e j a x) run n ins h = record { breaks = refl; continues = refl }
    st_no_jumps (Group' a x) run n ins h = row_no_jumps x false n ins h

    pub row_no_jumps : {m : _} (x : Row_of-Stmt m) (run : Bool) (n : ℕ) (ins : List End) → WellFormedRow c false x → NoJumps (row_opened cs fs x run n ins)
    row_no_jumps end_of-Stmt run n ins h = record { breaks = refl; continues = refl }
    row_no_jumps (more_of-Stmt s rest) run n ins h = no_jumps_both _ _ (st_no_jumps s run n ins h.0) (row_no_jumps rest (is_simple s) (n + site_count cs s run) (opened_stmt cs fs s run n ins).next h.1)

    held_no_jumps : (sort : Stmt → Bool) (x : Held-Stmt-For-1) (n : ℕ) (ins : List End) → WellFormedHeld c sort x → NoJumps (held_opened cs fs x n ins)
    held_no_jumps sort None' n ins h = record { breaks = refl; continues = refl }
    held_no_jumps sort (Some' a x) n ins h = sole_no_jumps sort x n ins h

    sole_no_jumps : {m : _} (sort : Stmt → Bool) (x : Row_of-Stmt m) (n : ℕ) (ins : List End) → WellFormedSole c sort x → NoJumps (row_opened cs fs x false n ins)
    sole_no_jumps sort end_of-Stmt n ins h = absurd h
    sole_no_jumps sort (more_of-Stmt s rest) n ins h = no_jumps_both _ _ (st_no_jumps s false n ins h.1.0) (row_no_jumps rest (is_simple s) (n + site_count cs s false) (opened_stmt cs fs s false n ins).next h.1.1)

-- ---- statements

pub sole_row : {m : _} (c : Context) (sort : Stmt → Bool) (x : Row_of-Stmt m) → WellFormedSole c sort x → WellFormedRow c false x
unfolding WellFormedStmt WellFormedRow WellFormedHeld WellFormedSole
sole_row c sort end_of-Stmt h = absurd h
sole_row c sort (more_of-Stmt s rest) h = (h.1.0, h.1.1)

module _ (p : Edge → Bool) (cs : List Copy) (fs : List Opened) (c : Context) (sizes : HaveSizes cs) (paired : ArePaired cs fs) where
  mutual
    unfolding site_count row_size held_size flow row_flow held_flow opened_stmt row_opened held_opened WellFormedStmt WellFormedRow WellFormedHeld WellFormedSole

    pub st_shuts : (w : Position) (looped : Bool) (st : Stmt) (b n : ℕ) (k : Targets) (ins : List End) → is_simple st ≡ false → WellFormedStmt c looped st → Shuts p (opened_stmt cs fs st false n ins) k ins (site_count cs st false) n (flow cs w st b n k)
    st_shuts w looped Empty b n k ins is h = absurd (cc)
    st_shuts w looped (Scalar l e) b n k ins is h = absurd (cc)
    st_shuts w looped (Array l es) b n k ins is h = absurd (cc)
    st_shuts w looped (Assign y op e) b n k ins is h = absurd (cc)
    st_shuts w looped (Call t g es) b n k ins is h = shuts_call p w (slice_get cs g) (slice_get fs g) t es (block w.func b) n k ins (paired g)
    st_shuts w looped Break b n k ins is h = omega arith
    st_shuts w looped Continue b n k ins is h = omega arith
    st_shuts w looped (Return e) b n k ins is h = omega arith
    st_shuts w looped (If' e a x d y) b n k ins is h =
        let m = row_size cs x false in
        let e1 = end_at n True ∷ [] in
        let e2 = end_at n False ∷ [] in
        shuts_if p w e (block w.func b) n m (row_size cs y false) k ins (row_opened cs fs x false (n + 1) e1) (row_opened cs fs y false (n + 1 + m) e2) (row_flow cs w x (b + 1) (n + 1) [] k) (row_flow cs w y (b + 1 + row_blocks x false) (n + 1 + m) [] k) (row_length cs w x (b + 1) (n + 1) [] k sizes) (row_shuts w looped x (b + 1) (n + 1) [] k (end_at n True ∷ []) h.1.0) (row_shuts w looped y (b + 1 + row_blocks x false) (n + 1 + m) [] k (end_at n False ∷ []) h.1.1)
    st_shuts w looped (While' l e a x) b n k ins is h =
        let inside = times_as_often w l in
        shuts_while p w l e (block w.func b) n (row_size cs x false) k ins (row_opened cs fs x false (n + 1) (end_at n True ∷ [])) (row_flow cs inside x (b + 1) (n + 1) [] (body_of k n)) (row_shuts inside true x (b + 1) (n + 1) [] (body_of k n) (end_at n True ∷ []) h.1.1)
    st_shuts w looped (Do' l a x e) b n k ins is h =
        let inside = times_as_often w l in
        let m = row_size cs x false in
        shuts_do p w l e (block w.func (b + row_blocks x false)) n m k ins (row_opened cs fs x false n (ins ++ end_at (n + m) True ∷ [])) (row_flow cs inside x b n [] (body_of k (n + m))) (row_length cs inside x b n [] (body_of k (n + m)) sizes) (row_shuts inside true x b n [] (body_of k (n + m)) (ins ++ end_at (n + m) True ∷ []) h.1.0)
    st_shuts w looped (For' l i e j a x) b n k ins is h =
        let inside = times_as_often w l in
        let bc = b + held_blocks i in
        let d = n + held_size cs i in
        let r = held_size cs j in
        let bx = bc + 1 + held_blocks j in
        let again = head r (d + 1) d in
        let body : Piece = row_opened cs fs x false (d + 1 + r) (end_at d True ∷ []) in
        let back = body.next ++ body.continues in
        shuts_for p w l e (block w.func bc) n (held_size cs i) r (row_size cs x false) k ins (held_opened cs fs i n ins) (held_opened cs fs j (d + 1) back) body (held_flow cs w i b n (with_next k d)) (held_flow cs inside j (bc + 1) (d + 1) (with_next k d)) (row_flow cs inside x bx (d + 1 + r) [] (body_of k again)) (held_length cs w i b n (with_next k d) sizes) (held_length cs inside j (bc + 1) (d + 1) (with_next k d) sizes) (held_no_jumps cs fs c is_initialiser i n ins h.1.0) (held_no_jumps cs fs c is_step j (d + 1) back h.1.1.1.0) (held_shuts w is_initialiser i b n (with_next k d) ins h.1.0) (held_shuts inside is_step j (bc + 1) (d + 1) (with_next k d) back h.1.1.1.0) (row_shuts inside true x bx (d + 1 + r) [] (body_of k again) (end_at d True ∷ []) h.1.1.1.1)
    st_shuts w looped (Group' a x) b n k ins is h = row_shuts w looped x b n [] k ins h

    pub row_shuts : {m : _} (w : Position) (looped : Bool) (x : Row_of-Stmt m) (b n : ℕ) (ss : List Stmt) (k : Targets) (ins : List End) → WellFormedRow c looped x → RowShuts p (row_opened cs fs x (is_run ss) (number_past ss n) (entered_by ss n ins)) k ins ss (row_size cs x (is_run ss)) n (row_flow cs w x b n ss k)
    row_shuts w looped end_of-Stmt b n ss k ins h = end_shuts p w k ins ss n (block w.func b)
    row_shuts w looped (more_of-Stmt st rest) b n ss k ins h =
        let e = entered_by ss n ins in
        let n1 = number_past ss n in
        let z = site_count cs st false in
        let r = row_size cs rest false in
        let n2 = n1 + z in
        let after = head r n2 k.next in
        let kn = with_next k after in
        let go : Bool → ℕ → List End → Piece = λ run y es. row_opened cs fs rest run y es in
        let rs : Bool → ℕ = λ run. row_size cs rest run in
        let first : Piece = opened_stmt cs fs st false n1 e in
        let q1 = flow cs w st (number_past ss b) n1 kn in
        let q2 = row_flow cs w rest (number_past ss b + blocks st false) n2 [] k in
        let g1 = row_flow cs w rest b n (ss ++ st ∷ []) k in
        let g2 : List Site = flush w ss (block w.func b) (head z n1 after) ++ (q1 ++ q2) in
        let whole : Piece = row_opened cs fs (more_of-Stmt st rest) (is_run ss) n1 e in
        choose_shuts p whole k ins ss (site_count cs st (is_run ss) + rs (is_simple st)) n g1 g2 (is_simple st)
        (λ is. simple_shuts p cs fs k ins ss st n (row_size cs rest (is_run (ss ++ st ∷ []))) g1 go rs is (row_shuts w looped rest b n (ss ++ st ∷ []) k ins h.1))
        (λ is. let po = sym (plain_opened cs fs st (is_run ss) n1 e is) in let pz = sym (plain_size cs st (is_run ss) is) in let si = sym is in subst (λ y. y) (λ i. RowShuts p (piece_pair (po i) (go (si i) (n1 + pz i) (po i).next)) k ins ss (pz i + rs (si i)) n g2) (plain_shuts p w k ins ss (block w.func b) n z r first (go false n2 first.next) q1 q2 (flow_length cs w st (number_past ss b) n1 kn sizes is) (st_shuts w looped st (number_past ss b) n1 kn e is h.0) (row_shuts w looped rest (number_past ss b + blocks st false) n2 [] k first.next h.1)))

    pub held_shuts : (w : Position) (sort : Stmt → Bool) (x : Held-Stmt-For-1) (b n : ℕ) (k : Targets) (ins : List End) → WellFormedHeld c sort x → Shuts p (held_opened cs fs x n ins) k ins (held_size cs x) n (held_flow cs w x b n k)
    held_shuts w sort None' b n k ins h = omega arith
    held_shuts w sort (Some' a x) b n k ins h = row_shuts w false x b n [] k ins (sole_row c sort x h)
