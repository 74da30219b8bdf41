-- The caps of a part's nodes are what one run of it can visit, times the scale of its place.
use Rattle.std.proofs.Common.{◌≡◌, ℕ, suc, ◌+◌, ◌*◌, Bool, true, false, if◌then◌else◌, List, [], ◌∷◌, ◌++◌, length, Option, Some, None, refl, sym, ap, ◌∙◌, subst, arith}
use Rattle.std.specs.Prelude.{slice_get}
use Rattle.c_tree.specs.declared.tree.Expr.{Expr}
use Rattle.c_tree.specs.declared.tree.Target.{Target}
use Rattle.c_tree.specs.declared.program.BlockName.{BlockName}
use Rattle.c_tree.specs.declared.tree.Stmt.{Stmt, Row_of-Stmt, end_of-Stmt, more_of-Stmt, Held-Stmt-For-1, None', Some'}
use Rattle.c_tree.specs.declared.tree.Stmt.TheVariants.{Empty, Scalar, Array, Assign, Call, Break, Continue, Return, If', While', Do', For', Group'}
use Rattle.c_tree.specs.Meaning.Blocks.{is_simple, blocks, row_blocks, held_blocks}
use Rattle.c_tree.specs.Meaning.Statements.{block}
use Rattle.flow_laws.specs.Sites.{Land, Site, Position, Copy, Targets, times_as_often, one_end_site, head, with_next, body_of, number_past, flush, call_sites, asks, loop_at, if_sites, while_sites, do_sites, for_sites, site_count, row_size, held_size, flow, row_flow, held_flow}
use Rattle.flow_laws.proofs.Driving.DrivingSteps.{hit}
use Rattle.flow_laws.proofs.Caps.RunVisits.{Onces, call_once, once, row_once, held_once}
use Rattle.flow_laws.proofs.Graphs.PartSizes.{HaveSizes, is_run, flow_length, row_length, held_length, plain_size, simple_size}
use Rattle.flow_laws.proofs.Runs.StatementParts.{pending_sum}
use Rattle.flow_laws.proofs.Runs.StatementLists.{simple_once, plain_once}

-- the cap of the node x in a list of sites from n on
abbrev pub weigh : ℕ → ℕ → List Site → ℕ
weigh x n [] = 0
weigh x n (s ∷ g) = hit x n * s.node.cap + weigh x (n + 1) g

weigh_append : (x n m : ℕ) (a b : List Site) → n + length a ≡ m → weigh x n (a ++ b) ≡ weigh x n a + weigh x m b
weigh_append x n m [] b e = let p : n ≡ m = omega (arith, e) in ap (λ y. weigh x y b) p ∙ omega arith
weigh_append x n m (s ∷ a) b e = omega (arith, weigh_append x (n + 1) m a b (omega (arith, e)))

abbrev pub HaveWeights : List Copy → Onces → Type 0
HaveWeights cs os = (g : ℕ) (c : Copy) → slice_get cs g ≡ Some c → (h : List BlockName) (s n l x : ℕ) → weigh x n (c.sites h s n l) ≡ s * os g x n

-- ---- the parts

flush_weighs : (w : Position) (x n t : ℕ) (ss : List Stmt) (b : BlockName) (xs : List Site) (m : ℕ) → weigh x (number_past ss n) xs ≡ w.scale * m → weigh x n (flush w ss b t ++ xs) ≡ w.scale * pending_sum ss (hit x n) m
flush_weighs w x n t [] b xs m h = h
flush_weighs w x n t (s ∷ ss) b xs m h = omega (arith, h)

last_weighs : (w : Position) (x n t : ℕ) (ss : List Stmt) (b : BlockName) → weigh x n (flush w ss b t) ≡ w.scale * pending_sum ss (hit x n) 0
last_weighs w x n t [] b = omega arith
last_weighs w x n t (s ∷ ss) b = omega arith

call_weighs : (w : Position) (o : Option Copy) (f : ℕ → ℕ → ℕ) (t : Target) (es : List Expr) (b : BlockName) (n next x : ℕ) → ((c : Copy) → o ≡ Some c → (h : List BlockName) (s n l : ℕ) → length (c.sites h s n l) ≡ c.size) → ((c : Copy) → o ≡ Some c → (h : List BlockName) (s n l x : ℕ) → weigh x n (c.sites h s n l) ≡ s * f x n) → weigh x n (call_sites w o t es b n next) ≡ w.scale * call_once f o x n
call_weighs w None f t es b n next x sizes weights = omega arith
call_weighs w (Some c) f t es b n next x sizes weights =
    let landing = n + 1 + c.size in
    let chain = w.chain ++ b ∷ [] in
    let inner = c.sites chain w.scale (n + 1) landing in
    let split = weigh_append x (n + 1) landing inner (one_end_site w (Land t c.result b) None next ∷ []) (omega (arith, sizes c refl chain w.scale (n + 1) landing)) in
    omega (arith, split, weights c refl chain w.scale (n + 1) landing x)

if_weighs : (w : Position) (e : Expr) (b : BlockName) (n m r next x mp mq : ℕ) (p q : List Site) → length p ≡ m → weigh x (n + 1) p ≡ w.scale * mp → weigh x (n + 1 + m) q ≡ w.scale * mq → weigh x n (if_sites w e b n m r next p q) ≡ w.scale * (hit x n + (mp + mq))
if_weighs w e b n m r next x mp mq p q len hp hq =
    omega (arith, hp, hq, weigh_append x (n + 1) (n + 1 + m) p q (omega (arith, len)))

while_weighs : (w : Position) (k : ℕ) (e : Expr) (b : BlockName) (n m next x mp : ℕ) (p : List Site) → weigh x (n + 1) p ≡ w.scale * k * mp → weigh x n (while_sites w k e b n m next p) ≡ w.scale * (suc k * hit x n + k * mp)
while_weighs w k e b n m next x mp p hp = omega (arith, hp)

do_weighs : (w : Position) (k : ℕ) (e : Expr) (b : BlockName) (n m next x mp : ℕ) (p : List Site) → length p ≡ m → weigh x n p ≡ w.scale * k * mp → weigh x n (do_sites w k e b n m next p) ≡ w.scale * (k * (mp + hit x (n + m)))
do_weighs w k e b n m next x mp p len hp =
    omega (arith, hp, weigh_append x n (n + m) p (asks (times_as_often w k) (Some (loop_at n (n + m + 1) (n + m) k true)) e b n next ∷ []) (omega (arith, len)))

for_weighs : (w : Position) (k : ℕ) (e : Expr) (b : BlockName) (n z r m next x mi mj mp : ℕ) (i p q : List Site) → length i ≡ z → length p ≡ r → weigh x n i ≡ w.scale * mi → weigh x (n + z + 1) p ≡ w.scale * k * mj → weigh x (n + z + 1 + r) q ≡ w.scale * k * mp → weigh x n (i ++ for_sites w k e b (n + z) r m next p q) ≡ w.scale * (mi + (suc k * hit x (n + z) + k * (mj + mp)))
for_weighs w k e b n z r m next x mi mj mp i p q leni lenp hi hp hq =
    omega (arith, hi, hp, hq, weigh_append x n (n + z) i (for_sites w k e b (n + z) r m next p q) (omega (arith, leni)), weigh_append x (n + z + 1) (n + z + 1 + r) p q (omega (arith, lenp)))

-- ---- a list

-- a simple statement goes on with those that were passed
simple_sum : (os : Onces) (cs : List Copy) (x n : ℕ) (ss : List Stmt) (st : Stmt) (r : Bool → ℕ → ℕ) → is_simple st ≡ true → pending_sum (ss ++ st ∷ []) (hit x n) (r (is_run (ss ++ st ∷ [])) (number_past (ss ++ st ∷ []) n)) ≡ pending_sum ss (hit x n) (once os cs st (is_run ss) x (number_past ss n) + r (is_simple st) (number_past ss n + site_count cs st (is_run ss)))
simple_sum os cs x n [] st r is =
    let nn : n + 1 ≡ n + site_count cs st false = omega (arith, simple_size cs st false is) in
    let same : r true (n + 1) ≡ r (is_simple st) (n + site_count cs st false) = (λ i. r (sym is i) (nn i)) in
    omega (arith, same, simple_once os cs st false x n is)
simple_sum os cs x n (y ∷ ss) st r is =
    let nn : n + 1 ≡ n + 1 + site_count cs st true = omega (arith, simple_size cs st true is) in
    let same : r true (n + 1) ≡ r (is_simple st) (n + 1 + site_count cs st true) = (λ i. r (sym is i) (nn i)) in
    omega (arith, same, simple_once os cs st true x (n + 1) is)

plain_sum : (os : Onces) (cs : List Copy) (x n n1 : ℕ) (ss : List Stmt) (st : Stmt) (r : Bool → ℕ → ℕ) → is_simple st ≡ false → pending_sum ss (hit x n) (once os cs st false x n1 + r false (n1 + site_count cs st false)) ≡ pending_sum ss (hit x n) (once os cs st (is_run ss) x n1 + r (is_simple st) (n1 + site_count cs st (is_run ss)))
plain_sum os cs x n n1 ss st r is =
    let po = sym (plain_once os cs st (is_run ss) x n1 is) in
    let pz = sym (plain_size cs st (is_run ss) is) in
    let si = sym is in
    λ i. pending_sum ss (hit x n) (po i + r (si i) (n1 + pz i))

row_weighs_choose : (w : Position) (x n n1 n2 t d1 d2 d : ℕ) (ss : List Stmt) (b : BlockName) (p q1 q2 : List Site) (st : Stmt) → n1 ≡ number_past ss n → (is_simple st ≡ true → weigh x n p ≡ w.scale * d) → (is_simple st ≡ false → n1 + length q1 ≡ n2) → (is_simple st ≡ false → weigh x n1 q1 ≡ w.scale * d1) → weigh x n2 q2 ≡ w.scale * d2 → (is_simple st ≡ false → pending_sum ss (hit x n) (d1 + d2) ≡ d) → (c : Bool) → is_simple st ≡ c → weigh x n (if c then p else flush w ss b t ++ (q1 ++ q2)) ≡ w.scale * d
row_weighs_choose w x n n1 n2 t d1 d2 d ss b p q1 q2 st e hp len h1 h2 sum true is = hp is
row_weighs_choose w x n n1 n2 t d1 d2 d ss b p q1 q2 st e hp len h1 h2 sum false is =
    let both : weigh x n1 (q1 ++ q2) ≡ w.scale * (d1 + d2) = omega (arith, weigh_append x n1 n2 q1 q2 (len is), h1 is, h2) in
    flush_weighs w x n t ss b (q1 ++ q2) (d1 + d2) (subst (λ y. weigh x y (q1 ++ q2) ≡ w.scale * (d1 + d2)) e both) ∙ ap (λ y. w.scale * y) (sum is)

-- ---- statements

module _ (cs : List Copy) (os : Onces) (sizes : HaveSizes cs) (weights : HaveWeights cs os) (x0 : ℕ) where
  mutual
    unfolding site_count row_size held_size flow row_flow held_flow once row_once held_once

    pub st_weighs : (w : Position) (st : Stmt) (b n : ℕ) (k : Targets) → is_simple st ≡ false → weigh x0 n (flow cs w st b n k) ≡ w.scale * once os cs st false x0 n
    st_weighs w Empty b n k is = absurd (cc)
    st_weighs w (Scalar l e) b n k is = absurd (cc)
    st_weighs w (Array l es) b n k is = absurd (cc)
    st_weighs w (Assign p op e) b n k is = absurd (cc)
    st_weighs w (Call t c es) b n k is = call_weighs w (slice_get cs c) (os c) t es (block w.func b) n k.next x0 (sizes c) (weights c)
    st_weighs w Break b n k is = omega arith
    st_weighs w Continue b n k is = omega arith
    st_weighs w (Return e) b n k is = omega arith
    st_weighs w (If' e a x c y) b n k is =
        let m = row_size cs x false in
        if_weighs w e (block w.func b) n m (row_size cs y false) k.next x0 (row_once os cs x false x0 (n + 1)) (row_once os cs y false x0 (n + 1 + m)) _ _ (row_length cs w x (b + 1) (n + 1) [] k sizes) (row_weighs w x (b + 1) (n + 1) [] k) (row_weighs w y (b + 1 + row_blocks x false) (n + 1 + m) [] k)
    st_weighs w (While' l e a x) b n k is =
        let inside = times_as_often w l in
        while_weighs w l e (block w.func b) n (row_size cs x false) k.next x0 (row_once os cs x false x0 (n + 1)) _ (row_weighs inside x (b + 1) (n + 1) [] (body_of k n))
    st_weighs w (Do' l a x e) b n k is =
        let inside = times_as_often w l in
        let c = n + row_size cs x false in
        do_weighs w l e (block w.func (b + row_blocks x false)) n (row_size cs x false) k.next x0 (row_once os cs x false x0 n) _ (row_length cs inside x b n [] (body_of k c) sizes) (row_weighs inside x b n [] (body_of k c))
    st_weighs w (For' l i e j a x) b n k is =
        let inside = times_as_often w l in
        let bc = b + held_blocks i in
        let c = n + held_size cs i in
        let r = held_size cs j in
        let bx = bc + 1 + held_blocks j in
        let again = head r (c + 1) c in
        for_weighs w l e (block w.func bc) n (held_size cs i) r (row_size cs x false) k.next x0 (held_once os cs i x0 n) (held_once os cs j x0 (c + 1)) (row_once os cs x false x0 (c + 1 + r)) _ _ _ (held_length cs w i b n (with_next k c) sizes) (held_length cs inside j (bc + 1) (c + 1) (with_next k c) sizes) (held_weighs w i b n (with_next k c)) (held_weighs inside j (bc + 1) (c + 1) (with_next k c)) (row_weighs inside x bx (c + 1 + r) [] (body_of k again))
    st_weighs w (Group' a x) b n k is = row_weighs w x b n [] k

    pub row_weighs : {m : _} (w : Position) (x : Row_of-Stmt m) (b n : ℕ) (ss : List Stmt) (k : Targets) → weigh x0 n (row_flow cs w x b n ss k) ≡ w.scale * pending_sum ss (hit x0 n) (row_once os cs x (is_run ss) x0 (number_past ss n))
    row_weighs w end_of-Stmt b n ss k = last_weighs w x0 n k.next ss (block w.func b)
    row_weighs w (more_of-Stmt st rest) b n ss k =
        let n1 = number_past ss n in
        let n2 = n1 + site_count cs st false in
        let next = head (row_size cs rest false) n2 k.next in
        let kn = with_next k next in
        let r : Bool → ℕ → ℕ = λ run n. row_once os cs rest run x0 n in
        row_weighs_choose w x0 n n1 n2 (head (site_count cs st false) n1 next) (once os cs st false x0 n1) (row_once os cs rest false x0 n2) _ ss (block w.func b) _ (flow cs w st (number_past ss b) n1 kn) (row_flow cs w rest (number_past ss b + blocks st false) n2 [] k) st refl
        (λ is. row_weighs w rest b n (ss ++ st ∷ []) k ∙ ap (λ y. w.scale * y) (simple_sum os cs x0 n ss st r is))
        (λ is. ap (λ z. n1 + z) (flow_length cs w st (number_past ss b) n1 kn sizes is))
        (λ is. st_weighs w st (number_past ss b) n1 kn is)
        (row_weighs w rest (number_past ss b + blocks st false) n2 [] k)
        (λ is. plain_sum os cs x0 n n1 ss st r is)
        (is_simple st) refl

    pub held_weighs : (w : Position) (x : Held-Stmt-For-1) (b n : ℕ) (k : Targets) → weigh x0 n (held_flow cs w x b n k) ≡ w.scale * held_once os cs x x0 n
    held_weighs w None' b n k = omega arith
    held_weighs w (Some' a x) b n k = row_weighs w x b n [] k
