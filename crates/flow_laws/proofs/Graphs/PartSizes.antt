-- How many nodes a part has, and the layers that do not depend on what was passed.
use Rattle.std.proofs.Common.{◌≡◌, ℕ, zero, suc, ◌+◌, Bool, true, false, if◌then◌else◌, List, [], ◌∷◌, ◌++◌, length, Option, Some, None, refl, ap, ◌∙◌, arith, length-append, zero-add}
use Rattle.std.specs.Prelude.{slice_get}
use Rattle.c_tree.specs.declared.program.BlockName.{BlockName}
use Rattle.c_tree.specs.declared.tree.Expr.{Expr}
use Rattle.c_tree.specs.declared.tree.Target.{Target}
use Rattle.c_tree.specs.declared.tree.Stmt.{Stmt, Row_of-Stmt, end_of-Stmt, more_of-Stmt, Held-Stmt-For-1, None', Some'}
use Rattle.c_tree.specs.declared.tree.Stmt.TheVariants.{Empty, Scalar, Array, Assign, Call, Break, Continue, Return, If', While', Do', For', Group'}
use Rattle.c_tree.specs.declared.value.Store.{Store}
use Rattle.c_tree.specs.Meaning.Blocks.{is_simple, begun_blocks, blocks, row_blocks, held_blocks}
use Rattle.c_tree.specs.Meaning.Statements.{Callee, exec, after, entered_block, store_outcome, simple, block}
use Rattle.flow_laws.specs.Sites.{Position, times_as_often, Copy, Land, Site, Targets, asks, body_of, call_sites, call_size, do_sites, flow, flush, for_sites, head, held_flow, held_size, if_sites, loop_at, one_end_site, number_past, row_flow, row_size, site_count, while_sites, with_next}

abbrev pub is_run : List Stmt → Bool
is_run [] = false
is_run (s ∷ ss) = true

-- the nodes of a row after the simple statements that were passed
abbrev pub spanned : List Stmt → ℕ → ℕ
spanned [] m = m
spanned (s ∷ ss) m = suc m

pub simple_size : (cs : List Copy) (st : Stmt) (run : Bool) → is_simple st ≡ true → site_count cs st run ≡ begun_blocks run
unfolding site_count
simple_size cs Empty run h = refl
simple_size cs (Scalar l e) run h = refl
simple_size cs (Array l es) run h = refl
simple_size cs (Assign p op e) run h = refl
simple_size cs _ run h = absurd (cc)

pub simple_blocks : (st : Stmt) (run : Bool) → is_simple st ≡ true → blocks st run ≡ begun_blocks run
unfolding blocks
simple_blocks Empty run h = refl
simple_blocks (Scalar l e) run h = refl
simple_blocks (Array l es) run h = refl
simple_blocks (Assign p op e) run h = refl
simple_blocks _ run h = absurd (cc)

pub simple_exec : (cs : List Callee) (f : ℕ) (st : Stmt) (n : ℕ) (run : Bool) (s : Store) → is_simple st ≡ true → exec cs f st n run s ≡ after (entered_block f n run) (store_outcome (simple st s))
unfolding exec
simple_exec cs f Empty n run s h = refl
simple_exec cs f (Scalar l e) n run s h = refl
simple_exec cs f (Array l es) n run s h = refl
simple_exec cs f (Assign p op e) n run s h = refl
simple_exec cs f _ n run s h = absurd (cc)

pub plain_size : (cs : List Copy) (st : Stmt) (run : Bool) → is_simple st ≡ false → site_count cs st run ≡ site_count cs st false
unfolding site_count
plain_size cs Empty run h = absurd (cc)
plain_size cs (Scalar l e) run h = absurd (cc)
plain_size cs (Array l es) run h = absurd (cc)
plain_size cs (Assign p op e) run h = absurd (cc)
plain_size cs _ run h = refl

pub plain_blocks : (st : Stmt) (run : Bool) → is_simple st ≡ false → blocks st run ≡ blocks st false
unfolding blocks
plain_blocks Empty run h = absurd (cc)
plain_blocks (Scalar l e) run h = absurd (cc)
plain_blocks (Array l es) run h = absurd (cc)
plain_blocks (Assign p op e) run h = absurd (cc)
plain_blocks _ run h = refl

pub plain_exec : (cs : List Callee) (f : ℕ) (st : Stmt) (n : ℕ) (run : Bool) (s : Store) → is_simple st ≡ false → exec cs f st n run s ≡ exec cs f st n false s
unfolding exec
plain_exec cs f Empty n run s h = absurd (cc)
plain_exec cs f (Scalar l e) n run s h = absurd (cc)
plain_exec cs f (Array l es) n run s h = absurd (cc)
plain_exec cs f (Assign p op e) n run s h = absurd (cc)
plain_exec cs f _ n run s h = refl

pub head_plus : (p q n next : ℕ) → head (p + q) n next ≡ head p n (head q (n + p) next)
head_plus zero q n next = let z : n ≡ n + 0 = omega arith in ap (λ m. head m n next) (zero-add q) ∙ ap (λ m. head q m next) z
head_plus (suc p) q n next = let z : suc p + q ≡ suc (p + q) = omega arith in ap (λ m. head m n next) z

-- ---- lengths

abbrev pub HaveSizes : List Copy → Type 0
HaveSizes cs = (g : ℕ) (c : Copy) → slice_get cs g ≡ Some c → (h : List BlockName) (s n l : ℕ) → length (c.sites h s n l) ≡ c.size

flush_length : (w : Position) (ss : List Stmt) (b : BlockName) (t m : ℕ) (xs : List Site) → length xs ≡ m → length (flush w ss b t ++ xs) ≡ spanned ss m
flush_length w [] b t m xs e = e
flush_length w (s ∷ ss) b t m xs e = ap suc e

call_length : (w : Position) (o : Option Copy) (t : Target) (es : List Expr) (b : BlockName) (n next : ℕ) → ((c : Copy) → o ≡ Some c → (h : List BlockName) (s n l : ℕ) → length (c.sites h s n l) ≡ c.size) → length (call_sites w o t es b n next) ≡ call_size o
call_length w None t es b n next h = refl
call_length w (Some c) t es b n next h =
    omega (arith, length-append (c.sites (w.chain ++ b ∷ []) w.scale (n + 1) (n + 1 + c.size)) (one_end_site w (Land t c.result b) None next ∷ []), h c refl (w.chain ++ b ∷ []) w.scale (n + 1) (n + 1 + c.size))

pub passed_length : (ss : List Stmt) (st : Stmt) (r : Bool → ℕ) (len z : ℕ) → z ≡ begun_blocks (is_run ss) → len ≡ spanned (ss ++ st ∷ []) (r (is_run (ss ++ st ∷ []))) → len ≡ spanned ss (z + r true)
passed_length [] st r len z e h = let p : suc (r true) ≡ z + r true = omega (arith, e) in h ∙ p
passed_length (x ∷ xs) st r len z e h = let p : r true ≡ z + r true = omega (arith, e) in h ∙ ap suc p

row_choose : (w : Position) (cs : List Copy) (st : Stmt) (ss : List Stmt) (r : Bool → ℕ) (b : BlockName) (t : ℕ) (p q1 q2 : List Site) → length p ≡ spanned (ss ++ st ∷ []) (r (is_run (ss ++ st ∷ []))) → (is_simple st ≡ false → length q1 ≡ site_count cs st false) → length q2 ≡ r false → (c : Bool) → is_simple st ≡ c → length (if c then p else flush w ss b t ++ (q1 ++ q2)) ≡ spanned ss (site_count cs st (is_run ss) + r c)
row_choose w cs st ss r b t p q1 q2 hp h1 h2 true e =
    passed_length ss st r (length p) (site_count cs st (is_run ss)) (simple_size cs st (is_run ss) e) hp
row_choose w cs st ss r b t p q1 q2 hp h1 h2 false e =
    let z : length (q1 ++ q2) ≡ site_count cs st (is_run ss) + r false = omega (arith, length-append q1 q2, h1 e, h2, plain_size cs st (is_run ss) e) in
    flush_length w ss b t (site_count cs st (is_run ss) + r false) (q1 ++ q2) z

last_flush : (w : Position) (ss : List Stmt) (b : BlockName) (t : ℕ) → length (flush w ss b t) ≡ spanned ss 0
last_flush w [] b t = refl
last_flush w (s ∷ ss) b t = refl

while_length : (w : Position) (l : ℕ) (e : Expr) (b : BlockName) (n m next : ℕ) (p : List Site) → length p ≡ m → length (while_sites w l e b n m next p) ≡ suc m
while_length w l e b n m next p h = omega (arith, h)

if_length : (w : Position) (e : Expr) (b : BlockName) (n m r next : ℕ) (p q : List Site) → length p ≡ m → length q ≡ r → length (if_sites w e b n m r next p q) ≡ suc (m + r)
if_length w e b n m r next p q h k = omega (arith, h, k, length-append p q)

do_length : (w : Position) (l : ℕ) (e : Expr) (b : BlockName) (n m next : ℕ) (p : List Site) → length p ≡ m → length (do_sites w l e b n m next p) ≡ suc m
do_length w l e b n m next p h =
    omega (arith, h, length-append p (asks (times_as_often w l) (Some (loop_at n (n + m + 1) (n + m) l true)) e b n next ∷ []))

for_length : (w : Position) (l : ℕ) (e : Expr) (b : BlockName) (c r m next z : ℕ) (i p q : List Site) → length i ≡ z → length p ≡ r → length q ≡ m → length (i ++ for_sites w l e b c r m next p q) ≡ z + suc (r + m)
for_length w l e b c r m next z i p q d h k =
    omega (arith, d, h, k, length-append p q, length-append i (for_sites w l e b c r m next p q))

mutual
  unfolding site_count row_size held_size flow row_flow held_flow

  pub flow_length : (cs : List Copy) (w : Position) (st : Stmt) (b n : ℕ) (k : Targets) → HaveSizes cs → is_simple st ≡ false → length (flow cs w st b n k) ≡ site_count cs st false
  flow_length cs w Empty b n k g h = absurd (cc)
  flow_length cs w (Scalar l e) b n k g h = absurd (cc)
  flow_length cs w (Array l es) b n k g h = absurd (cc)
  flow_length cs w (Assign p op e) b n k g h = absurd (cc)
  flow_length cs w (Call t c es) b n k g h = call_length w (slice_get cs c) t es (block w.func b) n k.next (g c)
  flow_length cs w Break b n k g h = refl
  flow_length cs w Continue b n k g h = refl
  flow_length cs w (Return e) b n k g h = refl
  flow_length cs w (If' e a x c y) b n k g h =
      if_length w e (block w.func b) n (row_size cs x false) (row_size cs y false) k.next _ _ (row_length cs w x (b + 1) (n + 1) [] k g) (row_length cs w y (b + 1 + row_blocks x false) (n + 1 + row_size cs x false) [] k g)
  flow_length cs w (While' l e a x) b n k g h =
      while_length w l e (block w.func b) n (row_size cs x false) k.next _ (row_length cs (times_as_often w l) x (b + 1) (n + 1) [] (body_of k n) g)
  flow_length cs w (Do' l a x e) b n k g h =
      do_length w l e (block w.func (b + row_blocks x false)) n (row_size cs x false) k.next _ (row_length cs (times_as_often w l) x b n [] (body_of k (n + row_size cs x false)) g)
  flow_length cs w (For' l i e j a x) b n k g h =
      let c = n + held_size cs i in
      let bc = b + held_blocks i in
      let again = head (held_size cs j) (c + 1) c in
      for_length w l e (block w.func bc) c (held_size cs j) (row_size cs x false) k.next (held_size cs i) _ _ _ (held_length cs w i b n (with_next k c) g) (held_length cs (times_as_often w l) j (bc + 1) (c + 1) (with_next k c) g) (row_length cs (times_as_often w l) x (bc + 1 + held_blocks j) (c + 1 + held_size cs j) [] (body_of k again) g)
  flow_length cs w (Group' a x) b n k g h = row_length cs w x b n [] k g

  pub row_length : {m : _} (cs : List Copy) (w : Position) (x : Row_of-Stmt m) (b n : ℕ) (ss : List Stmt) (k : Targets) → HaveSizes cs → length (row_flow cs w x b n ss k) ≡ spanned ss (row_size cs x (is_run ss))
  row_length cs w end_of-Stmt b n ss k g = last_flush w ss (block w.func b) k.next
  row_length cs w (more_of-Stmt st rest) b n ss k g =
      let n1 = number_past ss n in
      let n2 = n1 + site_count cs st false in
      let next = head (row_size cs rest false) n2 k.next in
      row_choose w cs st ss (row_size cs rest) (block w.func b) (head (site_count cs st false) n1 next) _ _ _ (row_length cs w rest b n (ss ++ st ∷ []) k g) (flow_length cs w st (number_past ss b) n1 (with_next k next) g) (row_length cs w rest (number_past ss b + blocks st false) n2 [] k g) (is_simple st) refl

  pub held_length : (cs : List Copy) (w : Position) (x : Held-Stmt-For-1) (b n : ℕ) (k : Targets) → HaveSizes cs → length (held_flow cs w x b n k) ≡ held_size cs x
  held_length cs w None' b n k g = refl
  held_length cs w (Some' a x) b n k g = row_length cs w x b n [] k g
