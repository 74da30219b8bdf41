-- How often walks that keep the bounds of loops, driven or not, leave a node: statement by statement, as for runs.
use Rattle.std.proofs.Common.{◌≡◌, inl, inr, ℕ, zero, suc, ◌+◌, ◌*◌, ◌-◌, ◌<◌, ◌≤◌, Bool, true, false, List, [], ◌∷◌, ◌++◌, length, Option, Some, None, refl, sym, ◌∙◌, subst, arith}
use Rattle.std.specs.Prelude.{slice_get}
use Rattle.c_tree.specs.declared.program.BlockName.{BlockName}
use Rattle.c_tree.specs.declared.program.Func.{Func}
use Rattle.c_tree.specs.declared.tree.Expr.{Expr}
use Rattle.c_tree.specs.declared.tree.Target.{Target}
use Rattle.c_tree.specs.declared.tree.Stmt.{Stmt, Row_of-Stmt, end_of-Stmt, more_of-Stmt, Held-Stmt-For-1, None', Some'}
use Rattle.c_tree.specs.declared.tree.Stmt.TheVariants.{Empty, Scalar, Array, Assign, Call, Break, Continue, Return, If', While', Do', For', Group'}
use Rattle.c_tree.specs.declared.tree.Stmt.TheBlock.{hidden-the_row-Stmt-0}
use Rattle.c_tree.specs.Meaning.Blocks.{is_simple, blocks, row_blocks, held_blocks}
use Rattle.c_tree.specs.Meaning.Statements.{block}
use Rattle.flow_laws.specs.Sites.{Content, Simple, Jump, Give, Enter, Missing, Land, LoopCopy, Site, Position, Copy, Targets, times_as_often, one_end_site, asks, loop_at, head, with_next, body_of, number_past, flush, call_size, call_sites, if_sites, while_sites, do_sites, for_sites, site_count, row_size, held_size, flow, row_flow, held_flow, list_size}
use Rattle.flow_laws.specs.Graphs.{all_to, copy_of, copies}
use Rattle.flow_laws.proofs.Driving.DrivingSteps.{State, hit}
use Rattle.flow_laws.proofs.Caps.RunVisits.{Onces, call_once, once, row_once, held_once, list_once}
use Rattle.flow_laws.proofs.Caps.DoBoundsPositive.{IsFair, AreFair, HeldFair, AllFair, FuncsFair}
use Rattle.flow_laws.proofs.Driving.DrivenLists.{After, after_step, after_after}
use Rattle.flow_laws.proofs.Runs.RunClaims.{AllFresh, HasAt, has_front, has_back}
use Rattle.flow_laws.proofs.Graphs.PartSizes.{is_run, spanned, HaveSizes, head_plus, simple_size, plain_size, flow_length, row_length, held_length}
use Rattle.flow_laws.proofs.Runs.StatementParts.{pending_sum, head_self}
use Rattle.flow_laws.proofs.Runs.StatementLists.{simple_once, plain_once}
use Rattle.flow_laws.proofs.Graphs.EndsLead.{simple_span}
use Rattle.flow_laws.proofs.Runs.CopiesSound.{row_fair, row_sizes, row_flows, row_onces, list_length, copy_once, once_at, all_once, onces}
use Rattle.flow_laws.proofs.Caps.KeptWalks.{IsBounded, bounded_more, one_bounded, ask_bounded, fresh_step, after_none, after_wider, Onward, onward_at, next_onward, turns_bounded, do_bounded}
use Rattle.plain_laws.proofs.Numbers.{successor_of_predecessor}
use Rattle.flow_laws.proofs.Runs.RunsDriven.{pick}

-- z nodes from n on with the ends k are left at most d times, before what follows
abbrev pub IsCapped : List Site → ℕ → ℕ → ℕ → ℕ → Targets → Type 0
IsCapped g x d n z k =
    (a : State) → a.node ≡ head z n k.next → AllFresh n (n + z) a → (more : ℕ) → Onward g x k n (n + z) a more → IsBounded g x a (d + more)

nothing_capped : (g : List Site) (x d n : ℕ) (k : Targets) → IsCapped g x d n 0 k
nothing_capped g x d n k a at fresh more h =
    bounded_more g x a more (d + more) (omega arith) (h.next a at (after_none n (n + 0) a))

-- a node with one end
one_capped : (g : List Site) (x lo hi n d : ℕ) (w : Position) (c : Content) (b : Option BlockName) (t : ℕ) (a : State) → lo ≤ n → n < hi → a.node ≡ n → slice_get g n ≡ Some (one_end_site w c b t) → ((m : State) → m.node ≡ t → After lo hi a m → IsBounded g x m d) → IsBounded g x a (hit x n + d)
one_capped g x lo hi n d w c b t a le lt at has next =
    one_bounded g x a n d w c b t at has (λ e m from node st. next m node (after_step lo hi a e m (omega (arith, from, le)) (omega (arith, from, lt)) st))

-- ---- calls

pub record CopyCapped (g : List Site) (c : Copy) (most : ℕ → ℕ → ℕ) : Type 0 where
  pub size_is : (h : List BlockName) (s n l : ℕ) → length (c.sites h s n l) ≡ c.size
  pub capped : (h : List BlockName) (s x n landing : ℕ) → HasAt g n (c.sites h s n landing) → IsCapped g x (most x n) n c.size (all_to landing)

call_capped : (g : List Site) (x n : ℕ) (most : ℕ → ℕ → ℕ) (w : Position) (k : Targets) (o : Option Copy) (t : Target) (es : List Expr) (b : BlockName) → ((c : Copy) → o ≡ Some c → CopyCapped g c most) → HasAt g n (call_sites w o t es b n k.next) → IsCapped g x (call_once most o x n) n (call_size o) k
call_capped g x n most w k None t es b copied has a at fresh more h =
    bounded_more g x a (hit x n + (hit x (n + 1) + more)) (hit x n + hit x (n + 1) + more) (omega arith) (one_capped g x n (n + 2) n (hit x (n + 1) + more) w Missing (Some b) (n + 1) a (omega arith) (omega arith) at has.0
    (λ m node af. one_capped g x n (n + 2) (n + 1) more w Missing None k.next m (omega arith) (omega arith) node has.1.0 (λ m2 node2 af2. h.next m2 node2 (after_after n (n + 2) a m m2 af af2))))
call_capped g x n most w k (Some c) t es b copied has a at fresh more h =
    bounded_more g x a (hit x n + (most x (n + 1) + (hit x landing + more))) (hit x n + (most x (n + 1) + hit x landing) + more) (omega arith) (one_bounded g x a n (most x (n + 1) + (hit x landing + more)) w (Enter t c.locals es) (Some b) (head c.size (n + 1) landing) at has.0
    (λ e m from node st. (copied c refl).capped chain w.scale x (n + 1) landing copy_at m node (fresh_step (n + 1) landing a e m st (inl (omega (arith, from)))) (hit x landing + more) (back m (after_step n hi a e m (omega (arith, from)) (omega (arith, from)) st))))
  where
    landing : ℕ
    landing = n + 1 + c.size

    hi : ℕ
    hi = n + suc (suc c.size)

    chain : List BlockName
    chain = w.chain ++ b ∷ []

    copy : List Site
    copy = c.sites chain w.scale (n + 1) landing

    land : Site
    land = one_end_site w (Land t c.result b) None k.next

    copy_at : HasAt g (n + 1) copy
    copy_at = has_front g (n + 1) copy (land ∷ []) has.1

    land_at : slice_get g landing ≡ Some land
    land_at =
        (has_back g (n + 1) landing copy (land ∷ []) (omega (arith, (copied c refl).size_is chain w.scale (n + 1) landing)) has.1).0

    at_landing : (m : State) → After n hi a m → (b2 : State) → b2.node ≡ landing → After (n + 1) (n + 1 + c.size) m b2 → IsBounded g x b2 (hit x landing + more)
    at_landing m af b2 node af2 =
        let on = after_after n hi a m b2 af (after_wider (n + 1) (n + 1 + c.size) n hi m b2 (omega arith) (omega arith) af2) in
        one_capped g x n hi landing more w (Land t c.result b) None k.next b2 (omega arith) (omega arith) node land_at (λ m3 node3 af3. h.next m3 node3 (after_after n hi a b2 m3 on af3))

    back : (m : State) → After n hi a m → Onward g x (all_to landing) (n + 1) (n + 1 + c.size) m (hit x landing + more)
    back m af = record { next = at_landing m af; breaks = at_landing m af; continues = at_landing m af; returns = at_landing m af }

-- ---- conditions and loops

if_capped : (g : List Site) (x dp dq n m r : ℕ) (w : Position) (k : Targets) (e : Expr) (b : BlockName) (p q : List Site) → length p ≡ m → HasAt g n (if_sites w e b n m r k.next p q) → (HasAt g (n + 1) p → IsCapped g x dp (n + 1) m k) → (HasAt g (n + 1 + m) q → IsCapped g x dq (n + 1 + m) r k) → IsCapped g x (hit x n + (dp + dq)) n (suc (m + r)) k
if_capped g x dp dq n m r w k e b p q len has cp cq a at fresh more h =
    let hi = n + suc (m + r) in
    let mid = n + 1 + m in
    bounded_more g x a (hit x n + (dp + dq + more)) (hit x n + (dp + dq) + more) (omega arith) (ask_bounded g x a n (dp + dq + more) w None e b (head m (n + 1) k.next) (head r (n + 1 + m) k.next) at has.0
    (λ f s way from node st over. bounded_more g x s (dp + more) (dp + dq + more) (omega arith) (cp (has_front g (n + 1) p q has.1) s node (fresh_step (n + 1) mid a f s st (inl (omega (arith, from)))) more (onward_at g x k (n + 1) mid n hi a s more more (omega arith) (omega arith) (omega arith) (after_step n hi a f s (omega (arith, from)) (omega (arith, from)) st) h)))
    (λ f s from node st. bounded_more g x s (dq + more) (dp + dq + more) (omega arith) (cq (has_back g (n + 1) mid p q (omega (arith, len)) has.1) s node (fresh_step mid (mid + r) a f s st (inl (omega (arith, from)))) more (onward_at g x k mid (mid + r) n hi a s more more (omega arith) (omega arith) (omega arith) (after_step n hi a f s (omega (arith, from)) (omega (arith, from)) st) h))))

while_capped : (g : List Site) (x db l n m : ℕ) (w : Position) (k : Targets) (e : Expr) (b : BlockName) (p : List Site) → HasAt g n (while_sites w l e b n m k.next p) → (HasAt g (n + 1) p → IsCapped g x db (n + 1) m (body_of k n)) → IsCapped g x (suc l * hit x n + l * db) n (suc m) k
while_capped g x db l n m w k e b p has cp a at fresh more h =
    let hi = n + 1 + m in
    let loop = loop_at n hi n l false in
    let h' : Onward g x k n hi a more = onward_at g x k n hi n (n + suc m) a a more more (omega arith) (omega arith) (omega arith) (after_none n (n + suc m) a) h in
    bounded_more g x a (suc l * hit x n + l * (0 + db) + more) (suc l * hit x n + l * db + more) (omega arith) (turns_bounded g x db 0 (times_as_often w (l + 1)) k loop e b n (n + 1) hi (head m (n + 1) n) n (omega arith) (omega arith) refl refl refl has.0 (cp has.1) (λ s node fr d on. bounded_more g x s d (0 + d) (omega arith) (on.next s node (after_none (n + 1) (n + 1) s))) l a a more h' (after_none n hi a) at (fresh loop (omega arith) (omega arith) (sym at)))

do_capped : (g : List Site) (x db l n m : ℕ) (w : Position) (k : Targets) (e : Expr) (b : BlockName) (p : List Site) → 1 ≤ l → length p ≡ m → HasAt g n (do_sites w l e b n m k.next p) → (HasAt g n p → IsCapped g x db n m (body_of k (n + m))) → IsCapped g x (l * (db + hit x (n + m))) n (suc m) k
do_capped g x db l n m w k e b p some len has cp a at fresh more h =
    let c = n + m in
    let loop = loop_at n (c + 1) c l true in
    let w' = times_as_often w l in
    let ask = asks w' (Some loop) e b n k.next in
    let here = has_back g n c p (ask ∷ []) (omega (arith, len)) has in
    let body = cp (has_front g n p (ask ∷ []) has) in
    let h' : Onward g x k n (c + 1) a more = onward_at g x k n (c + 1) n (n + suc m) a a more more (omega arith) (omega arith) (omega arith) (after_none n (n + suc m) a) h in
    let done = do_bounded g x db w' k loop e b n c (omega arith) refl refl refl here.0 (λ s node fr d on. body s (node ∙ sym (head_self m n)) fr d on) (l - 1) a a more h' (after_none n (c + 1) a) at (λ y ge low. fresh y ge (omega (arith, low))) (fresh loop (omega arith) (omega arith) (sym at)) in
    subst (λ y. IsBounded g x a (y * (db + hit x c) + more)) (successor_of_predecessor l some) done

for_capped : (g : List Site) (x di dj db l n z r m : ℕ) (w : Position) (k : Targets) (e : Expr) (b : BlockName) (i p q : List Site) → length i ≡ z → length p ≡ r → (let c = n + z in let again = head r (c + 1) c in HasAt g n (i ++ for_sites w l e b c r m k.next p q) → (HasAt g n i → IsCapped g x di n z (with_next k c)) → (HasAt g (c + 1) p → IsCapped g x dj (c + 1) r (with_next k c)) → (HasAt g (c + 1 + r) q → IsCapped g x db (c + 1 + r) m (body_of k again)) → IsCapped g x (di + (suc l * hit x c + l * (dj + db))) n (z + suc (r + m)) k)
for_capped g x di dj db l n z r m w k e b i p q leni lenp has ci cp cq a at fresh more h =
    bounded_more g x a (di + (dw + more)) (di + dw + more) (omega arith) (ci (has_front g n i (for_sites w l e b c r m k.next p q) has) a (at ∙ head_plus z (suc (r + m)) n k.next) (λ y ge low. fresh y ge (omega (arith, low))) (dw + more) (next_onward g x k c n c a (dw + more) (onward_at g x k n c n hi a a more (dw + more) (omega arith) (omega arith) (omega arith) (after_none n hi a) h) turning))
  where
    c : ℕ
    c = n + z

    dw : ℕ
    dw = suc l * hit x (n + z) + l * (dj + db)

    nx : ℕ
    nx = c + 1 + r

    hi : ℕ
    hi = n + (z + suc (r + m))

    again : ℕ
    again = head r (c + 1) c

    loop : LoopCopy
    loop = loop_at c (nx + m) c l false

    here : HasAt g c (for_sites w l e b c r m k.next p q)
    here = has_back g n c i (for_sites w l e b c r m k.next p q) (omega (arith, leni)) has

    turning : (s : State) → s.node ≡ c → After n c a s → IsBounded g x s (dw + more)
    turning s node af =
        let on = onward_at g x k c (nx + m) n hi a s more more (omega arith) (omega arith) (omega arith) (after_wider n c n hi a s (omega arith) (omega arith) af) h in
        turns_bounded g x db dj (times_as_often w (l + 1)) k loop e b c nx (nx + m) (head m nx again) again (omega arith) (omega arith) refl refl refl here.0 (cq (has_back g (c + 1) nx p q (omega (arith, lenp)) here.1)) (cp (has_front g (c + 1) p q here.1)) l s s more on (after_none c (nx + m) s) node (af.fresh loop (inr (omega arith)) (fresh loop (omega arith) (omega arith)) (sym node))

-- ---- lists

end_capped : (g : List Site) (x n : ℕ) (w : Position) (k : Targets) (ss : List Stmt) (b : BlockName) → HasAt g n (flush w ss b k.next) → IsCapped g x (pending_sum ss (hit x n) 0) n (spanned ss 0) k
end_capped g x n w k [] b has a at fresh more h = nothing_capped g x 0 n k a at fresh more h
end_capped g x n w k (s ∷ ss) b has a at fresh more h =
    bounded_more g x a (hit x n + more) (hit x n + 0 + more) (omega arith) (one_capped g x n (n + 1) n more w (Simple (s ∷ ss)) (Some b) k.next a (omega arith) (omega arith) at has.0 h.next)

capped_at : (g : List Site) (x d d' n z z' : ℕ) (k : Targets) → d ≡ d' → z ≡ z' → IsCapped g x d n z k → IsCapped g x d' n z' k
capped_at g x d d' n z z' k ed ez h = subst (λ y. IsCapped g x d' n y k) ez (subst (λ y. IsCapped g x y n z k) ed h)

-- what a simple statement adds to those that were passed
simple_sum : (os : Onces) (cs : List Copy) (st : Stmt) (x n : ℕ) (ss : List Stmt) (rd : Bool → ℕ → ℕ) → is_simple st ≡ true → pending_sum (ss ++ st ∷ []) (hit x n) (rd (is_run (ss ++ st ∷ [])) (number_past (ss ++ st ∷ []) n)) ≡ pending_sum ss (hit x n) (once os cs st (is_run ss) x (number_past ss n) + rd (is_simple st) (number_past ss n + site_count cs st (is_run ss)))
simple_sum os cs st x n [] rd is =
    let nn : n + 1 ≡ n + site_count cs st false = omega (arith, simple_size cs st false is) in
    let same : rd true (n + 1) ≡ rd (is_simple st) (n + site_count cs st false) = (λ i. rd (sym is i) (nn i)) in
    omega (arith, same, simple_once os cs st false x n is)
simple_sum os cs st x n (y ∷ ss) rd is =
    let nn : n + 1 ≡ n + 1 + site_count cs st true = omega (arith, simple_size cs st true is) in
    let same : rd true (n + 1) ≡ rd (is_simple st) (n + 1 + site_count cs st true) = (λ i. rd (sym is i) (nn i)) in
    omega (arith, same, simple_once os cs st true x (n + 1) is)

-- a statement and the rest
pair_capped : (g : List Site) (x dz dr n z r : ℕ) (k : Targets) (p q : List Site) → length p ≡ z → (let n2 = n + z in let next = head r n2 k.next in HasAt g n (p ++ q) → (HasAt g n p → IsCapped g x dz n z (with_next k next)) → (HasAt g n2 q → IsCapped g x dr n2 r k) → (lo hi : ℕ) → lo ≤ n → n2 + r ≤ hi → (a0 a : State) → a.node ≡ head z n next → AllFresh n (n2 + r) a → After lo hi a0 a → (more : ℕ) → Onward g x k lo hi a0 more → IsBounded g x a (dz + (dr + more)))
pair_capped g x dz dr n z r k p q len has cp cq lo hi le ge a0 a at fresh af more h =
    let n2 = n + z in
    let next = head r n2 k.next in
    cp (has_front g n p q has) a at (λ l low high. fresh l low (omega (arith, high))) (dr + more) (next_onward g x k next n n2 a (dr + more) (onward_at g x k n n2 lo hi a0 a more (dr + more) le (omega (arith, ge)) (omega arith) af h) (λ s node af2. cq (has_back g n n2 p q (omega (arith, len)) has) s node (λ l low high. af2.fresh l (inr low) (fresh l (omega (arith, low)) high)) more (onward_at g x k n2 (n2 + r) lo hi a0 s more more (omega (arith, le)) ge (omega arith) (after_after lo hi a0 a s af (after_wider n n2 lo hi a s le (omega (arith, ge)) af2)) h)))

-- a block, a statement and the rest
plain_capped : (g : List Site) (x dz dr n z r : ℕ) (w : Position) (k : Targets) (ss : List Stmt) (b : BlockName) (p q : List Site) → length p ≡ z → (let n1 = number_past ss n in let next = head r (n1 + z) k.next in HasAt g n (flush w ss b (head z n1 next) ++ (p ++ q)) → (HasAt g n1 p → IsCapped g x dz n1 z (with_next k next)) → (HasAt g (n1 + z) q → IsCapped g x dr (n1 + z) r k) → IsCapped g x (pending_sum ss (hit x n) (dz + dr)) n (spanned ss (z + r)) k)
plain_capped g x dz dr n z r w k [] b p q len has cp cq a at fresh more h =
    bounded_more g x a (dz + (dr + more)) (dz + dr + more) (omega arith) (pair_capped g x dz dr n z r k p q len has cp cq n (n + (z + r)) (omega arith) (omega arith) a a (at ∙ head_plus z r n k.next) (λ l low high. fresh l low (omega (arith, high))) (after_none n (n + (z + r)) a) more h)
plain_capped g x dz dr n z r w k (y ∷ ys) b p q len has cp cq a at fresh more h =
    let n1 = n + 1 in
    let hi = n + suc (z + r) in
    let t = head z n1 (head r (n1 + z) k.next) in
    bounded_more g x a (hit x n + (dz + (dr + more))) (hit x n + (dz + dr) + more) (omega arith) (one_bounded g x a n (dz + (dr + more)) w (Simple (y ∷ ys)) (Some b) t at has.0
    (λ e m from node st. pair_capped g x dz dr n1 z r k p q len has.1 cp cq n hi (omega arith) (omega arith) a m node (fresh_step n1 (n1 + z + r) a e m st (inl (omega (arith, from)))) (after_step n hi a e m (omega (arith, from)) (omega (arith, from)) st) more h))

module _ (g : List Site) (cs : List Copy) (os : Onces) (copied : (i : ℕ) (c : Copy) → slice_get cs i ≡ Some c → CopyCapped g c (os i)) (x : ℕ) where
  sizes : HaveSizes cs
  sizes i c e = (copied i c e).size_is

  mutual
    unfolding site_count row_size held_size flow row_flow held_flow IsFair AreFair HeldFair once row_once held_once

    pub st_capped : (w : Position) (st : Stmt) (b n : ℕ) (k : Targets) → is_simple st ≡ false → IsFair st → HasAt g n (flow cs w st b n k) → IsCapped g x (once os cs st false x n) n (site_count cs st false) k
    st_capped w Empty b n k is fair has = absurd (cc)
    st_capped w (Scalar l e) b n k is fair has = absurd (cc)
    st_capped w (Array l es) b n k is fair has = absurd (cc)
    st_capped w (Assign p op e) b n k is fair has = absurd (cc)
    st_capped w (Call t c es) b n k is fair has = call_capped g x n (os c) w k (slice_get cs c) t es (block w.func b) (copied c) has
    st_capped w Break b n k is fair has = λ a at fresh more h. one_capped g x n (n + 1) n more w Jump (Some (block w.func b)) k.breaks a (omega arith) (omega arith) at has.0 h.breaks
    st_capped w Continue b n k is fair has = λ a at fresh more h. one_capped g x n (n + 1) n more w Jump (Some (block w.func b)) k.continues a (omega arith) (omega arith) at has.0 h.continues
    st_capped w (Return e) b n k is fair has = λ a at fresh more h. one_capped g x n (n + 1) n more w (Give e) (Some (block w.func b)) k.returns a (omega arith) (omega arith) at has.0 h.returns
    st_capped w (If' e a y c z) b n k is fair has =
        let m = row_size cs y false in
        if_capped g x (row_once os cs y false x (n + 1)) (row_once os cs z false x (n + 1 + m)) n m (row_size cs z false) w k e (block w.func b) (row_flow cs w y (b + 1) (n + 1) [] k) (row_flow cs w z (b + 1 + row_blocks y false) (n + 1 + m) [] k) (row_length cs w y (b + 1) (n + 1) [] k sizes) has (λ h. row_capped w y (b + 1) (n + 1) [] k fair.0 h) (λ h. row_capped w z (b + 1 + row_blocks y false) (n + 1 + m) [] k fair.1 h)
    st_capped w (While' l e a y) b n k is fair has =
        let inside = times_as_often w l in
        while_capped g x (row_once os cs y false x (n + 1)) l n (row_size cs y false) w k e (block w.func b) (row_flow cs inside y (b + 1) (n + 1) [] (body_of k n)) has (λ h. row_capped inside y (b + 1) (n + 1) [] (body_of k n) fair h)
    st_capped w (Do' l a y e) b n k is fair has =
        let inside = times_as_often w l in
        let c = n + row_size cs y false in
        do_capped g x (row_once os cs y false x n) l n (row_size cs y false) w k e (block w.func (b + row_blocks y false)) (row_flow cs inside y b n [] (body_of k c)) fair.0 (row_length cs inside y b n [] (body_of k c) sizes) has (λ h. row_capped inside y b n [] (body_of k c) fair.1 h)
    st_capped w (For' l i e j a y) b n k is fair has =
        let inside = times_as_often w l in
        let bc = b + held_blocks i in
        let by = bc + 1 + held_blocks j in
        let c = n + held_size cs i in
        let r = held_size cs j in
        let again = head r (c + 1) c in
        for_capped g x (held_once os cs i x n) (held_once os cs j x (c + 1)) (row_once os cs y false x (c + 1 + r)) l n (held_size cs i) r (row_size cs y false) w k e (block w.func bc) (held_flow cs w i b n (with_next k c)) (held_flow cs inside j (bc + 1) (c + 1) (with_next k c)) (row_flow cs inside y by (c + 1 + r) [] (body_of k again)) (held_length cs w i b n (with_next k c) sizes) (held_length cs inside j (bc + 1) (c + 1) (with_next k c) sizes) has (λ h. held_capped w i b n (with_next k c) fair.0 h) (λ h. held_capped inside j (bc + 1) (c + 1) (with_next k c) fair.1.0 h) (λ h. row_capped inside y by (c + 1 + r) [] (body_of k again) fair.1.1 h)
    st_capped w (Group' a y) b n k is fair has = row_capped w y b n [] k fair has

    pub row_capped : {m : _} (w : Position) (y : Row_of-Stmt m) (b n : ℕ) (ss : List Stmt) (k : Targets) → AreFair y → HasAt g n (row_flow cs w y b n ss k) → IsCapped g x (pending_sum ss (hit x n) (row_once os cs y (is_run ss) x (number_past ss n))) n (spanned ss (row_size cs y (is_run ss))) k
    row_capped w end_of-Stmt b n ss k fair has = end_capped g x n w k ss (block w.func b) has
    row_capped w (more_of-Stmt st rest) b n ss k fair has =
        let n1 = number_past ss n in
        let b1 = number_past ss b in
        let z = site_count cs st false in
        let r = row_size cs rest false in
        let n2 = n1 + z in
        let next = head r n2 k.next in
        let dz = once os cs st false x n1 in
        let dr = row_once os cs rest false x n2 in
        let t = head z n1 next in
        let b2 = b1 + blocks st false in
        let p1 = flow cs w st b1 n1 (with_next k next) in
        let p2 = row_flow cs w rest b2 n2 [] k in
        pick g n (row_flow cs w rest b n (ss ++ st ∷ []) k) (flush w ss (block w.func b) t ++ (p1 ++ p2)) (is_simple st) (is_simple st) refl
        (λ is has1. capped_at g x _ (pending_sum ss (hit x n) (once os cs st (is_run ss) x n1 + row_once os cs rest (is_simple st) x (n1 + site_count cs st (is_run ss)))) n _ (spanned ss (site_count cs st (is_run ss) + row_size cs rest (is_simple st))) k (simple_sum os cs st x n ss (λ run. row_once os cs rest run x) is) (simple_span cs ss st (row_size cs rest) is) (row_capped w rest b n (ss ++ st ∷ []) k fair.1 has1))
        (λ is has1. let psc = sym (plain_once os cs st (is_run ss) x n1 is) in let pz = sym (plain_size cs st (is_run ss) is) in let si = sym is in let pd : pending_sum ss (hit x n) (dz + dr) ≡ pending_sum ss (hit x n) (once os cs st (is_run ss) x n1 + row_once os cs rest (is_simple st) x (n1 + site_count cs st (is_run ss))) = (λ i. pending_sum ss (hit x n) (psc i + row_once os cs rest (si i) x (n1 + pz i))) in capped_at g x (pending_sum ss (hit x n) (dz + dr)) (pending_sum ss (hit x n) (once os cs st (is_run ss) x n1 + row_once os cs rest (is_simple st) x (n1 + site_count cs st (is_run ss)))) n (spanned ss (z + r)) (spanned ss (site_count cs st (is_run ss) + row_size cs rest (is_simple st))) k pd (λ i. spanned ss (pz i + row_size cs rest (si i))) (plain_capped g x dz dr n z r w k ss (block w.func b) p1 p2 (flow_length cs w st b1 n1 (with_next k next) sizes is) has1 (λ h. st_capped w st b1 n1 (with_next k next) is fair.0 h) (λ h. row_capped w rest b2 n2 [] k fair.1 h)))
        has

    pub held_capped : (w : Position) (y : Held-Stmt-For-1) (b n : ℕ) (k : Targets) → HeldFair y → HasAt g n (held_flow cs w y b n k) → IsCapped g x (held_once os cs y x n) n (held_size cs y) k
    held_capped w None' b n k fair has = nothing_capped g x 0 n k
    held_capped w (Some' a y) b n k fair has = row_capped w y b n [] k fair has

-- ---- the copies

abbrev placed : ℕ → List BlockName → ℕ → Position
placed k chain scale = record { func = k; chain = chain; scale = scale }

abbrev AllCapped : List Site → List Copy → List (ℕ → ℕ → ℕ) → Type 0
AllCapped g [] [] = Unit {0}
AllCapped g (c ∷ cs) (m ∷ ms) = CopyCapped g c m × AllCapped g cs ms
AllCapped g _ _ = ⊥

all_at : (g : List Site) (cs : List Copy) (ms : List (ℕ → ℕ → ℕ)) → AllCapped g cs ms → (i : ℕ) (c : Copy) → slice_get cs i ≡ Some c → CopyCapped g c (once_at ms i)
all_at g [] [] h i c e = absurd (cc)
all_at g [] (m ∷ ms) h i c e = absurd h
all_at g (d ∷ cs) [] h i c e = absurd h
all_at g (d ∷ cs) (m ∷ ms) h zero c e = let p : d ≡ c = cc in subst (λ y. CopyCapped g y m) p h.0
all_at g (d ∷ cs) (m ∷ ms) h (suc i) c e = all_at g cs ms h.1 i c e

all_more : (g : List Site) (cs : List Copy) (ms : List (ℕ → ℕ → ℕ)) (c : Copy) (m : ℕ → ℕ → ℕ) → AllCapped g cs ms → CopyCapped g c m → AllCapped g (cs ++ c ∷ []) (ms ++ m ∷ [])
all_more g [] [] c m h is = (is, tt)
all_more g [] (o ∷ ms) c m h is = absurd h
all_more g (d ∷ cs) [] c m h is = absurd h
all_more g (d ∷ cs) (o ∷ ms) c m h is = (h.0, all_more g cs ms c m h.1 is)

copy_capped : (g : List Site) (k : ℕ) (f : Func) (cs : List Copy) (ms : List (ℕ → ℕ → ℕ)) → AllCapped g cs ms → AllFair f.body → CopyCapped g (copy_of k f cs) (copy_once (once_at ms) cs f)
copy_capped g k f cs ms all fair =
    let os = once_at ms in
    let copied = all_at g cs ms all in
    let sizes : HaveSizes cs = λ i c e. (copied i c e).size_is in
    record {
      size_is = λ chain s n l. list_length cs (placed k chain s) f.body n (all_to l) sizes;
      capped = λ chain s x n landing has. let w = placed k chain s in let r = hidden-the_row-Stmt-0 f.body in capped_at g x (row_once os cs r false x n) (list_once os cs f.body false x n) n (row_size cs r false) (list_size cs f.body false) (all_to landing) (row_onces os cs f.body false x n) (row_sizes cs f.body false) (row_capped g cs os copied x w r 0 n [] (all_to landing) (row_fair f.body fair) (subst (λ y. HasAt g n y) (sym (row_flows cs w f.body 0 n [] (all_to landing))) has));
    }

all_capped : (g : List Site) (funcs : List Func) (cs : List Copy) (ms : List (ℕ → ℕ → ℕ)) → AllCapped g cs ms → FuncsFair funcs → AllCapped g (copies cs funcs) (all_once ms cs funcs)
all_capped g [] cs ms h fair = h
all_capped g (f ∷ funcs) cs ms h fair =
    all_capped g funcs (cs ++ copy_of (length cs) f cs ∷ []) (ms ++ copy_once (once_at ms) cs f ∷ []) (all_more g cs ms (copy_of (length cs) f cs) (copy_once (once_at ms) cs f) h (copy_capped g (length cs) f cs ms h fair.0)) fair.1

pub copies_capped : (g : List Site) (funcs : List Func) → FuncsFair funcs → (i : ℕ) (c : Copy) → slice_get (copies [] funcs) i ≡ Some c → CopyCapped g c (onces funcs i)
copies_capped g funcs fair =
    all_at g (copies [] funcs) (all_once [] [] funcs) (all_capped g funcs [] [] tt fair)
