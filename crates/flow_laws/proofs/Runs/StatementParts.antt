-- A choice, the turns of a loop and a block, over any claims of their parts.
use Rattle.std.proofs.Common.{◌≡◌, ℕ, zero, suc, ◌+◌, ◌-◌, ◌*◌, ◌<◌, ◌≤◌, inl, inr, Bool, true, false, if◌then◌else◌, List, [], ◌∷◌, ◌++◌, Option, Some, None, refl, sym, ap, ◌∙◌, subst, arith}
use Rattle.std.specs.Prelude.{slice_get, ◌&&◌, option_map}
use Rattle.std.proofs.lemmas.Bool.{eq-eqb}
use Rattle.c_tree.specs.declared.program.BlockName.{BlockName}
use Rattle.c_tree.specs.declared.tree.Expr.{Expr}
use Rattle.c_tree.specs.declared.tree.Stmt.{Stmt}
use Rattle.c_tree.specs.declared.value.Value.{Value}
use Rattle.c_tree.specs.declared.value.Slot.{Slot}
use Rattle.c_tree.specs.declared.value.Store.{Store}
use Rattle.c_tree.specs.declared.value.Way.TheVariants as way
use Rattle.c_tree.specs.Meaning.Values.{is_nonzero}
use Rattle.c_tree.specs.Meaning.Expressions.{val}
use Rattle.c_tree.specs.Meaning.Statements.{Outcome, Ends, OverBound, after, then_do, turn_do, with_value, while_turns, do_turns}
use Rattle.flow_laws.specs.declared.graph.Way.{Way as EdgeWay}
use Rattle.flow_laws.specs.declared.graph.Way.TheVariants.{Next, True, False}
use Rattle.flow_laws.specs.declared.graph.Edge.{Edge}
use Rattle.flow_laws.specs.Sites.{Position, LoopCopy, Simple, Site, Targets, Test, asks, body_of, flush, head, one_end_site, number_past, with_next}
use Rattle.flow_laws.specs.Graphs.{leaves}
use Rattle.flow_laws.specs.Driving.{Goes, Memory, store_after_all, by_test, goes_with, memory}
use Rattle.flow_laws.proofs.Driving.DrivingSteps.{Broken, Counters, State, Undefined_, at, hit, is_over, is_zero, limit, passed, turns}
use Rattle.flow_laws.proofs.Driving.DrivenLists.{passed_fresh, not_enters}
use Rattle.flow_laws.proofs.Runs.RunClaims.{HasAt, Leads, Halts, AllFresh, then_leads, turn_leads, step_leads, halts_here, status_stuck, status_broken, wider}

abbrev pub edge : ℕ → EdgeWay → ℕ → Edge
edge n t m = leaves n t (m)

-- after an edge from n all loops above n are fresh, and all loops below
pub fresh_above : (n lo hi t : ℕ) (turn : EdgeWay) (m : Memory) (left : Counters) → n < lo → AllFresh lo hi (at t m (passed (edge n turn t) left))
fresh_above n lo hi t turn m left lt l le ge here = passed_fresh l (edge n turn t) left here (inl (omega (arith, lt, le)))

pub fresh_below : (n lo hi t : ℕ) (turn : EdgeWay) (m : Memory) (left : Counters) → hi ≤ n → AllFresh lo hi (at t m (passed (edge n turn t) left))
fresh_below n lo hi t turn m left lt l le ge here = passed_fresh l (edge n turn t) left here (inr (omega (arith, lt, ge)))

-- a turn counts down
pub passed_turn : (l : LoopCopy) (e : Edge) (left : Counters) (t : ℕ) → l.from ≤ e.from → e.from < l.past → turns l e ≡ true → left l ≡ Some (suc t) → passed e left l ≡ Some t
passed_turn l e left t le lt turn full =
    ap (λ b. if b then Some (limit l) else (if turns l e then option_map (λ n. n - 1) (left l) else left l)) (not_enters l e le lt) ∙ ap (λ b. if b then option_map (λ n. n - 1) (left l) else left l) turn ∙ ap (option_map (λ n. n - 1)) full ∙ ap Some (minus_one t)
  where
    minus_one : (t : ℕ) → suc t - 1 ≡ t
    minus_one t = omega arith

-- nothing is done
pub here_leads : (g : List Site) (x d lo hi n : ℕ) (k : Targets) (s : Store) (fs : List (List Slot)) (left : Counters) → n ≡ k.next → Leads g x d lo hi k (at n (memory s fs None) left) fs (Ends [] s way.Next)
here_leads g x d lo hi n k s fs left e =
    record { path = []; left = left; driven = ap (λ y. at y (memory s fs None) left) e; within = tt; trace = refl; capped = omega arith }

-- ---- a condition

-- a node with a condition: what follows on either side
pub ask_leads : (w : Position) (g : List Site) (x c0 d lo hi n : ℕ) (k : Targets) (l : Option LoopCopy) (e : Expr) (b : BlockName) (t u : ℕ) (s : Store) (fs : List (List Slot)) (left : Counters) (go : Bool → Outcome) → hit x n + c0 ≤ d → lo ≤ n → n < hi → slice_get g n ≡ Some (asks w l e b t u) → ((v : Value) → val e s ≡ Some v → is_nonzero v ≡ true → Leads g x d lo hi k (at n (memory s fs None) left) fs (after (b ∷ []) (go true))) → Leads g x c0 lo hi k (at u (memory s fs None) (passed (edge n False u) left)) fs (go false) → Leads g x d lo hi k (at n (memory s fs None) left) fs (after (b ∷ []) (with_value (val e s) (λ v. go (is_nonzero v))))
ask_leads w g x c0 d lo hi n k l e b t u s fs left go sum le lt has yes_ no_ = by_value (val e s) refl
  where
    a : State
    a = at n (memory s fs None) left

    by_side : (v : Value) (c : Bool) → val e s ≡ Some v → is_nonzero v ≡ c → Leads g x d lo hi k (at n (memory s fs None) left) fs (after (b ∷ []) (go c))
    by_side v true ev ec = yes_ v ev ec
    by_side v false ev ec =
        step_leads g x c0 d lo hi k n (memory s fs None) (memory s fs None) left fs (asks w l e b t u) False (go false) sum le lt has (ap (by_test (memory s fs None)) ev ∙ ap (λ c. Goes (if c then True else False) (memory s fs None)) ec) (never l) no_
      where
        never : (l : Option LoopCopy) → is_over (Test l e) False left ≡ false
        never None = refl
        never (Some l) = refl

    by_value : (o : Option Value) → val e s ≡ o → Leads g x d lo hi k (at n (memory s fs None) left) fs (after (b ∷ []) (with_value o (λ v. go (is_nonzero v))))
    by_value None ev =
        halts_here g (at n (memory s fs None) left) Undefined_ (status_stuck g n (memory s fs None) left (asks w l e b t u) has (ap (by_test (memory s fs None)) ev))
    by_value (Some v) ev = by_side v (is_nonzero v) ev refl

-- the step over `True`
yes_leads : (w : Position) (g : List Site) (x c0 d lo hi n : ℕ) (k : Targets) (l : Option LoopCopy) (e : Expr) (b : BlockName) (t u : ℕ) (s : Store) (fs : List (List Slot)) (left : Counters) (o : Outcome) → hit x n + c0 ≤ d → lo ≤ n → n < hi → slice_get g n ≡ Some (asks w l e b t u) → (v : Value) → val e s ≡ Some v → is_nonzero v ≡ true → is_over (Test l e) True left ≡ false → Leads g x c0 lo hi k (at t (memory s fs None) (passed (edge n True t) left)) fs o → Leads g x d lo hi k (at n (memory s fs None) left) fs (after (b ∷ []) o)
yes_leads w g x c0 d lo hi n k l e b t u s fs left o sum le lt has v ev ec over r =
    step_leads g x c0 d lo hi k n (memory s fs None) (memory s fs None) left fs (asks w l e b t u) True o sum le lt has (ap (by_test (memory s fs None)) ev ∙ ap (λ c. Goes (if c then True else False) (memory s fs None)) ec) over r

pub if_leads : (w : Position) (g : List Site) (x dp dq n m r : ℕ) (k : Targets) (e : Expr) (b : BlockName) (s : Store) (fs : List (List Slot)) (left : Counters) (op oq : Outcome) → slice_get g n ≡ Some (asks w None e b (head m (n + 1) k.next) (head r (n + 1 + m) k.next)) → ((left : Counters) → AllFresh (n + 1) (n + 1 + m) (at (head m (n + 1) k.next) (memory s fs None) left) → Leads g x dp (n + 1) (n + 1 + m) k (at (head m (n + 1) k.next) (memory s fs None) left) fs op) → ((left : Counters) → AllFresh (n + 1 + m) (n + 1 + m + r) (at (head r (n + 1 + m) k.next) (memory s fs None) left) → Leads g x dq (n + 1 + m) (n + 1 + m + r) k (at (head r (n + 1 + m) k.next) (memory s fs None) left) fs oq) → Leads g x (hit x n + (dp + dq)) n (n + suc (m + r)) k (at n (memory s fs None) left) fs (after (b ∷ []) (with_value (val e s) (λ v. if is_nonzero v then op else oq)))
if_leads w g x dp dq n m r k e b s fs left op oq has p q =
    let hi = n + suc (m + r) in
    let d = hit x n + (dp + dq) in
    let t = head m (n + 1) k.next in
    let u = head r (n + 1 + m) k.next in
    let left_t = passed (edge n True t) left in
    let left_u = passed (edge n False u) left in
    ask_leads w g x dq d n hi n k None e b t u s fs left (λ c. if c then op else oq) (omega arith) (omega arith) (omega arith) has
    (λ v ev ec. yes_leads w g x dp d n hi n k None e b t u s fs left op (omega arith) (omega arith) (omega arith) has v ev ec refl (wider g x dp dp (n + 1) (n + 1 + m) n hi k (at t (memory s fs None) left_t) fs op (omega arith) (omega arith) (omega arith) (p left_t (fresh_above n (n + 1) (n + 1 + m) t True (memory s fs None) left (omega arith)))))
    (wider g x dq dq (n + 1 + m) (n + 1 + m + r) n hi k (at u (memory s fs None) left_u) fs oq (omega arith) (omega arith) (omega arith) (q left_u (fresh_above n (n + 1 + m) (n + 1 + m + r) u False (memory s fs None) left (omega arith))))

-- ---- loop_copies

-- the condition c, the step from c + 1 on, and the body from nx on below hi
module _ (w : Position) (g : List Site) (x db dj : ℕ) (k : Targets) (l : LoopCopy) (e : Expr) (b : BlockName) (c nx hi t again : ℕ) (fs : List (List Slot)) (body step : Store → Outcome) (lt : c < nx) (le : nx ≤ hi) (from_is : l.from ≡ c) (past_is : l.past ≡ hi) (turn_is : l.test ≡ c) (has : slice_get g c ≡ Some (asks w (Some l) e b t k.next)) (body_is : (s : Store) (left : Counters) → AllFresh nx hi (at t (memory s fs None) left) → Leads g x db nx hi (body_of k again) (at t (memory s fs None) left) fs (body s)) (step_is : (s : Store) (left : Counters) → AllFresh (c + 1) nx (at again (memory s fs None) left) → Leads g x dj (c + 1) nx (with_next k c) (at again (memory s fs None) left) fs (step s)) where
  pub while_leads : (n : ℕ) (s : Store) (left : Counters) → left l ≡ Some n → Leads g x (suc n * hit x c + n * (dj + db)) c hi k (at c (memory s fs None) left) fs (while_turns n b e body step s)
  while_leads zero s left full =
      ask_leads w g x 0 (suc 0 * hit x c + 0 * (dj + db)) c hi c k (Some l) e b t k.next s fs left (λ v. if v then OverBound else Ends [] s way.Next) (omega arith) (omega arith) (omega arith) has
      (λ v ev ec. halts_here g (at c (memory s fs None) left) Broken (status_broken g c (memory s fs None) (memory s fs None) left (asks w (Some l) e b t k.next) True has (ap (by_test (memory s fs None)) ev ∙ ap (λ y. Goes (if y then True else False) (memory s fs None)) ec) (ap is_zero full)))
      (here_leads g x 0 c hi k.next k s fs (passed (edge c False k.next) left) refl)
  while_leads (suc n) s left full =
      let rest = suc n * hit x c + n * (dj + db) in
      let all = suc (suc n) * hit x c + suc n * (dj + db) in
      let left1 = passed (edge c True t) left in
      let a1 : State = at t (memory s fs None) left1 in
      let fresh1 = fresh_above c (c + 1) hi t True (memory s fs None) left (omega arith) in
      let fresh_body : AllFresh nx hi a1 = λ y ge low. fresh1 y (omega (arith, ge)) low in
      let full1 : left1 l ≡ Some n = passed_turn l (edge c True t) left n (omega arith) (omega arith) (turned turn_is) full in
      ask_leads w g x 0 all c hi c k (Some l) e b t k.next s fs left (λ v. if v then turn_do (body s) (λ s'. then_do (step s') (while_turns n b e body step)) else Ends [] s way.Next) (omega arith) (omega arith) (omega arith) has
      (λ v ev ec. yes_leads w g x (db + (dj + rest)) all c hi c k (Some l) e b t k.next s fs left _ (omega arith) (omega arith) (omega arith) has v ev ec (ap is_zero full) (turn_leads g x db (dj + rest) (db + (dj + rest)) nx hi c hi again k a1 fs (body s) (λ s'. then_do (step s') (while_turns n b e body step)) (omega arith) (omega arith) (omega arith) (body_is s left1 fresh_body) (λ s2 left2 after2. then_leads g x dj rest (dj + rest) (c + 1) nx c hi c k (at again (memory s2 fs None) left2) fs (step s2) (while_turns n b e body step) (omega arith) (omega arith) (omega arith) (step_is s2 left2 (λ y ge low. after2.fresh y (inl (omega (arith, low))) (fresh1 y ge (omega (arith, low))))) (λ s3 left3 after3. while_leads n s3 left3 (after3.same l (omega arith) (omega arith) (inl (omega arith)) ∙ after2.same l (omega arith) (omega arith) (inl (omega arith)) ∙ full1)))))
      (here_leads g x 0 c hi k.next k s fs (passed (edge c False k.next) left) refl)
    where
      turned : l.test ≡ c → turns l (edge c True t) ≡ true
      turned is = ap (λ y. y && true) (eq-eqb c (l.test) (sym is))

pub head_self : (m n : ℕ) → head m n (n + m) ≡ n
head_self zero n = omega arith
head_self (suc m) n = refl

-- the body from n on below the condition c
module _ (w : Position) (g : List Site) (x db : ℕ) (k : Targets) (l : LoopCopy) (e : Expr) (b : BlockName) (n c : ℕ) (fs : List (List Slot)) (body : Store → Outcome) (le : n ≤ c) (from_is : l.from ≡ n) (past_is : l.past ≡ c + 1) (turn_is : l.test ≡ c) (has : slice_get g c ≡ Some (asks w (Some l) e b n k.next)) (body_is : (s : Store) (left : Counters) → AllFresh n c (at n (memory s fs None) left) → Leads g x db n c (body_of k c) (at n (memory s fs None) left) fs (body s)) where
  turned : turns l (edge c True n) ≡ true
  turned = ap (λ y. y && true) (eq-eqb c (l.test) (sym turn_is))

  -- the body and the condition, and what follows its `True`
  do_turn : (da d i : ℕ) (s : Store) (left : Counters) → hit x c ≤ da → db + da ≤ d → left l ≡ Some i → AllFresh n c (at n (memory s fs None) left) → ((s : Store) (left : Counters) (v : Value) → val e s ≡ Some v → is_nonzero v ≡ true → left l ≡ Some i → Leads g x da n (c + 1) k (at c (memory s fs None) left) fs (after (b ∷ []) (do_turns i b e body s))) → Leads g x d n (c + 1) k (at n (memory s fs None) left) fs (do_turns (suc i) b e body s)
  do_turn da d i s left enough sum full fresh again =
      turn_leads g x db da d n c n (c + 1) c k (at n (memory s fs None) left) fs (body s) (λ s'. after (b ∷ []) (with_value (val e s') (λ v. if is_nonzero v then do_turns i b e body s' else Ends [] s' way.Next))) sum (omega arith) (omega arith) (body_is s left fresh)
      (λ s2 left2 after2. ask_leads w g x 0 da n (c + 1) c k (Some l) e b n k.next s2 fs left2 (λ v. if v then do_turns i b e body s2 else Ends [] s2 way.Next) (omega arith) (omega arith) (omega arith) has
      (λ v ev ec. again s2 left2 v ev ec (after2.same l (omega arith) (omega arith) (inr (omega arith)) ∙ full))
      (here_leads g x 0 n (c + 1) k.next k s2 fs (passed (edge c False k.next) left2) refl))

  pub do_leads : (i : ℕ) (s : Store) (left : Counters) → left l ≡ Some i → AllFresh n c (at n (memory s fs None) left) → Leads g x (suc i * (db + hit x c)) n (c + 1) k (at n (memory s fs None) left) fs (do_turns (suc i) b e body s)
  do_leads zero s left full fresh =
      do_turn (hit x c) (suc 0 * (db + hit x c)) zero s left (omega arith) (omega arith) full fresh (λ s2 left2 v ev ec full2. halts_here g (at c (memory s2 fs None) left2) Broken (status_broken g c (memory s2 fs None) (memory s2 fs None) left2 (asks w (Some l) e b n k.next) True has (ap (by_test (memory s2 fs None)) ev ∙ ap (λ y. Goes (if y then True else False) (memory s2 fs None)) ec) (ap is_zero full2)))
  do_leads (suc i) s left full fresh =
      let rest = suc i * (db + hit x c) in
      do_turn (hit x c + rest) (suc (suc i) * (db + hit x c)) (suc i) s left (omega arith) (omega arith) full fresh (λ s2 left2 v ev ec full2. yes_leads w g x rest (hit x c + rest) n (c + 1) c k (Some l) e b n k.next s2 fs left2 (do_turns (suc i) b e body s2) (omega arith) (omega arith) (omega arith) has v ev ec (ap is_zero full2) (do_leads i s2 (passed (edge c True n) left2) (passed_turn l (edge c True n) left2 i (omega arith) (omega arith) turned full2) (fresh_below c n c n True (memory s2 fs None) left2 (omega arith))))

-- ---- a block of simple statements

-- where a block is, or what follows where there is none
abbrev pub pending_at : List Stmt → ℕ → ℕ → ℕ
pending_at [] n t = t
pending_at (s ∷ ss) n t = n

abbrev pub entering : List Stmt → BlockName → Outcome → Outcome
entering [] b o = o
entering (s ∷ ss) b o = after (b ∷ []) o

-- the visits of a pending block, and those that follow
abbrev pub pending_sum : List Stmt → ℕ → ℕ → ℕ
pending_sum [] h d = d
pending_sum (s ∷ ss) h d = h + d

pub pending_leads : (w : Position) (g : List Site) (x0 d lo hi n t : ℕ) (k : Targets) (ss : List Stmt) (b : BlockName) (s0 s : Store) (fs : List (List Slot)) (left : Counters) (o : Outcome) (rest : List Site) → lo ≤ n → number_past ss n ≤ hi → HasAt g n (flush w ss b t ++ rest) → store_after_all ss s0 ≡ Some s → AllFresh n hi (at (pending_at ss n t) (memory s0 fs None) left) → ((left : Counters) → AllFresh (number_past ss n) hi (at t (memory s fs None) left) → Leads g x0 d lo hi k (at t (memory s fs None) left) fs o) → Leads g x0 (pending_sum ss (hit x0 n) d) lo hi k (at (pending_at ss n t) (memory s0 fs None) left) fs (entering ss b o)
pending_leads w g x0 d lo hi n t k [] b s0 s fs left o rest le lt has all fresh next =
    let e : s ≡ s0 = cc in
    subst (λ x. Leads g x0 d lo hi k (at t (memory x fs None) left) fs o) e (next left fresh)
pending_leads w g x0 d lo hi n t k (x ∷ ss) b s0 s fs left o rest le lt has all fresh next =
    step_leads g x0 d (hit x0 n + d) lo hi k n (memory s0 fs None) (memory s fs None) left fs (one_end_site w (Simple (x ∷ ss)) (Some b) t) Next o (omega arith) le (omega (arith, lt)) has.0 (ap (λ r. goes_with (option_map (λ s'. memory s' fs None) r)) all) refl (next (passed (edge n Next t) left) (fresh_above n (n + 1) hi t Next (memory s fs None) left (omega arith)))

pub pending_halts : (w : Position) (g : List Site) (n t : ℕ) (x : Stmt) (ss : List Stmt) (b : BlockName) (s0 : Store) (fs : List (List Slot)) (left : Counters) (rest : List Site) → HasAt g n (flush w (x ∷ ss) b t ++ rest) → store_after_all (x ∷ ss) s0 ≡ None → Halts g (at n (memory s0 fs None) left) Undefined_
pending_halts w g n t x ss b s0 fs left rest has all =
    halts_here g (at n (memory s0 fs None) left) Undefined_ (status_stuck g n (memory s0 fs None) left (one_end_site w (Simple (x ∷ ss)) (Some b) t) has.0 (ap (λ r. goes_with (option_map (λ s'. memory s' fs None) r)) all))
