-- Walks over edges that keep the bounds of loops, driven or not, and how often they can leave a node.
use Rattle.std.proofs.Common.{◌≡◌, ◌≢◌, ◌⊎◌, inl, inr, ℕ, zero, suc, ◌+◌, ◌*◌, ◌<◌, ◌≤◌, true, false, List, [], ◌∷◌, Option, Some, refl, sym, ap, ◌∙◌, subst, arith}
use Rattle.std.specs.Prelude.{slice_get, ◌&&◌}
use Rattle.std.proofs.lemmas.Bool.{eq-eqb}
use Rattle.c_tree.specs.declared.program.BlockName.{BlockName}
use Rattle.c_tree.specs.declared.tree.Expr.{Expr}
use Rattle.flow_laws.specs.declared.graph.Way.{Way}
use Rattle.flow_laws.specs.declared.graph.Way.TheVariants.{Next, True, False}
use Rattle.flow_laws.specs.declared.graph.Edge.{Edge}
use Rattle.flow_laws.specs.Sites.{Content, Exit, Test, LoopCopy, Site, Position, Targets, one_end_site, asks, with_next, body_of}
use Rattle.flow_laws.specs.Graphs.{leaves}
use Rattle.flow_laws.proofs.Driving.DrivingSteps.{State, hit, visits, target, is_over, is_zero, is_true_end, turns}
use Rattle.flow_laws.proofs.Driving.DrivenLists.{IsStep, After, after_step, after_after, passed_fresh}
use Rattle.flow_laws.proofs.Runs.RunClaims.{AllFresh}
use Rattle.flow_laws.proofs.Runs.StatementParts.{passed_turn}

-- by which ways a node is left: Exit by none, and a condition not by what comes next
abbrev pub Fits : Content → Way → Type 0
Fits Exit w = ⊥
Fits (Test l e) w = w ≢ Next
Fits _ w = Unit {0}

-- the edge leaves the node, and the bounds allow it
pub record Takes (g : List Site) (a : State) (e : Edge) (m : State) : Type 0 where
  pub site : Site
  pub has : slice_get g a.node ≡ Some site
  pub edge_is : e ≡ leaves a.node e.way (target site e.way)
  pub fits : Fits site.content e.way
  pub under : is_over site.content e.way a.left ≡ false
  pub step : IsStep a e m

abbrev pub Roams : List Site → List Edge → State → State → Type 0
Roams g [] a b = a ≡ b
Roams g (e ∷ q) a b = (m : State) × Takes g a e m × Roams g q m b

-- whatever goes on from here leaves the node x at most d times
abbrev pub IsBounded : List Site → ℕ → State → ℕ → Type 0
IsBounded g x a d = (q : List Edge) (b : State) → Roams g q a b → visits x q ≤ d

pub bounded_more : (g : List Site) (x : ℕ) (a : State) (d d' : ℕ) → d ≤ d' → IsBounded g x a d → IsBounded g x a d'
bounded_more g x a d d' le h q b r = let under = h q b r in omega (arith, le, under)

step_bounded : (g : List Site) (x : ℕ) (a : State) (n d : ℕ) → a.node ≡ n → ((e : Edge) (m : State) → Takes g a e m → IsBounded g x m d) → IsBounded g x a (hit x n + d)
step_bounded g x a n d at next [] b r = omega arith
step_bounded g x a n d at next (e ∷ q) b r =
    let rest = next e r.0 r.1 q b r.2 in
    let from = ap (hit x) ((r.1).step.from_is ∙ at) in
    omega (arith, rest, from)

site_is : (g : List Site) (a : State) (e : Edge) (m : State) (n : ℕ) (s : Site) (t : Takes g a e m) → a.node ≡ n → slice_get g n ≡ Some s → t.site ≡ s
site_is g a e m n s t at has = some_same t.site s (sym t.has ∙ ap (slice_get g) at ∙ has)
  where
    some_same : (x y : Site) → Some x ≡ Some y → x ≡ y
    some_same x y p = cc

-- a node with one end
pub one_bounded : (g : List Site) (x : ℕ) (a : State) (n d : ℕ) (w : Position) (c : Content) (b : Option BlockName) (t : ℕ) → a.node ≡ n → slice_get g n ≡ Some (one_end_site w c b t) → ((e : Edge) (m : State) → e.from ≡ n → m.node ≡ t → IsStep a e m → IsBounded g x m d) → IsBounded g x a (hit x n + d)
one_bounded g x a n d w c b t at has next =
    step_bounded g x a n d at (λ e m take. next e m (take.step.from_is ∙ at) (take.step.to_is ∙ ap (λ y. y.to) take.edge_is ∙ ap (λ s. target s e.way) (site_is g a e m n (one_end_site w c b t) take at has) ∙ one_target e.way) take.step)
  where
    one_target : (v : Way) → target (one_end_site w c b t) v ≡ t
    one_target Next = refl
    one_target True = refl
    one_target False = refl

-- a condition
pub ask_bounded : (g : List Site) (x : ℕ) (a : State) (n d : ℕ) (w : Position) (l : Option LoopCopy) (c : Expr) (b : BlockName) (t u : ℕ) → a.node ≡ n → slice_get g n ≡ Some (asks w l c b t u) → ((e : Edge) (m : State) → e.way ≡ True → e.from ≡ n → m.node ≡ t → IsStep a e m → is_over (Test l c) True a.left ≡ false → IsBounded g x m d) → ((e : Edge) (m : State) → e.from ≡ n → m.node ≡ u → IsStep a e m → IsBounded g x m d) → IsBounded g x a (hit x n + d)
ask_bounded g x a n d w l c b t u at has yes_ no_ =
    step_bounded g x a n d at (λ e m take. let site = site_is g a e m n (asks w l c b t u) take at has in let to = take.step.to_is ∙ ap (λ y. y.to) take.edge_is ∙ ap (λ s. target s e.way) site in by_way e m take.step (take.step.from_is ∙ at) (e.way) refl to (subst (λ s. Fits s.content e.way) site take.fits) (ap (λ s. is_over s.content e.way a.left) (sym site) ∙ take.under))
  where
    by_way : (e : Edge) (m : State) → IsStep a e m → e.from ≡ n → (v : Way) → e.way ≡ v → m.node ≡ target (asks w l c b t u) v → v ≢ Next → is_over (Test l c) v a.left ≡ false → IsBounded g x m d
    by_way e m st from Next way to fits under = absurd (fits refl)
    by_way e m st from True way to fits under = yes_ e m way from to st under
    by_way e m st from False way to fits under = no_ e m from to st

-- ---- the counters

pub fresh_step : (lo hi : ℕ) (a : State) (e : Edge) (m : State) → IsStep a e m → (e.from < lo) ⊎ (hi ≤ e.from) → AllFresh lo hi m
fresh_step lo hi a e m st out l le ge here = (λ i. st.left_is i l) ∙ passed_fresh l e a.left (here ∙ st.to_is) (outside out)
  where
    outside : (e.from < lo) ⊎ (hi ≤ e.from) → (e.from < l.from) ⊎ (l.past ≤ e.from)
    outside (inl h) = inl (omega (arith, h, le))
    outside (inr h) = inr (omega (arith, h, ge))

pub after_none : (lo hi : ℕ) (a : State) → After lo hi a a
after_none lo hi a = record { fresh = λ l apart was. was; same = λ l le ge other. refl }

pub after_wider : (lo hi lo' hi' : ℕ) (a b : State) → lo' ≤ lo → hi ≤ hi' → After lo hi a b → After lo' hi' a b
after_wider lo hi lo' hi' a b le ge h = record {
  fresh = λ l apart was. h.fresh l (nearer l apart) was;
  same = λ l low high other. h.same l (omega (arith, low, le)) (omega (arith, high, ge)) (inner l other);
}
  where
    nearer : (l : LoopCopy) → (l.past ≤ lo') ⊎ (hi' ≤ l.from) → (l.past ≤ lo) ⊎ (hi ≤ l.from)
    nearer l (inl x) = inl (omega (arith, x, le))
    nearer l (inr x) = inr (omega (arith, x, ge))

    inner : (l : LoopCopy) → (l.test < lo') ⊎ (hi' ≤ l.test) → (l.test < lo) ⊎ (hi ≤ l.test)
    inner l (inl x) = inl (omega (arith, x, le))
    inner l (inr x) = inr (omega (arith, x, ge))

-- ---- what follows a part

-- whatever goes on from the ends k of a part from lo on below hi, which was entered at a, leaves x at most d times
pub record Onward (g : List Site) (x : ℕ) (k : Targets) (lo hi : ℕ) (a : State) (d : ℕ) : Type 0 where
  pub next : (b : State) → b.node ≡ k.next → After lo hi a b → IsBounded g x b d
  pub breaks : (b : State) → b.node ≡ k.breaks → After lo hi a b → IsBounded g x b d
  pub continues : (b : State) → b.node ≡ k.continues → After lo hi a b → IsBounded g x b d
  pub returns : (b : State) → b.node ≡ k.returns → After lo hi a b → IsBounded g x b d

-- the same within a part of it, entered later
pub onward_at : (g : List Site) (x : ℕ) (k : Targets) (lo hi lo' hi' : ℕ) (a b : State) (d d' : ℕ) → lo' ≤ lo → hi ≤ hi' → d ≤ d' → After lo' hi' a b → Onward g x k lo' hi' a d → Onward g x k lo hi b d'
onward_at g x k lo hi lo' hi' a b d d' le ge more af h = record {
  next = λ c at f. bounded_more g x c d d' more (h.next c at (on c f));
  breaks = λ c at f. bounded_more g x c d d' more (h.breaks c at (on c f));
  continues = λ c at f. bounded_more g x c d d' more (h.continues c at (on c f));
  returns = λ c at f. bounded_more g x c d d' more (h.returns c at (on c f));
}
  where
    on : (c : State) → After lo hi b c → After lo' hi' a c
    on c f = after_after lo' hi' a b c af (after_wider lo hi lo' hi' b c le ge f)

pub next_onward : (g : List Site) (x : ℕ) (k : Targets) (t lo hi : ℕ) (a : State) (d : ℕ) → Onward g x k lo hi a d → ((b : State) → b.node ≡ t → After lo hi a b → IsBounded g x b d) → Onward g x (with_next k t) lo hi a d
next_onward g x k t lo hi a d h n = record { next = n; breaks = h.breaks; continues = h.continues; returns = h.returns }

pub body_onward : (g : List Site) (x : ℕ) (k : Targets) (t lo hi : ℕ) (a : State) (d : ℕ) → Onward g x k lo hi a d → ((b : State) → b.node ≡ t → After lo hi a b → IsBounded g x b d) → Onward g x (body_of k t) lo hi a d
body_onward g x k t lo hi a d h n = record { next = n; breaks = h.next; continues = n; returns = h.returns }

-- ---- the turns of a loop

turned : (l : LoopCopy) (e : Edge) (n : ℕ) → l.test ≡ n → e.from ≡ n → e.way ≡ True → turns l e ≡ true
turned l e n test from way =
    ap (λ y. y && is_true_end e.way) (eq-eqb e.from l.test (from ∙ sym test)) ∙ ap is_true_end way

-- the step from c + 1 on, and the body from nx on below hi, behind the condition c
module _ (g : List Site) (x db dj : ℕ) (w : Position) (k : Targets) (l : LoopCopy) (e : Expr) (b : BlockName) (c nx hi t again : ℕ) (lt : c < nx) (le : nx ≤ hi) (from_is : l.from ≡ c) (past_is : l.past ≡ hi) (test_is : l.test ≡ c) (has : slice_get g c ≡ Some (asks w (Some l) e b t k.next)) (body_is : (a : State) → a.node ≡ t → AllFresh nx hi a → (d : ℕ) → Onward g x (body_of k again) nx hi a d → IsBounded g x a (db + d)) (step_is : (a : State) → a.node ≡ again → AllFresh (c + 1) nx a → (d : ℕ) → Onward g x (with_next k c) (c + 1) nx a d → IsBounded g x a (dj + d)) where
  pub turns_bounded : (i : ℕ) (a0 a : State) (d : ℕ) → Onward g x k c hi a0 d → After c hi a0 a → a.node ≡ c → a.left l ≡ Some i → IsBounded g x a (suc i * hit x c + i * (dj + db) + d)
  turns_bounded zero a0 a d h af at full =
      bounded_more g x a (hit x c + d) (suc 0 * hit x c + 0 * (dj + db) + d) (omega arith) (ask_bounded g x a c d w (Some l) e b t k.next at has
      (λ f m way from node st over. let bad : true ≡ false = sym (ap is_zero full) ∙ over in absurd (cc))
      (λ f m from node st. h.next m node (after_after c hi a0 a m af (after_step c hi a f m (omega (arith, from)) (omega (arith, from, lt, le)) st))))
  turns_bounded (suc i) a0 a d h af at full =
      let rest = suc i * hit x c + i * (dj + db) + d in
      let more = db + (dj + rest) in
      bounded_more g x a (hit x c + more) (suc (suc i) * hit x c + suc i * (dj + db) + d) (omega arith) (ask_bounded g x a c more w (Some l) e b t k.next at has
      (λ f m way from node st over. let on = after_after c hi a0 a m af (after_step c hi a f m (omega (arith, from)) (omega (arith, from, lt, le)) st) in let full1 : m.left l ≡ Some i = (λ j. st.left_is j l) ∙ passed_turn l f a.left i (omega (arith, from, from_is)) (omega (arith, from, past_is, lt, le)) (turned l f c test_is from way) full in let fresh1 : AllFresh (c + 1) hi m = fresh_step (c + 1) hi a f m st (inl (omega (arith, from))) in body_is m node (λ y ge low. fresh1 y (omega (arith, ge, lt)) low) (dj + rest) (body_onward g x k again nx hi m (dj + rest) (onward_at g x k nx hi c hi a0 m d (dj + rest) (omega (arith, lt)) (omega arith) (omega arith) on h) (λ m2 node2 af2. step_is m2 node2 (λ y ge low. af2.fresh y (inl low) (fresh1 y ge (omega (arith, low, le)))) rest (let on2 = after_after c hi a0 m m2 on (after_wider nx hi c hi m m2 (omega (arith, lt)) (omega arith) af2) in next_onward g x k c (c + 1) nx m2 rest (onward_at g x k (c + 1) nx c hi a0 m2 d rest (omega arith) le (omega arith) on2 h) (λ m3 node3 af3. turns_bounded i a0 m3 d h (after_after c hi a0 m2 m3 on2 (after_wider (c + 1) nx c hi m2 m3 (omega arith) le af3)) node3 (af3.same l (omega (arith, from_is)) (omega (arith, past_is, le)) (inl (omega (arith, test_is))) ∙ af2.same l (omega (arith, from_is, lt)) (omega (arith, past_is)) (inl (omega (arith, test_is, lt))) ∙ full1))))))
      (λ f m from node st. bounded_more g x m d more (omega arith) (h.next m node (after_after c hi a0 a m af (after_step c hi a f m (omega (arith, from)) (omega (arith, from, lt, le)) st)))))

-- the body from n on below the condition c
module _ (g : List Site) (x db : ℕ) (w : Position) (k : Targets) (l : LoopCopy) (e : Expr) (b : BlockName) (n c : ℕ) (le : n ≤ c) (from_is : l.from ≡ n) (past_is : l.past ≡ c + 1) (test_is : l.test ≡ c) (has : slice_get g c ≡ Some (asks w (Some l) e b n k.next)) (body_is : (a : State) → a.node ≡ n → AllFresh n c a → (d : ℕ) → Onward g x (body_of k c) n c a d → IsBounded g x a (db + d)) where
  -- the body and the condition, and what follows its `True`
  do_turn : (i more : ℕ) (a0 a : State) (d : ℕ) → Onward g x k n (c + 1) a0 d → After n (c + 1) a0 a → a.node ≡ n → AllFresh n c a → a.left l ≡ Some i → ((m2 m : State) (f : Edge) → f.from ≡ c → f.way ≡ True → m2.left l ≡ Some i → IsStep m2 f m → m.node ≡ n → After n (c + 1) a0 m → is_zero (m2.left l) ≡ false → IsBounded g x m (more + d)) → IsBounded g x a (db + (hit x c + (more + d)))
  do_turn i more a0 a d h af at fresh full again =
      let all = hit x c + (more + d) in
      body_is a at fresh all (body_onward g x k c n c a all (onward_at g x k n c n (c + 1) a0 a d all (omega arith) (omega arith) (omega arith) af h) (λ m2 node2 af2. let on2 = after_after n (c + 1) a0 a m2 af (after_wider n c n (c + 1) a m2 (omega arith) (omega arith) af2) in let full2 = af2.same l (omega (arith, from_is)) (omega (arith, past_is)) (inr (omega (arith, test_is))) ∙ full in ask_bounded g x m2 c (more + d) w (Some l) e b n k.next node2 has
      (λ f m way from node st over. again m2 m f from way full2 st node (after_after n (c + 1) a0 m2 m on2 (after_step n (c + 1) m2 f m (omega (arith, from, le)) (omega (arith, from)) st)) over)
      (λ f m from node st. bounded_more g x m d (more + d) (omega arith) (h.next m node (after_after n (c + 1) a0 m2 m on2 (after_step n (c + 1) m2 f m (omega (arith, from, le)) (omega (arith, from)) st))))))

  pub do_bounded : (i : ℕ) (a0 a : State) (d : ℕ) → Onward g x k n (c + 1) a0 d → After n (c + 1) a0 a → a.node ≡ n → AllFresh n c a → a.left l ≡ Some i → IsBounded g x a (suc i * (db + hit x c) + d)
  do_bounded zero a0 a d h af at fresh full =
      bounded_more g x a (db + (hit x c + (0 + d))) (suc 0 * (db + hit x c) + d) (omega arith) (do_turn zero 0 a0 a d h af at fresh full (λ m2 m f from way full2 st node on over. let bad : true ≡ false = sym (ap is_zero full2) ∙ over in absurd (cc)))
  do_bounded (suc i) a0 a d h af at fresh full =
      let more = suc i * (db + hit x c) in
      bounded_more g x a (db + (hit x c + (more + d))) (suc (suc i) * (db + hit x c) + d) (omega arith) (do_turn (suc i) more a0 a d h af at fresh full (λ m2 m f from way full2 st node on over. do_bounded i a0 m d h on node (fresh_step n c m2 f m st (inr (omega (arith, from)))) ((λ j. st.left_is j l) ∙ passed_turn l f m2.left i (omega (arith, from, from_is, le)) (omega (arith, from, past_is)) (turned l f c test_is from way) full2)))
