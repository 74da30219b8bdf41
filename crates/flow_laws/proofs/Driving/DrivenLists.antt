-- Driven lists: one edge, one after the other, what they do to the counters, and that there is only one.
use Rattle.std.proofs.Common.{◌≡◌, ◌≢◌, ℕ, ◌-◌, ◌<◌, ◌≤◌, ◌⊎◌, inl, inr, Bool, true, false, if◌then◌else◌, List, [], ◌∷◌, ◌++◌, Option, Some, None, refl, sym, ap, ◌∙◌, subst, arith, append_assoc}
use Rattle.std.specs.Prelude.{slice_get, ◌&&◌, ◌==◌, not, option_map}
use Rattle.std.proofs.lemmas.Bool.Decides.{nat_tests}
use Rattle.std.proofs.lemmas.Bool.{ne_eqb}
use Rattle.flow_laws.specs.declared.graph.Edge.{Edge}
use Rattle.flow_laws.specs.Sites.{LoopCopy, Site}
use Rattle.flow_laws.specs.Graphs.{enters, is_in, leaves}
use Rattle.flow_laws.specs.Driving.{Goes, Move, Stays, Stuck, content_move}
use Rattle.flow_laws.proofs.Driving.DrivingSteps.{Arrived, Broken, Counters, Driven, Going, Nowhere, State, Status, Undefined_, at, blocks_at, is_over, is_true_end, limit, moved, passed, status, status_at, target, trace_of, turns}

-- what an edge makes of a state
pub record IsStep (a : State) (e : Edge) (m : State) : Type 0 where
  pub from_is : e.from ≡ a.node
  pub to_is : m.node ≡ e.to
  pub left_is : m.left ≡ passed e a.left

same_step : (a : State) (e0 e : Edge) (m0 m : State) → IsStep a e0 m0 → Going e0 m0 ≡ Going e m → IsStep a e m
same_step a e0 e m0 m h p =
    let pe : e0 ≡ e = cc in
    let pm : m0 ≡ m = cc in
    subst (λ x. IsStep a x m) pe (subst (λ x. IsStep a e0 x) pm h)

choose_step : (a : State) (b : Bool) (e0 e : Edge) (m0 m : State) → IsStep a e0 m0 → (if b then Broken else Going e0 m0) ≡ Going e m → IsStep a e m
choose_step a true e0 e m0 m h p = absurd (cc)
choose_step a false e0 e m0 m h p = same_step a e0 e m0 m h p

moved_step : (nd : Site) (a : State) (mv : Move) (e : Edge) (m : State) → moved nd a mv ≡ Going e m → IsStep a e m
moved_step nd a Stuck e m p = absurd (cc)
moved_step nd a Stays e m p = absurd (cc)
moved_step nd a (Goes t mem) e m p =
    let e0 : Edge = leaves a.node t (target nd t) in
    choose_step a (is_over nd.content t a.left) e0 e (at e0.to mem (passed e0 a.left)) m (record { from_is = refl; to_is = refl; left_is = refl }) p

at_step : (o : Option Site) (a : State) (e : Edge) (m : State) → status_at o a ≡ Going e m → IsStep a e m
at_step None a e m p = absurd (cc)
at_step (Some nd) a e m p = moved_step nd a (content_move nd.content a.memory) e m p

pub is_step : (g : List Site) (a : State) (e : Edge) (m : State) → status g a ≡ Going e m → IsStep a e m
unfolding status
is_step g a e m p = at_step (slice_get g a.node) a e m p

-- ---- one after the other

pub driven_append : (g : List Site) (p q : List Edge) (a b c : State) → Driven g p a b → Driven g q b c → Driven g (p ++ q) a c
driven_append g [] q a b c h k = subst (λ x. Driven g q x c) (sym h) k
driven_append g (e ∷ p) q a b c h k = (h.0, h.1, driven_append g p q h.0 b c h.2 k)

pub trace_append : (g : List Site) (p q : List Edge) → trace_of g (p ++ q) ≡ trace_of g p ++ trace_of g q
trace_append g [] q = refl
trace_append g (e ∷ p) q = ap (λ t. blocks_at (slice_get g e.from) ++ t) (trace_append g p q) ∙ sym (append_assoc (blocks_at (slice_get g e.from)) (trace_of g p) (trace_of g q))

-- the sources lie from lo on below hi
abbrev pub Within : ℕ → ℕ → List Edge → Type 0
Within lo hi [] = Unit {0}
Within lo hi (e ∷ q) = (lo ≤ e.from) × (e.from < hi) × Within lo hi q

pub within_append : (lo hi : ℕ) (p q : List Edge) → Within lo hi p → Within lo hi q → Within lo hi (p ++ q)
within_append lo hi [] q h k = k
within_append lo hi (e ∷ p) q h k = (h.0, h.1, within_append lo hi p q h.2 k)

pub within_wider : (lo hi lo' hi' : ℕ) (q : List Edge) → lo' ≤ lo → hi ≤ hi' → Within lo hi q → Within lo' hi' q
within_wider lo hi lo' hi' [] le ge h = tt
within_wider lo hi lo' hi' (e ∷ q) le ge h = (omega (arith, h.0), omega (arith, h.1), within_wider lo hi lo' hi' q le ge h.2)

-- ---- the counters

-- where the loop's first node is next, its counter is full
abbrev pub IsFresh : LoopCopy → State → Type 0
IsFresh l a = l.from ≡ a.node → a.left l ≡ Some (limit l)

-- what a list with its sources from lo on below hi leaves of the counters
pub record After (lo hi : ℕ) (a b : State) : Type 0 where
  pub fresh : (l : LoopCopy) → (l.past ≤ lo) ⊎ (hi ≤ l.from) → IsFresh l a → IsFresh l b
  pub same : (l : LoopCopy) → l.from ≤ lo → hi ≤ l.past → (l.test < lo) ⊎ (hi ≤ l.test) → b.left l ≡ a.left l

pub enters_from : (l : LoopCopy) (e : Edge) → l.from ≡ e.to → (e.from < l.from) ⊎ (l.past ≤ e.from) → enters l e ≡ true
enters_from l e p h = enter (l.from) (l.past) (e.from) (e.to) p h
  where
    enter : (from past n to : ℕ) → from ≡ to → (n < from) ⊎ (past ≤ n) → ((to == from) && not (is_in from past n)) ≡ true
    enter from past n to p h = grind (arith, nat_tests)

pub not_enters : (l : LoopCopy) (e : Edge) → l.from ≤ e.from → e.from < l.past → enters l e ≡ false
not_enters l e p h = enter (l.from) (l.past) (e.from) (e.to) p h
  where
    enter : (from past n to : ℕ) → from ≤ n → n < past → ((to == from) && not (is_in from past n)) ≡ false
    enter from past n to p h = grind (arith, nat_tests)

not_turns : (l : LoopCopy) (e : Edge) → e.from ≢ l.test → turns l e ≡ false
not_turns l e h = ap (λ b. b && is_true_end e.way) (ne_eqb (e.from) (l.test) h)

pub passed_fresh : (l : LoopCopy) (e : Edge) (left : Counters) → l.from ≡ e.to → (e.from < l.from) ⊎ (l.past ≤ e.from) → passed e left l ≡ Some (limit l)
passed_fresh l e left p h =
    ap (λ b. if b then Some (limit l) else (if turns l e then option_map (λ n. n - 1) (left l) else left l)) (enters_from l e p h)

pub passed_same : (l : LoopCopy) (e : Edge) (left : Counters) → l.from ≤ e.from → e.from < l.past → e.from ≢ l.test → passed e left l ≡ left l
passed_same l e left p h ne =
    ap (λ b. if b then Some (limit l) else (if turns l e then option_map (λ n. n - 1) (left l) else left l)) (not_enters l e p h) ∙ ap (λ b. if b then option_map (λ n. n - 1) (left l) else left l) (not_turns l e ne)

pub after_step : (lo hi : ℕ) (a : State) (e : Edge) (m : State) → lo ≤ e.from → e.from < hi → IsStep a e m → After lo hi a m
after_step lo hi a e m p h s = record {
  fresh = λ l apart was here. (λ i. s.left_is i l) ∙ passed_fresh l e a.left (here ∙ s.to_is) (outside l apart);
  same = λ l le ge other. (λ i. s.left_is i l) ∙ passed_same l e a.left (omega (arith, p, le)) (omega (arith, h, ge)) (λ is. differ l other is);
}
  where
    outside : (l : LoopCopy) → (l.past ≤ lo) ⊎ (hi ≤ l.from) → (e.from < l.from) ⊎ (l.past ≤ e.from)
    outside l (inl x) = inr (omega (arith, x, p))
    outside l (inr x) = inl (omega (arith, x, h))

    differ : (l : LoopCopy) → (l.test < lo) ⊎ (hi ≤ l.test) → e.from ≡ l.test → ⊥
    differ l (inl x) is = omega (arith, x, p, is)
    differ l (inr x) is = omega (arith, x, h, is)

pub after_after : (lo hi : ℕ) (a b c : State) → After lo hi a b → After lo hi b c → After lo hi a c
after_after lo hi a b c h k = record {
  fresh = λ l apart was. k.fresh l apart (h.fresh l apart was);
  same = λ l le ge other. k.same l le ge other ∙ h.same l le ge other;
}

pub driven_after : (g : List Site) (lo hi : ℕ) (q : List Edge) (a b : State) → Within lo hi q → Driven g q a b → After lo hi a b
driven_after g lo hi [] a b w h = subst (After lo hi a) h (record { fresh = λ l apart was. was; same = λ l le ge other. refl })
driven_after g lo hi (e ∷ q) a b w h =
    after_after lo hi a h.0 b (after_step lo hi a e h.0 w.0 w.1 (is_step g a e h.0 h.1)) (driven_after g lo hi q h.0 b w.2 h.2)

-- ---- there is only one

-- nothing follows
abbrev pub IsLast : Status → Type 0
IsLast Nowhere = Unit {0}
IsLast Arrived = Unit {0}
IsLast Undefined_ = Unit {0}
IsLast Broken = Unit {0}
IsLast (Going e m) = ⊥

pub record SameEnd (p q : List Edge) (b c : State) : Type 0 where
  pub paths : p ≡ q
  pub states : b ≡ c

pub one_end : (g : List Site) (p q : List Edge) (a b c : State) → Driven g p a b → Driven g q a c → IsLast (status g b) → IsLast (status g c) → SameEnd p q b c
one_end g [] [] a b c h k x y = record { paths = refl; states = sym h ∙ k }
one_end g [] (e ∷ q) a b c h k x y = absurd (subst IsLast (ap (status g) (sym h) ∙ k.1) x)
one_end g (e ∷ p) [] a b c h k x y = absurd (subst IsLast (ap (status g) (sym k) ∙ h.1) y)
one_end g (e ∷ p) (d ∷ q) a b c h k x y =
    let same : Going e h.0 ≡ Going d k.0 = sym h.1 ∙ k.1 in
    let edges : e ≡ d = cc in
    let nexts : h.0 ≡ k.0 = cc in
    let rest = one_end g p q h.0 b c h.2 (subst (λ m. Driven g q m c) (sym nexts) k.2) x y in
    record { paths = cc (edges, rest.paths); states = rest.states }
