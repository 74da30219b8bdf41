-- Driving with counters is walking, and keeping each loop's bound on the list.
use Rattle.std.proofs.Common.{◌≡◌, ℕ, zero, suc, ◌+◌, ◌-◌, Bool, true, false, if◌then◌else◌, List, [], ◌∷◌, Option, Some, None, refl, sym, ap, ◌∙◌, subst, arith}
use Rattle.std.specs.Prelude.{slice_get, ◌&&◌, ◌==◌, option_map}
use Rattle.std.proofs.lemmas.Bool.{eqb-true, eq-eqb, and_parts}
use Rattle.c_tree.specs.declared.tree.Expr.{Expr}
use Rattle.flow_laws.specs.declared.graph.Way.{Way as EdgeWay}
use Rattle.flow_laws.specs.declared.graph.Way.TheVariants.{Next, True, False}
use Rattle.flow_laws.specs.declared.graph.Edge.{Edge}
use Rattle.flow_laws.specs.Sites.{Content, Enter, Entry, Exit, Give, Jump, Land, LoopCopy, Missing, Simple, Site, Test}
use Rattle.flow_laws.specs.Graphs.{enters, leaves}
use Rattle.flow_laws.specs.Driving.{Goes, Memory, Move, Stays, Stuck, content_move}
use Rattle.flow_laws.proofs.Driving.DrivingSteps.{Broken, Counters, Driven, Going, State, at, is_over, is_true_end, is_zero, limit, moved, passed, status, status_at, target, turns}
use Rattle.flow_laws.proofs.Driving.DrivenLists.{not_enters}
use Rattle.flow_laws.proofs.Runs.RunClaims.{status_going}
use Rattle.flow_laws.proofs.Loops.LoopConditions.{TestIs, IsTested, AllTested, turned_at}
use Rattle.flow_laws.proofs.Driving.CountersKeepBounds.{KeepsBy, keeps_counter, counter_keeps}
use Rattle.flow_laws.specs.Paths.{after_turn, keeps_from}
use Rattle.std.proofs.lemmas.Option.{same_Some}

-- the edges lead from one node and memory to another, without bounds
abbrev pub Walked : List Site → List Edge → ℕ → Memory → ℕ → Memory → Type 0
Walked g [] n m n' m' = (n ≡ n') × (m ≡ m')
Walked g (e ∷ q) n m n' m' =
    (nd : Site) × (x : Memory) × (slice_get g n ≡ Some nd) × (content_move nd.content m ≡ Goes e.way x) × (e ≡ leaves n e.way (target nd e.way)) × Walked g q e.to x n' m'

-- what lies behind an edge that is gone
pub record Gone (g : List Site) (a : State) (e : Edge) (x : State) : Type 0 where
  pub node : Site
  pub memory : Memory
  pub has : slice_get g a.node ≡ Some node
  pub moves : content_move node.content a.memory ≡ Goes e.way memory
  pub edge_is : e ≡ leaves a.node e.way (target node e.way)
  pub next_is : x ≡ at e.to memory (passed e a.left)
  pub under : is_over node.content e.way a.left ≡ false

gone_by : (g : List Site) (a : State) (nd : Site) (t : EdgeWay) (m : Memory) (e : Edge) (x : State) → slice_get g a.node ≡ Some nd → content_move nd.content a.memory ≡ Goes t m → (b : Bool) → is_over nd.content t a.left ≡ b → (let d = leaves a.node t (target nd t) in (if b then Broken else Going d (at d.to m (passed d a.left))) ≡ Going e x) → Gone g a e x
gone_by g a nd t m e x has moves true over p = absurd (cc)
gone_by g a nd t m e x has moves false over p =
    let d = leaves a.node t (target nd t) in
    let same : d ≡ e = cc in
    let next : at d.to m (passed d a.left) ≡ x = cc in
    let base : Gone g a d (at d.to m (passed d a.left)) = record { node = nd; memory = m; has = has; moves = moves; edge_is = refl; next_is = refl; under = over } in
    subst (λ y. Gone g a y x) same (subst (λ y. Gone g a d y) next base)

gone_move : (g : List Site) (a : State) (nd : Site) (mv : Move) (e : Edge) (x : State) → slice_get g a.node ≡ Some nd → content_move nd.content a.memory ≡ mv → moved nd a mv ≡ Going e x → Gone g a e x
gone_move g a nd Stuck e x has moves p = absurd (cc)
gone_move g a nd Stays e x has moves p = absurd (cc)
gone_move g a nd (Goes t m) e x has moves p = gone_by g a nd t m e x has moves (is_over nd.content t a.left) refl p

gone_at : (g : List Site) (a : State) (o : Option Site) (e : Edge) (x : State) → slice_get g a.node ≡ o → status_at o a ≡ Going e x → Gone g a e x
gone_at g a None e x has p = absurd (cc)
gone_at g a (Some nd) e x has p = gone_move g a nd (content_move nd.content a.memory) e x has refl p

pub gone : (g : List Site) (a : State) (e : Edge) (x : State) → status g a ≡ Going e x → Gone g a e x
unfolding status
gone g a e x p = gone_at g a (slice_get g a.node) e x refl p

-- ---- the walk

pub driven_walks : (g : List Site) (q : List Edge) (a b : State) → Driven g q a b → Walked g q a.node a.memory b.node b.memory
driven_walks g [] a b h = (ap (λ x. x.node) h, ap (λ x. x.memory) h)
driven_walks g (e ∷ q) a b h =
    let s = gone g a e h.0 h.1 in
    (s.node, s.memory, s.has, s.moves, s.edge_is, subst (λ x. Walked g q x.node x.memory b.node b.memory) s.next_is (driven_walks g q h.0 b h.2))

-- ---- the bounds

-- the node n is the loop's condition
pub record IsLoopAt (g : List Site) (n : ℕ) (l : LoopCopy) (c : Expr) : Type 0 where
  pub node : Site
  pub has : slice_get g n ≡ Some node
  pub content : node.content ≡ Test (Some l) c
  pub turned : TestIs n l

is_yes_is : (t : EdgeWay) → is_true_end t ≡ true → t ≡ True
is_yes_is Next e = absurd (cc)
is_yes_is True e = refl
is_yes_is False e = absurd (cc)

-- at an edge of `turn` the bound is not used up
turn_under : (g : List Site) (a : State) (e : Edge) (x : State) (n : ℕ) (l : LoopCopy) (c : Expr) → IsLoopAt g n l c → Gone g a e x → turns l e ≡ true → is_zero (a.left l) ≡ false
turn_under g a e x n l c is s tu =
    let both = and_parts (e.from == l.test) (is_true_end e.way) tu in
    let from_e : e.from ≡ a.node = ap (λ y. y.from) s.edge_is in
    let from_l : e.from ≡ l.test = eqb-true (e.from) (l.test) both.0 in
    let node_n : a.node ≡ n = sym from_e ∙ from_l ∙ is.turned.test in
    let same : s.node ≡ is.node = same_Some s.node is.node (sym s.has ∙ ap (slice_get g) node_n ∙ is.has) in
    let content : s.node.content ≡ Test (Some l) c = ap (λ y. y.content) same ∙ is.content in
    ap (λ y. is_over y True a.left) (sym content) ∙ ap (λ y. is_over s.node.content y a.left) (sym (is_yes_is e.way both.1)) ∙ s.under

keeps_step : (l : LoopCopy) (q : List Edge) (left : Option ℕ) (en tu : Bool) → (tu ≡ true → is_zero left ≡ false) → keeps_from (enters l) (turns l) (limit l) (if en then Some (limit l) else (if tu then option_map (λ n. n - 1) left else left)) q ≡ true → (if en then keeps_from (enters l) (turns l) (limit l) (Some (limit l)) q else (if tu then after_turn left (λ m. keeps_from (enters l) (turns l) (limit l) m q) else keeps_from (enters l) (turns l) (limit l) left q)) ≡ true
keeps_step l q left true tu under k = k
keeps_step l q left false false under k = k
keeps_step l q None false true under k = k
keeps_step l q (Some zero) false true under k = let bad = under refl in absurd (cc)
keeps_step l q (Some (suc n)) false true under k = let e : suc n - 1 ≡ n = omega arith in subst (λ m. keeps_from (enters l) (turns l) (limit l) (Some m) q ≡ true) e k

pub driven_keeps : (g : List Site) (q : List Edge) (a b : State) (n : ℕ) (l : LoopCopy) (c : Expr) → IsLoopAt g n l c → Driven g q a b → keeps_from (enters l) (turns l) (limit l) (a.left l) q ≡ true
driven_keeps g [] a b n l c is h = refl
driven_keeps g (e ∷ q) a b n l c is h =
    let s = gone g a e h.0 h.1 in
    let left_is : h.0.left l ≡ passed e a.left l = ap (λ y. y.left l) s.next_is in
    keeps_step l q (a.left l) (enters l e) (turns l e) (turn_under g a e h.0 n l c is s) (subst (λ y. keeps_from (enters l) (turns l) (limit l) y q ≡ true) left_is (driven_keeps g q h.0 b n l c is h.2))

-- ---- back

-- each loop's counter keeps the list
abbrev pub AllCount : List Site → Counters → List Edge → Type 0
AllCount g left q = (n : ℕ) (l : LoopCopy) (c : Expr) → IsLoopAt g n l c → keeps_from (enters l) (turns l) (limit l) (left l) q ≡ true

pub count_step : (l : LoopCopy) (q : List Edge) (left : Option ℕ) (en tu : Bool) → (if en then keeps_from (enters l) (turns l) (limit l) (Some (limit l)) q else (if tu then after_turn left (λ m. keeps_from (enters l) (turns l) (limit l) m q) else keeps_from (enters l) (turns l) (limit l) left q)) ≡ true → keeps_from (enters l) (turns l) (limit l) (if en then Some (limit l) else (if tu then option_map (λ n. n - 1) left else left)) q ≡ true
count_step l q left true tu k = k
count_step l q left false false k = k
count_step l q None false true k = k
count_step l q (Some zero) false true k = absurd (cc)
count_step l q (Some (suc n)) false true k = let e : n ≡ suc n - 1 = omega arith in subst (λ m. keeps_from (enters l) (turns l) (limit l) (Some m) q ≡ true) e k

not_zero : (l : LoopCopy) (q : List Edge) (left : Option ℕ) (en tu : Bool) → en ≡ false → tu ≡ true → (if en then keeps_from (enters l) (turns l) (limit l) (Some (limit l)) q else (if tu then after_turn left (λ m. keeps_from (enters l) (turns l) (limit l) m q) else keeps_from (enters l) (turns l) (limit l) left q)) ≡ true → is_zero left ≡ false
not_zero l q left true tu ee te k = absurd (cc)
not_zero l q left false false ee te k = absurd (cc)
not_zero l q None false true ee te k = refl
not_zero l q (Some zero) false true ee te k = absurd (cc)
not_zero l q (Some (suc n)) false true ee te k = refl

pub under_at : (g : List Site) (n : ℕ) (nd : Site) (left : Counters) (e : Edge) (q : List Edge) → slice_get g n ≡ Some nd → AllTested 0 g → e.from ≡ n → AllCount g left (e ∷ q) → (c : Content) → nd.content ≡ c → (t : EdgeWay) → e.way ≡ t → is_over c t left ≡ false
under_at g n nd left e q has turned from all (Test (Some l) x) content True te =
    let at_n : IsTested (0 + n) nd.content = turned_at 0 n g nd turned has in
    let here : TestIs (0 + n) l = subst (IsTested (0 + n)) content at_n in
    let zn : 0 + n ≡ n = omega arith in
    let is : IsLoopAt g n l x = record { node = nd; has = has; content = content; turned = subst (λ y. TestIs y l) zn here } in
    let en : enters l e ≡ false = not_enters l e (omega (arith, is.turned.low, from)) (omega (arith, is.turned.high, from)) in
    let tu : turns l e ≡ true = ap (λ y. y && is_true_end e.way) (eq-eqb (e.from) (l.test) (from ∙ sym is.turned.test)) ∙ ap is_true_end te in
    not_zero l q (left l) (enters l e) (turns l e) en tu (all n l x is)
under_at g n nd left e q has turned from all (Test (Some l) x) content Next te = refl
under_at g n nd left e q has turned from all (Test (Some l) x) content False te = refl
under_at g n nd left e q has turned from all (Test None x) content t te = refl
under_at g n nd left e q has turned from all Entry content t te = refl
under_at g n nd left e q has turned from all Exit content t te = refl
under_at g n nd left e q has turned from all (Simple ss) content t te = refl
under_at g n nd left e q has turned from all Jump content t te = refl
under_at g n nd left e q has turned from all (Give x) content t te = refl
under_at g n nd left e q has turned from all (Enter t' ls es) content t te = refl
under_at g n nd left e q has turned from all Missing content t te = refl
under_at g n nd left e q has turned from all (Land t' ty b) content t te = refl

pub record DrivenTo (g : List Site) (q : List Edge) (a : State) (n : ℕ) (m : Memory) : Type 0 where
  pub last : State
  pub driven : Driven g q a last
  pub node_is : last.node ≡ n
  pub memory_is : last.memory ≡ m

pub walks_driven : (g : List Site) (q : List Edge) (n n' : ℕ) (m m' : Memory) (left : Counters) → AllTested 0 g → Walked g q n m n' m' → AllCount g left q → DrivenTo g q (at n m left) n' m'
walks_driven g [] n n' m m' left turned h all =
    record { last = at n m left; driven = refl; node_is = h.0; memory_is = h.1 }
walks_driven g (e ∷ q) n n' m m' left turned h all =
    let nd = h.0 in
    let x = h.1 in
    let from : e.from ≡ n = ap (λ y. y.from) h.4 in
    let d = leaves n e.way (target nd e.way) in
    let under = under_at g n nd left e q h.2 turned from all nd.content refl e.way refl in
    let going : status g (at n m left) ≡ Going d (at d.to x (passed d left)) = status_going g n m x left nd e.way h.2 h.3 under in
    let P : Edge → Type 0 = λ y. status g (at n m left) ≡ Going y (at y.to x (passed y left)) in
    let going_e : status g (at n m left) ≡ Going e (at e.to x (passed e left)) = subst P (sym h.4) going in
    let rest = walks_driven g q e.to n' x m' (passed e left) turned h.5 (λ i l c is. count_step l q (left l) (enters l e) (turns l e) (all i l c is)) in
    record { last = rest.last; driven = (at e.to x (passed e left), going_e, rest.driven); node_is = rest.node_is; memory_is = rest.memory_is }

-- ---- both, from Entry

pub record DrivesEdges (g : List Site) (n : ℕ) (m : Memory) (q : List Edge) (n' : ℕ) (m' : Memory) : Type 0 where
  pub walks : Walked g q n m n' m'
  pub keeps : (i : ℕ) (l : LoopCopy) (c : Expr) → IsLoopAt g i l c → KeepsBy (enters l) (turns l) (limit l) q

pub drives_driven : (g : List Site) (q : List Edge) (n n' : ℕ) (m m' : Memory) → AllTested 0 g → DrivesEdges g n m q n' m' → DrivenTo g q (at n m (λ l. None)) n' m'
drives_driven g q n n' m m' turned h =
    walks_driven g q n n' m m' (λ l. None) turned h.walks (λ i l c is. keeps_counter (enters l) (turns l) (limit l) q (h.keeps i l c is))

pub driven_drives : (g : List Site) (q : List Edge) (n : ℕ) (m : Memory) (b : State) → Driven g q (at n m (λ l. None)) b → DrivesEdges g n m q b.node b.memory
driven_drives g q n m b h = record {
  walks = driven_walks g q (at n m (λ l. None)) b h;
  keeps = λ i l c is. counter_keeps (enters l) (turns l) (limit l) q None (driven_keeps g q (at n m (λ l. None)) b i l c is h);
}
