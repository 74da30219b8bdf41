-- Each edge that is driven has a number, and lists of numbers name lists of edges.
use Rattle.std.proofs.Common.{◌≡◌, ℕ, zero, suc, ◌+◌, Bool, true, false, if◌then◌else◌, List, [], ◌∷◌, ◌++◌, Option, Some, None, refl, sym, ap, subst, arith}
use Rattle.std.specs.Prelude.{slice_get, option_map}
use Rattle.c_tree.specs.declared.program.Costs.{Costs}
use Rattle.c_tree.specs.declared.tree.Target.{Target}
use Rattle.c_tree.specs.declared.value.Value.{Value}
use Rattle.c_tree.specs.declared.value.Slot.{Slot}
use Rattle.c_tree.specs.declared.value.Store.{Store}
use Rattle.c_tree.specs.Meaning.Values.{is_nonzero}
use Rattle.c_tree.specs.Meaning.Expressions.{val, all_values}
use Rattle.c_tree.specs.Meaning.Statements.{Outcome, Ends, Undefined, OverBound, give, unset_target}
use Rattle.c_tree.specs.Meaning.Runs.{entry_slots, result_of}
use Rattle.flow_laws.specs.declared.graph.Way.{Way as EdgeWay}
use Rattle.flow_laws.specs.declared.graph.Way.TheVariants.{Next, True, False}
use Rattle.flow_laws.specs.declared.graph.Edge.{Edge}
use Rattle.flow_laws.specs.Sites.{Content, Enter, Entry, Exit, Give, Jump, Land, Missing, Simple, Site, Test}
use Rattle.flow_laws.specs.Graphs.{edges, edges_from, leaves, outs}
use Rattle.flow_laws.specs.Driving.{Goes, Memory, Move, Stuck, content_move, store_after_all, by_test, goes_with, landing_move, memory}
use Rattle.flow_laws.proofs.Driving.DrivingSteps.{Driven, Going, State, status, target}
use Rattle.flow_laws.specs.Paths.{cost_of_edge, price, times, after_turn, keeps_from}
use Rattle.flow_laws.proofs.Driving.CountersAndBounds.{gone}
use Rattle.flow_laws.proofs.Runs.TracesOfPaths.{price_along}

pub record Numbered (es : List Edge) (e : Edge) : Type 0 where
  pub number : ℕ
  pub is : slice_get es number ≡ Some e

front : (a b : List Edge) (i : ℕ) (e : Edge) → slice_get a i ≡ Some e → slice_get (a ++ b) i ≡ Some e
front [] b i e h = absurd (cc)
front (x ∷ a) b zero e h = h
front (x ∷ a) b (suc i) e h = front a b i e h

behind : (a b : List Edge) (e : Edge) → Numbered b e → Numbered (a ++ b) e
behind [] b e h = h
behind (x ∷ a) b e h = let r = behind a b e h in record { number = suc r.number; is = r.is }

-- ---- a node's move is over one of its edges

onward : (o : Option Memory) (t : EdgeWay) (x : Memory) → goes_with o ≡ Goes t x → t ≡ Next
onward None t x h = absurd (cc)
onward (Some m) t x h = cc

landed : (o : Outcome) (fs : List (List Slot)) (t : EdgeWay) (x : Memory) → (elim o as (λ o. Move) [ Ends u s w ↦ Goes Next (memory s fs None) | Undefined ↦ Stuck | OverBound ↦ Stuck ]) ≡ Goes t x → t ≡ Next
landed (Ends u s w) fs t x h = cc
landed Undefined fs t x h = absurd (cc)
landed OverBound fs t x h = absurd (cc)

lands : (tg : Target) (r : Option Value) (fs : List (List Slot)) (gs : List Slot) (t : EdgeWay) (x : Memory) → (elim fs as (λ fs. Move) [ [] ↦ Stuck | ls ∷ fs ↦ landing_move tg r ls fs gs ]) ≡ Goes t x → t ≡ Next
lands tg r [] gs t x h = absurd (cc)
lands tg r (ls ∷ fs) gs t x h = landed (give tg r (record { locals = ls; globals = gs })) fs t x h

alone : (n : ℕ) (nd : Site) (t : EdgeWay) → t ≡ Next → Numbered (leaves n Next nd.yes ∷ []) (leaves n t (target nd t))
alone n nd t e = let P : EdgeWay → Type 0 = λ y. Numbered (leaves n Next nd.yes ∷ []) (leaves n y (target nd y)) in subst P (sym e) (record { number = 0; is = refl })

sided : (n : ℕ) (nd : Site) (c : Bool) (m x : Memory) (t : EdgeWay) → Goes (if c then True else False) m ≡ Goes t x → Numbered (leaves n True nd.yes ∷ (leaves n False nd.no ∷ [])) (leaves n t (target nd t))
sided n nd true m x t h =
    let e : True ≡ t = cc in
    let P : EdgeWay → Type 0 = λ y. Numbered (leaves n True nd.yes ∷ (leaves n False nd.no ∷ [])) (leaves n y (target nd y)) in
    subst P e (record { number = 0; is = refl })
sided n nd false m x t h =
    let e : False ≡ t = cc in
    let P : EdgeWay → Type 0 = λ y. Numbered (leaves n True nd.yes ∷ (leaves n False nd.no ∷ [])) (leaves n y (target nd y)) in
    subst P e (record { number = 1; is = refl })

tested : (n : ℕ) (nd : Site) (o : Option Value) (m x : Memory) (t : EdgeWay) → by_test m o ≡ Goes t x → Numbered (leaves n True nd.yes ∷ (leaves n False nd.no ∷ [])) (leaves n t (target nd t))
tested n nd None m x t h = absurd (cc)
tested n nd (Some v) m x t h = sided n nd (is_nonzero v) m x t h

in_outs : (n : ℕ) (nd : Site) (c : Content) (m x : Memory) (t : EdgeWay) → content_move c m ≡ Goes t x → Numbered (outs n nd c) (leaves n t (target nd t))
in_outs n nd Entry m x t h = alone n nd t (onward (Some m) t x h)
in_outs n nd Exit m x t h = absurd (cc)
in_outs n nd (Simple ss) m x t h = alone n nd t (onward (option_map (λ s. memory s m.frames m.result) (store_after_all ss m.store)) t x h)
in_outs n nd (Test l e) m x t h = tested n nd (val e m.store) m x t h
in_outs n nd Jump m x t h = alone n nd t (onward (Some m) t x h)
in_outs n nd (Give None) m x t h = alone n nd t (onward (Some (memory m.store m.frames None)) t x h)
in_outs n nd (Give (Some e)) m x t h = alone n nd t (onward (option_map (λ v. memory m.store m.frames (Some v)) (val e m.store)) t x h)
in_outs n nd (Enter tg ls es) m x t h =
    let s : Store = unset_target tg m.store in
    alone n nd t (onward (option_map (λ vs. memory (record { locals = entry_slots ls vs; globals = s.globals }) (s.locals ∷ m.frames) None) (all_values es s)) t x h)
in_outs n nd Missing m x t h = absurd (cc)
in_outs n nd (Land tg ty b) m x t h = alone n nd t (lands tg (result_of ty m.result) m.frames m.store.globals t x h)

pub in_edges : (n i : ℕ) (g : List Site) (nd : Site) (e : Edge) → slice_get g i ≡ Some nd → Numbered (outs (n + i) nd nd.content) e → Numbered (edges_from n g) e
in_edges n i [] nd e h k = absurd (cc)
in_edges n zero (x ∷ g) nd e h k =
    let p : nd ≡ x = cc in
    let q : n + 0 ≡ n = omega arith in
    let k' = subst (λ y. Numbered (outs y x x.content) e) q (subst (λ y. Numbered (outs (n + 0) y y.content) e) p k) in
    record { number = k'.number; is = front (outs n x x.content) (edges_from (n + 1) g) k'.number e k'.is }
in_edges n (suc i) (x ∷ g) nd e h k =
    let q : n + suc i ≡ n + 1 + i = omega arith in
    behind (outs n x x.content) (edges_from (n + 1) g) e (in_edges (n + 1) i g nd e h (subst (λ y. Numbered (outs y nd nd.content) e) q k))

pub has_number : (g : List Site) (a : State) (e : Edge) (x : State) → status g a ≡ Going e x → Numbered (edges g) e
unfolding edges
has_number g a e x h =
    let s = gone g a e x h in
    let out = in_outs a.node s.node s.node.content a.memory s.memory e.way s.moves in
    let z : a.node ≡ 0 + a.node = omega arith in
    in_edges 0 a.node g s.node e s.has (subst (λ y. Numbered (outs y s.node s.node.content) e) z (subst (λ y. Numbered (outs a.node s.node s.node.content) y) (sym s.edge_is) out))

-- ---- lists of numbers

-- the numbers name the edges, one by one
abbrev pub Names : List Edge → List ℕ → List Edge → Type 0
Names es [] [] = Unit {0}
Names es [] (e ∷ q) = ⊥
Names es (j ∷ js) [] = ⊥
Names es (j ∷ js) (e ∷ q) = (slice_get es j ≡ Some e) × Names es js q

pub record NumbersOf (es : List Edge) (q : List Edge) : Type 0 where
  pub numbers : List ℕ
  pub names : Names es numbers q

pub have_numbers : (g : List Site) (q : List Edge) (a b : State) → Driven g q a b → NumbersOf (edges g) q
have_numbers g [] a b h = record { numbers = []; names = tt }
have_numbers g (e ∷ q) a b h =
    let r = have_numbers g q h.0 b h.2 in
    let j = has_number g a e h.0 h.1 in
    record { numbers = j.number ∷ r.numbers; names = (j.is, r.names) }

pub price_names : (t : Costs) (g : List Site) (js : List ℕ) (q : List Edge) → Names (edges g) js q → price t g js ≡ price_along t g q
price_names t g [] [] h = refl
price_names t g [] (e ∷ q) h = absurd h
price_names t g (j ∷ js) [] h = absurd h
price_names t g (j ∷ js) (e ∷ q) h =
    let here = ap (cost_of_edge t g) h.0 in
    let rest = price_names t g js q h.1 in
    λ i. here i + rest i

-- ---- what is counted over numbers is counted over edges

pub times_names : (es : List Edge) (a : ℕ → Bool) (p : Edge → Bool) → ((j : ℕ) (e : Edge) → slice_get es j ≡ Some e → a j ≡ p e) → (js : List ℕ) (q : List Edge) → Names es js q → times a js ≡ times p q
times_names es a p same [] [] h = refl
times_names es a p same [] (e ∷ q) h = absurd h
times_names es a p same (j ∷ js) [] h = absurd h
times_names es a p same (j ∷ js) (e ∷ q) h =
    let here = same j e h.0 in
    let rest = times_names es a p same js q h.1 in
    λ i. if here i then suc (rest i) else rest i

after_same : (n : Option ℕ) (f g : Option ℕ → Bool) → ((m : Option ℕ) → f m ≡ g m) → after_turn n f ≡ after_turn n g
after_same None f g h = h None
after_same (Some zero) f g h = refl
after_same (Some (suc n)) f g h = h (Some n)

pub keeps_names : (es : List Edge) (a b : ℕ → Bool) (p t : Edge → Bool) (lim : ℕ) → ((j : ℕ) (e : Edge) → slice_get es j ≡ Some e → a j ≡ p e) → ((j : ℕ) (e : Edge) → slice_get es j ≡ Some e → b j ≡ t e) → (js : List ℕ) (q : List Edge) → Names es js q → (left : Option ℕ) → keeps_from a b lim left js ≡ keeps_from p t lim left q
keeps_names es a b p t lim sa sb [] [] h left = refl
keeps_names es a b p t lim sa sb [] (e ∷ q) h left = absurd h
keeps_names es a b p t lim sa sb (j ∷ js) [] h left = absurd h
keeps_names es a b p t lim sa sb (j ∷ js) (e ∷ q) h left =
    let en = sa j e h.0 in
    let tu = sb j e h.0 in
    let next = keeps_names es a b p t lim sa sb js q h.1 in
    let turned = after_same left (λ m. keeps_from a b lim m js) (λ m. keeps_from p t lim m q) next in
    λ i. if en i then next (Some lim) i else (if tu i then turned i else next left i)
