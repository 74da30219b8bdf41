-- Runs are driven paths and back, for lists of edge numbers; there is one driven path at most; and caps.
use Rattle.std.proofs.Common.{◌≡◌, ◌≤◌, ◌⊎◌, ℕ, zero, suc, ◌+◌, Bool, true, false, if◌then◌else◌, List, [], ◌∷◌, ◌++◌, map, Some, None, refl, sym, ap, ◌∙◌, subst, arith}
use Rattle.std.specs.Prelude.{slice_get, ◌==◌}
use Rattle.std.proofs.lemmas.Bool.{eqb-true}
use Rattle.c_tree.specs.declared.tree.Expr.{Expr}
use Rattle.c_tree.specs.declared.program.Program.{Program}
use Rattle.c_tree.specs.declared.program.Input.{Input}
use Rattle.c_tree.specs.declared.program.Costs.{Costs}
use Rattle.flow_laws.specs.declared.graph.Edge.{Edge}
use Rattle.flow_laws.specs.Sites.{LoopCopy, Content, Entry, Exit, Simple, Test, Jump, Give, Enter, Missing, Land, Site}
use Rattle.flow_laws.specs.Graphs.{graph, edges, enters, first_out, loops_at, loop_copies, loop_of, positions}
use Rattle.flow_laws.specs.Paths.{edge_count, is_in_list, Keeps, KeepsEach}
use Rattle.flow_laws.specs.Driving.{Memory, start_memory, Drives}
use Rattle.flow_laws.specs.Claims.{EndsAt, DrivesPath, DrivesAt, Begins}
use Rattle.flow_laws.proofs.Driving.DrivingSteps.{limit, turns, State, Driven, DrivenPath, first_state, hit, visits}
use Rattle.flow_laws.proofs.Caps.DoBoundsPositive.{FuncsFair}
use Rattle.flow_laws.proofs.Driving.CountersKeepBounds.{KeepsBy, counter_keeps, keeps_counter}
use Rattle.flow_laws.proofs.Loops.LoopConditions.{AllTested, IsTested, TestIs, turned_at, graph_turned}
use Rattle.flow_laws.proofs.Driving.CountersAndBounds.{Walked, IsLoopAt, DrivesEdges, drives_driven, driven_drives}
use Rattle.flow_laws.proofs.Runs.TracesOfPaths.{same_costs}
use Rattle.flow_laws.proofs.Graphs.EdgesDistinct.{turn_number, among_number}
use Rattle.flow_laws.proofs.Caps.CapsAreVisits.{hit_same}
use Rattle.flow_laws.proofs.Runs.EdgeNumbers.{Names, have_numbers, price_names, keeps_names}
use Rattle.flow_laws.proofs.Runs.WalksOverNumbers.{to_walked, from_walked, walks_lead, one_walk}

-- ---- the list of loops has each of them

abbrev pub AllOf : (LoopCopy → Type 0) → List LoopCopy → Type 0
AllOf P [] = Unit {0}
AllOf P (l ∷ ls) = P l × AllOf P ls

all_append : (P : LoopCopy → Type 0) (a b : List LoopCopy) → AllOf P a → AllOf P b → AllOf P (a ++ b)
all_append P [] b h k = k
all_append P (l ∷ a) b h k = (h.0, all_append P a b h.1 k)

all_front : (P : LoopCopy → Type 0) (a b : List LoopCopy) → AllOf P (a ++ b) → AllOf P a
all_front P [] b h = tt
all_front P (l ∷ a) b h = (h.0, all_front P a b h.1)

all_back : (P : LoopCopy → Type 0) (a b : List LoopCopy) → AllOf P (a ++ b) → AllOf P b
all_back P [] b h = h
all_back P (l ∷ a) b h = all_back P a b h.1

-- each condition of a loop, by its node
abbrev pub EachLoop : (LoopCopy → Type 0) → List Site → Type 0
EachLoop P g = (i : ℕ) (s : Site) (l : LoopCopy) (c : Expr) → slice_get g i ≡ Some s → s.content ≡ Test (Some l) c → P l

all_node : (P : LoopCopy → Type 0) (c : Content) → ((l : LoopCopy) (e : Expr) → c ≡ Test (Some l) e → P l) → AllOf P (loops_at c)
all_node P (Test (Some l) e) h = (h l e refl, tt)
all_node P (Test None e) h = tt
all_node P Entry h = tt
all_node P Exit h = tt
all_node P (Simple ss) h = tt
all_node P Jump h = tt
all_node P (Give e) h = tt
all_node P (Enter t ls es) h = tt
all_node P Missing h = tt
all_node P (Land t ty b) h = tt

pub to_list : (P : LoopCopy → Type 0) (g : List Site) → EachLoop P g → AllOf P (loop_copies g)
to_list P [] h = tt
to_list P (s ∷ g) h =
    all_append P (loops_at s.content) (loop_copies g) (all_node P s.content (λ l e is. h 0 s l e refl is)) (to_list P g (λ i x l c has is. h (suc i) x l c has is))

pub from_list : (P : LoopCopy → Type 0) (g : List Site) → AllOf P (loop_copies g) → EachLoop P g
from_list P [] h i s l c has is = absurd (cc)
from_list P (x ∷ g) h zero s l c has is =
    let same : x ≡ s = cc in
    let content = ap (λ y. y.content) same ∙ is in
    let Q : Content → Type 0 = λ y. AllOf P (loops_at y) in
    (subst Q content (all_front P (loops_at x.content) (loop_copies g) h)).0
from_list P (x ∷ g) h (suc i) s l c has is =
    from_list P g (all_back P (loops_at x.content) (loop_copies g) h) i s l c has is

pub loop_at_node : (g : List Site) (i : ℕ) (s : Site) (l : LoopCopy) (c : Expr) → AllTested 0 g → slice_get g i ≡ Some s → s.content ≡ Test (Some l) c → IsLoopAt g i l c
loop_at_node g i s l c tested has is =
    let z : 0 + i ≡ i = omega arith in
    let here : TestIs (0 + i) l = subst (IsTested (0 + i)) is (turned_at 0 i g s tested has) in
    record { node = s; has = has; content = is; turned = subst (λ y. TestIs y l) z here }

-- ---- bounds over numbers and over edges

into_is : (g : List Site) (l : LoopCopy) (j : ℕ) (e : Edge) → slice_get (edges g) j ≡ Some e → is_in_list j (positions 0 (enters l) (edges g)) ≡ enters l e
into_is g l j e h = among_number (enters l) (edges g) j e h

pub turn_is : (g : List Site) (i : ℕ) (l : LoopCopy) (c : Expr) → IsLoopAt g i l c → (j : ℕ) (e : Edge) → slice_get (edges g) j ≡ Some e → (j == first_out g l.test) ≡ turns l e
turn_is g i l c is j e h =
    turn_number g j e l is.node c h (ap (slice_get g) is.turned.test ∙ is.has) is.content

numbers_keep : (g : List Site) (i : ℕ) (l : LoopCopy) (c : Expr) (js : List ℕ) (q : List Edge) → IsLoopAt g i l c → Names (edges g) js q → KeepsBy (enters l) (turns l) (limit l) q → Keeps (loop_of g l) js
numbers_keep g i l c js q is names h =
    let a : ℕ → Bool = λ j. is_in_list j (positions 0 (enters l) (edges g)) in
    let b : ℕ → Bool = λ j. j == first_out g l.test in
    let same = keeps_names (edges g) a b (enters l) (turns l) (limit l) (into_is g l) (turn_is g i l c is) js q names None in
    counter_keeps a b (limit l) js None (same ∙ keeps_counter (enters l) (turns l) (limit l) q h)

pub edges_keep : (g : List Site) (i : ℕ) (l : LoopCopy) (c : Expr) (js : List ℕ) (q : List Edge) → IsLoopAt g i l c → Names (edges g) js q → Keeps (loop_of g l) js → KeepsBy (enters l) (turns l) (limit l) q
edges_keep g i l c js q is names h =
    let a : ℕ → Bool = λ j. is_in_list j (positions 0 (enters l) (edges g)) in
    let b : ℕ → Bool = λ j. j == first_out g l.test in
    let same = keeps_names (edges g) a b (enters l) (turns l) (limit l) (into_is g l) (turn_is g i l c is) js q names None in
    counter_keeps (enters l) (turns l) (limit l) q None (sym same ∙ keeps_counter a b (limit l) js h)

pub each_to_all : (g : List Site) (ls : List LoopCopy) (js : List ℕ) → KeepsEach (map (loop_of g) ls) js → AllOf (λ l. Keeps (loop_of g l) js) ls
each_to_all g [] js h = tt
each_to_all g (l ∷ ls) js h = (h.0, each_to_all g ls js h.1)

all_to_each : (g : List Site) (ls : List LoopCopy) (js : List ℕ) → AllOf (λ l. Keeps (loop_of g l) js) ls → KeepsEach (map (loop_of g) ls) js
all_to_each g [] js h = tt
all_to_each g (l ∷ ls) js h = (h.0, all_to_each g ls js h.1)

-- ---- both forms of driving

-- the edges of a driven list, with their counters
pub record DrivenBy (p : Program) (i : Input) (js : List ℕ) (n : ℕ) : Type 0 where
  pub list : List Edge
  pub names : Names (edges (graph p)) js list
  pub memory : Memory
  pub walked : Walked (graph p) list 0 (start_memory p i) n memory
  pub last : State
  pub driven : Driven (graph p) list (first_state p i) last
  pub node_is : last.node ≡ n

pub to_driven : (p : Program) (i : Input) (js : List ℕ) (h : Drives p i js) → DrivenBy p i js h.node
to_driven p i js h =
    let g = graph p in
    let w = to_walked g js 0 (start_memory p i) h.node h.memory h.walks in
    let each = from_list (λ l. Keeps (loop_of g l) js) g (each_to_all g (loop_copies g) js h.keeps) in
    let d : DrivesEdges g 0 (start_memory p i) w.list h.node h.memory = record { walks = w.walked; keeps = λ n l c is. edges_keep g n l c js w.list is w.names (each n is.node l c is.has is.content) } in
    let r = drives_driven g w.list 0 h.node (start_memory p i) h.memory (graph_turned p) d in
    record { list = w.list; names = w.names; memory = h.memory; walked = w.walked; last = r.last; driven = r.driven; node_is = r.node_is }

pub from_driven : (p : Program) (i : Input) (js : List ℕ) (q : List Edge) (b : State) → Names (edges (graph p)) js q → Driven (graph p) q (first_state p i) b → Drives p i js
from_driven p i js q b names h =
    let g = graph p in
    let d = driven_drives g q 0 (start_memory p i) b h in
    record { node = b.node; memory = b.memory; walks = from_walked g js q 0 (start_memory p i) b.node b.memory names d.walks; keeps = all_to_each g (loop_copies g) js (to_list (λ l. Keeps (loop_of g l) js) g (λ n s l c has is. let at_n = loop_at_node g n s l c (graph_turned p) has is in numbers_keep g n l c js q at_n names (d.keeps n l c at_n))) }

-- ---- paths

some_is : (a b : ℕ) → Some a ≡ Some b → a ≡ b
some_is a b h = cc

pub ends_at_exit : (p : Program) (i : Input) (js : List ℕ) (h : DrivesPath p i js) → h.drives.node ≡ 1
ends_at_exit p i js h =
    let d = h.drives in
    some_is d.node 1 (sym (walks_lead (graph p) js 0 (start_memory p i) d.node d.memory d.walks) ∙ h.path)

pub path_driven : (p : Program) (i : Input) (js : List ℕ) (h : DrivesPath p i js) → DrivenBy p i js 1
path_driven p i js h = subst (DrivenBy p i js) (ends_at_exit p i js h) (to_driven p i js h.drives)

pub driven_path : (p : Program) (i : Input) (js : List ℕ) (d : DrivenBy p i js 1) → DrivenPath (graph p) (first_state p i) d.list
driven_path p i js d = record { last = d.last; driven = d.driven; at_exit = d.node_is }

path_of : (p : Program) (i : Input) (js : List ℕ) (q : List Edge) → Names (edges (graph p)) js q → DrivenPath (graph p) (first_state p i) q → DrivesPath p i js
unfolding from_driven
path_of p i js q names h =
    let d = from_driven p i js q h.last names h.driven in
    record { path = walks_lead (graph p) js 0 (start_memory p i) d.node d.memory d.walks ∙ ap Some h.at_exit; drives = d }

pub run_to_path : (p : Program) (t : Costs) (i : Input) (n : ℕ) → FuncsFair p.funcs → EndsAt p t i n → DrivesAt p t i n
run_to_path p t i n fair h =
    let g = graph p in
    let r = (same_costs p t i n fair).to_path h in
    let js = have_numbers g r.0 (first_state p i) (r.1).last (r.1).driven in
    (js.numbers, path_of p i js.numbers r.0 js.names r.1, price_names t g js.numbers r.0 js.names ∙ r.2)

pub path_to_run : (p : Program) (t : Costs) (i : Input) (n : ℕ) → FuncsFair p.funcs → DrivesAt p t i n → EndsAt p t i n
path_to_run p t i n fair h =
    let d = path_driven p i h.0 h.1 in
    (same_costs p t i n fair).to_run (d.list, driven_path p i h.0 d, sym (price_names t (graph p) h.0 d.list d.names) ∙ h.2)

-- ---- one path

pub one_drive : (p : Program) (i : Input) (a b : List ℕ) → Drives p i a → Drives p i b → Begins a b ⊎ Begins b a
one_drive p i a b h k =
    one_walk (graph p) a b 0 (start_memory p i) h.node h.memory k.node k.memory h.walks k.walks

-- ---- caps

count_step : (g : List Site) (j k : ℕ) (e d : Edge) (c v : ℕ) → slice_get (edges g) j ≡ Some e → slice_get (edges g) k ≡ Some d → c ≤ v → (b : Bool) → (k == j) ≡ b → (if b then suc c else c) ≤ hit e.from d.from + v
count_step g j k e d c v h i le true same =
    let number : k ≡ j = eqb-true k j same in
    let both : Some e ≡ Some d = sym h ∙ sym (ap (slice_get (edges g)) number) ∙ i in
    let edge : e ≡ d = cc in
    omega (arith, le, hit_same e.from d.from (ap (λ y. y.from) edge))
count_step g j k e d c v h i le false same = omega (arith, le)

-- an edge is counted at most as often as its source is left
pub count_visits : (g : List Site) (j : ℕ) (e : Edge) → slice_get (edges g) j ≡ Some e → (js : List ℕ) (q : List Edge) → Names (edges g) js q → edge_count js j ≤ visits e.from q
count_visits g j e h [] [] names = omega arith
count_visits g j e h [] (d ∷ q) names = absurd names
count_visits g j e h (k ∷ js) [] names = absurd names
count_visits g j e h (k ∷ js) (d ∷ q) names =
    count_step g j k e d (edge_count js j) (visits e.from q) h names.0 (count_visits g j e h js q names.1) (k == j) refl
