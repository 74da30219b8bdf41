-- A list that is contiguous from Entry and keeps the bounds of loops, driven or not, leaves each node at most as often as
-- its cap.
use Rattle.std.proofs.Common.{◌≡◌, ◌≢◌, ℕ, zero, suc, ◌+◌, ◌≤◌, true, List, [], ◌∷◌, Option, Some, None, refl, sym, ap, ◌∙◌, subst, arith}
use Rattle.std.specs.Prelude.{slice_get}
use Rattle.c_tree.specs.declared.program.Program.{Program}
use Rattle.c_tree.specs.Keeping.WellFormed.{WellFormed}
use Rattle.flow_laws.specs.declared.graph.Way.{Way}
use Rattle.flow_laws.specs.declared.graph.Edge.{Edge}
use Rattle.flow_laws.specs.Sites.{Content, Entry, Exit, Simple, Test, Jump, Give, Enter, Missing, Land, Site, Copy, head, one_end_site}
use Rattle.flow_laws.specs.Graphs.{outermost, copies, sites_of, graph, edges, loops, loop_copies, loop_of, enters}
use Rattle.flow_laws.specs.Paths.{end_node, follows, IsPath, edge_count, cap_of, Keeps, KeepsEach}
use Rattle.flow_laws.specs.Driving.{Memory, memory}
use Rattle.flow_laws.proofs.Driving.DrivingSteps.{Counters, State, at, hit, visits, turns, limit, target}
use Rattle.flow_laws.proofs.Caps.DoBoundsPositive.{program_fair}
use Rattle.flow_laws.proofs.Driving.CountersKeepBounds.{keeps_counter}
use Rattle.flow_laws.proofs.Graphs.EdgesDistinct.{leaves_source}
use Rattle.flow_laws.proofs.Runs.RunClaims.{has_all}
use Rattle.flow_laws.proofs.Loops.LoopConditions.{AllTested, graph_turned}
use Rattle.flow_laws.proofs.Driving.CountersAndBounds.{AllCount, count_step, under_at}
use Rattle.flow_laws.proofs.Runs.RunsAreDrivenPaths.{from_list, edges_keep, each_to_all, count_visits}
use Rattle.flow_laws.proofs.Runs.EdgeNumbers.{Names}
use Rattle.flow_laws.proofs.Runs.TracesOfPaths.{most}
use Rattle.flow_laws.proofs.Caps.CapsAreVisits.{most_is}
use Rattle.flow_laws.proofs.Runs.CopiesSound.{onces}
use Rattle.flow_laws.proofs.Counts.ListsConserved.{edges_of, Chained}
use Rattle.flow_laws.proofs.Graphs.LeavingEdges.{WayFits, way_fits}
use Rattle.flow_laws.proofs.Loops.LoopsBounded.{end_of}
use Rattle.flow_laws.proofs.Caps.KeptWalks.{Fits, Roams, IsBounded, bounded_more, one_bounded, fresh_step}
use Rattle.flow_laws.proofs.Caps.WalkVisits.{CopyCapped, copies_capped}

-- ---- a path that keeps the bounds is a walk

fits_is : (c : Content) (w : Way) → WayFits c w → (c ≡ Exit → ⊥) → Fits c w
fits_is Exit w h other = other refl
fits_is (Test l e) w h other = h
fits_is Entry w h other = tt
fits_is (Simple ss) w h other = tt
fits_is Jump w h other = tt
fits_is (Give e) w h other = tt
fits_is (Enter t ls es) w h other = tt
fits_is Missing w h other = tt
fits_is (Land t ty b) w h other = tt

pub record RoamsTo (g : List Site) (q : List Edge) (a : State) : Type 0 where
  pub last : State
  pub roams : Roams g q a last

chain_roams : (g : List Site) (js : List ℕ) (q : List Edge) (n m : ℕ) (mem : Memory) (left : Counters) → AllTested 0 g → Names (edges g) js q → Chained n q m → AllCount g left q → RoamsTo g q (at n mem left)
chain_roams g [] [] n m mem left tested names chained all = record { last = at n mem left; roams = refl }
chain_roams g [] (e ∷ q) n m mem left tested names chained all = absurd names
chain_roams g (j ∷ js) [] n m mem left tested names chained all = absurd names
chain_roams g (j ∷ js) (e ∷ q) n m mem left tested names chained all =
    let s = leaves_source g j e names.0 in
    let f = way_fits g j e s.site names.0 s.has in
    let has : slice_get g n ≡ Some s.site = ap (slice_get g) (sym chained.0) ∙ s.has in
    let under = under_at g n s.site left e q has tested chained.0 all s.site.content refl e.way refl in
    let next : State = at e.to mem (Rattle.flow_laws.proofs.Driving.DrivingSteps.passed e left) in
    let rest = chain_roams g js q e.to m mem (Rattle.flow_laws.proofs.Driving.DrivingSteps.passed e left) tested names.1 chained.1 (λ i l c is. count_step l q (left l) (enters l e) (turns l e) (all i l c is)) in
    let edge : e ≡ Rattle.flow_laws.specs.Graphs.leaves n e.way (target s.site e.way) = s.edge_is ∙ (λ i. Rattle.flow_laws.specs.Graphs.leaves (chained.0 i) e.way (target s.site e.way)) in
    record { last = rest.last; roams = (next, record { site = s.site; has = has; edge_is = edge; fits = fits_is s.site.content e.way f.0 f.1; under = under; step = record { from_is = chained.0; to_is = refl; left_is = refl } }, rest.roams) }

-- ---- from Entry

-- from Exit, and from where no node is, nothing goes on
exit_bounded : (g : List Site) (x : ℕ) (a : State) → ((s : Site) → slice_get g a.node ≡ Some s → s.content ≡ Exit) → IsBounded g x a 0
exit_bounded g x a exit [] b r = omega arith
exit_bounded g x a exit (e ∷ q) b r =
    absurd (subst (λ c. Fits c e.way) (exit (r.1).site (r.1).has) (r.1).fits)

none_at : (s : Site) → slice_get (sites_of None) 1 ≡ Some s → s.content ≡ Exit
none_at s e = absurd (cc)

some_at : (c : Copy) (s : Site) → slice_get (sites_of (Some c)) 1 ≡ Some s → s.content ≡ Exit
some_at c s e = let p : one_end_site outermost Exit None 1 ≡ s = cc in sym (ap (λ y. y.content) p)

at_exit : (o : Option Copy) (x : ℕ) (a : State) → a.node ≡ 1 → IsBounded (sites_of o) x a 0
at_exit None x a e = exit_bounded (sites_of None) x a (λ s h. none_at s (ap (slice_get (sites_of None)) (sym e) ∙ h))
at_exit (Some c) x a e =
    exit_bounded (sites_of (Some c)) x a (λ s h. some_at c s (ap (slice_get (sites_of (Some c))) (sym e) ∙ h))

whole_bounded : (o : Option Copy) (x : ℕ) (m : ℕ → ℕ → ℕ) (a : State) → ((c : Copy) → o ≡ Some c → CopyCapped (sites_of o) c m) → a.node ≡ 0 → IsBounded (sites_of o) x a (hit x 0 + m x 2)
whole_bounded None x m a h e =
    bounded_more (sites_of None) x a (hit x 0 + 0) (hit x 0 + m x 2) (omega arith) (one_bounded (sites_of None) x a 0 0 outermost Missing None 1 e refl (λ f s from node st. at_exit None x s node))
whole_bounded (Some c) x m a h e =
    let g = sites_of (Some c) in
    let t = head c.size 2 1 in
    let entry = one_end_site outermost Entry None t in
    let exit = one_end_site outermost Exit None 1 in
    let has = has_all (c.sites [] 1 2 1) (entry ∷ (exit ∷ [])) in
    bounded_more g x a (hit x 0 + (m x 2 + 0)) (hit x 0 + m x 2) (omega arith) (one_bounded g x a 0 (m x 2 + 0) outermost Entry None t e refl
    (λ f s from node st. (h c refl).capped [] 1 x 2 1 has s node (fresh_step 2 (2 + c.size) a f s st (Rattle.std.proofs.Common.inl (omega (arith, from)))) 0 (record { next = λ b at_1 af. at_exit (Some c) x b at_1; breaks = λ b at_1 af. at_exit (Some c) x b at_1; continues = λ b at_1 af. at_exit (Some c) x b at_1; returns = λ b at_1 af. at_exit (Some c) x b at_1 })))

graph_bounded : (p : Program) (x : ℕ) (a : State) → WellFormed p → a.node ≡ 0 → IsBounded (graph p) x a (most p x)
unfolding graph
graph_bounded p x a h e =
    let o = slice_get (copies [] p.funcs) p.entry in
    whole_bounded o x (onces p.funcs p.entry) a (λ c is. copies_capped (sites_of o) p.funcs (program_fair p h) p.entry c is) e

nowhere : Memory
nowhere = memory (record { locals = []; globals = [] }) [] None

pub list_capped : (p : Program) (q : List ℕ) (m : ℕ) → WellFormed p → end_node (edges (graph p)) 0 q ≡ Some m → KeepsEach (loops (graph p)) q → (j : ℕ) (e : Edge) → slice_get (edges (graph p)) j ≡ Some e → edge_count q j ≤ cap_of (slice_get (graph p) e.from)
list_capped p q m formed leads keeps j e is =
    let g = graph p in
    let r = edges_of (edges g) q 0 m leads in
    let each = from_list (λ m. Keeps (loop_of g m) q) g (each_to_all g (loop_copies g) q keeps) in
    let all : AllCount g (λ l. None) r.list = λ n l c at_n. keeps_counter (enters l) (turns l) (limit l) r.list (edges_keep g n l c q r.list at_n r.names (each n at_n.node l c at_n.has at_n.content)) in
    let walk = chain_roams g q r.list 0 m nowhere (λ l. None) (graph_turned p) r.names r.chained all in
    let visited = graph_bounded p e.from (at 0 nowhere (λ l. None)) formed refl r.list walk.last walk.roams in
    omega (arith, count_visits g j e is q r.list r.names, visited, most_is p e.from)

pub kept_capped : (p : Program) (q : List ℕ) → WellFormed p → IsPath (edges (graph p)) q → KeepsEach (loops (graph p)) q → (j : ℕ) (e : Edge) → slice_get (edges (graph p)) j ≡ Some e → edge_count q j ≤ cap_of (slice_get (graph p) e.from)
kept_capped p q formed path = list_capped p q 1 formed path

pub contiguous_capped : (p : Program) (q : List ℕ) → WellFormed p → follows (edges (graph p)) q ≡ true → KeepsEach (loops (graph p)) q → (j : ℕ) (e : Edge) → slice_get (edges (graph p)) j ≡ Some e → edge_count q j ≤ cap_of (slice_get (graph p) e.from)
contiguous_capped p q formed h = let end = end_of (end_node (edges (graph p)) 0 q) h in list_capped p q end.0 formed end.1
