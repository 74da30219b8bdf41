-- A run ends with a trace exactly where the input drives a path with these blocks.
use Rattle.std.proofs.Common.{◌≡◌, ◌≤◌, ℕ, ◌+◌, List, [], ◌∷◌, ◌++◌, length, Option, Some, None, refl, sym, ap, ◌∙◌, subst, arith, zero-add}
use Rattle.std.specs.Prelude.{slice_get, drop}
use Rattle.std.proofs.lemmas.List.Sums.{sum_by-append}
use Rattle.c_tree.specs.declared.tree.Ty.{Ty}
use Rattle.c_tree.specs.declared.program.Program.{Program}
use Rattle.c_tree.specs.declared.program.Input.{Input}
use Rattle.c_tree.specs.declared.program.Costs.{Costs}
use Rattle.c_tree.specs.declared.program.BlockName.{BlockName}
use Rattle.c_tree.specs.declared.value.Slot.{Slot}
use Rattle.c_tree.specs.declared.value.Value.{Value}
use Rattle.c_tree.specs.Meaning.Statements.{Callee, Back, Gives, CallUndefined, CallOverBound, Ends, Undefined, OverBound}
use Rattle.c_tree.specs.Meaning.Runs.{entry_slots, entry_types, arguments, global_slots, callees, Run, Ended, IsUndefined, IsOverBound, run_of, entry_run, run}
use Rattle.c_tree.specs.Meaning.Claims.{trace_cost, block_cost}
use Rattle.flow_laws.specs.declared.graph.Way.TheVariants.{Next}
use Rattle.flow_laws.specs.declared.graph.Edge.{Edge}
use Rattle.flow_laws.specs.Sites.{Copy, Entry, Exit, Missing, Site, head, one_end_site}
use Rattle.flow_laws.specs.Graphs.{outermost, copies, sites_of, graph}
use Rattle.flow_laws.specs.Driving.{start_memory, copy_slots, memory, copy_slots, start_memory}
use Rattle.flow_laws.proofs.Driving.DrivingSteps.{listed, DrivenPath, first_state, Nowhere, Going, Arrived, Broken, Counters, Driven, State, Status, Undefined_, at, blocks_at, hit, passed, status, status_at, trace_of, visits}
use Rattle.flow_laws.specs.Paths.{cost_of_block, cost_of_site}
use Rattle.flow_laws.proofs.Driving.DrivenLists.{driven_append, trace_append, one_end, IsLast}
use Rattle.flow_laws.proofs.Runs.RunClaims.{visits_append, Halts, has_all, halts_here, halts_before, status_going, status_stuck}
use Rattle.flow_laws.proofs.Runs.StatementParts.{edge, fresh_above}
use Rattle.flow_laws.proofs.Runs.RunsDriven.{BackLeads, Matched}
use Rattle.flow_laws.proofs.Runs.CopiesSound.{onces, copies_agree}
use Rattle.flow_laws.proofs.Caps.DoBoundsPositive.{FuncsFair}

-- the edges lead to Exit through the trace's blocks
pub record Arrives (g : List Site) (x d : ℕ) (a : State) (t : List BlockName) : Type 0 where
  pub path : List Edge
  pub last : State
  pub driven : Driven g path a last
  pub trace : trace_of g path ≡ t
  pub capped : visits x path ≤ d
  pub at_exit : last.node ≡ 1

abbrev pub RunLeads : List Site → ℕ → ℕ → State → Run → Type 0
RunLeads g x d a (Ended t) = Arrives g x d a t
RunLeads g x d a IsUndefined = Halts g a Undefined_
RunLeads g x d a IsOverBound = Halts g a Broken

at_start : Option Copy → List Value → List Slot → Counters → State
at_start o vs gs left = at 0 (memory (record { locals = copy_slots o vs; globals = gs }) [] None) left

back_run : (g : List Site) (x d hi : ℕ) (a : State) (ty : Option Ty) (b : Back) → BackLeads g x d 2 hi 1 a [] ty b → RunLeads g x d a (run_of b)
back_run g x d hi a ty (Gives t gs r) h =
    record { path = h.reaches.path; last = at 1 (memory (record { locals = h.locals; globals = gs }) [] h.value) h.reaches.left; driven = h.reaches.driven; trace = h.reaches.trace; capped = h.reaches.capped; at_exit = refl }
back_run g x d hi a ty CallUndefined h = h
back_run g x d hi a ty CallOverBound h = h

run_before : (g : List Site) (x c d : ℕ) (p : List Edge) (a b : State) (r : Run) → Driven g p a b → trace_of g p ≡ [] → visits x p ≤ c → RunLeads g x d b r → RunLeads g x (c + d) a r
run_before g x c d p a b (Ended t) dr e v h =
    record { path = p ++ h.path; last = h.last; driven = driven_append g p h.path a b h.last dr h.driven; capped = omega (arith, visits_append x p h.path, v, h.capped); trace = trace_append g p h.path ∙ ap (λ x. x ++ trace_of g h.path) e ∙ h.trace; at_exit = h.at_exit }
run_before g x c d p a b IsUndefined dr e v h = halts_before g p a b Undefined_ dr h
run_before g x c d p a b IsOverBound dr e v h = halts_before g p a b Broken dr h

whole_run : (x : ℕ) (most : ℕ → ℕ → ℕ) (o : Option Copy) (y : Option Callee) (vs : List Value) (gs : List Slot) (left : Counters) → Matched (sites_of o) o y most → RunLeads (sites_of o) x (hit x 0 + most x 2) (at_start o vs gs left) (entry_run y vs gs)
unfolding at_start
whole_run x most None (Some y) vs gs left m = absurd m
whole_run x most (Some c) None vs gs left m = absurd m
whole_run x most None None vs gs left m =
    halts_here (sites_of None) (at_start None vs gs left) Undefined_ (status_stuck (sites_of None) 0 (memory (record { locals = []; globals = gs }) [] None) left (one_end_site outermost Missing None 1) refl refl)
whole_run x most (Some c) (Some y) vs gs left m =
    let g = sites_of (Some c) in
    let t = head c.size 2 1 in
    let mem = memory (record { locals = entry_slots c.locals vs; globals = gs }) [] None in
    let left1 = passed (edge 0 Next t) left in
    let b : State = at t mem left1 in
    let has = has_all (c.sites [] 1 2 1) (one_end_site outermost Entry None t ∷ (one_end_site outermost Exit None 1 ∷ [])) in
    let copy = m.leads [] 1 x 2 1 has vs gs [] left1 (fresh_above 0 2 (2 + c.size) t Next mem left (omega arith)) in
    let going = status_going g 0 mem mem left (one_end_site outermost Entry None t) Next refl refl refl in
    run_before g x (hit x 0) (most x 2) (edge 0 Next t ∷ []) (at_start (Some c) vs gs left) b (run_of (y vs gs)) (b, going, refl) refl (omega arith) (back_run g x (most x 2) (2 + c.size) b c.result (y vs gs) copy)

-- how often a driven path leaves the node x, at most
abbrev pub most : Program → ℕ → ℕ
most p x = hit x 0 + onces p.funcs p.entry x 2

-- whatever the counters are at first
pub run_leads_from : (x : ℕ) (p : Program) (i : Input) (left : Counters) → FuncsFair p.funcs → RunLeads (graph p) x (most p x) (at 0 (start_memory p i) left) (run p i)
unfolding graph start_memory at_start
run_leads_from x p i left fair =
    let ts = entry_types (slice_get p.funcs p.entry) in
    let o = slice_get (copies [] p.funcs) p.entry in
    whole_run x (onces p.funcs p.entry) o (slice_get (callees [] p.funcs) p.entry) (arguments ts i.values) (global_slots p.globals (drop (length ts) i.values)) left (copies_agree (sites_of o) p.funcs fair p.entry)

pub run_leads : (x : ℕ) (p : Program) (i : Input) → FuncsFair p.funcs → RunLeads (graph p) x (most p x) (first_state p i) (run p i)
run_leads x p i fair = run_leads_from x p i (λ l. None) fair

-- ---- and back

abbrev IsQuiet : Status → Type 0
IsQuiet Nowhere = Unit {0}
IsQuiet Arrived = Unit {0}
IsQuiet Undefined_ = ⊥
IsQuiet Broken = ⊥
IsQuiet (Going e m) = ⊥

quiet_last : (s : Status) → IsQuiet s → IsLast s
quiet_last Nowhere h = tt
quiet_last Arrived h = tt
quiet_last Undefined_ h = absurd h
quiet_last Broken h = absurd h
quiet_last (Going e m) h = absurd h

quiet_at : (o : Option Copy) (a : State) → a.node ≡ 1 → IsQuiet (status (sites_of o) a)
unfolding status
quiet_at None a e = subst (λ n. IsQuiet (status_at (slice_get (sites_of None) n) a)) (sym e) tt
quiet_at (Some c) a e = subst (λ n. IsQuiet (status_at (slice_get (sites_of (Some c)) n) a)) (sym e) tt

exit_quiet : (p : Program) (a : State) → a.node ≡ 1 → IsQuiet (status (graph p) a)
unfolding graph
exit_quiet p a e = quiet_at (slice_get (copies [] p.funcs) p.entry) a e

pub only_end : (x d : ℕ) (p : Program) (a : State) (q : List Edge) (r : Run) → DrivenPath (graph p) a q → RunLeads (graph p) x d a r → r ≡ Ended (trace_of (graph p) q)
only_end x d p a q (Ended t) dp h =
    let g = graph p in
    let same = one_end g q h.path a dp.last h.last dp.driven h.driven (quiet_last (status g dp.last) (exit_quiet p dp.last dp.at_exit)) (quiet_last (status g h.last) (exit_quiet p h.last h.at_exit)) in
    ap Ended (sym h.trace ∙ ap (trace_of g) (sym same.paths))
only_end x d p a q IsUndefined dp h =
    let g = graph p in
    let quiet = exit_quiet p dp.last dp.at_exit in
    let same = one_end g q h.path a dp.last h.last dp.driven h.driven (quiet_last (status g dp.last) quiet) (subst IsLast (sym h.is) tt) in
    absurd (subst IsQuiet (ap (status g) same.states ∙ h.is) quiet)
only_end x d p a q IsOverBound dp h =
    let g = graph p in
    let quiet = exit_quiet p dp.last dp.at_exit in
    let same = one_end g q h.path a dp.last h.last dp.driven h.driven (quiet_last (status g dp.last) quiet) (subst IsLast (sym h.is) tt) in
    absurd (subst IsQuiet (ap (status g) same.states ∙ h.is) quiet)

-- ---- the theorem

pub record Paths (p : Program) (i : Input) : Type 0 where
  pub ends : (t : List BlockName) → run p i ≡ Ended t → (q : List Edge) × DrivenPath (graph p) (first_state p i) q × (trace_of (graph p) q ≡ t)
  pub driven : (q : List Edge) → DrivenPath (graph p) (first_state p i) q → run p i ≡ Ended (trace_of (graph p) q)

pub paths : (p : Program) (i : Input) → FuncsFair p.funcs → Paths p i
paths p i fair = record {
  ends = λ t e. let h = subst (RunLeads (graph p) 0 (most p 0) (first_state p i)) e (run_leads 0 p i fair) in (h.path, record { last = h.last; driven = h.driven; at_exit = h.at_exit }, h.trace);
  driven = λ q d. only_end 0 (most p 0) p (first_state p i) q (run p i) d (run_leads 0 p i fair);
}

-- ---- costs

cost_append : (t : Costs) (xs ys : List BlockName) → trace_cost t (xs ++ ys) ≡ trace_cost t xs + trace_cost t ys
cost_append t xs ys = sum_by-append (block_cost t) xs ys

cost_of_blocks : (t : Costs) (b : Option BlockName) → cost_of_block t b ≡ trace_cost t (listed b)
cost_of_blocks t None = refl
cost_of_blocks t (Some b) = sym (zero-add (block_cost t b))

cost_of_sites : (t : Costs) (o : Option Site) → cost_of_site t o ≡ trace_cost t (blocks_at o)
cost_of_sites t None = refl
cost_of_sites t (Some s) = cost_of_blocks t s.node.block

-- the price of a list of edges
abbrev pub price_along : Costs → List Site → List Edge → ℕ
price_along t g [] = 0
price_along t g (e ∷ q) = cost_of_site t (slice_get g e.from) + price_along t g q

pub price_is : (t : Costs) (g : List Site) (q : List Edge) → price_along t g q ≡ trace_cost t (trace_of g q)
price_is t g [] = refl
price_is t g (e ∷ q) =
    let here = cost_of_sites t (slice_get g e.from) in
    let rest = price_is t g q in
    (λ i. here i + rest i) ∙ sym (cost_append t (blocks_at (slice_get g e.from)) (trace_of g q))

-- for each input and number, the run ends with that cost exactly where the input drives a path of that price
pub record SameCosts (p : Program) (t : Costs) (i : Input) (n : ℕ) : Type 0 where
  pub to_path : ((u : List BlockName) × (run p i ≡ Ended u) × (trace_cost t u ≡ n)) → (q : List Edge) × DrivenPath (graph p) (first_state p i) q × (price_along t (graph p) q ≡ n)
  pub to_run : ((q : List Edge) × DrivenPath (graph p) (first_state p i) q × (price_along t (graph p) q ≡ n)) → (u : List BlockName) × (run p i ≡ Ended u) × (trace_cost t u ≡ n)

pub same_costs : (p : Program) (t : Costs) (i : Input) (n : ℕ) → FuncsFair p.funcs → SameCosts p t i n
same_costs p t i n fair = record {
  to_path = λ h. let r = (paths p i fair).ends h.0 h.1 in (r.0, r.1, price_is t (graph p) r.0 ∙ ap (trace_cost t) r.2 ∙ h.2);
  to_run = λ h. (trace_of (graph p) h.0, (paths p i fair).driven h.0 h.1, sym (price_is t (graph p) h.0) ∙ h.2);
}
