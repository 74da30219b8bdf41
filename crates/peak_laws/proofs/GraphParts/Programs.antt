-- The graph of a well-formed program is Entry, Exit and its part.
use Rattle.std.proofs.Common.{◌≡◌, ◌<◌, ℕ, zero, suc, ◌+◌, Bool, true, false, if◌then◌else◌, List, [], ◌∷◌, ◌++◌, length, map, Option, Some, None, refl, sym, ap, ◌∙◌, subst, arith, length-append}
use Rattle.std.specs.Prelude.{slice_get, unwrap_or}
use Rattle.c_tree.specs.declared.tree.Stmt.{Stmt}
use Rattle.c_tree.specs.declared.tree.Stmt.TheBlock.{shape-the_row-Stmt-0, hidden-the_row-Stmt-0}
use denote.Hole.Carrier.{hidden}
use Rattle.c_tree.specs.declared.program.BlockName.{BlockName}
use Rattle.c_tree.specs.declared.program.Costs.{Costs}
use Rattle.c_tree.specs.declared.program.Func.{Func}
use Rattle.c_tree.specs.declared.program.Program.{Program}
use Rattle.c_tree.specs.Meaning.Blocks.{is_simple, blocks}
use Rattle.c_tree.specs.Keeping.Layouts.{Shape, local_shapes, global_shapes}
use Rattle.c_tree.specs.Keeping.WellFormed.{Context, WellFormedStmt, WellFormedRow, WellFormedHeld, WellFormedSole, WellFormedList, WellFormedFuncs, WellFormed}
use Rattle.flow_laws.specs.declared.graph.Edge.{Edge}
use Rattle.flow_laws.specs.declared.graph.Way.TheVariants.{Next}
use Rattle.flow_laws.specs.Sites.{Site, Position, Copy, head, list_flow}
use Rattle.flow_laws.specs.Graphs.{leaves, edges_from, edges, all_to, copy_of, copies, sites_of, graph}
use Rattle.flow_laws.specs.Paths.{cost_of_site, cap_of}
use Rattle.flow_laws.proofs.Graphs.PartSizes.{HaveSizes}
use Rattle.flow_laws.proofs.Runs.CopiesSound.{row_flows, list_length}
use Rattle.flow_laws.proofs.Loops.LoopConditions.{AllTested, graph_turned}
use Rattle.ipet_rows.specs.CapsBound.{costs_of_edges}
use Rattle.peak_laws.specs.Parts.{Part, Nothing, Body, node_costs, part_edges}
use Rattle.peak_laws.specs.ProgramParts.{sequence, pending_block, block_past_run, part, row_part, held_part, list_part, costs_in, func_part, function_parts, entry_part, program_part}
use Rattle.peak_laws.proofs.GraphParts.Places.{Agrees}
use Rattle.peak_laws.proofs.GraphParts.Shapes.{entry_edge, Shaped, edge_costs_are}
use Rattle.peak_laws.proofs.GraphParts.Drawn.{site_costs, site_caps, Draws, IsDrawn, Paired, ArePaired, row_draws}
use Rattle.flow_laws.proofs.Graphs.FoundBlocks.{many_copies}
use Rattle.flow_laws.proofs.Graphs.GraphJoined.{row_formed}

-- ---- a function's list

pub row_parts : (qs : List Part) (cost : ℕ → ℕ) (xs : List Stmt) (b : ℕ) (run : Bool) → row_part qs cost (hidden-the_row-Stmt-0 xs) b run ≡ list_part qs cost xs b run
unfolding part row_part held_part shape-the_row-Stmt-0 hidden-the_row-Stmt-0 hidden
row_parts qs cost [] b run = refl
row_parts qs cost (x ∷ xs) b run =
    let first = part qs cost x (block_past_run run b) in
    λ i. if is_simple x then row_parts qs cost xs b true i else sequence (pending_block run (cost b)) (sequence first (row_parts qs cost xs (block_past_run run b + blocks x false) false i))

abbrev placed : ℕ → List BlockName → ℕ → Position
placed k chain scale = record { func = k; chain = chain; scale = scale }

function_drawn : (t : Costs) (k : ℕ) (f : Func) (c : Context) (cs : List Copy) (qs : List Part) → HaveSizes cs → ArePaired t cs qs → WellFormedList c false f.body → IsDrawn t (copy_of k f cs) (func_part t k f qs)
function_drawn t k f c cs qs sizes paired h =
    let formed = row_formed c false f.body h in
    let draws : (chain : List BlockName) (scale n landing : ℕ) → Draws t scale n (list_flow cs (placed k chain scale) f.body 0 n [] (all_to landing)) (func_part t k f qs) (all_to landing) = λ chain scale n landing. subst (λ p. Draws t scale n (list_flow cs (placed k chain scale) f.body 0 n [] (all_to landing)) p (all_to landing)) (row_parts qs (costs_in t k) f.body 0 false) (subst (λ xs. Draws t scale n xs (row_part qs (costs_in t k) (hidden-the_row-Stmt-0 f.body) 0 false) (all_to landing)) (row_flows cs (placed k chain scale) f.body 0 n [] (all_to landing)) (row_draws t cs qs c sizes paired (placed k chain scale) false (hidden-the_row-Stmt-0 f.body) 0 n [] (all_to landing) formed)) in
    record {
      size_is = sym (list_length cs (placed k [] 1) f.body 2 (all_to 1) sizes) ∙ (draws [] 1 2 1).nodes;
      draws = draws;
    }

-- ---- all functions

abbrev AllPaired : Costs → List Copy → List Part → Type 0
AllPaired t [] [] = Unit {0}
AllPaired t (c ∷ cs) (q ∷ qs) = IsDrawn t c q × AllPaired t cs qs
AllPaired t _ _ = ⊥

paired_at : (t : Costs) (cs : List Copy) (qs : List Part) → AllPaired t cs qs → ArePaired t cs qs
paired_at t [] [] h g = tt
paired_at t [] (q ∷ qs) h g = absurd h
paired_at t (c ∷ cs) [] h g = absurd h
paired_at t (c ∷ cs) (q ∷ qs) h zero = h.0
paired_at t (c ∷ cs) (q ∷ qs) h (suc g) = paired_at t cs qs h.1 g

paired_sizes : (t : Costs) (cs : List Copy) (qs : List Part) → AllPaired t cs qs → HaveSizes cs
paired_sizes t [] qs h g c e = absurd (cc)
paired_sizes t (d ∷ cs) [] h g c e = absurd h
paired_sizes t (d ∷ cs) (q ∷ qs) h zero c e =
    let p : d ≡ c = cc in
    let is = subst (λ y. IsDrawn t y q) p h.0 in
    λ chain s n l. (is.draws chain s n l).nodes ∙ sym is.size_is
paired_sizes t (d ∷ cs) (q ∷ qs) h (suc g) c e = paired_sizes t cs qs h.1 g c e

paired_more : (t : Costs) (cs : List Copy) (qs : List Part) (c : Copy) (q : Part) → AllPaired t cs qs → IsDrawn t c q → AllPaired t (cs ++ c ∷ []) (qs ++ q ∷ [])
paired_more t [] [] c q h is = (is, tt)
paired_more t [] (g ∷ qs) c q h is = absurd h
paired_more t (d ∷ cs) [] c q h is = absurd h
paired_more t (d ∷ cs) (g ∷ qs) c q h is = (h.0, paired_more t cs qs c q h.1 is)

paired_length : (t : Costs) (cs : List Copy) (qs : List Part) → AllPaired t cs qs → length cs ≡ length qs
paired_length t [] [] h = refl
paired_length t [] (q ∷ qs) h = absurd h
paired_length t (c ∷ cs) [] h = absurd h
paired_length t (c ∷ cs) (q ∷ qs) h = ap suc (paired_length t cs qs h.1)

all_paired : (t : Costs) (globals : List Shape) (above funcs : List Func) (cs : List Copy) (qs : List Part) → AllPaired t cs qs → WellFormedFuncs globals above funcs → AllPaired t (copies cs funcs) (function_parts t qs funcs)
all_paired t globals above [] cs qs h formed = h
all_paired t globals above (f ∷ funcs) cs qs h formed =
    let k = length cs in
    let c : Context = record { layout = record { locals = local_shapes f.locals; globals = globals }; above = above; result = f.result } in
    let is = function_drawn t k f c cs qs (paired_sizes t cs qs h) (paired_at t cs qs h) (formed.0).body in
    let same : IsDrawn t (copy_of k f cs) (func_part t (length qs) f qs) = subst (λ i. IsDrawn t (copy_of k f cs) (func_part t i f qs)) (paired_length t cs qs h) is in
    all_paired t globals (above ++ f ∷ []) funcs (cs ++ copy_of k f cs ∷ []) (qs ++ func_part t (length qs) f qs ∷ []) (paired_more t cs qs (copy_of k f cs) (func_part t (length qs) f qs) h same) formed.1

-- ---- the whole

is_there : (cs : List Copy) (i : ℕ) → slice_get cs i ≡ None → i < length cs → ⊥
is_there [] i h lt = omega (arith, lt)
is_there (c ∷ cs) zero h lt = absurd (cc)
is_there (c ∷ cs) (suc i) h lt = is_there cs i h (omega (arith, lt))

costs_map : (t : Costs) (g : List Site) (es : List Edge) → costs_of_edges t g es ≡ map (λ e. cost_of_site t (slice_get g e.from)) es
costs_map t g [] = refl
costs_map t g (e ∷ es) = ap (λ cs. cost_of_site t (slice_get g e.from) ∷ cs) (costs_map t g es)

sites_agree : (t : Costs) (f : ℕ → ℕ) (n : ℕ) (ys : List Site) → ((i : ℕ) → f (n + i) ≡ cost_of_site t (slice_get ys i)) → Agrees f n (site_costs t ys)
sites_agree t f n [] h = tt
sites_agree t f n (y ∷ ys) h =
    let z : n + 0 ≡ n = omega arith in
    (ap f (sym z) ∙ h 0, sites_agree t f (n + 1) ys (λ i. ap f (later i) ∙ h (suc i)))
  where
    later : (i : ℕ) → n + 1 + i ≡ n + suc i
    later i = omega arith

caps_agree : (f : ℕ → ℕ) (n : ℕ) (ys : List Site) → ((i : ℕ) → f (n + i) ≡ cap_of (slice_get ys i)) → Agrees f n (site_caps ys)
caps_agree f n [] h = tt
caps_agree f n (y ∷ ys) h =
    let z : n + 0 ≡ n = omega arith in
    (ap f (sym z) ∙ h 0, caps_agree f (n + 1) ys (λ i. ap f (later i) ∙ h (suc i)))
  where
    later : (i : ℕ) → n + 1 + i ≡ n + suc i
    later i = omega arith

whole_shaped : (t : Costs) (c : Copy) (q : Part) → IsDrawn t c q → AllTested 0 (sites_of (Some c)) → Shaped t (sites_of (Some c)) (Body q)
unfolding edges
whole_shaped t c q h tested =
    let ys = c.sites [] 1 2 1 in
    let g = sites_of (Some c) in
    let d = h.draws [] 1 2 1 in
    let rest : edges_from 2 ys ≡ part_edges (Body q) 2 (all_to 1) = d.edges in
    let edges_are : edges g ≡ entry_edge (Body q) ∷ part_edges (Body q) 2 (all_to 1) = λ i. leaves 0 Next (head (h.size_is i) 2 1) ∷ rest i in
    let cost : ℕ → ℕ = λ v. cost_of_site t (slice_get g v) in
    let cap : ℕ → ℕ = λ v. cap_of (slice_get g v) in
    let agree : Agrees cost 2 (node_costs q) = subst (Agrees cost 2) d.costs (sites_agree t cost 2 ys (λ i. ap cost (two i))) in
    record {
      edges_are = edges_are;
      loops_are = d.loops;
      nodes = omega (arith, d.nodes);
      costs_are = costs_map t g (edges g) ∙ ap (map (λ e. cost e.from)) edges_are ∙ ap (λ cs. 0 ∷ cs) (edge_costs_are (Body q) 2 (all_to 1) cost agree);
      tested = tested;
      costs_agree = agree;
      caps_agree = subst (Agrees cap 2) d.caps (caps_agree cap 2 ys (λ i. ap cap (two i)));
    }
  where
    two : (i : ℕ) → 2 + i ≡ suc (suc i)
    two i = omega arith

entry_shaped : (t : Costs) (o : Option Copy) (q : Option Part) → Paired t o q → (o ≡ None → ⊥) → AllTested 0 (sites_of o) → Shaped t (sites_of o) (Body (unwrap_or q Nothing))
entry_shaped t None q h some tested = absurd (some refl)
entry_shaped t (Some c) None h some tested = absurd h
entry_shaped t (Some c) (Some q) h some tested = whole_shaped t c q h tested

pub program_shaped : (p : Program) (t : Costs) → WellFormed p → Shaped t (graph p) (program_part p t)
unfolding graph entry_part
program_shaped p t h =
    let cs = copies [] p.funcs in
    let qs = function_parts t [] p.funcs in
    let all = all_paired t (global_shapes p.globals) [] p.funcs [] [] tt h.funcs in
    let long : p.entry < length cs = omega (arith, h.entry, many_copies [] p.funcs) in
    entry_shaped t (slice_get cs p.entry) (slice_get qs p.entry) (paired_at t cs qs all p.entry) (λ none. is_there cs p.entry none long) (graph_turned p)
