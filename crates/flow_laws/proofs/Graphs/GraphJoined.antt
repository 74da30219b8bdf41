-- Joining the open ends of a program gives the edges of its graph.
use Rattle.std.proofs.Common.{◌≡◌, ℕ, zero, suc, ◌+◌, Bool, false, List, [], ◌∷◌, ◌++◌, length, Option, Some, None, refl, sym, ap, ◌∙◌, subst, arith}
use Rattle.std.specs.Prelude.{slice_get}
use Rattle.c_tree.specs.declared.program.BlockName.{BlockName}
use Rattle.c_tree.specs.declared.program.Func.{Func}
use Rattle.c_tree.specs.declared.program.Program.{Program}
use Rattle.c_tree.specs.declared.tree.Stmt.{Stmt}
use Rattle.c_tree.specs.declared.tree.Stmt.TheBlock.{shape-the_row-Stmt-0, hidden-the_row-Stmt-0}
use denote.Hole.Carrier.{hidden}
use Rattle.c_tree.specs.Meaning.Blocks.{is_simple}
use Rattle.c_tree.specs.Keeping.Layouts.{Shape, local_shapes, global_shapes}
use Rattle.c_tree.specs.Keeping.WellFormed.{Context, WellFormedStmt, WellFormedRow, WellFormedHeld, WellFormedSole, WellFormedList, WellFormedFuncs, WellFormed}
use Rattle.flow_laws.specs.declared.graph.Way.TheVariants.{Next}
use Rattle.flow_laws.specs.declared.graph.Edge.{Edge}
use Rattle.flow_laws.specs.Sites.{Position, Copy, site_count}
use Rattle.flow_laws.specs.Graphs.{all_to, copy_of, copies, sites_of, graph, edges_from, edges}
use Rattle.flow_laws.specs.Paths.{times}
use Rattle.flow_laws.specs.OpenEnds.{End, Piece, end_at, join, piece_pair, Opened, opened_stmt, row_opened, list_opened, all_opened, joined_whole, joined_edges}
use Rattle.flow_laws.proofs.Graphs.PartSizes.{HaveSizes}
use Rattle.flow_laws.proofs.Runs.CopiesSound.{row_sizes, row_flows, list_length}
use Rattle.flow_laws.proofs.Graphs.EndsJoined.{tally, tally_times, tally_append, tally_join, Shuts, NoJumps, IsJoined, Paired, ArePaired, row_no_jumps, row_shuts}

-- ---- a function's list

pub row_formed : (c : Context) (looped : Bool) (xs : List Stmt) → WellFormedList c looped xs → WellFormedRow c looped (hidden-the_row-Stmt-0 xs)
unfolding WellFormedStmt WellFormedRow WellFormedHeld WellFormedSole shape-the_row-Stmt-0 hidden-the_row-Stmt-0 hidden
row_formed c looped [] h = tt
row_formed c looped (x ∷ xs) h = (h.0, row_formed c looped xs h.1)

rows_opened : (cs : List Copy) (fs : List Opened) (xs : List Stmt) (run : Bool) (n : ℕ) (ins : List End) → row_opened cs fs (hidden-the_row-Stmt-0 xs) run n ins ≡ list_opened cs fs xs run n ins
unfolding opened_stmt row_opened shape-the_row-Stmt-0 hidden-the_row-Stmt-0 hidden
rows_opened cs fs [] run n ins = refl
rows_opened cs fs (x ∷ xs) run n ins =
    let first : Piece = opened_stmt cs fs x run n ins in
    ap (piece_pair first) (rows_opened cs fs xs (is_simple x) (n + site_count cs x run) first.next)

abbrev placed : ℕ → List BlockName → ℕ → Position
placed k chain scale = record { func = k; chain = chain; scale = scale }

function_joined : (k : ℕ) (f : Func) (c : Context) (cs : List Copy) (fs : List Opened) → HaveSizes cs → ArePaired cs fs → WellFormedList c false f.body → IsJoined (copy_of k f cs) (list_opened cs fs f.body false)
function_joined k f c cs fs sizes paired h =
    let r = hidden-the_row-Stmt-0 f.body in
    let formed = row_formed c false f.body h in
    record {
      size_is = λ chain s n l. list_length cs (placed k chain s) f.body n (all_to l) sizes;
      no_jumps = λ n ins. subst NoJumps (rows_opened cs fs f.body false n ins) (row_no_jumps cs fs c r false n ins formed);
      shuts = λ p chain s n l ins. let w = placed k chain s in let is = row_shuts p cs fs c sizes paired w false r 0 n [] (all_to l) ins formed in let ro = rows_opened cs fs f.body false n ins in let rz = row_sizes cs f.body false in let rf = row_flows cs w f.body 0 n [] (all_to l) in subst (λ y. y) (λ i. Shuts p (ro i) (all_to l) ins (rz i) n (rf i)) is;
    }

-- ---- all functions

abbrev AllPaired : List Copy → List Opened → Type 0
AllPaired [] [] = Unit {0}
AllPaired (c ∷ cs) (f ∷ fs) = IsJoined c f × AllPaired cs fs
AllPaired _ _ = ⊥

paired_at : (cs : List Copy) (fs : List Opened) → AllPaired cs fs → ArePaired cs fs
paired_at [] [] h g = tt
paired_at [] (f ∷ fs) h g = absurd h
paired_at (c ∷ cs) [] h g = absurd h
paired_at (c ∷ cs) (f ∷ fs) h zero = h.0
paired_at (c ∷ cs) (f ∷ fs) h (suc g) = paired_at cs fs h.1 g

paired_sizes : (cs : List Copy) (fs : List Opened) → AllPaired cs fs → HaveSizes cs
paired_sizes [] fs h g c e = absurd (cc)
paired_sizes (d ∷ cs) [] h g c e = absurd h
paired_sizes (d ∷ cs) (f ∷ fs) h zero c e = let p : d ≡ c = cc in (subst (λ y. IsJoined y f) p h.0).size_is
paired_sizes (d ∷ cs) (f ∷ fs) h (suc g) c e = paired_sizes cs fs h.1 g c e

paired_more : (cs : List Copy) (fs : List Opened) (c : Copy) (f : Opened) → AllPaired cs fs → IsJoined c f → AllPaired (cs ++ c ∷ []) (fs ++ f ∷ [])
paired_more [] [] c f h is = (is, tt)
paired_more [] (g ∷ fs) c f h is = absurd h
paired_more (d ∷ cs) [] c f h is = absurd h
paired_more (d ∷ cs) (g ∷ fs) c f h is = (h.0, paired_more cs fs c f h.1 is)

all_paired : (globals : List Shape) (above funcs : List Func) (cs : List Copy) (fs : List Opened) → AllPaired cs fs → WellFormedFuncs globals above funcs → AllPaired (copies cs funcs) (all_opened cs fs funcs)
all_paired globals above [] cs fs h formed = h
all_paired globals above (f ∷ funcs) cs fs h formed =
    let k = length cs in
    let c : Context = record { layout = record { locals = local_shapes f.locals; globals = globals }; above = above; result = f.result } in
    let is = function_joined k f c cs fs (paired_sizes cs fs h) (paired_at cs fs h) (formed.0).body in
    all_paired globals (above ++ f ∷ []) funcs (cs ++ copy_of k f cs ∷ []) (fs ++ list_opened cs fs f.body false ∷ []) (paired_more cs fs (copy_of k f cs) (list_opened cs fs f.body false) h is) formed.1

-- ---- the whole

whole_joined : (p : Edge → Bool) (o : Option Copy) (q : Option Opened) → Paired o q → tally p (joined_whole q) ≡ tally p (edges_from 0 (sites_of o))
whole_joined p None None h = refl
whole_joined p None (Some f) h = absurd h
whole_joined p (Some c) None h = absurd h
whole_joined p (Some c) (Some f) h =
    let ins = end_at 0 Next ∷ [] in
    let a : Piece = f 2 ins in
    let jumps = h.no_jumps 2 ins in
    let b1 = ap (λ y. tally p (join y 1)) jumps.breaks in
    let b2 = ap (λ y. tally p (join y 1)) jumps.continues in
    let a1 = tally_append p a.edges (join (a.next ++ a.returns) 1) in
    let a2 = tally_join p a.next a.returns 1 in
    omega (arith, h.shuts p [] 1 2 1 ins, b1, b2, a1, a2)

pub same_edges : (g : Program) → WellFormed g → (p : Edge → Bool) → times p (joined_edges g) ≡ times p (edges (graph g))
unfolding graph edges joined_edges
same_edges g h p =
    let cs = copies [] g.funcs in
    let fs = all_opened [] [] g.funcs in
    let all = all_paired (global_shapes g.globals) [] g.funcs [] [] tt h.funcs in
    let o = slice_get cs g.entry in
    let q = slice_get fs g.entry in
    sym (tally_times p (joined_whole q)) ∙ whole_joined p o q (paired_at cs fs all g.entry) ∙ tally_times p (edges_from 0 (sites_of o))
