-- What a copy of a block weighs, by its block.
use Rattle.std.proofs.Common.{◌≡◌, ◌<◌, ℕ, zero, suc, ◌+◌, Bool, true, false, if◌then◌else◌, nat_lt, List, [], ◌∷◌, Some, None, Ok, Err, refl, sym, ap, ◌∙◌, arith}
use Rattle.std.specs.Prelude.{slice_get}
use Rattle.std.proofs.lemmas.Bool.{ltb-true}
use Rattle.c_tree.specs.declared.tree.Expr.{Expr}
use Rattle.c_tree.specs.declared.tree.Stmt.{Stmt}
use Rattle.c_tree.specs.declared.tree.Target.{Target}
use Rattle.c_tree.specs.declared.program.Local.{Local}
use Rattle.c_tree.specs.declared.program.Global.{Global}
use Rattle.c_tree.specs.declared.program.Func.{Func}
use Rattle.c_tree.specs.declared.program.BlockName.{BlockName}
use Rattle.c_tree.specs.declared.program.Program.{Program}
use Rattle.flow_laws.specs.declared.graph.Node.{Node}
use Rattle.flow_laws.specs.declared.graph.Edge.{Edge}
use Rattle.flow_laws.specs.Sites.{Content, Entry, Exit, Simple, Test, Jump, Give, Enter, Missing, Land, Site}
use Rattle.flow_laws.specs.Graphs.{graph, nodes, edges}
use Rattle.flow_laws.specs.BlockLists.{Block, Run, Asks, Jumps, Gives, Calls, block_at, blocks_in, blocks_of_list, blocks_of_body, plain, block_content, call_content}
use Rattle.flow_laws.proofs.Graphs.FoundBlocks.{blocks_found}
use Rattle.cond_laws.specs.Weights.{list_weight, content_weight, block_weight, site_weight, edge_weight, locals_of}
use Rattle.path_weight.specs.declared.blocks.Found.{Found}
use Rattle.path_weight.specs.Capped.{capped_weight}
use Rattle.path_weight.specs.Sought.{block_part, sought, copy_weight}
use Rattle.node_contents.proofs.Telling.{site_of}

-- ---- along the blocks of a function

found_at : (w : Block → ℕ) (bs : List Block) (n : ℕ) (f : Found) → sought w bs n ≡ Err f → (b : Block) × (slice_get bs n ≡ Some b) × (f.weight ≡ capped_weight (w b))
found_at w [] n f h = absurd (cc)
found_at w (b ∷ bs) zero f h =
    let same : record { weight = capped_weight (w b) } ≡ f = cc in
    (b, refl, ap (λ (x : Found). x.weight) (sym same))
found_at w (b ∷ bs) (suc n) f h = found_at w bs n f h

passed_at : (w : Block → ℕ) (bs : List Block) (n m : ℕ) → sought w bs n ≡ Ok m → slice_get bs n ≡ None
passed_at w [] n m h = refl
passed_at w (b ∷ bs) zero m h = absurd (cc)
passed_at w (b ∷ bs) (suc n) m h = passed_at w bs n m h

-- ---- what a copy weighs

some_func : (fs : List Func) (g k : ℕ) (f : Func) → slice_get fs k ≡ Some f → g < k → (h : Func) × (slice_get fs g ≡ Some h)
some_func [] g k f is lt = let none : None ≡ Some f = is in absurd (cc)
some_func (x ∷ fs) zero k f is lt = (x, refl)
some_func (x ∷ fs) (suc g) zero f is lt = absurd (omega (arith, lt))
some_func (x ∷ fs) (suc g) (suc k) f is lt = some_func fs g k f is (omega (arith, lt))

call_part : (p : Program) (ls : List Local) (k g : ℕ) (f : Func) (t : Target) (es : List Expr) (c : Bool) → slice_get p.funcs k ≡ Some f → nat_lt g k ≡ c → content_weight ls p.globals (if c then call_content (slice_get p.funcs g) t es else Missing) ≡ (if c then list_weight ls p.globals es else 0)
call_part p ls k g f t es false is lt = refl
call_part p ls k g f t es true is lt = let above = some_func p.funcs g k f is (ltb-true g k lt) in ap (λ o. content_weight ls p.globals (call_content o t es)) above.1

part_is : (p : Program) (ls : List Local) (k : ℕ) (f : Func) (b : Block) → slice_get p.funcs k ≡ Some f → content_weight ls p.globals (block_content p k (Some b)) ≡ block_part ls p.globals k b
part_is p ls k f (Run ss) is = refl
part_is p ls k f (Asks e) is = refl
part_is p ls k f Jumps is = refl
part_is p ls k f (Gives e) is = refl
part_is p ls k f (Calls t g es) is = call_part p ls k g f t es (nat_lt g k) is refl

-- the block that was found
copy_found : (p : Program) (k n : ℕ) (f : Func) (d : Found) → slice_get p.funcs k ≡ Some f → sought (block_part f.locals p.globals k) (blocks_of_body f) n ≡ Err d → d.weight ≡ capped_weight (copy_weight p k (block_at p (record { func = k; number = n })))
copy_found p k n f d is h =
    let w = block_part f.locals p.globals k in
    let at = found_at w (blocks_of_body f) n d h in
    at.2 ∙ ap capped_weight (sym (part_is p f.locals k f at.0 is)) ∙ ap (λ o. capped_weight (content_weight (locals_of o) p.globals (block_content p k (Some at.0)))) (sym is) ∙ ap (λ o. capped_weight (copy_weight p k o)) (sym (ap (λ o. slice_get (blocks_in o) n) is ∙ at.1))

pub copy_found_in : (p : Program) (k n : ℕ) (f : Func) (ls : List Local) (gs : List Global) (ss : List Stmt) (d : Found) → slice_get p.funcs k ≡ Some f → ls ≡ f.locals → gs ≡ p.globals → ss ≡ f.body
    → sought (block_part ls gs k) (blocks_of_list [] ss) n ≡ Err d → d.weight ≡ capped_weight (copy_weight p k (block_at p (record { func = k; number = n })))
copy_found_in p k n f ls gs ss d is hl hg hs h = copy_found p k n f d is (sym (λ i. sought (block_part (hl i) (hg i) k) (blocks_of_list [] (hs i)) n) ∙ h)

-- no block of this number
copy_passed : (p : Program) (k n m : ℕ) (f : Func) → slice_get p.funcs k ≡ Some f → sought (block_part f.locals p.globals k) (blocks_of_body f) n ≡ Ok m → 0 ≡ capped_weight (copy_weight p k (block_at p (record { func = k; number = n })))
copy_passed p k n m f is h =
    let none : slice_get (blocks_of_body f) n ≡ None = passed_at (block_part f.locals p.globals k) (blocks_of_body f) n m h in
    ap (λ o. capped_weight (copy_weight p k o)) (sym (ap (λ o. slice_get (blocks_in o) n) is ∙ none))

pub copy_passed_in : (p : Program) (k n m : ℕ) (f : Func) (ls : List Local) (gs : List Global) (ss : List Stmt) → slice_get p.funcs k ≡ Some f → ls ≡ f.locals → gs ≡ p.globals → ss ≡ f.body
    → sought (block_part ls gs k) (blocks_of_list [] ss) n ≡ Ok m → 0 ≡ capped_weight (copy_weight p k (block_at p (record { func = k; number = n })))
copy_passed_in p k n m f ls gs ss is hl hg hs h = copy_passed p k n m f is (sym (λ i. sought (block_part (hl i) (hg i) k) (blocks_of_list [] (hs i)) n) ∙ h)

-- ---- what an edge weighs

plain_weight : (ls : List Local) (gs : List Global) (c : Content) → content_weight ls gs (plain c) ≡ content_weight ls gs c
plain_weight ls gs Entry = refl
plain_weight ls gs Exit = refl
plain_weight ls gs (Simple ss) = refl
plain_weight ls gs (Test l e) = refl
plain_weight ls gs Jump = refl
plain_weight ls gs (Give e) = refl
plain_weight ls gs (Enter t xs es) = refl
plain_weight ls gs Missing = refl
plain_weight ls gs (Land t ty b) = refl

record SiteOf (g : List Site) (n : ℕ) (nd : Node) : Type 0 where
  site : Site
  is : slice_get g n ≡ Some site
  node_is : site.node ≡ nd

pub edge_named : (p q : Program) (j : ℕ) (e : Edge) (nd : Node) (b : BlockName) → q ≡ p → slice_get (edges (graph p)) j ≡ Some e → slice_get (nodes (graph p)) e.from ≡ Some nd → nd.block ≡ Some b
    → edge_weight p (slice_get (edges (graph p)) j) ≡ 16 + copy_weight q b.func (block_at q b)
edge_named p q j e nd b same is h has =
    let r = site_of (graph p) e.from nd h in
    let named : r.site.node.block ≡ Some b = ap (λ (y : Node). y.block) r.node_is ∙ has in
    let found = blocks_found p e.from r.site b.func b.number r.is named in
    let ls = locals_of (slice_get p.funcs b.func) in
    ap (edge_weight p) is ∙ ap (λ o. 16 + site_weight p o) r.is ∙ ap (λ o. 16 + block_weight p o r.site.content) named ∙ ap (λ n. 16 + n) (sym (plain_weight ls p.globals r.site.content) ∙ ap (content_weight ls p.globals) found.2) ∙ ap (λ o. 16 + copy_weight p b.func o) (sym found.1) ∙ ap (λ y. 16 + copy_weight y b.func (block_at y b)) (sym same)
