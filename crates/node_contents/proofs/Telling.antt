-- What is told of a node's block, or of its call's, is what the node does.
use Rattle.std.proofs.Common.{◌≡◌, ◌<◌, ℕ, zero, suc, List, [], ◌∷◌, length, Option, Some, None, refl, sym, ap, ◌∙◌}
use Rattle.std.specs.Prelude.{slice_get}
use Rattle.c_tree.specs.declared.program.BlockName.{BlockName}
use Rattle.c_tree.specs.declared.program.Program.{Program}
use Rattle.flow_laws.specs.declared.graph.Node.{Node}
use Rattle.flow_laws.specs.Sites.{Content, Site, call_of}
use Rattle.flow_laws.specs.Graphs.{graph, nodes}
use Rattle.flow_laws.specs.BlockLists.{Block, Run, Asks, Jumps, Gives, Calls, block_at, plain, block_content, landing_at_block, landing_content, bare_content}
use Rattle.flow_laws.proofs.Graphs.FoundBlocks.{blocks_found, bare_found}
use Rattle.flow_graph.specs.Landings.{calls}
use Rattle.node_contents.specs.Contents.{contents}

pub record SiteOf (g : List Site) (n : ℕ) (nd : Node) : Type 0 where
  pub site : Site
  pub is : slice_get g n ≡ Some site
  pub node_is : site.node ≡ nd

pub site_of : (g : List Site) (n : ℕ) (nd : Node) → slice_get (nodes g) n ≡ Some nd → SiteOf g n nd
site_of [] n nd h = absurd (cc)
site_of (s ∷ g) zero nd h = let same : s.node ≡ nd = cc in record { site = s; is = refl; node_is = same }
site_of (s ∷ g) (suc n) nd h = let r = site_of g n nd h in record { site = r.site; is = r.is; node_is = r.node_is }

content_at : (g : List Site) (n : ℕ) (s : Site) → slice_get g n ≡ Some s → slice_get (contents g) n ≡ Some (plain s.content)
content_at [] n s h = absurd (cc)
content_at (x ∷ g) zero s h = let same : x ≡ s = cc in ap (λ (y : Site). Some (plain y.content)) same
content_at (x ∷ g) (suc n) s h = content_at g n s h

call_is : (g : List Site) (n : ℕ) (s : Site) → slice_get g n ≡ Some s → slice_get (calls g) n ≡ Some (call_of s.content)
call_is [] n s h = absurd (cc)
call_is (x ∷ g) zero s h = let same : x ≡ s = cc in ap (λ (y : Site). Some (call_of y.content)) same
call_is (x ∷ g) (suc n) s h = call_is g n s h

pub named_content : (p : Program) (n : ℕ) (nd : Node) (b : BlockName) (x : Content) → slice_get (nodes (graph p)) n ≡ Some nd → nd.block ≡ Some b → x ≡ block_content p b.func (block_at p b) → slice_get (contents (graph p)) n ≡ Some x
named_content p n nd b x h is does =
    let r = site_of (graph p) n nd h in
    let found = blocks_found p n r.site b.func b.number r.is (ap (λ (y : Node). y.block) r.node_is ∙ is) in
    content_at (graph p) n r.site r.is ∙ ap Some (found.2 ∙ ap (block_content p b.func) (sym found.1) ∙ sym does)

-- a landing has no condition, and nor has what is no copy of a block
landed_plain : (p : Program) (b : BlockName) (o : Option Block) → plain (landing_at_block p b o) ≡ landing_at_block p b o
landed_plain p b None = refl
landed_plain p b (Some (Run ss)) = refl
landed_plain p b (Some (Asks e)) = refl
landed_plain p b (Some Jumps) = refl
landed_plain p b (Some (Gives e)) = refl
landed_plain p b (Some (Calls t g es)) = refl

landing_plain : (p : Program) (c : Option BlockName) → plain (landing_content p c) ≡ landing_content p c
landing_plain p None = refl
landing_plain p (Some b) = landed_plain p b (block_at p b)

bare_plain : (p : Program) (n : ℕ) (c : Option BlockName) → plain (bare_content p n c) ≡ bare_content p n c
bare_plain p zero c = refl
bare_plain p (suc zero) c = refl
bare_plain p (suc (suc n)) c = landing_plain p c

pub bare_node : (p : Program) (n : ℕ) (nd : Node) (x : Content) → p.entry < length p.funcs → slice_get (nodes (graph p)) n ≡ Some nd → nd.block ≡ None → ((call : Option BlockName) → slice_get (calls (graph p)) n ≡ Some call → x ≡ bare_content p n call) → slice_get (contents (graph p)) n ≡ Some x
bare_node p n nd x within h is does =
    let r = site_of (graph p) n nd h in
    let found = bare_found p n r.site within r.is (ap (λ (y : Node). y.block) r.node_is ∙ is) in
    content_at (graph p) n r.site r.is ∙ ap Some (ap plain found ∙ bare_plain p n (call_of r.site.content) ∙ sym (does (call_of r.site.content) (call_is (graph p) n r.site r.is)))
