-- The code of nodes, edges and lists of edges runs their scripts.
use Rattle.std.proofs.Common.{Bor, Result, ◌≡◌, ◌<◌, ◌+◌, ℕ, zero, suc, true, false, if◌then◌else◌, List, [], ◌∷◌, ◌++◌, length, drop, get_or, Option, Some, None, refl, sym, ap, ◌∙◌, subst, arith, append_assoc}
use Rattle.std.specs.Prelude.{slice_get, is_some, ◌==◌}
use Rattle.std.specs.Result.{IfOk}
use Rattle.std.proofs.lemmas.Bool.{false≢true}
use Rattle.std.proofs.lemmas.Option.{slice_get_within}
use Rattle.c_tree.specs.declared.tree.Expr.{Expr}
use Rattle.c_tree.specs.declared.tree.Stmt.{Stmt}
use Rattle.c_tree.specs.declared.program.Program.{Program}
use Rattle.c_tree.specs.Keeping.WellFormed.{WellFormed}
use Rattle.flow_laws.specs.declared.graph.Edge.{Edge}
use Rattle.flow_laws.specs.declared.graph.Way.{Way}
use Rattle.flow_laws.specs.declared.graph.Way.TheVariants.{Next, True, False}
use Rattle.flow_laws.specs.Sites.{Content, Entry, Exit, Simple, Test, Jump, Give, Enter, Missing, Land, Site}
use Rattle.flow_laws.specs.Graphs.{graph, edges}
use Rattle.flow_laws.specs.Paths.{end_node, end_node_on, follows}
use Rattle.flow_laws.specs.BlockLists.{plain}
use Rattle.flow_laws.proofs.Graphs.EndsLead.{edges_join}
use Rattle.bv_term.specs.declared.op.Op.TheVariants as op
use Rattle.bv_term.specs.Stores.{Terms}
use Rattle.bv_term.specs.Scripts.{Script, Done, put, ◌>>=◌}
use Rattle.cond_laws.specs.declared.value.Judged.{Judged}
use Rattle.cond_laws.specs.Fits.{Below, FitEffect, FitJudged, FitMemory}
use Rattle.cond_laws.specs.Sizes.{IsSmallContent}
use Rattle.cond_laws.specs.TermExpressions.{expr_term}
use Rattle.cond_laws.specs.TermStatements.{Effect, effect_with, nowhere, simple_effects}
use Rattle.cond_laws.specs.declared.store.TermStore.{TermStore}
use Rattle.cond_laws.specs.TermPaths as spec
use Rattle.cond_laws.specs.TermPaths.{TermMemory, term_memory}
use Rattle.cond_laws.proofs.Fitting.OperandFits.{below_more, below_append}
use Rattle.cond_laws.proofs.Fitting.PathFits.{small_content, memory_more}
use Rattle.cond_laws.proofs.Paths.PlainGraphs.{graph_plain}
use Rattle.node_contents.specs.declared.block.Content as node
use Rattle.node_contents.specs.declared.block.Content.TheVariants as lent
use Rattle.node_contents.specs.Contents.{content_of, contents}
use Rattle.term_steps.specs.Gives.{Gives}
use Rattle.term_steps.proofs.Runs.{Rest, rest_next, rest_joined, gives_then, gives_done}
use Rattle.term_steps.proofs.ExpressionRuns.{mapped}
use Rattle.path_cond.specs.Memories.{FitMove}
use Rattle.path_cond.proofs.CallRuns.{memory_with}

-- ---- conditions

holding : {old new : Terms} {j : Judged} (e : Expr) (m : TermMemory) (cs : List ℕ) → FitMemory (length old.ops) m → Gives FitJudged (expr_term e m.store) old new j → cs ≡ j.conditions ++ j.term ∷ [] → Gives FitMove (spec.content_effect (Test None e) True m) old new (effect_with m cs)
holding {old} {new} {j} e m cs h g is =
    let fits : FitMove (length new.ops) (effect_with m (j.conditions ++ j.term ∷ [])) = record { now = memory_more (length old.ops) (length new.ops) m g.grows h; conditions = below_append (length new.ops) j.conditions (j.term ∷ []) g.fits.conditions (g.fits.term, tt) } in
    subst (λ cs. Gives FitMove (spec.content_effect (Test None e) True m) old new (effect_with m cs)) (sym is) (gives_done FitMove (λ (j : Judged). effect_with m (j.conditions ++ j.term ∷ [])) g fits)

failing : {old mid far new : Terms} {j : Judged} {z c : ℕ} (e : Expr) (m : TermMemory) (cs : List ℕ) → FitMemory (length old.ops) m → Gives FitJudged (expr_term e m.store) old mid j → Gives Below (put (op.Const 0)) mid far z → Gives Below (put (op.Eq j.term z)) far new c → cs ≡ j.conditions ++ c ∷ [] → Gives FitMove (spec.content_effect (Test None e) False m) old new (effect_with m cs)
failing {old} {mid} {far} {new} {j} {z} {c} e m cs h g nought test is =
    let fits : FitMove (length new.ops) (effect_with m (j.conditions ++ c ∷ [])) = record { now = memory_more (length old.ops) (length new.ops) m (omega (arith, g.grows, nought.grows, test.grows)) h; conditions = below_append (length new.ops) j.conditions (c ∷ []) (below_more (length mid.ops) (length new.ops) j.conditions (omega (arith, nought.grows, test.grows)) g.fits.conditions) (test.fits, tt) } in
    subst (λ cs. Gives FitMove (spec.content_effect (Test None e) False m) old new (effect_with m cs)) (sym is) (gives_then (λ (j : Judged). put (op.Const 0) >>= (λ z. put (op.Eq j.term z) >>= (λ c. Done (effect_with m (j.conditions ++ c ∷ []))))) g (gives_then (λ z. put (op.Eq j.term z) >>= (λ c. Done (effect_with m (j.conditions ++ c ∷ [])))) nought (gives_done FitMove (λ c. effect_with m (j.conditions ++ c ∷ [])) test fits)))

-- the same, of what is lent
pub held_true : {old new : Terms} {j : Judged} (c : node.Content) (e : Bor Expr) (m : TermMemory) (cs : List ℕ) → c ≡ lent.Test e → FitMemory (length old.ops) m → Gives FitJudged (expr_term e.now m.store) old new j → cs ≡ j.conditions ++ j.term ∷ [] → Gives FitMove (spec.content_effect (content_of c) True m) old new (effect_with m cs)
held_true {old} {new} c e m cs is h g end =
    subst (λ c. Gives FitMove (spec.content_effect (content_of c) True m) old new (effect_with m cs)) (sym is) (holding e.now m cs h g end)

pub held_false : {old mid far new : Terms} {j : Judged} {z t : ℕ} (c : node.Content) (e : Bor Expr) (m : TermMemory) (cs : List ℕ) → c ≡ lent.Test e → FitMemory (length old.ops) m → Gives FitJudged (expr_term e.now m.store) old mid j → Gives Below (put (op.Const 0)) mid far z → Gives Below (put (op.Eq j.term z)) far new t → cs ≡ j.conditions ++ t ∷ [] → Gives FitMove (spec.content_effect (content_of c) False m) old new (effect_with m cs)
held_false {old} {mid} {far} {new} c e m cs is h g nought test end =
    subst (λ c. Gives FitMove (spec.content_effect (content_of c) False m) old new (effect_with m cs)) (sym is) (failing e.now m cs h g nought test end)

-- what is no condition has no such end
gives_by_true : (e : Option Expr) (m : TermMemory) → spec.content_effect (Give e) True m ≡ nowhere m
gives_by_true None m = refl
gives_by_true (Some e) m = refl

gives_by_false : (e : Option Expr) (m : TermMemory) → spec.content_effect (Give e) False m ≡ nowhere m
gives_by_false None m = refl
gives_by_false (Some e) m = refl

pub no_test_true : (c : node.Content) (m : TermMemory) → ((e : Bor Expr) → c ≡ lent.Test e → ⊥) → spec.content_effect (content_of c) True m ≡ nowhere m
no_test_true lent.Entry m h = refl
no_test_true lent.Exit m h = refl
no_test_true (lent.Simple ss) m h = refl
no_test_true (lent.Test e) m h = absurd (h e refl)
no_test_true lent.Jump m h = refl
no_test_true (lent.Give e) m h = gives_by_true e.now m
no_test_true (lent.Enter t ls es) m h = refl
no_test_true lent.Missing m h = refl
no_test_true (lent.Land t ty b) m h = refl

pub no_test_false : (c : node.Content) (m : TermMemory) → ((e : Bor Expr) → c ≡ lent.Test e → ⊥) → spec.content_effect (content_of c) False m ≡ nowhere m
no_test_false lent.Entry m h = refl
no_test_false lent.Exit m h = refl
no_test_false (lent.Simple ss) m h = refl
no_test_false (lent.Test e) m h = absurd (h e refl)
no_test_false lent.Jump m h = refl
no_test_false (lent.Give e) m h = gives_by_false e.now m
no_test_false (lent.Enter t ls es) m h = refl
no_test_false lent.Missing m h = refl
no_test_false (lent.Land t ty b) m h = refl

-- ---- nodes that are left by their one end

pub simple_run : {old new : Terms} {s : TermStore} {cs : List ℕ} (c : node.Content) (ss : Bor (List Stmt)) (m : TermMemory) → c ≡ lent.Simple ss → FitMemory (length old.ops) m → Gives FitEffect (simple_effects ss.now m.store) old new (effect_with s cs) → Gives FitMove (spec.content_effect (content_of c) Next m) old new (effect_with (term_memory s m.frames m.result) cs)
simple_run {old} {new} {s} {cs} c ss m is h g =
    let fits : FitMove (length new.ops) (effect_with (term_memory s m.frames m.result) cs) = record { now = memory_with (length old.ops) (length new.ops) m s g.grows h g.fits.now; conditions = g.fits.conditions } in
    subst (λ c. Gives FitMove (spec.content_effect (content_of c) Next m) old new (effect_with (term_memory s m.frames m.result) cs)) (sym is) (gives_done FitMove (λ (e : Effect TermStore). spec.with_store m e) g fits)

gave : {old new : Terms} {j : Judged} (e : Expr) (m : TermMemory) → FitMemory (length old.ops) m → Gives FitJudged (expr_term e m.store) old new j → Gives FitMove (spec.content_effect (Give (Some e)) Next m) old new (effect_with (term_memory m.store m.frames (Some (record { ty = j.ty; term = j.term }))) j.conditions)
gave {old} {new} {j} e m h g =
    let more = memory_more (length old.ops) (length new.ops) m g.grows h in
    let fits : FitMove (length new.ops) (effect_with (term_memory m.store m.frames (Some (record { ty = j.ty; term = j.term }))) j.conditions) = record { now = record { store = more.store; frames = more.frames; result = g.fits.term }; conditions = g.fits.conditions } in
    gives_done FitMove (λ (j : Judged). effect_with (term_memory m.store m.frames (Some (record { ty = j.ty; term = j.term }))) j.conditions) g fits

pub gave_some : {old new : Terms} {j : Judged} (o : Option Expr) (e : Expr) (m : TermMemory) → o ≡ Some e → FitMemory (length old.ops) m → Gives FitJudged (expr_term e m.store) old new j → Gives FitMove (spec.content_effect (Give o) Next m) old new (effect_with (term_memory m.store m.frames (Some (record { ty = j.ty; term = j.term }))) j.conditions)
gave_some {old} {new} {j} o e m is h g =
    subst (λ o. Gives FitMove (spec.content_effect (Give o) Next m) old new (effect_with (term_memory m.store m.frames (Some (record { ty = j.ty; term = j.term }))) j.conditions)) (sym is) (gave e m h g)

-- ---- edges

-- acting does not look at the loop of a condition
acts_plain : (c : Content) (w : Way) (m : TermMemory) → spec.content_effect (plain c) w m ≡ spec.content_effect c w m
acts_plain Entry w m = refl
acts_plain Exit w m = refl
acts_plain (Simple ss) w m = refl
acts_plain (Test l e) Next m = refl
acts_plain (Test l e) True m = refl
acts_plain (Test l e) False m = refl
acts_plain Jump w m = refl
acts_plain (Give e) w m = refl
acts_plain (Enter t ls es) w m = refl
acts_plain Missing w m = refl
acts_plain (Land t ty b) w m = refl

small_plain : (c : Content) → IsSmallContent c → IsSmallContent (plain c)
small_plain Entry h = tt
small_plain Exit h = tt
small_plain (Simple ss) h = h
small_plain (Test l e) h = tt
small_plain Jump h = tt
small_plain (Give e) h = tt
small_plain (Enter t ls es) h = h
small_plain Missing h = tt
small_plain (Land t ty b) h = tt

-- the site whose content this is
record SiteWith (g : List Site) (n : ℕ) (c : Content) : Type 0 where
  site : Site
  is : slice_get g n ≡ Some site
  does : plain site.content ≡ c

site_with : (g : List Site) (n : ℕ) (c : Content) → slice_get (contents g) n ≡ Some c → SiteWith g n c
site_with [] n c h = absurd (cc h)
site_with (s ∷ g) zero c h =
    let same : plain s.content ≡ c = cc h in
    record { site = s; is = refl; does = same }
site_with (s ∷ g) (suc n) c h = let r = site_with g n c h in record { site = r.site; is = r.is; does = r.does }

pub small_at : (p : Program) (n : ℕ) (c : Content) → WellFormed p → slice_get (contents (graph p)) n ≡ Some c → IsSmallContent c
small_at p n c w h =
    let r = site_with (graph p) n c h in
    subst IsSmallContent r.does (small_plain r.site.content (small_content r.site.content (graph_plain p w n r.site r.is)))

pub source_in : (p : Program) (j : ℕ) (e : Edge) → WellFormed p → slice_get (edges (graph p)) j ≡ Some e → e.from < length (graph p)
source_in p j e w is = (edges_join p w j e is).from

passed : (g : List Site) (j : ℕ) (e : Edge) (c : Content) (m : TermMemory) → slice_get (edges g) j ≡ Some e → slice_get (contents g) e.from ≡ Some c → spec.pass g (slice_get (edges g) j) m ≡ spec.content_effect c e.way m
passed g j e c m is does =
    let r = site_with g e.from c does in
    ap (λ o. spec.pass g o m) is ∙ (ap (λ o. spec.act_at o e.way m) r.is ∙ (sym (acts_plain r.site.content e.way m) ∙ ap (λ c. spec.content_effect c e.way m) r.does))

pub passed_by : {E : Type 0} (old new : Terms) (g : List Site) (j : ℕ) (e : Edge) (c : Content) (m : TermMemory) (n : List ℕ → Effect TermMemory) → slice_get (edges g) j ≡ Some e → slice_get (contents g) e.from ≡ Some c → (r : Result (List ℕ) E) → IfOk r (λ cs. Gives FitMove (spec.content_effect c e.way m) old new (n cs)) → IfOk r (λ cs. Gives FitMove (spec.pass g (slice_get (edges g) j) m) old new (n cs))
passed_by old new g j e c m n is does r h =
    mapped (λ cs. Gives FitMove (spec.pass g (slice_get (edges g) j) m) old new (n cs)) r h (λ cs k. subst (λ s. Gives FitMove s old new (n cs)) (sym (passed g j e c m is does)) k)

-- ---- lists

pub walked_on : {all : Script (List ℕ)} {start now new : Terms} {more : List ℕ} (m n : TermMemory) (g : List Site) (q : List ℕ) (i j : ℕ) (cs ds : List ℕ) → drop i q ≡ j ∷ drop (i + 1) q → Rest all (spec.walk g (drop i q) m) (λ r. cs ++ r) start now → Gives FitMove (spec.pass g (slice_get (edges g) j) m) now new (effect_with n more) → ds ≡ cs ++ more → Rest all (spec.walk g (drop (i + 1) q) n) (λ r. ds ++ r) start new
walked_on {all} {start} {now} {new} {more} m n g q i j cs ds at h k e =
    let begun : Rest all (spec.walk g (j ∷ drop (i + 1) q) m) (λ r. cs ++ r) start now = subst (λ d. Rest all (spec.walk g d m) (λ r. cs ++ r) start now) at h in
    rest_joined (λ r. ds ++ r) (λ r. sym (append_assoc cs more r) ∙ ap (λ l. l ++ r) (sym e)) (rest_next (λ (a : Effect TermMemory). spec.walk g (drop (i + 1) q) a.now) (λ (a : Effect TermMemory) r. a.conditions ++ r) begun k)
