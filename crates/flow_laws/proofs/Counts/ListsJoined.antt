-- Lists of edges one after the other: where they lead, what they count and cost, and by which edges they go on.
use Rattle.std.proofs.Common.{◌≡◌, ◌≢◌, ◌≤◌, ℕ, zero, suc, ◌+◌, Bool, true, false, if◌then◌else◌, List, [], ◌∷◌, ◌++◌, Option, Some, None, refl, sym, ap, ◌∙◌, subst, arith}
use Rattle.std.specs.Prelude.{slice_get, ◌==◌, ◌↔◌, is_some, option_and_then}
use Rattle.std.proofs.lemmas.Bool.{eqb-true, eq-eqb}
use Rattle.c_tree.specs.declared.program.Program.{Program}
use Rattle.c_tree.specs.declared.program.Costs.{Costs}
use Rattle.flow_laws.specs.declared.graph.Way.{Way}
use Rattle.flow_laws.specs.declared.graph.Way.TheVariants.{Next, True, False}
use Rattle.flow_laws.specs.declared.graph.Edge.{Edge}
use Rattle.flow_laws.specs.Sites.{Content, Entry, Exit, Simple, Test, Jump, Give, Enter, Missing, Land, Site, Copy}
use Rattle.flow_laws.specs.Graphs.{leaves, copies, graph, edges, edges_from, outs, sites_of}
use Rattle.flow_laws.specs.Paths.{end_node, end_node_on, follows, IsEdgeFrom, IsPath, edge_count, price}

-- ---- where they lead

led_on_then : (o : Option Edge) (n : ℕ) (go go' : ℕ → Option ℕ) (f : ℕ → Option ℕ) → ((k : ℕ) → go k ≡ option_and_then f (go' k)) → end_node_on n o go ≡ option_and_then f (end_node_on n o go')
led_on_then None n go go' f h = refl
led_on_then (Some d) n go go' f h = by_source (d.from == n)
  where
    by_source : (b : Bool) → (if b then go d.to else None) ≡ option_and_then f (if b then go' d.to else None)
    by_source true = h d.to
    by_source false = refl

pub led_join : (es : List Edge) (n : ℕ) (a b : List ℕ) → end_node es n (a ++ b) ≡ option_and_then (λ m. end_node es m b) (end_node es n a)
led_join es n [] b = refl
led_join es n (j ∷ a) b =
    led_on_then (slice_get es j) n (λ k. end_node es k (a ++ b)) (λ k. end_node es k a) (λ m. end_node es m b) (λ k. led_join es k a b)

some_first : (f : ℕ → Option ℕ) (o : Option ℕ) → is_some (option_and_then f o) ≡ true → is_some o ≡ true
some_first f None h = h
some_first f (Some n) h = refl

pub follows_begin : (es : List Edge) (a b : List ℕ) → follows es (a ++ b) ≡ true → follows es a ≡ true
follows_begin es a b h = some_first (λ m. end_node es m b) (end_node es 0 a) (ap is_some (sym (led_join es 0 a b)) ∙ h)

-- ---- one edge more

pub led_more : (es : List Edge) (q : List ℕ) (m n j : ℕ) → end_node es m q ≡ Some n → end_node es m (q ++ j ∷ []) ≡ end_node_on n (slice_get es j) (λ k. Some k)
led_more es q m n j h = led_join es m q (j ∷ []) ∙ ap (option_and_then (λ k. end_node es k (j ∷ []))) h

one_there : (o : Option Edge) (n : ℕ) → is_some (end_node_on n o (λ k. Some k)) ≡ true → (e : Edge) × (o ≡ Some e) × (e.from ≡ n)
one_there None n h = absurd (cc)
one_there (Some e) n h = by_source (e.from == n) refl h
  where
    by_source : (b : Bool) → (e.from == n) ≡ b → is_some (if b then Some e.to else None) ≡ true → (d : Edge) × (Some e ≡ Some d) × (d.from ≡ n)
    by_source true same k = (e, refl, eqb-true e.from n same)
    by_source false same k = absurd (cc)

one_leads : (o : Option Edge) (n : ℕ) (e : Edge) → o ≡ Some e → e.from ≡ n → end_node_on n o (λ k. Some k) ≡ Some e.to
one_leads o n e is from =
    ap (λ x. end_node_on n x (λ k. Some k)) is ∙ ap (λ b. if b then Some e.to else None) (eq-eqb e.from n from)

pub leads_on : (es : List Edge) (q : List ℕ) (n j : ℕ) (e : Edge) → end_node es 0 q ≡ Some n → slice_get es j ≡ Some e → e.from ≡ n → end_node es 0 (q ++ j ∷ []) ≡ Some e.to
leads_on es q n j e h is from = led_more es q 0 n j h ∙ one_leads (slice_get es j) n e is from

pub goes_on : (es : List Edge) (q : List ℕ) (n j : ℕ) → end_node es 0 q ≡ Some n → (follows es (q ++ j ∷ []) ≡ true) ↔ IsEdgeFrom es n j
goes_on es q n j h =
    (λ f. one_there (slice_get es j) n (ap is_some (sym (led_more es q 0 n j h)) ∙ f), λ x. ap is_some (leads_on es q n j x.0 h x.1 x.2))

-- ---- no edge leaves Exit

abbrev pub AllOf : (Edge → Type 0) → List Edge → Type 0
AllOf P [] = Unit {0}
AllOf P (e ∷ es) = P e × AllOf P es

pub all_append : (P : Edge → Type 0) (a b : List Edge) → AllOf P a → AllOf P b → AllOf P (a ++ b)
all_append P [] b h k = k
all_append P (e ∷ a) b h k = (h.0, all_append P a b h.1 k)

pub all_at : (P : Edge → Type 0) (es : List Edge) (j : ℕ) (e : Edge) → AllOf P es → slice_get es j ≡ Some e → P e
all_at P [] j e h is = absurd (cc)
all_at P (d ∷ es) zero e h is = let same : d ≡ e = cc in subst P same h.0
all_at P (d ∷ es) (suc j) e h is = all_at P es j e h.1 is

outs_all : (P : Edge → Type 0) (n : ℕ) (s : Site) (c : Content) → ((w : Way) (m : ℕ) → P (leaves n w m)) → AllOf P (outs n s c)
outs_all P n s Exit h = tt
outs_all P n s (Test l e) h = (h True s.yes, (h False s.no, tt))
outs_all P n s Entry h = (h Next s.yes, tt)
outs_all P n s (Simple ss) h = (h Next s.yes, tt)
outs_all P n s Jump h = (h Next s.yes, tt)
outs_all P n s (Give e) h = (h Next s.yes, tt)
outs_all P n s (Enter t ls es) h = (h Next s.yes, tt)
outs_all P n s Missing h = (h Next s.yes, tt)
outs_all P n s (Land t ty b) h = (h Next s.yes, tt)

pub edges_all : (P : Edge → Type 0) (n : ℕ) (g : List Site) → ((m : ℕ) → n ≤ m → (w : Way) (t : ℕ) → P (leaves m w t)) → AllOf P (edges_from n g)
edges_all P n [] h = tt
edges_all P n (s ∷ g) h =
    all_append P (outs n s s.content) (edges_from (n + 1) g) (outs_all P n s s.content (h n (omega arith))) (edges_all P (n + 1) g (λ m le. h m (omega (arith, le))))

abbrev FromExit : Edge → Type 0
FromExit e = e.from ≢ 1

sites_apart : (o : Option Copy) → AllOf FromExit (edges_from 0 (sites_of o))
sites_apart None = (λ is. omega (arith, is), tt)
sites_apart (Some c) =
    (λ is. omega (arith, is), edges_all FromExit (0 + 1 + 1) (c.sites [] 1 2 1) (λ m le w t is. omega (arith, le, is)))

exit_apart : (p : Program) → AllOf FromExit (edges (graph p))
unfolding graph edges
exit_apart p = sites_apart (slice_get (copies [] p.funcs) p.entry)

pub no_exit : (p : Program) (j : ℕ) → IsEdgeFrom (edges (graph p)) 1 j → ⊥
no_exit p j h = all_at FromExit (edges (graph p)) j h.0 (exit_apart p) h.1 h.2

none_follows : (es : List Edge) → AllOf FromExit es → (b : Bool) (q : List ℕ) (j : ℕ) → IsPath es q → follows es (q ++ j ∷ []) ≡ b → b ≡ false
none_follows es apart true q j path h =
    let x = (goes_on es q 1 j path).0 h in
    absurd (all_at FromExit es j x.0 apart x.1 x.2)
none_follows es apart false q j path h = refl

pub paths_end : (p : Program) (q : List ℕ) (j : ℕ) → IsPath (edges (graph p)) q → follows (edges (graph p)) (q ++ j ∷ []) ≡ false
paths_end p q j path =
    none_follows (edges (graph p)) (exit_apart p) (follows (edges (graph p)) (q ++ j ∷ [])) q j path refl

-- ---- counts and costs

count_by : (b : Bool) (n m k : ℕ) → n ≡ m + k → (if b then suc n else n) ≡ (if b then suc m else m) + k
count_by true n m k h = omega (arith, h)
count_by false n m k h = h

pub counts_join : (a b : List ℕ) (j : ℕ) → edge_count (a ++ b) j ≡ edge_count a j + edge_count b j
counts_join [] b j = omega arith
counts_join (i ∷ a) b j = count_by (i == j) (edge_count (a ++ b) j) (edge_count a j) (edge_count b j) (counts_join a b j)

pub costs_join : (t : Costs) (g : List Site) (a b : List ℕ) → price t g (a ++ b) ≡ price t g a + price t g b
costs_join t g [] b = omega arith
costs_join t g (j ∷ a) b =
    let rest = costs_join t g a b in
    omega (arith, rest)
