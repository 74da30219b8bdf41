-- Walks over numbers are walks over the edges that they name.
use Rattle.std.proofs.Common.{◌≡◌, ◌⊎◌, inl, inr, ℕ, if◌then◌else◌, List, [], ◌∷◌, Some, None, refl, sym, ap, ◌∙◌, subst}
use Rattle.std.specs.Prelude.{slice_get}
use Rattle.std.proofs.lemmas.Bool.{eq-eqb}
use Rattle.flow_laws.specs.declared.graph.Edge.{Edge}
use Rattle.flow_laws.specs.Sites.{Site}
use Rattle.flow_laws.specs.Graphs.{leaves, edges}
use Rattle.flow_laws.specs.Paths.{end_node, end_node_on}
use Rattle.flow_laws.specs.Driving.{Memory, Goes, content_move, Passes, Walks}
use Rattle.flow_laws.specs.Claims.{Begins}
use Rattle.flow_laws.proofs.Driving.DrivingSteps.{target}
use Rattle.flow_laws.proofs.Graphs.EdgesDistinct.{leaves_source, one_number}
use Rattle.flow_laws.proofs.Driving.CountersAndBounds.{Walked}
use Rattle.flow_laws.proofs.Runs.EdgeNumbers.{Names}
use Rattle.std.proofs.lemmas.Option.{same_Some}

-- ---- to edges

pub record WalkedBy (g : List Site) (js : List ℕ) (n : ℕ) (m : Memory) (n' : ℕ) (m' : Memory) : Type 0 where
  pub list : List Edge
  pub names : Names (edges g) js list
  pub walked : Walked g list n m n' m'

-- an edge that passes leaves its source
edge_of : (g : List Site) (j n : ℕ) (m : Memory) (x : ℕ) (y : Memory) (h : Passes g j n m x y) → h.edge ≡ leaves n h.edge.way (target h.site h.edge.way)
edge_of g j n m x y h =
    let s = leaves_source g j h.edge h.is in
    let site : s.site ≡ h.site = same_Some s.site h.site (sym s.has ∙ ap (slice_get g) h.from_is ∙ h.stands) in
    s.edge_is ∙ (λ i. leaves (h.from_is i) h.edge.way (target (site i) h.edge.way))

pub to_walked : (g : List Site) (js : List ℕ) (n : ℕ) (m : Memory) (n' : ℕ) (m' : Memory) → Walks g js n m n' m' → WalkedBy g js n m n' m'
to_walked g [] n m n' m' h = record { list = []; names = tt; walked = h }
to_walked g (j ∷ js) n m n' m' h =
    let p = h.2 in
    let rest = to_walked g js h.0 h.1 n' m' h.3 in
    record { list = p.edge ∷ rest.list; names = (p.is, rest.names); walked = (p.site, h.1, p.stands, p.moves, edge_of g j n m h.0 h.1 p, subst (λ y. Walked g rest.list y h.1 n' m') (sym p.to_is) rest.walked) }

-- ---- from edges

pub from_walked : (g : List Site) (js : List ℕ) (q : List Edge) (n : ℕ) (m : Memory) (n' : ℕ) (m' : Memory) → Names (edges g) js q → Walked g q n m n' m' → Walks g js n m n' m'
from_walked g [] [] n m n' m' names h = h
from_walked g [] (e ∷ q) n m n' m' names h = absurd names
from_walked g (j ∷ js) [] n m n' m' names h = absurd names
from_walked g (j ∷ js) (e ∷ q) n m n' m' names h =
    (e.to, h.1, record { edge = e; site = h.0; is = names.0; from_is = ap (λ y. y.from) h.4; to_is = refl; stands = h.2; moves = h.3 }, from_walked g js q e.to h.1 n' m' names.1 h.5)

-- ---- where they lead

led_step : (es : List Edge) (n j : ℕ) (q : List ℕ) (e : Edge) → slice_get es j ≡ Some e → e.from ≡ n → end_node es n (j ∷ q) ≡ end_node es e.to q
led_step es n j q e is from =
    ap (λ o. end_node_on n o (λ m. end_node es m q)) is ∙ ap (λ b. if b then end_node es e.to q else None) (eq-eqb e.from n from)

pub walks_lead : (g : List Site) (js : List ℕ) (n : ℕ) (m : Memory) (n' : ℕ) (m' : Memory) → Walks g js n m n' m' → end_node (edges g) n js ≡ Some n'
walks_lead g [] n m n' m' h = ap Some h.0
walks_lead g (j ∷ js) n m n' m' h =
    let p = h.2 in
    led_step (edges g) n j js p.edge p.is p.from_is ∙ ap (λ y. end_node (edges g) y js) p.to_is ∙ walks_lead g js h.0 h.1 n' m' h.3

-- ---- there is only one

begins_more : (j k : ℕ) (p q : List ℕ) → j ≡ k → Begins p q ⊎ Begins q p → Begins (j ∷ p) (k ∷ q) ⊎ Begins (k ∷ q) (j ∷ p)
begins_more j k p q e (inl h) = inl (h.0, λ i. sym e i ∷ h.1 i)
begins_more j k p q e (inr h) = inr (h.0, λ i. e i ∷ h.1 i)

-- of two walks from one node and memory, one begins the other
pub one_walk : (g : List Site) (p q : List ℕ) (n : ℕ) (m : Memory) (a : ℕ) (x : Memory) (b : ℕ) (y : Memory) → Walks g p n m a x → Walks g q n m b y → Begins p q ⊎ Begins q p
one_walk g [] q n m a x b y h k = inl (q, refl)
one_walk g (j ∷ p) [] n m a x b y h k = inr (j ∷ p, refl)
one_walk g (j ∷ p) (i ∷ q) n m a x b y h k =
    let s = h.2 in
    let t = k.2 in
    let site : s.site ≡ t.site = same_Some s.site t.site (sym s.stands ∙ t.stands) in
    let goes : Goes s.edge.way h.1 ≡ Goes t.edge.way k.1 = sym s.moves ∙ ap (λ z. content_move z.content m) site ∙ t.moves in
    let way : s.edge.way ≡ t.edge.way = cc in
    let memory : h.1 ≡ k.1 = cc in
    let same : j ≡ i = one_number g j i s.edge t.edge s.is t.is (s.from_is ∙ sym t.from_is) way in
    let edges : Some s.edge ≡ Some t.edge = sym s.is ∙ ap (slice_get (edges g)) same ∙ t.is in
    let edge : s.edge ≡ t.edge = cc in
    let to : h.0 ≡ k.0 = sym s.to_is ∙ ap (λ z. z.to) edge ∙ t.to_is in
    let k' = subst (λ z. Walks g q z k.1 b y) (sym to) k.3 in
    let k'' = subst (λ z. Walks g q h.0 z b y) (sym memory) k' in
    begins_more j i p q same (one_walk g p q h.0 h.1 a x b y h.3 k'')
