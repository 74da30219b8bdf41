-- The edges that leave a node: Exit has none, a condition `True` and then `False`, and each other node one.
use Rattle.std.proofs.Common.{◌≡◌, ◌≢◌, ℕ, zero, suc, ◌+◌, ◌<◌, List, [], ◌∷◌, length, Some, refl, sym, ap, ◌∙◌, subst, arith}
use Rattle.std.specs.Prelude.{slice_get}
use Rattle.c_tree.specs.declared.program.Program.{Program}
use Rattle.flow_laws.specs.declared.graph.Way.{Way}
use Rattle.flow_laws.specs.declared.graph.Way.TheVariants.{Next, True, False}
use Rattle.flow_laws.specs.declared.graph.Edge.{Edge}
use Rattle.flow_laws.specs.Sites.{Content, Entry, Exit, Simple, Test, Jump, Give, Enter, Missing, Land, Site}
use Rattle.flow_laws.specs.Graphs.{graph, edges, edges_from, leaves, outs, first_out}
use Rattle.flow_laws.specs.Paths.{IsEdgeFrom}
use Rattle.flow_laws.proofs.Graphs.EdgesDistinct.{leaves_source, place_of}
use Rattle.flow_laws.proofs.Runs.EdgeNumbers.{Numbered, in_edges}
use Rattle.flow_laws.proofs.Loops.LoopsNested.{IsInner, graph_inner}
use Rattle.flow_laws.proofs.Counts.ListsConserved.{entry_first}
use Rattle.flow_laws.proofs.Counts.ListsJoined.{AllOf, all_append, all_at}

-- ---- ways

-- a condition is not left by what comes next, and anything else only by that
abbrev pub WayFits : Content → Way → Type 0
WayFits (Test l x) w = w ≢ Next
WayFits _ w = w ≡ Next

record Fits (g : List Site) (n : ℕ) (e : Edge) : Type 0 where
  index : ℕ
  site : Site
  from : e.from ≡ n + index
  has : slice_get g index ≡ Some site
  fits : WayFits site.content e.way

abbrev OutFits : ℕ → Content → Edge → Type 0
OutFits n c e = (e.from ≡ n) × WayFits c e.way

outs_fit : (n : ℕ) (s : Site) (c : Content) → AllOf (OutFits n c) (outs n s c)
outs_fit n s Exit = tt
outs_fit n s (Test l e) = ((refl, λ is. cc), ((refl, λ is. cc), tt))
outs_fit n s Entry = ((refl, refl), tt)
outs_fit n s (Simple ss) = ((refl, refl), tt)
outs_fit n s Jump = ((refl, refl), tt)
outs_fit n s (Give e) = ((refl, refl), tt)
outs_fit n s (Enter t ls es) = ((refl, refl), tt)
outs_fit n s Missing = ((refl, refl), tt)
outs_fit n s (Land t ty b) = ((refl, refl), tt)

all_map : (P Q : Edge → Type 0) → ((e : Edge) → P e → Q e) → (es : List Edge) → AllOf P es → AllOf Q es
all_map P Q f [] h = tt
all_map P Q f (e ∷ es) h = (f e h.0, all_map P Q f es h.1)

edges_fit : (n : ℕ) (g : List Site) → AllOf (Fits g n) (edges_from n g)
edges_fit n [] = tt
edges_fit n (s ∷ g) =
    all_append (Fits (s ∷ g) n) (outs n s s.content) (edges_from (n + 1) g)
    (all_map (OutFits n s.content) (Fits (s ∷ g) n) (λ e h. let from = h.0 in record { index = 0; site = s; from = omega (arith, from); has = refl; fits = h.1 }) (outs n s s.content) (outs_fit n s s.content))
    (all_map (Fits g (n + 1)) (Fits (s ∷ g) n) (λ e h. let from = h.from in record { index = suc h.index; site = h.site; from = omega (arith, from); has = h.has; fits = h.fits }) (edges_from (n + 1) g) (edges_fit (n + 1) g))

fits_at : (g : List Site) (j : ℕ) (e : Edge) → slice_get (edges g) j ≡ Some e → Fits g 0 e
unfolding edges
fits_at g j e is = all_at (Fits g 0) (edges_from 0 g) j e (edges_fit 0 g) is

-- the way of an edge fits its source, which is not Exit
not_left : (n : ℕ) (s : Site) (c : Content) → AllOf (λ e. c ≡ Exit → ⊥) (outs n s c)
not_left n s Exit = tt
not_left n s (Test l e) = (λ is. cc, (λ is. cc, tt))
not_left n s Entry = (λ is. cc, tt)
not_left n s (Simple ss) = (λ is. cc, tt)
not_left n s Jump = (λ is. cc, tt)
not_left n s (Give e) = (λ is. cc, tt)
not_left n s (Enter t ls es) = (λ is. cc, tt)
not_left n s Missing = (λ is. cc, tt)
not_left n s (Land t ty b) = (λ is. cc, tt)

record Leaves (g : List Site) (n : ℕ) (e : Edge) : Type 0 where
  index : ℕ
  site : Site
  from : e.from ≡ n + index
  has : slice_get g index ≡ Some site
  other : site.content ≡ Exit → ⊥

both_map : (P Q R : Edge → Type 0) → ((e : Edge) → P e → Q e → R e) → (es : List Edge) → AllOf P es → AllOf Q es → AllOf R es
both_map P Q R f [] h k = tt
both_map P Q R f (e ∷ es) h k = (f e h.0 k.0, both_map P Q R f es h.1 k.1)

edges_leave : (n : ℕ) (g : List Site) → AllOf (Leaves g n) (edges_from n g)
edges_leave n [] = tt
edges_leave n (s ∷ g) =
    all_append (Leaves (s ∷ g) n) (outs n s s.content) (edges_from (n + 1) g)
    (both_map (OutFits n s.content) (λ e. s.content ≡ Exit → ⊥) (Leaves (s ∷ g) n) (λ e h k. let from = h.0 in record { index = 0; site = s; from = omega (arith, from); has = refl; other = k }) (outs n s s.content) (outs_fit n s s.content) (not_left n s s.content))
    (all_map (Leaves g (n + 1)) (Leaves (s ∷ g) n) (λ e h. let from = h.from in record { index = suc h.index; site = h.site; from = omega (arith, from); has = h.has; other = h.other }) (edges_from (n + 1) g) (edges_leave (n + 1) g))

leaves_at : (g : List Site) (j : ℕ) (e : Edge) → slice_get (edges g) j ≡ Some e → Leaves g 0 e
unfolding edges
leaves_at g j e is = all_at (Leaves g 0) (edges_from 0 g) j e (edges_leave 0 g) is

pub way_fits : (g : List Site) (j : ℕ) (e : Edge) (s : Site) → slice_get (edges g) j ≡ Some e → slice_get g e.from ≡ Some s → WayFits s.content e.way × (s.content ≡ Exit → ⊥)
way_fits g j e s is has =
    let f = fits_at g j e is in
    let h = leaves_at g j e is in
    let ff = f.from in
    let fh = h.from in
    let zf : f.index ≡ e.from = omega (arith, ff) in
    let zh : h.index ≡ e.from = omega (arith, fh) in
    let one : Some f.site ≡ Some s = sym f.has ∙ ap (slice_get g) zf ∙ has in
    let two : Some h.site ≡ Some s = sym h.has ∙ ap (slice_get g) zh ∙ has in
    let same : f.site ≡ s = cc in
    let same2 : h.site ≡ s = cc in
    (subst (λ y. WayFits y.content e.way) same f.fits, subst (λ y. y.content ≡ Exit → ⊥) same2 h.other)

true_of : (c : Content) (v w : Way) → WayFits c v → WayFits c w → v ≡ False → w ≢ False → w ≡ True
true_of (Test l x) v Next fv fw is other = absurd (fw refl)
true_of (Test l x) v True fv fw is other = refl
true_of (Test l x) v False fv fw is other = absurd (other refl)
true_of Exit v w fv fw is other = let bad : Next ≡ False = sym fv ∙ is in absurd (cc)
true_of Entry v w fv fw is other = let bad : Next ≡ False = sym fv ∙ is in absurd (cc)
true_of (Simple ss) v w fv fw is other = let bad : Next ≡ False = sym fv ∙ is in absurd (cc)
true_of Jump v w fv fw is other = let bad : Next ≡ False = sym fv ∙ is in absurd (cc)
true_of (Give e) v w fv fw is other = let bad : Next ≡ False = sym fv ∙ is in absurd (cc)
true_of (Enter t ls es) v w fv fw is other = let bad : Next ≡ False = sym fv ∙ is in absurd (cc)
true_of Missing v w fv fw is other = let bad : Next ≡ False = sym fv ∙ is in absurd (cc)
true_of (Land t ty b) v w fv fw is other = let bad : Next ≡ False = sym fv ∙ is in absurd (cc)

-- what leaves a node beside an edge by `False`, and not by `False`, leaves by `True`
true_beside : (g : List Site) (j k : ℕ) (e d : Edge) → slice_get (edges g) j ≡ Some e → slice_get (edges g) k ≡ Some d → d.from ≡ e.from → e.way ≡ False → d.way ≢ False → d.way ≡ True
true_beside g j k e d is_e is_d from way other =
    let f = fits_at g j e is_e in
    let h = fits_at g k d is_d in
    let fe = f.from in
    let fd = h.from in
    let index : h.index ≡ f.index = omega (arith, fe, fd, from) in
    let both : Some h.site ≡ Some f.site = sym h.has ∙ ap (slice_get g) index ∙ f.has in
    let site : h.site ≡ f.site = cc in
    true_of f.site.content e.way d.way f.fits (subst (λ s. WayFits s.content d.way) site h.fits) way other

-- ---- two edges of one node

places : (v w : Way) (n : ℕ) → n + place_of v < n + place_of w → (v ≢ False) × (w ≡ False)
places Next Next n lt = absurd (omega (arith, lt))
places Next True n lt = absurd (omega (arith, lt))
places Next False n lt = (λ e. cc, refl)
places True Next n lt = absurd (omega (arith, lt))
places True True n lt = absurd (omega (arith, lt))
places True False n lt = (λ e. cc, refl)
places False Next n lt = absurd (omega (arith, lt))
places False True n lt = absurd (omega (arith, lt))
places False False n lt = absurd (omega (arith, lt))

pub beside : (g : List Site) (j k : ℕ) (e d : Edge) → slice_get (edges g) j ≡ Some e → slice_get (edges g) k ≡ Some d → e.from ≡ d.from → j < k → (e.way ≡ True) × (d.way ≡ False) × (k ≡ j + 1)
beside g j k e d is_e is_d from lt =
    let se = leaves_source g j e is_e in
    let sd = leaves_source g k d is_d in
    let first : first_out g d.from ≡ first_out g e.from = ap (first_out g) (sym from) in
    let ways = places e.way d.way (first_out g e.from) (omega (arith, se.number, sd.number, first, lt)) in
    let yes_ = true_beside g k j d e is_d is_e from ways.1 ways.0 in
    let pe : place_of e.way ≡ 0 = ap place_of yes_ in
    let pd : place_of d.way ≡ 1 = ap place_of ways.1 in
    (yes_, ways.1, omega (arith, se.number, sd.number, first, pe, pd))

-- ---- each node but Exit is left

record First (n : ℕ) (es : List Edge) : Type 0 where
  edge : Edge
  from : edge.from ≡ n
  numbered : Numbered es edge

first_out_of : (n : ℕ) (s : Site) (c : Content) → (c ≡ Exit → ⊥) → First n (outs n s c)
first_out_of n s Exit h = absurd (h refl)
first_out_of n s (Test l e) h = record { edge = leaves n True s.yes; from = refl; numbered = record { number = 0; is = refl } }
first_out_of n s Entry h = record { edge = leaves n Next s.yes; from = refl; numbered = record { number = 0; is = refl } }
first_out_of n s (Simple ss) h = record { edge = leaves n Next s.yes; from = refl; numbered = record { number = 0; is = refl } }
first_out_of n s Jump h = record { edge = leaves n Next s.yes; from = refl; numbered = record { number = 0; is = refl } }
first_out_of n s (Give e) h = record { edge = leaves n Next s.yes; from = refl; numbered = record { number = 0; is = refl } }
first_out_of n s (Enter t ls es) h = record { edge = leaves n Next s.yes; from = refl; numbered = record { number = 0; is = refl } }
first_out_of n s Missing h = record { edge = leaves n Next s.yes; from = refl; numbered = record { number = 0; is = refl } }
first_out_of n s (Land t ty b) h = record { edge = leaves n Next s.yes; from = refl; numbered = record { number = 0; is = refl } }

site_left : (g : List Site) (n : ℕ) (s : Site) → slice_get g n ≡ Some s → (s.content ≡ Exit → ⊥) → (j : ℕ) × IsEdgeFrom (edges g) n j
unfolding edges
site_left g n s has other =
    let f = first_out_of (0 + n) s s.content other in
    let k = in_edges 0 n g s f.edge has f.numbered in
    let z : 0 + n ≡ n = omega arith in
    (k.number, (f.edge, k.is, f.from ∙ z))

not_exit : (past : ℕ) (c : Content) → IsInner 2 past c → c ≡ Exit → ⊥
not_exit past c h is = subst (IsInner 2 past) is h

get_below : {A : Type 0} (xs : List A) (n : ℕ) → n < length xs → (x : A) × (slice_get xs n ≡ Some x)
get_below [] n lt = absurd (omega (arith, lt))
get_below (x ∷ xs) zero lt = (x, refl)
get_below (x ∷ xs) (suc n) lt = get_below xs n (omega (arith, lt))

pub node_left : (p : Program) (n : ℕ) → n < length (graph p) → n ≢ 1 → (j : ℕ) × IsEdgeFrom (edges (graph p)) n j
node_left p zero lt other =
    let f = entry_first p in
    (0, (f.first, ap (λ y. slice_get y 0) f.is, f.from))
node_left p (suc zero) lt other = absurd (other refl)
node_left p (suc (suc n)) lt other =
    let s = get_below (graph p) (suc (suc n)) lt in
    let inner = graph_inner p in
    site_left (graph p) (suc (suc n)) s.0 s.1 (not_exit inner.past (s.0).content (inner.inner (suc (suc n)) s.0 (omega arith) s.1))
