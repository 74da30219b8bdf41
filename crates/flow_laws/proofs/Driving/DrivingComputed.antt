-- Driving, computed.
use Rattle.std.proofs.Common.{◌≡◌, ℕ, Bool, true, false, if◌then◌else◌, List, [], ◌∷◌, ◌++◌, Option, Some, None, refl, sym, ap, ◌∙◌, subst}
use Rattle.std.specs.Prelude.{slice_get, ◌==◌, ◌&&◌, ◌↔◌, is_some, option_and_then}
use Rattle.std.proofs.lemmas.Bool.{eqb-true, eq-eqb, and_parts, and_from}
use Rattle.c_tree.specs.declared.program.Program.{Program}
use Rattle.c_tree.specs.declared.program.Input.{Input}
use Rattle.flow_laws.specs.declared.graph.Way.{Way}
use Rattle.flow_laws.specs.declared.graph.Way.TheVariants.{Next, True, False}
use Rattle.flow_laws.specs.declared.graph.Edge.{Edge}
use Rattle.flow_laws.specs.Sites.{Site}
use Rattle.flow_laws.specs.Graphs.{graph, edges, loops}
use Rattle.flow_laws.specs.Paths.{IsPath, keeps_each, each_allows}
use Rattle.flow_laws.specs.Driving.{Memory, Move, Stuck, Stays, Goes, content_move, Passes, Walks, start_memory, Drives, Place, place_at, is_way, place_behind, move_at, place_after, place_along, reached_place, drives}
use Rattle.flow_laws.specs.Claims.{IsDriven, IsDrivenList}
use Rattle.flow_laws.proofs.Driving.DrivenPrefixes.{each_is, driven_front}
use Rattle.flow_laws.proofs.Driving.BoundsStep.{each_on}

-- ---- from driving

way_is_way : (w : Way) → is_way w w ≡ true
way_is_way Next = refl
way_is_way True = refl
way_is_way False = refl

passes_after : (g : List Site) (j n : ℕ) (m : Memory) (x : ℕ) (y : Memory) → Passes g j n m x y → place_after g (slice_get (edges g) j) (place_at n m) ≡ Some (place_at x y)
passes_after g j n m x y h =
    ap (λ o. place_after g o (place_at n m)) h.is ∙ ap (λ b. if b then place_behind h.edge (move_at (slice_get g n) m) else None) (eq-eqb h.edge.from n h.from_is) ∙ ap (λ o. place_behind h.edge (move_at o m)) h.stands ∙ ap (place_behind h.edge) h.moves ∙ ap (λ b. if b then Some (place_at h.edge.to y) else None) (way_is_way h.edge.way) ∙ ap (λ z. Some (place_at z y)) h.to_is

walks_along : (g : List Site) (q : List ℕ) (n : ℕ) (m : Memory) (x : ℕ) (y : Memory) → Walks g q n m x y → place_along g q (place_at n m) ≡ Some (place_at x y)
walks_along g [] n m x y h = λ i. Some (place_at (h.0 i) (h.1 i))
walks_along g (j ∷ q) n m x y h =
    ap (option_and_then (place_along g q)) (passes_after g j n m h.0 h.1 h.2) ∙ walks_along g q h.0 h.1 x y h.3

pub drives_ends : (p : Program) (i : Input) (q : List ℕ) (h : Drives p i q) → reached_place p i q ≡ Some (place_at h.node h.memory)
drives_ends p i q h = walks_along (graph p) q 0 (start_memory p i) h.node h.memory h.walks

forth : (p : Program) (i : Input) (q : List ℕ) → Drives p i q → drives p i q ≡ true
forth p i q h =
    and_from (is_some (reached_place p i q)) (keeps_each (loops (graph p)) q) (ap is_some (drives_ends p i q h)) ((each_is (loops (graph p)) q).0 h.keeps)

-- ---- to driving

then_some : (f : Place → Option Place) (o : Option Place) (b : Place) → option_and_then f o ≡ Some b → (a : Place) × (o ≡ Some a) × (f a ≡ Some b)
then_some f None b h = absurd (cc)
then_some f (Some a) b h = (a, refl, h)

way_is : (v w : Way) → is_way v w ≡ true → v ≡ w
way_is Next Next h = refl
way_is Next True h = absurd (cc)
way_is Next False h = absurd (cc)
way_is True Next h = absurd (cc)
way_is True True h = refl
way_is True False h = absurd (cc)
way_is False Next h = absurd (cc)
way_is False True h = absurd (cc)
way_is False False h = refl

-- what lies behind an edge that is passed
module _ (g : List Site) (j : ℕ) (e : Edge) (a b : Place) (is : slice_get (edges g) j ≡ Some e) (from : e.from ≡ a.node) where
  by_way : (s : Site) (w : Way) (m : Memory) → slice_get g a.node ≡ Some s → content_move s.content a.memory ≡ Goes w m → (c : Bool) → is_way e.way w ≡ c → (if c then Some (place_at e.to m) else None) ≡ Some b → Passes g j a.node a.memory b.node b.memory
  by_way s w m stands moves true way h =
      let same : place_at e.to m ≡ b = cc in
      let base : Passes g j a.node a.memory e.to m = record { edge = e; site = s; is = is; from_is = from; to_is = refl; stands = stands; moves = moves ∙ ap (λ x. Goes x m) (sym (way_is e.way w way)) } in
      subst (λ x. Passes g j a.node a.memory x.node x.memory) same base
  by_way s w m stands moves false way h = absurd (cc)

  by_move : (s : Site) (mv : Move) → slice_get g a.node ≡ Some s → content_move s.content a.memory ≡ mv → place_behind e mv ≡ Some b → Passes g j a.node a.memory b.node b.memory
  by_move s Stuck stands moves h = absurd (cc)
  by_move s Stays stands moves h = absurd (cc)
  by_move s (Goes w m) stands moves h = by_way s w m stands moves (is_way e.way w) refl h

  by_site : (o : Option Site) → slice_get g a.node ≡ o → place_behind e (move_at o a.memory) ≡ Some b → Passes g j a.node a.memory b.node b.memory
  by_site None stands h = absurd (cc)
  by_site (Some s) stands h = by_move s (content_move s.content a.memory) stands refl h

by_source : (g : List Site) (j : ℕ) (e : Edge) (a b : Place) → slice_get (edges g) j ≡ Some e → (c : Bool) → (e.from == a.node) ≡ c → (if c then place_behind e (move_at (slice_get g a.node) a.memory) else None) ≡ Some b → Passes g j a.node a.memory b.node b.memory
by_source g j e a b is true from h = by_site g j e a b is (eqb-true e.from a.node from) (slice_get g a.node) refl h
by_source g j e a b is false from h = absurd (cc)

after_passes : (g : List Site) (j : ℕ) (a b : Place) (o : Option Edge) → slice_get (edges g) j ≡ o → place_after g o a ≡ Some b → Passes g j a.node a.memory b.node b.memory
after_passes g j a b None is h = absurd (cc)
after_passes g j a b (Some e) is h = by_source g j e a b is (e.from == a.node) refl h

along_walks : (g : List Site) (q : List ℕ) (a b : Place) → place_along g q a ≡ Some b → Walks g q a.node a.memory b.node b.memory
along_walks g [] a b h = let same : a ≡ b = cc in (ap (λ x. x.node) same, ap (λ x. x.memory) same)
along_walks g (j ∷ q) a b h =
    let first = then_some (place_along g q) (place_after g (slice_get (edges g) j) a) b h in
    let c : Place = first.0 in
    (c.node, c.memory, after_passes g j a c (slice_get (edges g) j) refl first.1, along_walks g q c b first.2)

some_place : (o : Option Place) → is_some o ≡ true → (a : Place) × (o ≡ Some a)
some_place None h = absurd (cc)
some_place (Some a) h = (a, refl)

backward : (p : Program) (i : Input) (q : List ℕ) → drives p i q ≡ true → Drives p i q
backward p i q h =
    let parts = and_parts (is_some (reached_place p i q)) (keeps_each (loops (graph p)) q) h in
    let end = some_place (reached_place p i q) parts.0 in
    let last : Place = end.0 in
    record { node = last.node; memory = last.memory; walks = along_walks (graph p) q (place_at 0 (start_memory p i)) last end.1; keeps = (each_is (loops (graph p)) q).1 parts.1 }

pub same_driving : (p : Program) (i : Input) (q : List ℕ) → Drives p i q ↔ (drives p i q ≡ true)
same_driving p i q = (forth p i q, backward p i q)

-- ---- one edge more

then_then : (f h : Place → Option Place) (o : Option Place) → option_and_then (λ a. option_and_then f (h a)) o ≡ option_and_then f (option_and_then h o)
then_then f h None = refl
then_then f h (Some a) = refl

then_same : (o : Option Place) → option_and_then (λ a. Some a) o ≡ o
then_same None = refl
then_same (Some a) = refl

along_join : (g : List Site) (q r : List ℕ) (a : Place) → place_along g (q ++ r) a ≡ option_and_then (place_along g r) (place_along g q a)
along_join g [] r a = refl
along_join g (j ∷ q) r a =
    ap (λ f. option_and_then f (place_after g (slice_get (edges g) j) a)) (λ i b. along_join g q r b i) ∙ then_then (place_along g r) (place_along g q) (place_after g (slice_get (edges g) j) a)

pub place_on : (p : Program) (i : Input) (q : List ℕ) (j : ℕ) → reached_place p i (q ++ j ∷ []) ≡ option_and_then (place_after (graph p) (slice_get (edges (graph p)) j)) (reached_place p i q)
place_on p i q j =
    let g = graph p in
    along_join g q (j ∷ []) (place_at 0 (start_memory p i)) ∙ ap (λ f. option_and_then f (reached_place p i q)) (λ k a. then_same (place_after g (slice_get (edges g) j) a) k)

first_some : (f : Place → Option Place) (o : Option Place) → is_some (option_and_then f o) ≡ true → is_some o ≡ true
first_some f None h = h
first_some f (Some a) h = refl

on_both : (x y k a : Bool) → (y ≡ true → x ≡ true) → (y && (k && a)) ≡ ((x && k) && (y && a))
on_both true true true a h = refl
on_both true true false a h = refl
on_both true false true a h = refl
on_both true false false a h = refl
on_both false true k a h = let bad = h refl in absurd (cc)
on_both false false k a h = refl

pub drives_on : (p : Program) (i : Input) (q : List ℕ) (j : ℕ) → drives p i (q ++ j ∷ []) ≡ (drives p i q && (is_some (reached_place p i (q ++ j ∷ [])) && each_allows (loops (graph p)) q j))
drives_on p i q j =
    let g = graph p in
    let y = is_some (reached_place p i (q ++ j ∷ [])) in
    ap (λ b. y && b) (each_on (loops g) q j) ∙ on_both (is_some (reached_place p i q)) y (keeps_each (loops g) q) (each_allows (loops g) q j) (λ h. first_some (place_after g (slice_get (edges g) j)) (reached_place p i q) (ap is_some (sym (place_on p i q j)) ∙ h))

-- ---- driven lists

pub list_begin : (p : Program) (a b : List ℕ) → IsDrivenList p (a ++ b) → IsDrivenList p a
list_begin p a b h = (h.0, h.1, driven_front p h.0 a b h.2)

pub driven_is : (p : Program) (q : List ℕ) → IsDriven p q ↔ (IsDrivenList p q × IsPath (edges (graph p)) q)
driven_is p q =
    (λ h. ((h.0, h.1, h.2.drives), h.2.path), λ h. (h.0.0, h.0.1, record { path = h.1; drives = h.0.2 }))
