-- The conditions of a list of edges: all hold exactly where the edges are taken.
use Rattle.std.proofs.Common.{◌≡◌, ℕ, ◌^◌, ◌<◌, Bool, true, false, if◌then◌else◌, List, [], ◌∷◌, ◌++◌, Option, Some, None, refl, sym, ap, ◌∙◌, subst, arith}
use Rattle.std.specs.Prelude.{◌==◌, ◌&&◌}
use Rattle.std.proofs.lemmas.Bool.Decides.{nat_tests}
use Rattle.bv_term.specs.Scripts.{Done, ◌>>=◌, Always}
pub use Rattle.cond_laws.specs.Sizes.{IsSmallGraph}
use Rattle.cond_laws.proofs.Judging.{stands}
use Rattle.std.specs.Prelude.{slice_get}
use Rattle.flow_laws.specs.declared.graph.Edge.{Edge}
use Rattle.flow_laws.specs.declared.graph.Way.{Way}
use Rattle.flow_laws.specs.Sites.{Site}
use Rattle.flow_laws.specs.Graphs.{edges}
use Rattle.flow_laws.specs.Paths.{end_node, end_node_on}
use Rattle.flow_laws.specs.Driving as drive
use Rattle.flow_laws.specs.Driving.{Memory, Move, Goes, Passes, Walks}
use Rattle.bv_term.proofs.ScriptLaws.{always_then, always_more}
use Rattle.cond_laws.specs.Judged.{all_hold}
use Rattle.cond_laws.specs.TermStatements.{Effect, nowhere}
use Rattle.cond_laws.specs.TermPaths as tp
use Rattle.cond_laws.specs.TermPaths.{TermMemory}
use Rattle.cond_laws.proofs.Operators.OperandTerms.{hold_append}
use Rattle.cond_laws.proofs.Stores.ElementTerms.{never_holds}
use Rattle.cond_laws.proofs.Paths.MoveTerms.{memory_at, IsSmallMemory, Moves, act_moves}
use Rattle.std.proofs.lemmas.Bool.{and_parts, and_from}

-- in no node a list or a local is longer than 2^31
-- ---- one edge

-- the edge is passed exactly where all conditions hold, and leads to this memory
pub record Takes (at : ℕ → ℕ) (g : List Site) (j : ℕ) (m : Memory) (e : Effect TermMemory) : Type 0 where
  pub takes : all_hold at e.conditions ≡ true → (d : Edge) → slice_get (edges g) j ≡ Some d → Passes g j d.from m d.to (memory_at at e.now)
  pub only : (n x : ℕ) (m' : Memory) → Passes g j n m x m' → all_hold at e.conditions ≡ true
  pub one : (n x : ℕ) (m' : Memory) → Passes g j n m x m' → m' ≡ memory_at at e.now
  pub small : IsSmallMemory e.now

-- there is no such edge or no such node
nowhere_takes : (input at : ℕ → ℕ) (g : List Site) (j : ℕ) (m : TermMemory) → IsSmallMemory m → ((n x : ℕ) (m' : Memory) → Passes g j n (memory_at at m) x m' → ⊥) → Always input at (nowhere m) (Takes at g j (memory_at at m))
nowhere_takes input at g j m h never_so z ez = record {
  takes = λ all. absurd (clash (sym (never_holds at [] z ez) ∙ all));
  only = λ n x m' p. absurd (never_so n x m' p);
  one = λ n x m' p. absurd (never_so n x m' p);
  small = h;
}
  where
    clash : false ≡ true → ⊥
    clash h = absurd (cc h)

site_takes : (input at : ℕ → ℕ) → ((n : ℕ) → at n < 2 ^ 32) → (g : List Site) (j : ℕ) (d : Edge) (o : Option Site) (m : TermMemory) → IsSmallMemory m → IsSmallGraph g → slice_get (edges g) j ≡ Some d → slice_get g d.from ≡ o → Always input at (tp.act_at o d.way m) (Takes at g j (memory_at at m))
site_takes input at small g j d None m h few is stands = nowhere_takes input at g j m h (λ n x m' p.
    let edge : p.edge ≡ d = cc (p.is, is) in
    let none : Some p.site ≡ None = sym p.stands ∙ (ap (slice_get g) (sym p.from_is ∙ ap (λ d. d.from) edge) ∙ stands) in
    cc none)
site_takes input at small g j d (Some s) m h few is stands = always_more (Moves at (drive.content_move s.content (memory_at at m)) d.way) (Takes at g j (memory_at at m)) input at (tp.content_effect s.content d.way m) (act_moves input at small s.content d.way m h (few d.from s stands)) (λ e he. record {
  takes = λ all d' is'. same_edge e he d' all (is_same d' is') is';
  only = λ n x m' p. he.only m' (moved n x m' p);
  one = λ n x m' p. same_goes (d.way) m' (memory_at at e.now) (sym (moved n x m' p) ∙ he.goes (he.only m' (moved n x m' p)));
  small = he.small;
})
  where
    is_same : (d' : Edge) → slice_get (edges g) j ≡ Some d' → d' ≡ d
    is_same d' is' = cc (is', is)

    same_edge : (e : Effect TermMemory) → Moves at (drive.content_move s.content (memory_at at m)) d.way e → (d' : Edge) → all_hold at e.conditions ≡ true → d' ≡ d → slice_get (edges g) j ≡ Some d' → Passes g j d'.from (memory_at at m) d'.to (memory_at at e.now)
    same_edge e he d' all same is' = record {
      edge = d';
      site = s;
      is = is';
      from_is = refl;
      to_is = refl;
      stands = ap (λ d. slice_get g d.from) same ∙ stands;
      moves = he.goes all ∙ ap (λ d. Goes d.way (memory_at at e.now)) (sym same);
    }

    same_goes : (w : Way) (m n : Memory) → Goes w m ≡ Goes w n → m ≡ n
    same_goes w m n h = cc h

    moved : (n x : ℕ) (m' : Memory) → Passes g j n (memory_at at m) x m' → drive.content_move s.content (memory_at at m) ≡ Goes d.way m'
    moved n x m' p =
        let edge : p.edge ≡ d = is_same p.edge p.is in
        let site : Some p.site ≡ Some s = sym p.stands ∙ (ap (slice_get g) (sym p.from_is ∙ ap (λ d. d.from) edge) ∙ stands) in
        let same : p.site ≡ s = cc site in
        ap (λ s. drive.content_move s.content (memory_at at m)) (sym same) ∙ (p.moves ∙ ap (λ d. Goes d.way m') edge)

edge_takes : (input at : ℕ → ℕ) → ((n : ℕ) → at n < 2 ^ 32) → (g : List Site) (j : ℕ) (o : Option Edge) (m : TermMemory) → IsSmallMemory m → IsSmallGraph g → slice_get (edges g) j ≡ o → Always input at (tp.pass g o m) (Takes at g j (memory_at at m))
edge_takes input at small g j None m h few is = nowhere_takes input at g j m h (λ n x m' p.
    let none : Some p.edge ≡ None = sym p.is ∙ is in
    cc none)
edge_takes input at small g j (Some d) m h few is = site_takes input at small g j d (slice_get g d.from) m h few is refl

-- ---- one edge after the other

-- the edges are taken from the node n exactly where all conditions hold
pub record Walked (at : ℕ → ℕ) (g : List Site) (q : List ℕ) (n : ℕ) (m : Memory) (cs : List ℕ) : Type 0 where
  pub walks : (x : ℕ) → end_node (edges g) n q ≡ Some x → all_hold at cs ≡ true → (m' : Memory) × Walks g q n m x m'
  pub only : (x : ℕ) (m' : Memory) → Walks g q n m x m' → all_hold at cs ≡ true

-- where the list goes on, if it follows the edges
goes_on : (g : List Site) (n j : ℕ) (q : List ℕ) (x : ℕ) → end_node (edges g) n (j ∷ q) ≡ Some x → (d : Edge) × (slice_get (edges g) j ≡ Some d) × (d.from ≡ n) × (end_node (edges g) d.to q ≡ Some x)
goes_on g n j q x h = by_edge (slice_get (edges g) j) refl h
  where
    same : (a b : ℕ) → (a == b) ≡ true → a ≡ b
    same a b h = grind (arith, nat_tests)

    by_test : (d : Edge) (b : Bool) → (d.from == n) ≡ b → slice_get (edges g) j ≡ Some d → (if b then end_node (edges g) d.to q else None) ≡ Some x → (d : Edge) × (slice_get (edges g) j ≡ Some d) × (d.from ≡ n) × (end_node (edges g) d.to q ≡ Some x)
    by_test d true e is h = (d, is, same d.from n e, h)
    by_test d false e is h = absurd (cc h)

    by_edge : (o : Option Edge) → slice_get (edges g) j ≡ o → end_node_on n o (λ m. end_node (edges g) m q) ≡ Some x → (d : Edge) × (slice_get (edges g) j ≡ Some d) × (d.from ≡ n) × (end_node (edges g) d.to q ≡ Some x)
    by_edge None is h = absurd (cc h)
    by_edge (Some d) is h = by_test d (d.from == n) refl is h

pub walk_walked : (input at : ℕ → ℕ) → ((n : ℕ) → at n < 2 ^ 32) → (g : List Site) (q : List ℕ) (m : TermMemory) → IsSmallMemory m → IsSmallGraph g → Always input at (tp.walk g q m) (λ cs. (n : ℕ) → Walked at g q n (memory_at at m) cs)
walk_walked input at small g [] m h few = λ n. record {
  walks = λ x end_node all. (memory_at at m, (cc end_node, refl));
  only = λ x m' w. refl;
}
walk_walked input at small g (j ∷ q) m h few = always_then (Takes at g j (memory_at at m)) (λ cs. (n : ℕ) → Walked at g (j ∷ q) n (memory_at at m) cs) input at (tp.pass g (slice_get (edges g) j) m) (λ e. tp.walk g q e.now >>= (λ cs. Done (e.conditions ++ cs))) (edge_takes input at small g j (slice_get (edges g) j) m h few refl) (λ e he. always_then (λ cs. (n : ℕ) → Walked at g q n (memory_at at e.now) cs) (λ cs. (n : ℕ) → Walked at g (j ∷ q) n (memory_at at m) cs) input at (tp.walk g q e.now) (λ cs. Done (e.conditions ++ cs)) (walk_walked input at small g q e.now he.small few) (λ cs hc n. record {
  walks = λ x end_node all. on e he cs hc n x (goes_on g n j q x end_node) (and_parts (all_hold at e.conditions) (all_hold at cs) (sym (hold_append at e.conditions cs) ∙ all));
  only = λ x m' w. hold_append at e.conditions cs ∙ and_from (all_hold at e.conditions) (all_hold at cs) (he.only n w.0 w.1 w.2) ((hc w.0).only x m' (subst (λ m. Walks g q w.0 m x m') (he.one n w.0 w.1 w.2) w.3));
}))
  where
    on : (e : Effect TermMemory) → Takes at g j (memory_at at m) e → (cs : List ℕ) → ((n : ℕ) → Walked at g q n (memory_at at e.now) cs) → (n x : ℕ) → (d : Edge) × (slice_get (edges g) j ≡ Some d) × (d.from ≡ n) × (end_node (edges g) d.to q ≡ Some x) → (all_hold at e.conditions ≡ true) × (all_hold at cs ≡ true) → (m' : Memory) × Walks g (j ∷ q) n (memory_at at m) x m'
    on e he cs hc n x to all =
        let rest = (hc to.0.to).walks x to.3 all.1 in
        let first : Passes g j n (memory_at at m) to.0.to (memory_at at e.now) = subst (λ n. Passes g j n (memory_at at m) to.0.to (memory_at at e.now)) to.2 (he.takes all.0 to.0 to.1) in
        (rest.0, (to.0.to, memory_at at e.now, first, rest.1))
