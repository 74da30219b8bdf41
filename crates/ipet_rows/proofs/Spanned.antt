-- What edges cost at their caps is at most 2^97 where each block costs a number of 32 bits: at most two edges leave each block copy, and the
-- caps of these sum to the span.
use Rattle.std.proofs.Common.{◌≡◌, ◌≤◌, ◌<◌, ℕ, zero, suc, ◌+◌, ◌*◌, ◌^◌, List, [], ◌∷◌, ◌++◌, Option, Some, None, refl, sym, ap, ◌∙◌, subst, arith}
use Rattle.std.specs.Prelude.{slice_get}
use Rattle.std.proofs.Math.Nat.{mul-le-mul_left}
use Rattle.c_tree.specs.declared.program.BlockName.{BlockName}
use Rattle.c_tree.specs.declared.program.Func.{Func}
use Rattle.c_tree.specs.declared.program.Program.{Program}
use Rattle.c_tree.specs.declared.program.Costs.{Costs}
use Rattle.c_tree.specs.Keeping.Layouts.{Shape, global_shapes}
use Rattle.c_tree.specs.Meaning.Spans.{span_at, func_span, spans}
use Rattle.c_tree.specs.Keeping.WellFormed.{WellFormedFuncs, WellFormed}
use Rattle.flow_laws.specs.declared.graph.Way.{Way}
use Rattle.flow_laws.specs.declared.graph.Way.TheVariants.{Next, True, False}
use Rattle.flow_laws.specs.declared.graph.Edge.{Edge}
use Rattle.flow_laws.specs.Sites.{Content, Entry, Exit, Simple, Test, Jump, Give, Enter, Missing, Land, Site}
use Rattle.flow_laws.specs.Graphs.{leaves, outs, edges_from, graph, edges}
use Rattle.flow_laws.specs.Paths.{cap_of_copy, copy_caps, cost_of_block, cost_of_edge, cost_of_site, cap_of}
use Rattle.flow_laws.proofs.Caps.CapsSumToSpan.{caps_are_span}
use Rattle.ipet_rows.specs.CapsBound.{cap_of_edge, cost_at_caps, caps_bound, AreSmall}
use Rattle.c_tree.proofs.FunctionSpans.{spans-push}

-- ---- spans

abbrev AreSpans : List ℕ → Type 0
AreSpans ss = (g : ℕ) → span_at ss g ≤ 2 ^ 64

one_more : (ss : List ℕ) (m : ℕ) → AreSpans ss → m ≤ 2 ^ 64 → AreSpans (ss ++ m ∷ [])
one_more [] m h k zero = k
one_more [] m h k (suc g) = omega arith
one_more (s ∷ ss) m h k zero = h 0
one_more (s ∷ ss) m h k (suc g) = one_more ss m (λ n. h (suc n)) k g

all_spans : (globals : List Shape) (above fs : List Func) (ss : List ℕ) → ss ≡ spans [] above → AreSpans ss → WellFormedFuncs globals above fs → AreSpans (spans ss fs)
all_spans globals above [] ss is h w = h
all_spans globals above (f ∷ fs) ss is h w =
    let next : ss ++ func_span ss f ∷ [] ≡ spans [] (above ++ f ∷ []) = ap (λ y. y ++ func_span y f ∷ []) is ∙ sym (spans-push [] above f) in
    let own : func_span ss f ≤ 2 ^ 64 = subst (λ y. func_span y f ≤ 2 ^ 64) (sym is) w.0.span in
    all_spans globals (above ++ f ∷ []) fs (ss ++ func_span ss f ∷ []) next (one_more ss (func_span ss f) h own) w.1

span_small : (p : Program) → WellFormed p → span_at (spans [] p.funcs) p.entry ≤ 2 ^ 64
span_small p w = all_spans (global_shapes p.globals) [] p.funcs [] refl (λ g. omega arith) w.funcs p.entry

-- ---- edges

cost_append : (t : Costs) (g : List Site) (a b : List Edge) → cost_at_caps t g (a ++ b) ≡ cost_at_caps t g a + cost_at_caps t g b
cost_append t g [] b = omega arith
cost_append t g (e ∷ a) b = omega (arith, cost_append t g a b)

module _ (t : Costs) (small : AreSmall t) (g : List Site) where
  block_within : (b : Option BlockName) (cap : ℕ) → cost_of_block t b * cap ≤ 2 ^ 32 * cap_of_copy b cap
  block_within None cap = omega arith
  block_within (Some b) cap = omega (arith, mul-le-mul_left cap (less (small b)))
    where
      less : cost_of_block t (Some b) < 2 ^ 32 → cost_of_block t (Some b) ≤ 2 ^ 32
      less h = omega (arith, h)

  edge_within : (n : ℕ) (s : Site) → slice_get g n ≡ Some s → (way : Way) (m : ℕ) → cost_of_edge t g (Some (leaves n way m)) * cap_of_edge g (leaves n way m) ≤ 2 ^ 32 * cap_of_copy s.node.block s.node.cap
  edge_within n s is way m = subst (λ y. cost_of_site t y * cap_of y ≤ 2 ^ 32 * cap_of_copy s.node.block s.node.cap) (sym is) (block_within s.node.block s.node.cap)

  outs_within : (n : ℕ) (s : Site) → slice_get g n ≡ Some s → (c : Content) → cost_at_caps t g (outs n s c) ≤ 2 ^ 33 * cap_of_copy s.node.block s.node.cap
  outs_within n s is Exit = omega arith
  outs_within n s is (Test l e) = omega (arith, edge_within n s is True s.yes, edge_within n s is False s.no)
  outs_within n s is Entry = omega (arith, edge_within n s is Next s.yes)
  outs_within n s is (Simple ss) = omega (arith, edge_within n s is Next s.yes)
  outs_within n s is Jump = omega (arith, edge_within n s is Next s.yes)
  outs_within n s is (Give e) = omega (arith, edge_within n s is Next s.yes)
  outs_within n s is (Enter x ls es) = omega (arith, edge_within n s is Next s.yes)
  outs_within n s is Missing = omega (arith, edge_within n s is Next s.yes)
  outs_within n s is (Land x ty b) = omega (arith, edge_within n s is Next s.yes)

  edges_within : (n : ℕ) (h : List Site) → ((k : ℕ) (s : Site) → slice_get h k ≡ Some s → slice_get g (n + k) ≡ Some s) → cost_at_caps t g (edges_from n h) ≤ 2 ^ 33 * copy_caps h
  edges_within n [] at = omega arith
  edges_within n (s ∷ h) at =
      let z : n + 0 ≡ n = omega arith in
      let is : slice_get g n ≡ Some s = subst (λ k. slice_get g k ≡ Some s) z (at 0 s refl) in
      let rest = edges_within (n + 1) h (λ k d has. subst (λ j. slice_get g j ≡ Some d) (later k) (at (suc k) d has)) in
      omega (arith, cost_append t g (outs n s s.content) (edges_from (n + 1) h), outs_within n s is s.content, rest)
    where
      later : (k : ℕ) → n + suc k ≡ n + 1 + k
      later k = omega arith

  all_within : caps_bound t g ≤ 2 ^ 33 * copy_caps g
  unfolding edges
  all_within = edges_within 0 g (λ k s has. subst (λ j. slice_get g j ≡ Some s) (same k) has)
    where
      same : (k : ℕ) → k ≡ 0 + k
      same k = omega arith

pub bound_within : (p : Program) (t : Costs) → WellFormed p → AreSmall t → caps_bound t (graph p) ≤ 2 ^ 97
bound_within p t w small = omega (arith, all_within t small (graph p), caps_are_span p, span_small p w)
