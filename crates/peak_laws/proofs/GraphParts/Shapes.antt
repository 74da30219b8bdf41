-- A graph that is Entry, Exit and a part.
use Rattle.std.proofs.Common.{◌≡◌, ℕ, ◌+◌, Bool, true, false, List, [], ◌∷◌, ◌++◌, length, map, Option, Some, None, refl, ap, ◌∙◌, subst, arith}
use Rattle.std.specs.Prelude.{slice_get, ◌==◌, ◌&&◌}
use Rattle.c_tree.specs.declared.program.Costs.{Costs}
use Rattle.flow_laws.specs.declared.graph.Way.{Way}
use Rattle.flow_laws.specs.declared.graph.Way.TheVariants.{Next, True, False}
use Rattle.flow_laws.specs.declared.graph.Edge.{Edge}
use Rattle.flow_laws.specs.Sites.{LoopCopy, Site, Targets, head, with_next, body_of}
use Rattle.flow_laws.specs.Graphs.{leaves, edges, enters, first_out, positions, loop_copies, loop_of, all_to}
use Rattle.flow_laws.specs.Paths.{is_in_list, cost_of_site, cap_of}
use Rattle.flow_laws.proofs.Driving.DrivingSteps.{is_true_end, turns as tree_turns}
use Rattle.flow_laws.proofs.Loops.LoopConditions.{AllTested}
use Rattle.flow_laws.proofs.Graphs.EdgesDistinct.{among_number}
use Rattle.flow_laws.proofs.Runs.RunsAreDrivenPaths.{AllOf, to_list, loop_at_node, turn_is}
use Rattle.ipet_rows.specs.CapsBound.{costs_of_edges}
use Rattle.peak_laws.specs.Parts.{Part, Nothing, Block, Then, Choice, While, Do, Body, step_costs, step_size, part_size, node_costs, step_edges, part_edges, CostedLoop, costed_loops, is_true_way, turns}
use Rattle.peak_laws.specs.Flows.{edge_costs}
use Rattle.peak_laws.specs.Answers.{copies_of_loops}
use Rattle.peak_laws.specs.Magnitudes.{node_caps}
use Rattle.peak_laws.proofs.GraphParts.Places.{Every, Agrees, agrees_left, agrees_right, step_costs_length, costs_length}
use Rattle.peak_laws.proofs.Attaining.Sums.{Chosen}
use Rattle.peak_laws.proofs.Duals.Reduced.{Known}

abbrev pub entry_edge : Part → Edge
entry_edge q = leaves 0 Next (head (part_size q) 2 1)

pub record Shaped (t : Costs) (g : List Site) (q : Part) : Type 0 where
  pub edges_are : edges g ≡ entry_edge q ∷ part_edges q 2 (all_to 1)
  pub loops_are : loop_copies g ≡ copies_of_loops (costed_loops q 2)
  pub nodes : length g ≡ 2 + part_size q
  pub costs_are : costs_of_edges t g (edges g) ≡ 0 ∷ edge_costs q
  pub tested : AllTested 0 g
  pub costs_agree : Agrees (λ v. cost_of_site t (slice_get g v)) 2 (node_costs q)
  pub caps_agree : Agrees (λ v. cap_of (slice_get g v)) 2 (node_caps q 1)

-- ---- which edges turn and enter a loop

same_way : (w : Way) → is_true_end w ≡ is_true_way w
same_way Next = refl
same_way True = refl
same_way False = refl

and_swap : (a b : Bool) → (a && b) ≡ (b && a)
and_swap true true = refl
and_swap true false = refl
and_swap false true = refl
and_swap false false = refl

same_turns : (l : LoopCopy) (e : Edge) → tree_turns l e ≡ turns l e
same_turns l e = ap (λ b. e.from == l.test && b) (same_way e.way) ∙ and_swap (e.from == l.test) (is_true_way e.way)

every_loop_copy : (P : LoopCopy → Type 0) (fs : List CostedLoop) → AllOf P (copies_of_loops fs) → Every (λ f. P f.loop_copy) fs
every_loop_copy P [] h = tt
every_loop_copy P (f ∷ fs) h = (h.0, every_loop_copy P fs h.1)

pub known : (t : Costs) (g : List Site) (q : Part) → Shaped t g q → Every (Known g (edges g)) (costed_loops q 2)
known t g q h =
    every_loop_copy Is (costed_loops q 2) (subst (AllOf Is) h.loops_are (to_list Is g (λ i s l c has is. record {
      turn = λ k e at. subst (λ n. (n == first_out g l.test) ≡ turns l e) (zero_more k) (turn_is g i l c (loop_at_node g i s l c h.tested has is) k e at ∙ same_turns l e);
      into = λ k e at. subst (λ n. is_in_list n (positions 0 (enters l) (edges g)) ≡ enters l e) (zero_more k) (among_number (enters l) (edges g) k e at);
    })))
  where
    Is : LoopCopy → Type 0
    Is l = Chosen (loop_of g l) (turns l) (enters l) 0 (edges g)

    zero_more : (k : ℕ) → k ≡ 0 + k
    zero_more k = omega arith

-- ---- costs

step_costs_are : (s : Option ℕ) (n : ℕ) (cost : ℕ → ℕ) → Agrees cost (n + 1) (step_costs s) → map (λ e. cost e.from) (step_edges s n) ≡ step_costs s
step_costs_are None n cost h = refl
step_costs_are (Some d) n cost h = ap (λ c. c ∷ []) h.0

map_append : (f : Edge → ℕ) (xs ys : List Edge) → map f (xs ++ ys) ≡ map f xs ++ map f ys
map_append f [] ys = refl
map_append f (x ∷ xs) ys = ap (λ zs. f x ∷ zs) (map_append f xs ys)

pub edge_costs_are : (q : Part) (n : ℕ) (k : Targets) (cost : ℕ → ℕ) → Agrees cost n (node_costs q) → map (λ e. cost e.from) (part_edges q n k) ≡ edge_costs q
edge_costs_are Nothing n k cost h = refl
edge_costs_are (Block c l) n k cost h = ap (λ x. x ∷ []) h.0
edge_costs_are (Then p q) n k cost h =
    let kp = with_next k (head (part_size q) (n + part_size p) k.next) in
    map_append (λ e. cost e.from) (part_edges p n kp) (part_edges q (n + part_size p) k) ∙ (λ i. edge_costs_are p n kp cost (agrees_left cost n (node_costs p) (node_costs q) h) i ++ edge_costs_are q (n + part_size p) k cost (agrees_right cost n (n + part_size p) (node_costs p) (node_costs q) (omega (arith, costs_length p)) h) i)
edge_costs_are (Choice c p q) n k cost h =
    let np = n + 1 in
    let nq = n + 1 + part_size p in
    let rest = map_append (λ e. cost e.from) (part_edges p np k) (part_edges q nq k) ∙ (λ i. edge_costs_are p np k cost (agrees_left cost np (node_costs p) (node_costs q) h.1) i ++ edge_costs_are q nq k cost (agrees_right cost np nq (node_costs p) (node_costs q) (omega (arith, costs_length p)) h.1) i) in
    λ i. h.0 i ∷ (h.0 i ∷ rest i)
edge_costs_are (While c m s p) n k cost h =
    let np = n + 1 + step_size s in
    let kp = body_of k (head (step_size s) (n + 1) n) in
    let rest = map_append (λ e. cost e.from) (step_edges s n) (part_edges p np kp) ∙ (λ i. step_costs_are s n cost (agrees_left cost (n + 1) (step_costs s) (node_costs p) h.1) i ++ edge_costs_are p np kp cost (agrees_right cost (n + 1) np (step_costs s) (node_costs p) (omega (arith, step_costs_length s)) h.1) i) in
    λ i. h.0 i ∷ (h.0 i ∷ rest i)
edge_costs_are (Do c m p) n k cost h =
    let nc = n + part_size p in
    let kp = body_of k nc in
    let own = leaves nc True (head (part_size p) n nc) ∷ (leaves nc False k.next ∷ []) in
    let last = (agrees_right cost n nc (node_costs p) (c ∷ []) (omega (arith, costs_length p)) h).0 in
    map_append (λ e. cost e.from) (part_edges p n kp) own ∙ (λ i. edge_costs_are p n kp cost (agrees_left cost n (node_costs p) (c ∷ []) h) i ++ (last i ∷ (last i ∷ [])))
edge_costs_are (Body p) n k cost h = edge_costs_are p n (all_to k.next) cost h
