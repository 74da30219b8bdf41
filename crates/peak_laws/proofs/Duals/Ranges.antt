-- What a program's part costs at its caps is within the bound by caps; and counts are within caps.
use Rattle.std.proofs.Common.{◌≡◌, ◌≤◌, ℕ, zero, suc, ◌+◌, ◌*◌, List, [], ◌∷◌, ◌++◌, length, Option, Some, None, refl, sym, ap, ◌∙◌, arith, length-append}
use Rattle.std.proofs.Math.Nat.{mul-le-mul_left}
use Rattle.std.specs.Prelude.{slice_get}
use Rattle.c_tree.specs.declared.program.Costs.{Costs}
use Rattle.lin_rows.specs.Vectors.{cost_by}
use Rattle.flow_laws.specs.declared.graph.Way.TheVariants.{True, False}
use Rattle.flow_laws.specs.declared.graph.Edge.{Edge}
use Rattle.flow_laws.specs.Sites.{Site, Targets, head, with_next, body_of}
use Rattle.flow_laws.specs.Graphs.{leaves, edges, all_to}
use Rattle.flow_laws.specs.Paths.{cost_of_site, cap_of}
use Rattle.ipet_rows.specs.CapsBound.{cost_at_caps, caps_bound}
use Rattle.peak_laws.specs.Parts.{ByEnd, ByBreak, ByContinue, ByReturn, Part, Nothing, Block, Then, Choice, While, Do, Body, full_turn_cost, dearest_ways, way_back, more, step_cost, step_size, part_size, step_costs, node_costs, step_edges, part_edges}
use Rattle.peak_laws.specs.Flows.{whole, then_first, then_second, choice_first, choice_second, while_stays, while_breaks, while_full, do_stays, do_breaks, do_full, loop_body_amounts, body_amounts, step_flows, flows, Feasible}
use Rattle.peak_laws.specs.Magnitudes.{cap_cost, step_caps, node_caps}
use Rattle.peak_laws.proofs.GraphParts.Places.{Every, every_append, Agrees, step_costs_length, costs_length}
use Rattle.peak_laws.proofs.Attaining.Amounts.{shared, cost_append, then_first_feasible, then_second_feasible, choice_first_feasible, choice_second_feasible, while_feasible, do_feasible, body_feasible}
use Rattle.peak_laws.proofs.Attaining.Conserved.{then_whole, choice_whole, body_whole}
use Rattle.peak_laws.proofs.Attaining.Turned.{amount_by_way_most}
use Rattle.peak_laws.proofs.GraphParts.Shapes.{Shaped}

-- ---- sums over nodes

abbrev nodes_sum : (ℕ → ℕ) → ℕ → ℕ → ℕ
nodes_sum f n zero = 0
nodes_sum f n (suc m) = f n + nodes_sum f (n + 1) m

nodes_plus : (f : ℕ → ℕ) (n a b : ℕ) → nodes_sum f n (a + b) ≡ nodes_sum f n a + nodes_sum f (n + a) b
nodes_plus f n zero b =
    let z : 0 + b ≡ b = omega arith in
    let y : n ≡ n + 0 = omega arith in
    ap (nodes_sum f n) z ∙ ap (λ i. nodes_sum f i b) y ∙ omega arith
nodes_plus f n (suc a) b =
    let z : suc a + b ≡ suc (a + b) = omega arith in
    let y : n + 1 + a ≡ n + suc a = omega arith in
    ap (nodes_sum f n) z ∙ omega (arith, nodes_plus f (n + 1) a b, ap (λ i. nodes_sum f i b) y)

abbrev edges_sum : (ℕ → ℕ) → List Edge → ℕ
edges_sum f [] = 0
edges_sum f (e ∷ es) = f e.from + edges_sum f es

edges_plus : (f : ℕ → ℕ) (xs ys : List Edge) → edges_sum f (xs ++ ys) ≡ edges_sum f xs + edges_sum f ys
edges_plus f [] ys = omega arith
edges_plus f (x ∷ xs) ys = omega (arith, edges_plus f xs ys)

-- each node has an edge
covered_nodes : (f : ℕ → ℕ) (p : Part) (n : ℕ) (k : Targets) → nodes_sum f n (part_size p) ≤ edges_sum f (part_edges p n k)
covered_nodes f Nothing n k = omega arith
covered_nodes f (Block c l) n k = omega arith
covered_nodes f (Then p q) n k =
    let kp = with_next k (head (part_size q) (n + part_size p) k.next) in
    omega (arith, nodes_plus f n (part_size p) (part_size q), edges_plus f (part_edges p n kp) (part_edges q (n + part_size p) k), covered_nodes f p n kp, covered_nodes f q (n + part_size p) k)
covered_nodes f (Choice c p q) n k =
    let z : 1 + (part_size p + part_size q) ≡ suc (part_size p + part_size q) = omega arith in
    omega (arith, ap (nodes_sum f n) z, nodes_plus f (n + 1) (part_size p) (part_size q), edges_plus f (part_edges p (n + 1) k) (part_edges q (n + 1 + part_size p) k), covered_nodes f p (n + 1) k, covered_nodes f q (n + 1 + part_size p) k)
covered_nodes f (While c m s p) n k =
    let z : 1 + (step_size s + part_size p) ≡ suc (step_size s + part_size p) = omega arith in
    let kp = body_of k (head (step_size s) (n + 1) n) in
    omega (arith, ap (nodes_sum f n) z, nodes_plus f (n + 1) (step_size s) (part_size p), edges_plus f (step_edges s n) (part_edges p (n + 1 + step_size s) kp), covered_nodes f p (n + 1 + step_size s) kp, of_step s)
  where
    of_step : (o : Option ℕ) → nodes_sum f (n + 1) (step_size o) ≤ edges_sum f (step_edges o n)
    of_step None = omega arith
    of_step (Some d) = omega arith
covered_nodes f (Do c m p) n k =
    let kp = body_of k (n + part_size p) in
    let own = leaves (n + part_size p) True (head (part_size p) n (n + part_size p)) ∷ (leaves (n + part_size p) False k.next ∷ []) in
    omega (arith, nodes_plus f n (part_size p) 1, edges_plus f (part_edges p n kp) own, covered_nodes f p n kp)
covered_nodes f (Body p) n k = covered_nodes f p n (all_to k.next)

-- ---- costs times caps

products : (f g : ℕ → ℕ) (n : ℕ) (xs ys : List ℕ) → length xs ≡ length ys → Agrees f n xs → Agrees g n ys → nodes_sum (λ v. f v * g v) n (length xs) ≡ cost_by xs ys
products f g n [] [] long h k = refl
products f g n [] (y ∷ ys) long h k = absurd (omega (arith, long))
products f g n (x ∷ xs) [] long h k = absurd (omega (arith, long))
products f g n (x ∷ xs) (y ∷ ys) long h k =
    λ i. h.0 i * k.0 i + products f g (n + 1) xs ys (omega (arith, long)) h.1 k.1 i

step_caps_length : (s : Option ℕ) (k : ℕ) → length (step_caps s k) ≡ step_size s
step_caps_length None k = refl
step_caps_length (Some d) k = refl

caps_length : (p : Part) (k : ℕ) → length (node_caps p k) ≡ part_size p
caps_length Nothing k = refl
caps_length (Block c l) k = refl
caps_length (Then p q) k = omega (arith, length-append (node_caps p k) (node_caps q k), caps_length p k, caps_length q k)
caps_length (Choice c p q) k = omega (arith, length-append (node_caps p k) (node_caps q k), caps_length p k, caps_length q k)
caps_length (While c m s p) k =
    omega (arith, length-append (step_caps s (k * (m + 1))) (node_caps p (k * (m + 1))), step_caps_length s (k * (m + 1)), caps_length p (k * (m + 1)))
caps_length (Do c m p) k = omega (arith, length-append (node_caps p (k * (m + 1))) ((k * (m + 1)) ∷ []), caps_length p (k * (m + 1)))
caps_length (Body p) k = caps_length p k

step_cap_cost : (s : Option ℕ) (k : ℕ) → cost_by (step_costs s) (step_caps s k) ≡ k * step_cost s
step_cap_cost None k = omega arith
step_cap_cost (Some d) k = omega arith

same_length : (p : Part) (k : ℕ) → length (node_caps p k) ≡ length (node_costs p)
same_length p k = caps_length p k ∙ sym (costs_length p)

pub cap_cost_is : (p : Part) (k : ℕ) → cost_by (node_costs p) (node_caps p k) ≡ k * cap_cost p
cap_cost_is Nothing k = omega arith
cap_cost_is (Block c l) k = omega arith
cap_cost_is (Then p q) k = omega (arith, cost_append (node_costs p) (node_costs q) (node_caps p k) (node_caps q k) (same_length p k), cap_cost_is p k, cap_cost_is q k)
cap_cost_is (Choice c p q) k = omega (arith, cost_append (node_costs p) (node_costs q) (node_caps p k) (node_caps q k) (same_length p k), cap_cost_is p k, cap_cost_is q k)
cap_cost_is (While c m s p) k =
    omega (arith, cost_append (step_costs s) (node_costs p) (step_caps s (k * (m + 1))) (node_caps p (k * (m + 1))) (step_caps_length s (k * (m + 1)) ∙ sym (step_costs_length s)), step_cap_cost s (k * (m + 1)), cap_cost_is p (k * (m + 1)))
cap_cost_is (Do c m p) k =
    omega (arith, cost_append (node_costs p) (c ∷ []) (node_caps p (k * (m + 1))) ((k * (m + 1)) ∷ []) (same_length p (k * (m + 1))), cap_cost_is p (k * (m + 1)))
cap_cost_is (Body p) k = cap_cost_is p k

sum_is : (t : Costs) (g : List Site) (es : List Edge) → edges_sum (λ v. cost_of_site t (slice_get g v) * cap_of (slice_get g v)) es ≡ cost_at_caps t g es
sum_is t g [] = refl
sum_is t g (e ∷ es) = ap (λ n. cost_of_site t (slice_get g e.from) * cap_of (slice_get g e.from) + n) (sum_is t g es)

pub cap_cost_within : (t : Costs) (g : List Site) (q : Part) → Shaped t g q → cap_cost q ≤ caps_bound t g
cap_cost_within t g q h =
    let f : ℕ → ℕ = λ v. cost_of_site t (slice_get g v) * cap_of (slice_get g v) in
    let one = products (λ v. cost_of_site t (slice_get g v)) (λ v. cap_of (slice_get g v)) 2 (node_costs q) (node_caps q 1) (sym (same_length q 1)) h.costs_agree h.caps_agree in
    let all = covered_nodes f q 2 (all_to 1) in
    let sum = ap (edges_sum f) h.edges_are in
    omega (arith, one, all, sum, cap_cost_is q 1, sum_is t g (edges g), ap (nodes_sum f 2) (costs_length q))

-- ---- counts within caps

abbrev pub UpTo : ℕ → ℕ → Type 0
UpTo x n = n ≤ x

pub every_left : (x : ℕ) (fs bs : List ℕ) → Every (UpTo x) (fs ++ bs) → Every (UpTo x) fs
every_left x [] bs h = tt
every_left x (a ∷ fs) bs h = (h.0, every_left x fs bs h.1)

pub every_right : (x : ℕ) (fs bs : List ℕ) → Every (UpTo x) (fs ++ bs) → Every (UpTo x) bs
every_right x [] bs h = h
every_right x (a ∷ fs) bs h = every_right x fs bs h.1

-- where each node can be reached at most x times, and the part is entered at most k times, each edge is taken at most x times
abbrev pub IsWithin : Part → Type 0
IsWithin p =
    (k x : ℕ) (a : Targets) → Feasible (dearest_ways p) a → whole a ≤ k → Every (UpTo x) (node_caps p k) → Every (UpTo x) (flows p a)

within_while : (c m : ℕ) (s : Option ℕ) (p : Part) → IsWithin p → IsWithin (While c m s p)
within_while c m s p hp k x a h le caps =
    let w = dearest_ways p in
    let y = full_turn_cost c s w in
    let stays = while_stays c m y w a.next in
    let out = while_breaks c m y w a.next in
    let r = a.returns in
    let full = while_full m w stays (out + r) in
    let u = loop_body_amounts w full out r in
    let shares : stays + out ≡ a.next = shared (Some ((m + 1) * y + c)) (more (m * y + c) w.breaks) a.next in
    let all : stays + (out + r) ≤ k = omega (arith, shares, le) in
    let times : (m + 1) * (stays + (out + r)) ≤ (m + 1) * k = mul-le-mul_left (m + 1) all in
    let most : full + (out + r) ≤ k * (m + 1) = omega (arith, times, amount_by_way_most (way_back w) ((m + 1) * stays + m * (out + r))) in
    let into : whole u ≤ k * (m + 1) = omega (arith, most, shared w.next w.continues full) in
    let mine : k * (m + 1 + 1) ≤ x = caps.0 in
    (omega (arith, most, mine), (omega (arith, all, mine), every_append (UpTo x) (step_flows s full) (flows p u) (of_step s full (omega (arith, most, mine))) (hp (k * (m + 1)) x u (while_feasible c m y w a h) into (every_right x (step_caps s (k * (m + 1))) (node_caps p (k * (m + 1))) caps.1))))
  where
    of_step : (o : Option ℕ) (z : ℕ) → z ≤ x → Every (UpTo x) (step_flows o z)
    of_step None z le = tt
    of_step (Some d) z le = (le, tt)

within_do : (c m : ℕ) (p : Part) → IsWithin p → IsWithin (Do c m p)
within_do c m p hp k x a h le caps =
    let w = dearest_ways p in
    let y = full_turn_cost c None w in
    let stays = do_stays c m y w a.next in
    let out = do_breaks c m y w a.next in
    let r = a.returns in
    let full = do_full m w (stays + (out + r)) in
    let u = loop_body_amounts w (full + stays) out r in
    let shares : stays + out ≡ a.next = shared (more (m * y + c) (way_back w)) (more (m * y) w.breaks) a.next in
    let all : stays + (out + r) ≤ k = omega (arith, shares, le) in
    let times : m * (stays + (out + r)) ≤ m * k = mul-le-mul_left m all in
    let most : full + (stays + (out + r)) ≤ k * (m + 1) = omega (arith, times, all, amount_by_way_most (way_back w) (m * (stays + (out + r)))) in
    let into : whole u ≤ k * (m + 1) = omega (arith, most, shared w.next w.continues (full + stays)) in
    let mine = every_right x (node_caps p (k * (m + 1))) ((k * (m + 1)) ∷ []) caps in
    let limit : k * (m + 1) ≤ x = mine.0 in
    every_append (UpTo x) (flows p u) (full ∷ (stays ∷ [])) (hp (k * (m + 1)) x u (do_feasible c m y w a h) into (every_left x (node_caps p (k * (m + 1))) ((k * (m + 1)) ∷ []) caps)) (omega (arith, most, limit), (omega (arith, most, limit), tt))

pub within_caps : (p : Part) → IsWithin p
within_caps Nothing k x a h le caps = tt
within_caps (Block c ByEnd) k x a h le caps = (omega (arith, le, caps.0), tt)
within_caps (Block c ByBreak) k x a h le caps = (omega (arith, le, caps.0), tt)
within_caps (Block c ByContinue) k x a h le caps = (omega (arith, le, caps.0), tt)
within_caps (Block c ByReturn) k x a h le caps = (omega (arith, le, caps.0), tt)
within_caps (Then p q) k x a h le caps =
    let first = then_first (dearest_ways p) (dearest_ways q) a in
    let second = then_second (dearest_ways p) (dearest_ways q) a in
    let same = then_whole (dearest_ways p) (dearest_ways q) a in
    every_append (UpTo x) (flows p first) (flows q second) (within_caps p k x first (then_first_feasible (dearest_ways p) (dearest_ways q) a h) (omega (arith, same, le)) (every_left x (node_caps p k) (node_caps q k) caps)) (within_caps q k x second (then_second_feasible (dearest_ways p) (dearest_ways q) a h) (omega (arith, same, le)) (every_right x (node_caps p k) (node_caps q k) caps))
within_caps (Choice c p q) k x a h le caps =
    let first = choice_first (dearest_ways p) (dearest_ways q) a in
    let second = choice_second (dearest_ways p) (dearest_ways q) a in
    let same = choice_whole (dearest_ways p) (dearest_ways q) a in
    (omega (arith, same, le, caps.0), (omega (arith, same, le, caps.0), every_append (UpTo x) (flows p first) (flows q second) (within_caps p k x first (choice_first_feasible (dearest_ways p) (dearest_ways q) a) (omega (arith, same, le)) (every_left x (node_caps p k) (node_caps q k) caps.1)) (within_caps q k x second (choice_second_feasible c (dearest_ways p) (dearest_ways q) a h) (omega (arith, same, le)) (every_right x (node_caps p k) (node_caps q k) caps.1))))
within_caps (While c m s p) k x a h le caps = within_while c m s p (within_caps p) k x a h le caps
within_caps (Do c m p) k x a h le caps = within_do c m p (within_caps p) k x a h le caps
within_caps (Body p) k x a h le caps =
    within_caps p k x (body_amounts (dearest_ways p) a.next) (body_feasible (dearest_ways p) a h) (omega (arith, body_whole (dearest_ways p) a.next, le)) caps
