-- What enters a node of a part leaves it, by the counts of the part's edges; and each loop is turned no more often than its entries allow.
use Rattle.std.proofs.Common.{◌≡◌, ◌<◌, ℕ, zero, suc, ◌+◌, ◌*◌, Bool, true, false, if◌then◌else◌, List, [], ◌∷◌, ◌++◌, length, Option, Some, None, refl, sym, ap, ◌∙◌, arith, length-append}
use Rattle.std.specs.Prelude.{◌==◌}
use Rattle.std.proofs.lemmas.Bool.{ne_eqb, eq-eqb}
use Rattle.flow_laws.specs.declared.graph.Way.TheVariants.{True, False}
use Rattle.flow_laws.specs.declared.graph.Edge.{Edge}
use Rattle.flow_laws.specs.Sites.{Targets, head, with_next, body_of}
use Rattle.flow_laws.specs.Graphs.{leaves, all_to}
use Rattle.peak_laws.specs.Parts.{Leaving, ByEnd, ByBreak, ByContinue, ByReturn, Part, Nothing, Block, Then, Choice, While, Do, Body, Ways, dearest_ways, way_back, full_turn_cost, step_costs, step_size, part_size, step_edges, part_edges, greater, more, sum_of_both}
use Rattle.peak_laws.specs.Flows.{by_first, by_second, whole, then_first, then_second, choice_first, choice_second, while_stays, while_breaks, do_stays, do_breaks, loop_body_amounts, while_full, do_full, body_amounts, step_flows, flows, edge_costs, Feasible}
use Rattle.flow_laws.proofs.Runs.StatementParts.{head_self}
use Rattle.flow_laws.proofs.Graphs.PartSizes.{head_plus}
use Rattle.peak_laws.proofs.GraphParts.Places.{Every}
use Rattle.peak_laws.proofs.Attaining.Amounts.{shared, then_first_feasible, then_second_feasible, choice_first_feasible, choice_second_feasible, while_feasible, do_feasible, body_feasible, flows_length, step_flows_length}

-- ---- counts of edges with a property

abbrev pub weigh : (Edge → Bool) → List Edge → List ℕ → ℕ
weigh p [] xs = 0
weigh p (e ∷ es) [] = 0
weigh p (e ∷ es) (x ∷ xs) = (if p e then x else 0) + weigh p es xs

pub weigh_append : (p : Edge → Bool) (es ds : List Edge) (xs zs : List ℕ) → length xs ≡ length es → weigh p (es ++ ds) (xs ++ zs) ≡ weigh p es xs + weigh p ds zs
weigh_append p [] ds [] zs h = omega arith
weigh_append p [] ds (x ∷ xs) zs h = absurd (omega (arith, h))
weigh_append p (e ∷ es) ds [] zs h = absurd (omega (arith, h))
weigh_append p (e ∷ es) ds (x ∷ xs) zs h = omega (arith, weigh_append p es ds xs zs (omega (arith, h)))

pub weigh_same : (p q : Edge → Bool) (es : List Edge) (xs : List ℕ) → Every (λ e. p e ≡ q e) es → weigh p es xs ≡ weigh q es xs
weigh_same p q [] xs h = refl
weigh_same p q (e ∷ es) [] h = refl
weigh_same p q (e ∷ es) (x ∷ xs) h = omega (arith, ap (λ b. if b then x else 0) h.0, weigh_same p q es xs h.1)

pub weigh_none : (p : Edge → Bool) (es : List Edge) (xs : List ℕ) → Every (λ e. p e ≡ false) es → weigh p es xs ≡ 0
weigh_none p [] xs h = refl
weigh_none p (e ∷ es) [] h = refl
weigh_none p (e ∷ es) (x ∷ xs) h = omega (arith, ap (λ b. if b then x else 0) h.0, weigh_none p es xs h.1)

abbrev pub leaving : ℕ → List Edge → List ℕ → ℕ
leaving v es xs = weigh (λ e. e.from == v) es xs

abbrev pub arriving : ℕ → List Edge → List ℕ → ℕ
arriving v es xs = weigh (λ e. e.to == v) es xs

-- x at the node i
abbrev pub at : ℕ → ℕ → ℕ → ℕ
at v i x = if i == v then x else 0

pub at_sum : (v i x z : ℕ) → at v i (x + z) ≡ at v i x + at v i z
at_sum v i x z = by_test (i == v)
  where
    by_test : (b : Bool) → (if b then x + z else 0) ≡ (if b then x else 0) + (if b then z else 0)
    by_test true = refl
    by_test false = refl

pub at_none : (v i : ℕ) → at v i 0 ≡ 0
at_none v i = by_test (i == v) 0 refl
  where
    by_test : (b : Bool) (z : ℕ) → z ≡ 0 → (if b then z else 0) ≡ 0
    by_test true z h = h
    by_test false z h = refl

pub at_here : (v x : ℕ) → at v v x ≡ x
at_here v x = ap (λ b. if b then x else 0) (eq-eqb v v refl)

pub at_other : (v i x : ℕ) → (i ≡ v → ⊥) → at v i x ≡ 0
at_other v i x ne = ap (λ b. if b then x else 0) (ne_eqb i v ne)

-- ---- as many counts as edges

step_edges_length : (s : Option ℕ) (n : ℕ) → length (step_edges s n) ≡ length (step_costs s)
step_edges_length None n = refl
step_edges_length (Some d) n = refl

pub edges_length : (p : Part) (n : ℕ) (k : Targets) → length (part_edges p n k) ≡ length (edge_costs p)
edges_length Nothing n k = refl
edges_length (Block c l) n k = refl
edges_length (Then p q) n k =
    let kp = with_next k (head (part_size q) (n + part_size p) k.next) in
    omega (arith, length-append (part_edges p n kp) (part_edges q (n + part_size p) k), length-append (edge_costs p) (edge_costs q), edges_length p n kp, edges_length q (n + part_size p) k)
edges_length (Choice c p q) n k =
    omega (arith, length-append (part_edges p (n + 1) k) (part_edges q (n + 1 + part_size p) k), length-append (edge_costs p) (edge_costs q), edges_length p (n + 1) k, edges_length q (n + 1 + part_size p) k)
edges_length (While c m s p) n k =
    let kp = body_of k (head (step_size s) (n + 1) n) in
    let np = n + 1 + step_size s in
    omega (arith, length-append (step_edges s n) (part_edges p np kp), length-append (step_costs s) (edge_costs p), step_edges_length s n, edges_length p np kp)
edges_length (Do c m p) n k =
    let kp = body_of k (n + part_size p) in
    let own = leaves (n + part_size p) True (head (part_size p) n (n + part_size p)) ∷ (leaves (n + part_size p) False k.next ∷ []) in
    omega (arith, length-append (part_edges p n kp) own, length-append (edge_costs p) (c ∷ (c ∷ [])), edges_length p n kp)
edges_length (Body p) n k = edges_length p n (all_to k.next)

pub counts_length : (p : Part) (n : ℕ) (k a : Targets) → length (flows p a) ≡ length (part_edges p n k)
counts_length p n k a = flows_length p a ∙ sym (edges_length p n k)

pub step_counts_length : (s : Option ℕ) (n x : ℕ) → length (step_flows s x) ≡ length (step_edges s n)
step_counts_length s n x = step_flows_length s x ∙ sym (step_edges_length s n)

-- ---- first nodes

pub head_some : (m n x : ℕ) → 0 < m → head m n x ≡ n
head_some zero n x h = absurd (omega (arith, h))
head_some (suc m) n x h = refl

-- ---- what enters a node leaves it

-- what leaves the part at the node v, and what goes on from it to v; what arrives, and what the part is entered with
abbrev pub IsConserved : Part → Type 0
IsConserved p =
    (n : ℕ) (k a : Targets) (v : ℕ) → Feasible (dearest_ways p) a → leaving v (part_edges p n k) (flows p a) + (at v k.next a.next + (at v k.breaks a.breaks + (at v k.continues a.continues + at v k.returns a.returns))) ≡ arriving v (part_edges p n k) (flows p a) + at v (head (part_size p) n k.next) (whole a)

conserve_nothing : IsConserved Nothing
conserve_nothing n k a v h =
    let b = ap (at v k.breaks) h.breaks ∙ at_none v k.breaks in
    let c = ap (at v k.continues) h.continues ∙ at_none v k.continues in
    let r = ap (at v k.returns) h.returns ∙ at_none v k.returns in
    let all : whole a ≡ a.next = omega (arith, h.breaks, h.continues, h.returns) in
    omega (arith, b, c, r, ap (at v k.next) all)

conserve_block : (c : ℕ) (l : Leaving) → IsConserved (Block c l)
conserve_block c ByEnd n k a v h =
    let all : whole a ≡ a.next = omega (arith, h.breaks, h.continues, h.returns) in
    omega (arith, ap (at v k.breaks) h.breaks ∙ at_none v k.breaks, ap (at v k.continues) h.continues ∙ at_none v k.continues, ap (at v k.returns) h.returns ∙ at_none v k.returns, ap (at v n) all)
conserve_block c ByBreak n k a v h =
    let all : whole a ≡ a.breaks = omega (arith, h.next, h.continues, h.returns) in
    omega (arith, ap (at v k.next) h.next ∙ at_none v k.next, ap (at v k.continues) h.continues ∙ at_none v k.continues, ap (at v k.returns) h.returns ∙ at_none v k.returns, ap (at v n) all)
conserve_block c ByContinue n k a v h =
    let all : whole a ≡ a.continues = omega (arith, h.next, h.breaks, h.returns) in
    omega (arith, ap (at v k.next) h.next ∙ at_none v k.next, ap (at v k.breaks) h.breaks ∙ at_none v k.breaks, ap (at v k.returns) h.returns ∙ at_none v k.returns, ap (at v n) all)
conserve_block c ByReturn n k a v h =
    let all : whole a ≡ a.returns = omega (arith, h.next, h.breaks, h.continues) in
    omega (arith, ap (at v k.next) h.next ∙ at_none v k.next, ap (at v k.breaks) h.breaks ∙ at_none v k.breaks, ap (at v k.continues) h.continues ∙ at_none v k.continues, ap (at v n) all)

-- what is shared between two ways, at a node
at_shared : (v i : ℕ) (o p : Option ℕ) (x : ℕ) → at v i (by_first o p x) + at v i (by_second o p x) ≡ at v i x
at_shared v i o p x = sym (at_sum v i (by_first o p x) (by_second o p x)) ∙ ap (at v i) (shared o p x)

pub then_whole : (v w : Ways) (a : Targets) → whole (then_first v w a) ≡ whole a
then_whole v w a =
    omega (arith, shared v.breaks (sum_of_both v.next w.breaks) a.breaks, shared v.continues (sum_of_both v.next w.continues) a.continues, shared v.returns (sum_of_both v.next w.returns) a.returns)

conserve_then : (p q : Part) → IsConserved p → IsConserved q → IsConserved (Then p q)
conserve_then p q hp hq n k a v h =
    let w = dearest_ways p in
    let z = dearest_ways q in
    let x = head (part_size q) (n + part_size p) k.next in
    let kp = with_next k x in
    let first = then_first w z a in
    let second = then_second w z a in
    let same = counts_length p n kp first in
    let one = hp n kp first v (then_first_feasible w z a h) in
    let two = hq (n + part_size p) k second v (then_second_feasible w z a h) in
    omega (arith, one, two, weigh_append (λ e. e.from == v) (part_edges p n kp) (part_edges q (n + part_size p) k) (flows p first) (flows q second) same, weigh_append (λ e. e.to == v) (part_edges p n kp) (part_edges q (n + part_size p) k) (flows p first) (flows q second) same, ap (λ i. at v i (whole a)) (head_plus (part_size p) (part_size q) n k.next), ap (at v (head (part_size p) n x)) (then_whole w z a), at_shared v k.breaks w.breaks (sum_of_both w.next z.breaks) a.breaks, at_shared v k.continues w.continues (sum_of_both w.next z.continues) a.continues, at_shared v k.returns w.returns (sum_of_both w.next z.returns) a.returns)

pub choice_whole : (v w : Ways) (a : Targets) → whole (choice_first v w a) + whole (choice_second v w a) ≡ whole a
choice_whole v w a =
    omega (arith, shared v.next w.next a.next, shared v.breaks w.breaks a.breaks, shared v.continues w.continues a.continues, shared v.returns w.returns a.returns)

conserve_choice : (c : ℕ) (p q : Part) → IsConserved p → IsConserved q → IsConserved (Choice c p q)
conserve_choice c p q hp hq n k a v h =
    let w = dearest_ways p in
    let z = dearest_ways q in
    let first = choice_first w z a in
    let second = choice_second w z a in
    let same = counts_length p (n + 1) k first in
    let one = hp (n + 1) k first v (choice_first_feasible w z a) in
    let two = hq (n + 1 + part_size p) k second v (choice_second_feasible c w z a h) in
    let entry : head (1 + (part_size p + part_size q)) n k.next ≡ n = head_some (1 + (part_size p + part_size q)) n k.next (omega arith) in
    omega (arith, one, two, weigh_append (λ e. e.from == v) (part_edges p (n + 1) k) (part_edges q (n + 1 + part_size p) k) (flows p first) (flows q second) same, weigh_append (λ e. e.to == v) (part_edges p (n + 1) k) (part_edges q (n + 1 + part_size p) k) (flows p first) (flows q second) same, ap (λ i. at v i (whole a)) entry, ap (at v n) (choice_whole w z a), at_sum v n (whole first) (whole second), at_shared v k.next w.next z.next a.next, at_shared v k.breaks w.breaks z.breaks a.breaks, at_shared v k.continues w.continues z.continues a.continues, at_shared v k.returns w.returns z.returns a.returns)

-- a step leads what comes to it to its loop's condition
conserve_step : (s : Option ℕ) (n x v : ℕ) → leaving v (step_edges s n) (step_flows s x) + at v n x ≡ arriving v (step_edges s n) (step_flows s x) + at v (head (step_size s) (n + 1) n) x
conserve_step None n x v = refl
conserve_step (Some d) n x v = omega arith

conserve_while : (c m : ℕ) (s : Option ℕ) (p : Part) → IsConserved p → IsConserved (While c m s p)
conserve_while c m s p hp n k a v h =
    let w = dearest_ways p in
    let y = full_turn_cost c s w in
    let stays = while_stays c m y w a.next in
    let out = while_breaks c m y w a.next in
    let r = a.returns in
    let full = while_full m w stays (out + r) in
    let x = loop_body_amounts w full out r in
    let again = head (step_size s) (n + 1) n in
    let kp = body_of k again in
    let np = n + 1 + step_size s in
    let same = step_counts_length s n full in
    let one = hp np kp x v (while_feasible c m y w a h) in
    let shares : stays + out ≡ a.next = shared (Some ((m + 1) * y + c)) (more (m * y + c) w.breaks) a.next in
    let into : whole x ≡ full + (out + r) = omega (arith, shared w.next w.continues full) in
    let all : whole a ≡ stays + (out + r) = omega (arith, shares, h.breaks, h.continues) in
    let entry : head (1 + (step_size s + part_size p)) n k.next ≡ n = head_some (1 + (step_size s + part_size p)) n k.next (omega arith) in
    omega (arith, one, conserve_step s n full v, weigh_append (λ e. e.from == v) (step_edges s n) (part_edges p np kp) (step_flows s full) (flows p x) same, weigh_append (λ e. e.to == v) (step_edges s n) (part_edges p np kp) (step_flows s full) (flows p x) same, ap (λ i. at v i (whole a)) entry, ap (at v n) all, ap (at v (head (part_size p) np again)) into, at_sum v n stays (out + r), at_sum v n full (out + r), ap (at v k.next) shares, at_sum v k.next stays out, at_shared v again w.next w.continues full, ap (at v k.breaks) h.breaks ∙ at_none v k.breaks, ap (at v k.continues) h.continues ∙ at_none v k.continues)

conserve_do : (c m : ℕ) (p : Part) → IsConserved p → IsConserved (Do c m p)
conserve_do c m p hp n k a v h =
    let w = dearest_ways p in
    let y = full_turn_cost c None w in
    let stays = do_stays c m y w a.next in
    let out = do_breaks c m y w a.next in
    let r = a.returns in
    let full = do_full m w (stays + (out + r)) in
    let x = loop_body_amounts w (full + stays) out r in
    let nc = n + part_size p in
    let kp = body_of k nc in
    let first = head (part_size p) n nc in
    let own = leaves nc True first ∷ (leaves nc False k.next ∷ []) in
    let same = counts_length p n kp x in
    let one = hp n kp x v (do_feasible c m y w a h) in
    let shares : stays + out ≡ a.next = shared (more (m * y + c) (way_back w)) (more (m * y) w.breaks) a.next in
    let all : whole a ≡ stays + (out + r) = omega (arith, shares, h.breaks, h.continues) in
    let into : whole x ≡ full + whole a = omega (arith, shared w.next w.continues (full + stays), all) in
    let entry : head (part_size p + 1) n k.next ≡ n = head_some (part_size p + 1) n k.next (omega arith) in
    let start : first ≡ n = head_self (part_size p) n in
    omega (arith, one, weigh_append (λ e. e.from == v) (part_edges p n kp) own (flows p x) (full ∷ (stays ∷ [])) same, weigh_append (λ e. e.to == v) (part_edges p n kp) own (flows p x) (full ∷ (stays ∷ [])) same, ap (λ i. at v i (whole a)) entry, ap (λ i. at v i (whole a)) start, ap (at v first) into, at_sum v first full (whole a), ap (at v k.next) shares, at_sum v k.next stays out, at_shared v nc w.next w.continues (full + stays), at_sum v nc full stays, ap (at v k.breaks) h.breaks ∙ at_none v k.breaks, ap (at v k.continues) h.continues ∙ at_none v k.continues)

pub body_whole : (w : Ways) (x : ℕ) → whole (body_amounts w x) ≡ x
body_whole w x =
    let near = by_first (greater w.next w.breaks) (greater w.continues w.returns) x in
    let far = by_second (greater w.next w.breaks) (greater w.continues w.returns) x in
    omega (arith, shared (greater w.next w.breaks) (greater w.continues w.returns) x, shared w.next w.breaks near, shared w.continues w.returns far)

conserve_body : (p : Part) → IsConserved p → IsConserved (Body p)
conserve_body p hp n k a v h =
    let w = dearest_ways p in
    let x = body_amounts w a.next in
    let near = by_first (greater w.next w.breaks) (greater w.continues w.returns) a.next in
    let far = by_second (greater w.next w.breaks) (greater w.continues w.returns) a.next in
    let one = hp n (all_to k.next) x v (body_feasible w a h) in
    let all : whole a ≡ whole x = omega (arith, body_whole w a.next, h.breaks, h.continues, h.returns) in
    omega (arith, one, ap (at v (head (part_size p) n k.next)) all, at_shared v k.next (greater w.next w.breaks) (greater w.continues w.returns) a.next, at_shared v k.next w.next w.breaks near, at_shared v k.next w.continues w.returns far, ap (at v k.breaks) h.breaks ∙ at_none v k.breaks, ap (at v k.continues) h.continues ∙ at_none v k.continues, ap (at v k.returns) h.returns ∙ at_none v k.returns)

pub conserved : (p : Part) → IsConserved p
conserved Nothing n k a v h = conserve_nothing n k a v h
conserved (Block c l) n k a v h = conserve_block c l n k a v h
conserved (Then p q) n k a v h = conserve_then p q (conserved p) (conserved q) n k a v h
conserved (Choice c p q) n k a v h = conserve_choice c p q (conserved p) (conserved q) n k a v h
conserved (While c m s p) n k a v h = conserve_while c m s p (conserved p) n k a v h
conserved (Do c m p) n k a v h = conserve_do c m p (conserved p) n k a v h
conserved (Body p) n k a v h = conserve_body p (conserved p) n k a v h
