-- Each loop of a part is turned no more often than its entries allow.
use Rattle.std.proofs.Common.{◌≡◌, ◌≤◌, ◌<◌, ◌⊎◌, inl, inr, ℕ, ◌+◌, ◌-◌, ◌*◌, Bool, true, false, if◌then◌else◌, List, [], ◌∷◌, ◌++◌, length, Option, Some, None, refl, ap, ◌∙◌, subst, arith}
use Rattle.std.proofs.Math.Nat.{mul-le-mul_left}
use Rattle.std.specs.Prelude.{◌==◌, ◌&&◌, not, nat_le, nat_lt}
use Rattle.std.proofs.lemmas.Bool.{ne_eqb, eq-eqb, lt-leb, le-ltb, and_right}
use Rattle.flow_laws.specs.declared.graph.Way.TheVariants.{True, False}
use Rattle.flow_laws.specs.declared.graph.Edge.{Edge}
use Rattle.flow_laws.specs.Sites.{LoopCopy, Targets, head, with_next, body_of}
use Rattle.flow_laws.specs.Graphs.{leaves, enters, all_to}
use Rattle.peak_laws.specs.Parts.{Part, Nothing, Block, Then, Choice, While, Do, Body, Ways, dearest_ways, way_back, full_turn_cost, step_size, part_size, step_edges, part_edges, CostedLoop, costed_loop, while_copy, do_copy, costed_loops, turn_limit, is_true_way, turns, more}
use Rattle.peak_laws.specs.Flows.{whole, then_first, then_second, choice_first, choice_second, amount_by_way, while_stays, while_breaks, do_stays, do_breaks, loop_body_amounts, while_full, do_full, body_amounts, step_flows, flows, Feasible}
use Rattle.peak_laws.proofs.GraphParts.Places.{Every, every_append, every_of, every_with, From, froms, Within, within}
use Rattle.peak_laws.proofs.Attaining.Amounts.{shared, then_first_feasible, then_second_feasible, choice_first_feasible, choice_second_feasible, while_feasible, do_feasible, body_feasible}
use Rattle.flow_laws.proofs.Runs.StatementParts.{head_self}
use Rattle.flow_laws.proofs.Graphs.PartSizes.{head_plus}
use Rattle.peak_laws.proofs.Attaining.Conserved.{weigh, weigh_append, weigh_same, weigh_none, arriving, at, at_sum, at_here, counts_length, step_counts_length, head_some, then_whole, body_whole, conserved}
use Rattle.plain_laws.proofs.Booleans.{and-true}

-- ---- which edges enter and turn a loop

-- an edge from outside enters the loop where it leads to its first node
pub outside_enters : (l : LoopCopy) (e : Edge) → (e.from < l.from) ⊎ (l.past ≤ e.from) → enters l e ≡ (e.to == l.from)
outside_enters l e (inl h) =
    ap (λ b. (e.to == l.from) && not (b && nat_lt e.from l.past)) (lt-leb l.from e.from h) ∙ and-true (e.to == l.from)
outside_enters l e (inr h) =
    ap (λ b. (e.to == l.from) && not b) (and_right (nat_le l.from e.from) (nat_lt e.from l.past) (le-ltb e.from l.past h)) ∙ and-true (e.to == l.from)

turns_other : (l : LoopCopy) (e : Edge) → (e.from ≡ l.test → ⊥) → turns l e ≡ false
turns_other l e ne = and_right (is_true_way e.way) (e.from == l.test) (ne_eqb e.from l.test ne)

-- edges of another part turn nothing
turns_none : (lo hi : ℕ) (l : LoopCopy) (es : List Edge) (xs : List ℕ) → (l.test < lo) ⊎ (hi ≤ l.test) → Every (From lo hi) es → weigh (turns l) es xs ≡ 0
turns_none lo hi l es xs far h =
    weigh_none (turns l) es xs (every_of (From lo hi) (λ e. turns l e ≡ false) es (λ e i. turns_other l e (λ is. omega (arith, i.least, i.most, is, far))) h)

-- and enter where they arrive
enters_all : (lo hi : ℕ) (l : LoopCopy) (es : List Edge) (xs : List ℕ) → (hi ≤ l.from) ⊎ (l.past ≤ lo) → Every (From lo hi) es → weigh (enters l) es xs ≡ arriving l.from es xs
enters_all lo hi l es xs far h =
    weigh_same (enters l) (λ e. e.to == l.from) es xs (every_of (From lo hi) (λ e. enters l e ≡ (e.to == l.from)) es (λ e i. outside_enters l e (side e i far)) h)
  where
    side : (e : Edge) → From lo hi e → (hi ≤ l.from) ⊎ (l.past ≤ lo) → (e.from < l.from) ⊎ (l.past ≤ e.from)
    side e i (inl f) = inl (omega (arith, i.most, f))
    side e i (inr f) = inr (omega (arith, i.least, f))

step_turns_none : (l : LoopCopy) (s : Option ℕ) (n x : ℕ) → weigh (turns l) (step_edges s n) (step_flows s x) ≡ 0
step_turns_none l None n x = refl
step_turns_none l (Some d) n x = refl

-- the loop, of edges with these counts, where w come from elsewhere to the node i
abbrev pub KeepsRow : List Edge → List ℕ → ℕ → ℕ → CostedLoop → Type 0
KeepsRow es xs i w f = weigh (turns f.loop_copy) es xs ≤ turn_limit f.loop_copy * (weigh (enters f.loop_copy) es xs + at f.loop_copy.from i w)

abbrev pub IsTurned : Part → Type 0
IsTurned p =
    (n : ℕ) (k a : Targets) → Feasible (dearest_ways p) a → Every (KeepsRow (part_edges p n k) (flows p a) (head (part_size p) n k.next) (whole a)) (costed_loops p n)

grows : (m t u b c : ℕ) → t ≤ m * b → u ≡ t → b ≤ c → u ≤ m * c
grows m t u b c h is le = omega (arith, h, is, mul-le-mul_left m le)

turn_then : (p q : Part) → IsTurned p → IsTurned q → IsTurned (Then p q)
turn_then p q hp hq n k a h =
    every_append row (costed_loops p n) (costed_loops q nq) (every_with (Within n nq) (KeepsRow ep xp ip (whole first)) row (costed_loops p n) of_p (within p n) (hp n kp first fp)) (every_with (Within nq hi) (KeepsRow eq xq iq (whole second)) row (costed_loops q nq) of_q (within q nq) (hq nq k second fq))
  where
    nq : ℕ
    nq = n + part_size p

    hi : ℕ
    hi = n + part_size p + part_size q

    iq : ℕ
    iq = head (part_size q) (n + part_size p) k.next

    ip : ℕ
    ip = head (part_size p) n iq

    kp : Targets
    kp = with_next k iq

    first : Targets
    first = then_first (dearest_ways p) (dearest_ways q) a

    second : Targets
    second = then_second (dearest_ways p) (dearest_ways q) a

    fp : Feasible (dearest_ways p) first
    fp = then_first_feasible (dearest_ways p) (dearest_ways q) a h

    fq : Feasible (dearest_ways q) second
    fq = then_second_feasible (dearest_ways p) (dearest_ways q) a h

    ep : List Edge
    ep = part_edges p n kp

    eq : List Edge
    eq = part_edges q nq k

    xp : List ℕ
    xp = flows p first

    xq : List ℕ
    xq = flows q second

    same : length xp ≡ length ep
    same = counts_length p n kp first

    row : CostedLoop → Type 0
    row f = KeepsRow (ep ++ eq) (xp ++ xq) (head (part_size p + part_size q) n k.next) (whole a) f

    of_p : (f : CostedLoop) → Within n nq f → KeepsRow ep xp ip (whole first) f → row f
    of_p f w r =
        grows (turn_limit f.loop_copy) _ _ _ _ r (omega (arith, weigh_append (turns f.loop_copy) ep eq xp xq same, turns_none nq hi f.loop_copy eq xq (inl (omega (arith, w.before, w.most))) (froms q nq k))) (omega (arith, weigh_append (enters f.loop_copy) ep eq xp xq same, ap (λ i. at f.loop_copy.from i (whole a)) (head_plus (part_size p) (part_size q) n k.next), ap (at f.loop_copy.from ip) (then_whole (dearest_ways p) (dearest_ways q) a)))

    of_q : (f : CostedLoop) → Within nq hi f → KeepsRow eq xq iq (whole second) f → row f
    of_q f w r =
        grows (turn_limit f.loop_copy) _ _ _ _ r (omega (arith, weigh_append (turns f.loop_copy) ep eq xp xq same, turns_none n nq f.loop_copy ep xp (inr (omega (arith, w.after, w.least))) (froms p n kp))) (omega (arith, weigh_append (enters f.loop_copy) ep eq xp xq same, conserved p n kp first f.loop_copy.from fp, enters_all n nq f.loop_copy ep xp (inl w.least) (froms p n kp), ap (λ i. at f.loop_copy.from i (whole a)) (head_plus (part_size p) (part_size q) n k.next), ap (at f.loop_copy.from ip) (then_whole (dearest_ways p) (dearest_ways q) a)))

-- an edge that leads to a part from before or behind it enters its loops at its first node
entering : (f : CostedLoop) (e : Edge) (x : ℕ) → (e.from < f.loop_copy.from) ⊎ (f.loop_copy.past ≤ e.from) → (if enters f.loop_copy e then x else 0) ≡ at f.loop_copy.from e.to x
entering f e x far = ap (λ b. if b then x else 0) (outside_enters f.loop_copy e far)

turning_none : (f : CostedLoop) (e : Edge) (x : ℕ) → (e.from ≡ f.loop_copy.test → ⊥) → (if turns f.loop_copy e then x else 0) ≡ 0
turning_none f e x ne = ap (λ b. if b then x else 0) (turns_other f.loop_copy e ne)

turn_choice : (c : ℕ) (p q : Part) → IsTurned p → IsTurned q → IsTurned (Choice c p q)
turn_choice c p q hp hq n k a h =
    every_append row (costed_loops p np) (costed_loops q nq) (every_with (Within np nq) (KeepsRow ep xp ip (whole first)) row (costed_loops p np) of_p (within p np) (hp np k first (choice_first_feasible (dearest_ways p) (dearest_ways q) a))) (every_with (Within nq hi) (KeepsRow eq xq iq (whole second)) row (costed_loops q nq) of_q (within q nq) (hq nq k second (choice_second_feasible c (dearest_ways p) (dearest_ways q) a h)))
  where
    np : ℕ
    np = n + 1

    nq : ℕ
    nq = n + 1 + part_size p

    hi : ℕ
    hi = n + 1 + part_size p + part_size q

    ip : ℕ
    ip = head (part_size p) (n + 1) k.next

    iq : ℕ
    iq = head (part_size q) (n + 1 + part_size p) k.next

    first : Targets
    first = choice_first (dearest_ways p) (dearest_ways q) a

    second : Targets
    second = choice_second (dearest_ways p) (dearest_ways q) a

    ep : List Edge
    ep = part_edges p np k

    eq : List Edge
    eq = part_edges q nq k

    xp : List ℕ
    xp = flows p first

    xq : List ℕ
    xq = flows q second

    same : length xp ≡ length ep
    same = counts_length p np k first

    yes : Edge
    yes = leaves n True (head (part_size p) (n + 1) k.next)

    no : Edge
    no = leaves n False (head (part_size q) (n + 1 + part_size p) k.next)

    row : CostedLoop → Type 0
    row f = KeepsRow (yes ∷ (no ∷ (ep ++ eq))) (whole first ∷ (whole second ∷ (xp ++ xq))) (head (1 + (part_size p + part_size q)) n k.next) (whole a) f

    of_p : (f : CostedLoop) → Within np nq f → KeepsRow ep xp ip (whole first) f → row f
    of_p f w r =
        grows (turn_limit f.loop_copy) _ _ _ _ r (omega (arith, turning_none f yes (whole first) (λ is. omega (arith, is, w.least, w.after)), weigh_append (turns f.loop_copy) ep eq xp xq same, turns_none nq hi f.loop_copy eq xq (inl (omega (arith, w.before, w.most))) (froms q nq k))) (omega (arith, entering f yes (whole first) (inl (omega (arith, w.least))), weigh_append (enters f.loop_copy) ep eq xp xq same))

    of_q : (f : CostedLoop) → Within nq hi f → KeepsRow eq xq iq (whole second) f → row f
    of_q f w r =
        grows (turn_limit f.loop_copy) _ _ _ _ r (omega (arith, turning_none f yes (whole first) (λ is. omega (arith, is, w.least, w.after)), weigh_append (turns f.loop_copy) ep eq xp xq same, turns_none np nq f.loop_copy ep xp (inr (omega (arith, w.least, w.after))) (froms p np k))) (omega (arith, entering f no (whole second) (inl (omega (arith, w.least))), weigh_append (enters f.loop_copy) ep eq xp xq same))

pub amount_by_way_most : (o : Option ℕ) (x : ℕ) → amount_by_way o x ≤ x
amount_by_way_most None x = omega arith
amount_by_way_most (Some d) x = omega arith

turn_while : (c m : ℕ) (s : Option ℕ) (p : Part) → IsTurned p → IsTurned (While c m s p)
turn_while c m s p hp n k a h =
    (own, every_with (Within np hi) (KeepsRow ep xp ip (whole x)) row (costed_loops p np) of_p (within p np) (hp np kp x (while_feasible c m y w a h)))
  where
    w : Ways
    w = dearest_ways p

    y : ℕ
    y = full_turn_cost c s (dearest_ways p)

    stays : ℕ
    stays = while_stays c m y w a.next

    out : ℕ
    out = while_breaks c m y w a.next

    r : ℕ
    r = a.returns

    full : ℕ
    full = while_full m w stays (out + r)

    x : Targets
    x = loop_body_amounts w full out r

    np : ℕ
    np = n + 1 + step_size s

    hi : ℕ
    hi = n + 1 + step_size s + part_size p

    again : ℕ
    again = head (step_size s) (n + 1) n

    kp : Targets
    kp = body_of k again

    ip : ℕ
    ip = head (part_size p) np again

    ep : List Edge
    ep = part_edges p np kp

    es : List Edge
    es = step_edges s n

    xp : List ℕ
    xp = flows p x

    xs : List ℕ
    xs = step_flows s full

    same : length xs ≡ length es
    same = step_counts_length s n full

    yes : Edge
    yes = leaves n True ip

    no : Edge
    no = leaves n False k.next

    loop_copy : LoopCopy
    loop_copy = while_copy p n m s

    row : CostedLoop → Type 0
    row f = KeepsRow (yes ∷ (no ∷ (es ++ ep))) ((full + (out + r)) ∷ (stays ∷ (xs ++ xp))) (head (1 + (step_size s + part_size p)) n k.next) (whole a) f

    shares : stays + out ≡ a.next
    shares = shared (Some ((m + 1) * y + c)) (more (m * y + c) w.breaks) a.next

    into : whole x ≡ full + (out + r)
    into = omega (arith, shared w.next w.continues full)

    all : whole a ≡ stays + (out + r)
    all = omega (arith, shares, h.breaks, h.continues)

    own : row (costed_loop loop_copy y)
    own =
        let entry : head (1 + (step_size s + part_size p)) n k.next ≡ n = head_some (1 + (step_size s + part_size p)) n k.next (omega arith) in
        let within_bound : full + (out + r) ≤ (m + 1) * (stays + (out + r)) = omega (arith, amount_by_way_most (way_back w) ((m + 1) * stays + m * (out + r))) in
        grows (m + 1) (full + (out + r)) _ (stays + (out + r)) _ within_bound (omega (arith, ap (λ b. if b then full + (out + r) else 0) (eq-eqb n n refl), weigh_append (turns loop_copy) es ep xs xp same, step_turns_none loop_copy s n full, turns_none np hi loop_copy ep xp (inl (omega arith)) (froms p np kp))) (omega (arith, all, ap (λ i. at n i (whole a)) entry, at_here n (whole a)))

    of_p : (f : CostedLoop) → Within np hi f → KeepsRow ep xp ip (whole x) f → row f
    of_p f i t =
        grows (turn_limit f.loop_copy) _ _ _ _ t (omega (arith, turning_none f yes (full + (out + r)) (λ is. omega (arith, is, i.least, i.after)), weigh_append (turns f.loop_copy) es ep xs xp same, step_turns_none f.loop_copy s n full)) (omega (arith, entering f yes (full + (out + r)) (inl (omega (arith, i.least))), ap (at f.loop_copy.from ip) into, weigh_append (enters f.loop_copy) es ep xs xp same))

turn_do : (c m : ℕ) (p : Part) → IsTurned p → IsTurned (Do c m p)
turn_do c m p hp n k a h =
    every_append row (costed_loops p n) (costed_loop loop_copy y ∷ []) (every_with (Within n nc) (KeepsRow ep xp ip (whole x)) row (costed_loops p n) of_p (within p n) (hp n kp x (do_feasible c m y w a h))) (own, tt)
  where
    w : Ways
    w = dearest_ways p

    y : ℕ
    y = full_turn_cost c None (dearest_ways p)

    stays : ℕ
    stays = do_stays c m y w a.next

    out : ℕ
    out = do_breaks c m y w a.next

    r : ℕ
    r = a.returns

    full : ℕ
    full = do_full m w (stays + (out + r))

    x : Targets
    x = loop_body_amounts w (full + stays) out r

    nc : ℕ
    nc = n + part_size p

    kp : Targets
    kp = body_of k nc

    ip : ℕ
    ip = head (part_size p) n nc

    ep : List Edge
    ep = part_edges p n kp

    xp : List ℕ
    xp = flows p x

    yes : Edge
    yes = leaves nc True ip

    no : Edge
    no = leaves nc False k.next

    es : List Edge
    es = yes ∷ (no ∷ [])

    xs : List ℕ
    xs = full ∷ (stays ∷ [])

    same : length xp ≡ length ep
    same = counts_length p n kp x

    loop_copy : LoopCopy
    loop_copy = do_copy p n m

    row : CostedLoop → Type 0
    row f = KeepsRow (ep ++ es) (xp ++ xs) (head (part_size p + 1) n k.next) (whole a) f

    shares : stays + out ≡ a.next
    shares = shared (more (m * y + c) (way_back w)) (more (m * y) w.breaks) a.next

    all : whole a ≡ stays + (out + r)
    all = omega (arith, shares, h.breaks, h.continues)

    into : whole x ≡ full + whole a
    into = omega (arith, shared w.next w.continues (full + stays), all)

    entry : head (part_size p + 1) n k.next ≡ n
    entry = head_some (part_size p + 1) n k.next (omega arith)

    start : ip ≡ n
    start = head_self (part_size p) n

    own : row (costed_loop loop_copy y)
    own =
        let within_bound : full ≤ (m + 1 - 1) * (stays + (out + r)) = subst (λ b. full ≤ b * (stays + (out + r))) (less m) (amount_by_way_most (way_back w) (m * (stays + (out + r)))) in
        grows (m + 1 - 1) full _ (stays + (out + r)) _ within_bound (omega (arith, ap (λ b. if b then full else 0) (eq-eqb nc nc refl), weigh_append (turns loop_copy) ep es xp xs same, turns_none n nc loop_copy ep xp (inr (omega arith)) (froms p n kp))) (omega (arith, all, ap (λ i. at n i (whole a)) entry, at_here n (whole a)))
      where
        less : (b : ℕ) → b ≡ b + 1 - 1
        less b = omega arith

    of_p : (f : CostedLoop) → Within n nc f → KeepsRow ep xp ip (whole x) f → row f
    of_p f i t =
        grows (turn_limit f.loop_copy) _ _ _ _ t (omega (arith, weigh_append (turns f.loop_copy) ep es xp xs same, turning_none f yes full (λ is. omega (arith, is, i.before, i.most)))) (omega (arith, entering f yes full (inr i.most), ap (at f.loop_copy.from ip) into, at_sum f.loop_copy.from ip full (whole a), ap (λ j. at f.loop_copy.from j (whole a)) start, ap (λ j. at f.loop_copy.from j (whole a)) entry, weigh_append (enters f.loop_copy) ep es xp xs same))

turn_body : (p : Part) → IsTurned p → IsTurned (Body p)
turn_body p hp n k a h =
    let x = body_amounts (dearest_ways p) a.next in
    let all : whole x ≡ whole a = omega (arith, body_whole (dearest_ways p) a.next, h.breaks, h.continues, h.returns) in
    subst (λ z. Every (KeepsRow (part_edges p n (all_to k.next)) (flows p x) (head (part_size p) n k.next) z) (costed_loops p n)) all (hp n (all_to k.next) x (body_feasible (dearest_ways p) a h))

pub turned : (p : Part) → IsTurned p
turned Nothing n k a h = tt
turned (Block c l) n k a h = tt
turned (Then p q) n k a h = turn_then p q (turned p) (turned q) n k a h
turned (Choice c p q) n k a h = turn_choice c p q (turned p) (turned q) n k a h
turned (While c m s p) n k a h = turn_while c m s p (turned p) n k a h
turned (Do c m p) n k a h = turn_do c m p (turned p) n k a h
turned (Body p) n k a h = turn_body p (turned p) n k a h
