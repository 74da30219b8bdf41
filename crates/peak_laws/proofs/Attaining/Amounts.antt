-- The counts of a part's edges cost what its dearest ways cost.
use Rattle.std.proofs.Common.{◌≡◌, ℕ, ◌+◌, ◌*◌, max, Bool, true, false, if◌then◌else◌, List, [], ◌∷◌, ◌++◌, length, Option, Some, None, refl, sym, ap, ◌∙◌, subst, arith, length-append}
use Rattle.std.specs.Prelude.{nat_le}
use Rattle.std.proofs.lemmas.Bool.{leb-true, leb-false}
use Rattle.lin_rows.specs.Vectors.{cost_by}
use Rattle.flow_laws.specs.Sites.{Targets}
use Rattle.peak_laws.specs.Parts.{ByEnd, ByBreak, ByContinue, ByReturn, Part, Nothing, Block, Then, Choice, While, Do, Body, greater, more, sum_of_both, Ways, then_ways, choice_ways, while_ways, do_ways, body_ways, dearest_ways, way_back, full_turn_cost, turn_cost, step_cost, step_costs}
use Rattle.peak_laws.specs.Flows.{is_dearer, by_first, by_second, whole, then_first, then_second, choice_first, choice_second, amount_by_way, while_stays, while_breaks, do_stays, do_breaks, loop_body_amounts, while_full, do_full, body_amounts, step_flows, flows, edge_costs, Leads, Feasible, cost_times, value}

-- ---- choosing

pub shared : (o p : Option ℕ) (x : ℕ) → by_first o p x + by_second o p x ≡ x
shared o p x = by_test (is_dearer o p)
  where
    by_test : (b : Bool) → (if b then x else 0) + (if b then 0 else x) ≡ x
    by_test true = omega arith
    by_test false = omega arith

pub leads_first : (o p : Option ℕ) (x : ℕ) → Leads o (by_first o p x)
leads_first None p x = refl
leads_first (Some d) p x = tt

pub leads_second : (o p : Option ℕ) (x : ℕ) → Leads (greater o p) x → Leads p (by_second o p x)
leads_second None p x h = h
leads_second (Some d) None x h = refl
leads_second (Some d) (Some e) x h = tt

pub leads_more : (c : ℕ) (o : Option ℕ) (x : ℕ) → Leads (more c o) x → Leads o x
leads_more c None x h = h
leads_more c (Some d) x h = tt

pub leads_both_first : (o p : Option ℕ) (x : ℕ) → Leads (sum_of_both o p) x → Leads o x
leads_both_first None p x h = h
leads_both_first (Some d) p x h = tt

pub leads_both_second : (o p : Option ℕ) (x : ℕ) → Leads (sum_of_both o p) x → Leads p x
leads_both_second o None x h = by_option o h
  where
    by_option : (o : Option ℕ) → Leads (sum_of_both o None) x → x ≡ 0
    by_option None h = h
    by_option (Some d) h = h
leads_both_second o (Some e) x h = tt

pub leads_sum : (o : Option ℕ) (x z : ℕ) → Leads o x → Leads o z → Leads o (x + z)
leads_sum None x z h k = omega (arith, h, k)
leads_sum (Some d) x z h k = tt

pub leads_amount_by_way : (o : Option ℕ) (x : ℕ) → Leads o (amount_by_way o x)
leads_amount_by_way None x = refl
leads_amount_by_way (Some d) x = tt

-- ---- costs

times_choice : (o p : Option ℕ) (x : ℕ) → cost_times o (by_first o p x) + cost_times p (by_second o p x) ≡ cost_times (greater o p) x
times_choice None None x = refl
times_choice None (Some e) x = omega arith
times_choice (Some d) None x = omega arith
times_choice (Some d) (Some e) x = by_test (nat_le e d) refl
  where
    by_test : (b : Bool) → nat_le e d ≡ b → d * (if b then x else 0) + e * (if b then 0 else x) ≡ max d e * x
    by_test true h = let m : max d e ≡ d = omega (arith, leb-true e d h) in omega (arith, ap (λ k. k * x) m)
    by_test false h = let m : max d e ≡ e = omega (arith, leb-false e d h) in omega (arith, ap (λ k. k * x) m)

times_both : (o p : Option ℕ) (x : ℕ) → Leads (sum_of_both o p) x → cost_times (sum_of_both o p) x ≡ cost_times o x + cost_times p x
times_both None p x h = let z : x ≡ 0 = h in by_none p z
  where
    by_none : (p : Option ℕ) → x ≡ 0 → 0 ≡ 0 + cost_times p x
    by_none None z = refl
    by_none (Some e) z = omega (arith, ap (λ n. e * n) z)
times_both (Some d) None x h = let z : x ≡ 0 = h in omega (arith, ap (λ n. d * n) z)
times_both (Some d) (Some e) x h = omega arith

times_sum : (o : Option ℕ) (x z : ℕ) → cost_times o (x + z) ≡ cost_times o x + cost_times o z
times_sum None x z = refl
times_sum (Some d) x z = omega arith

times_more : (c : ℕ) (o : Option ℕ) (x : ℕ) → Leads o x → cost_times (more c o) x ≡ c * x + cost_times o x
times_more c None x h = omega (arith, ap (λ n. c * n) h)
times_more c (Some d) x h = omega arith

times_none : (o : Option ℕ) → cost_times o 0 ≡ 0
times_none None = refl
times_none (Some d) = omega arith

-- ---- amounts that can be led through the parts

pub then_first_feasible : (v w : Ways) (a : Targets) → Feasible (then_ways v w) a → Feasible v (then_first v w a)
then_first_feasible v w a h =
    record {
      next = leads_sum v.next a.next _ (leads_both_first v.next w.next a.next h.next) (leads_sum v.next _ _ (part v.breaks w.breaks a.breaks h.breaks) (leads_sum v.next _ _ (part v.continues w.continues a.continues h.continues) (part v.returns w.returns a.returns h.returns)));
      breaks = leads_first v.breaks (sum_of_both v.next w.breaks) a.breaks;
      continues = leads_first v.continues (sum_of_both v.next w.continues) a.continues;
      returns = leads_first v.returns (sum_of_both v.next w.returns) a.returns;
    }
  where
    part : (o p : Option ℕ) (x : ℕ) → Leads (greater o (sum_of_both v.next p)) x → Leads v.next (by_second o (sum_of_both v.next p) x)
    part o p x h = leads_both_first v.next p (by_second o (sum_of_both v.next p) x) (leads_second o (sum_of_both v.next p) x h)

pub then_second_feasible : (v w : Ways) (a : Targets) → Feasible (then_ways v w) a → Feasible w (then_second v w a)
then_second_feasible v w a h =
    record { next = leads_both_second v.next w.next a.next h.next; breaks = part v.breaks w.breaks a.breaks h.breaks; continues = part v.continues w.continues a.continues h.continues; returns = part v.returns w.returns a.returns h.returns }
  where
    part : (o p : Option ℕ) (x : ℕ) → Leads (greater o (sum_of_both v.next p)) x → Leads p (by_second o (sum_of_both v.next p) x)
    part o p x h = leads_both_second v.next p (by_second o (sum_of_both v.next p) x) (leads_second o (sum_of_both v.next p) x h)

pub choice_first_feasible : (v w : Ways) (a : Targets) → Feasible v (choice_first v w a)
choice_first_feasible v w a =
    record { next = leads_first v.next w.next a.next; breaks = leads_first v.breaks w.breaks a.breaks; continues = leads_first v.continues w.continues a.continues; returns = leads_first v.returns w.returns a.returns }

pub choice_second_feasible : (c : ℕ) (v w : Ways) (a : Targets) → Feasible (choice_ways c v w) a → Feasible w (choice_second v w a)
choice_second_feasible c v w a h =
    record { next = leads_second v.next w.next a.next (leads_more c (greater v.next w.next) a.next h.next); breaks = leads_second v.breaks w.breaks a.breaks (leads_more c (greater v.breaks w.breaks) a.breaks h.breaks); continues = leads_second v.continues w.continues a.continues (leads_more c (greater v.continues w.continues) a.continues h.continues); returns = leads_second v.returns w.returns a.returns (leads_more c (greater v.returns w.returns) a.returns h.returns) }

inner_feasible : (w : Ways) (full out r : ℕ) → Leads (way_back w) full → Leads w.breaks out → Leads w.returns r → Feasible w (loop_body_amounts w full out r)
inner_feasible w full out r h k l =
    record { next = leads_first w.next w.continues full; breaks = k; continues = leads_second w.next w.continues full h; returns = l }

pub while_feasible : (c m y : ℕ) (w : Ways) (a : Targets) → Feasible (while_ways c m y w) a → Feasible w (loop_body_amounts w (while_full m w (while_stays c m y w a.next) (while_breaks c m y w a.next + a.returns)) (while_breaks c m y w a.next) a.returns)
while_feasible c m y w a h =
    inner_feasible w _ _ _ (leads_amount_by_way (way_back w) _) (leads_more (m * y + c) w.breaks (while_breaks c m y w a.next) (leads_second (Some ((m + 1) * y + c)) (more (m * y + c) w.breaks) a.next h.next)) (leads_more (m * y + c) w.returns a.returns h.returns)

pub stays_lead : (c m y : ℕ) (w : Ways) (x : ℕ) → Leads (way_back w) (do_stays c m y w x)
stays_lead c m y w x = leads_more (m * y + c) (way_back w) (do_stays c m y w x) (leads_first (more (m * y + c) (way_back w)) (more (m * y) w.breaks) x)

pub do_feasible : (c m y : ℕ) (w : Ways) (a : Targets) → Feasible (do_ways c m y w) a → Feasible w (loop_body_amounts w (do_full m w (do_stays c m y w a.next + (do_breaks c m y w a.next + a.returns)) + do_stays c m y w a.next) (do_breaks c m y w a.next) a.returns)
do_feasible c m y w a h =
    inner_feasible w _ _ _ (leads_sum (way_back w) _ _ (leads_amount_by_way (way_back w) _) (stays_lead c m y w a.next)) (leads_more (m * y) w.breaks (do_breaks c m y w a.next) (leads_second (more (m * y + c) (way_back w)) (more (m * y) w.breaks) a.next h.next)) (leads_more (m * y) w.returns a.returns h.returns)

pub body_feasible : (w : Ways) (a : Targets) → Feasible (body_ways w) a → Feasible w (body_amounts w a.next)
body_feasible w a h =
    let near = by_first (greater w.next w.breaks) (greater w.continues w.returns) a.next in
    let far = by_second (greater w.next w.breaks) (greater w.continues w.returns) a.next in
    record { next = leads_first w.next w.breaks near; breaks = leads_second w.next w.breaks near (leads_first (greater w.next w.breaks) (greater w.continues w.returns) a.next); continues = leads_first w.continues w.returns far; returns = leads_second w.continues w.returns far (leads_second (greater w.next w.breaks) (greater w.continues w.returns) a.next h.next) }

-- ---- what they cost

then_value : (v w : Ways) (a : Targets) → Feasible (then_ways v w) a → value v (then_first v w a) + value w (then_second v w a) ≡ value (then_ways v w) a
then_value v w a h =
    let sb = by_second v.breaks (sum_of_both v.next w.breaks) a.breaks in
    let sc = by_second v.continues (sum_of_both v.next w.continues) a.continues in
    let sr = by_second v.returns (sum_of_both v.next w.returns) a.returns in
    omega (arith, times_sum v.next a.next (sb + (sc + sr)), times_sum v.next sb (sc + sr), times_sum v.next sc sr, times_both v.next w.next a.next h.next, part v.breaks w.breaks a.breaks h.breaks, part v.continues w.continues a.continues h.continues, part v.returns w.returns a.returns h.returns)
  where
    part : (o p : Option ℕ) (x : ℕ) → Leads (greater o (sum_of_both v.next p)) x → cost_times (greater o (sum_of_both v.next p)) x ≡ cost_times o (by_first o (sum_of_both v.next p) x) + (cost_times v.next (by_second o (sum_of_both v.next p) x) + cost_times p (by_second o (sum_of_both v.next p) x))
    part o p x h =
        omega (arith, times_choice o (sum_of_both v.next p) x, times_both v.next p (by_second o (sum_of_both v.next p) x) (leads_second o (sum_of_both v.next p) x h))

choice_value : (c : ℕ) (v w : Ways) (a : Targets) → Feasible (choice_ways c v w) a → c * whole (choice_first v w a) + (c * whole (choice_second v w a) + (value v (choice_first v w a) + value w (choice_second v w a))) ≡ value (choice_ways c v w) a
choice_value c v w a h =
    omega (arith, part v.next w.next a.next h.next, part v.breaks w.breaks a.breaks h.breaks, part v.continues w.continues a.continues h.continues, part v.returns w.returns a.returns h.returns)
  where
    part : (o p : Option ℕ) (x : ℕ) → Leads (more c (greater o p)) x → cost_times (more c (greater o p)) x ≡ c * by_first o p x + c * by_second o p x + (cost_times o (by_first o p x) + cost_times p (by_second o p x))
    part o p x h =
        let f = by_first o p x in
        let s = by_second o p x in
        let all : c * (f + s) ≡ c * x = ap (λ n. c * n) (shared o p x) in
        omega (arith, times_choice o p x, times_more c (greater o p) x (leads_more c (greater o p) x h), all)

-- all full turns together
turn_value : (o : Option ℕ) (e m stays out : ℕ) → e * amount_by_way o ((m + 1) * stays + m * out) + cost_times o (amount_by_way o ((m + 1) * stays + m * out)) ≡ (m + 1) * turn_cost e o * stays + m * turn_cost e o * out
turn_value None e m stays out = omega arith
turn_value (Some d) e m stays out = omega arith

inner_value : (w : Ways) (full out r : ℕ) → value w (loop_body_amounts w full out r) ≡ cost_times (way_back w) full + (cost_times w.breaks out + cost_times w.returns r)
inner_value w full out r = omega (arith, times_choice w.next w.continues full)

while_value : (c e m : ℕ) (w : Ways) (a : Targets) → (y : ℕ) → y ≡ turn_cost (c + e) (way_back w) → Feasible (while_ways c m y w) a → (full : ℕ) → full ≡ while_full m w (while_stays c m y w a.next) (while_breaks c m y w a.next + a.returns) → c * (full + (while_breaks c m y w a.next + a.returns)) + (c * while_stays c m y w a.next + (e * full + value w (loop_body_amounts w full (while_breaks c m y w a.next) a.returns))) ≡ value (while_ways c m y w) a
while_value c e m w a y is h full made_is =
    let stays = while_stays c m y w a.next in
    let out = while_breaks c m y w a.next in
    let r = a.returns in
    let one = times_choice (Some ((m + 1) * y + c)) (more (m * y + c) w.breaks) a.next in
    let two = times_more (m * y + c) w.breaks out (leads_more (m * y + c) w.breaks out (leads_second (Some ((m + 1) * y + c)) (more (m * y + c) w.breaks) a.next h.next)) in
    let three = times_more (m * y + c) w.returns r (leads_more (m * y + c) w.returns r h.returns) in
    let turns : (c + e) * full + cost_times (way_back w) full ≡ (m + 1) * y * stays + m * y * (out + r) = subst (λ n. (c + e) * full + cost_times (way_back w) full ≡ (m + 1) * n * stays + m * n * (out + r)) (sym is) (subst (λ n. (c + e) * n + cost_times (way_back w) n ≡ (m + 1) * turn_cost (c + e) (way_back w) * stays + m * turn_cost (c + e) (way_back w) * (out + r)) (sym made_is) (turn_value (way_back w) (c + e) m stays (out + r))) in
    omega (arith, one, two, three, turns, inner_value w full out r)

do_turn_value : (o : Option ℕ) (e m x : ℕ) → e * amount_by_way o (m * x) + cost_times o (amount_by_way o (m * x)) ≡ m * turn_cost e o * x
do_turn_value None e m x = omega arith
do_turn_value (Some d) e m x = omega arith

do_value : (c m : ℕ) (w : Ways) (a : Targets) → (y : ℕ) → y ≡ turn_cost (c + 0) (way_back w) → Feasible (do_ways c m y w) a → (full : ℕ) → full ≡ do_full m w (do_stays c m y w a.next + (do_breaks c m y w a.next + a.returns)) → value w (loop_body_amounts w (full + do_stays c m y w a.next) (do_breaks c m y w a.next) a.returns) + (c * full + c * do_stays c m y w a.next) ≡ value (do_ways c m y w) a
do_value c m w a y is h full made_is =
    let stays = do_stays c m y w a.next in
    let out = do_breaks c m y w a.next in
    let r = a.returns in
    let one = times_choice (more (m * y + c) (way_back w)) (more (m * y) w.breaks) a.next in
    let two = times_more (m * y) w.breaks out (leads_more (m * y) w.breaks out (leads_second (more (m * y + c) (way_back w)) (more (m * y) w.breaks) a.next h.next)) in
    let three = times_more (m * y) w.returns r (leads_more (m * y) w.returns r h.returns) in
    let four = times_more (m * y + c) (way_back w) stays (stays_lead c m y w a.next) in
    let turns : (c + 0) * full + cost_times (way_back w) full ≡ m * y * (stays + (out + r)) = subst (λ n. (c + 0) * full + cost_times (way_back w) full ≡ m * n * (stays + (out + r))) (sym is) (subst (λ n. (c + 0) * n + cost_times (way_back w) n ≡ m * turn_cost (c + 0) (way_back w) * (stays + (out + r))) (sym made_is) (do_turn_value (way_back w) (c + 0) m (stays + (out + r)))) in
    omega (arith, one, two, three, four, turns, inner_value w (full + stays) out r, times_sum (way_back w) full stays)

body_value : (w : Ways) (a : Targets) → value w (body_amounts w a.next) ≡ value (body_ways w) a
body_value w a =
    let near = by_first (greater w.next w.breaks) (greater w.continues w.returns) a.next in
    let far = by_second (greater w.next w.breaks) (greater w.continues w.returns) a.next in
    omega (arith, times_choice (greater w.next w.breaks) (greater w.continues w.returns) a.next, times_choice w.next w.breaks near, times_choice w.continues w.returns far)

-- ---- over the edges

pub step_flows_length : (s : Option ℕ) (x : ℕ) → length (step_flows s x) ≡ length (step_costs s)
step_flows_length None x = refl
step_flows_length (Some d) x = refl

pub flows_length : (p : Part) (a : Targets) → length (flows p a) ≡ length (edge_costs p)
flows_length Nothing a = refl
flows_length (Block c l) a = refl
flows_length (Then p q) a =
    let x = then_first (dearest_ways p) (dearest_ways q) a in
    let z = then_second (dearest_ways p) (dearest_ways q) a in
    omega (arith, length-append (flows p x) (flows q z), length-append (edge_costs p) (edge_costs q), flows_length p x, flows_length q z)
flows_length (Choice c p q) a =
    let x = choice_first (dearest_ways p) (dearest_ways q) a in
    let z = choice_second (dearest_ways p) (dearest_ways q) a in
    omega (arith, length-append (flows p x) (flows q z), length-append (edge_costs p) (edge_costs q), flows_length p x, flows_length q z)
flows_length (While c m s p) a =
    let y = full_turn_cost c s (dearest_ways p) in
    let stays = while_stays c m y (dearest_ways p) a.next in
    let breaks = while_breaks c m y (dearest_ways p) a.next in
    let full = while_full m (dearest_ways p) stays (breaks + a.returns) in
    let x = loop_body_amounts (dearest_ways p) full breaks a.returns in
    omega (arith, length-append (step_flows s full) (flows p x), length-append (step_costs s) (edge_costs p), step_flows_length s full, flows_length p x)
flows_length (Do c m p) a =
    let y = full_turn_cost c None (dearest_ways p) in
    let stays = do_stays c m y (dearest_ways p) a.next in
    let breaks = do_breaks c m y (dearest_ways p) a.next in
    let full = do_full m (dearest_ways p) (stays + (breaks + a.returns)) in
    let x = loop_body_amounts (dearest_ways p) (full + stays) breaks a.returns in
    omega (arith, length-append (flows p x) (full ∷ (stays ∷ [])), length-append (edge_costs p) (c ∷ (c ∷ [])), flows_length p x)
flows_length (Body p) a = flows_length p (body_amounts (dearest_ways p) a.next)

pub cost_append : (cs ds xs zs : List ℕ) → length xs ≡ length cs → cost_by (cs ++ ds) (xs ++ zs) ≡ cost_by cs xs + cost_by ds zs
cost_append [] ds [] zs h = omega arith
cost_append [] ds (x ∷ xs) zs h = absurd (omega (arith, h))
cost_append (c ∷ cs) ds [] zs h = absurd (omega (arith, h))
cost_append (c ∷ cs) ds (x ∷ xs) zs h = omega (arith, cost_append cs ds xs zs (omega (arith, h)))

pub flows_cost : (p : Part) (a : Targets) → Feasible (dearest_ways p) a → cost_by (edge_costs p) (flows p a) ≡ value (dearest_ways p) a
flows_cost Nothing a h = omega (arith, h.breaks, h.continues, h.returns)
flows_cost (Block c ByEnd) a h = omega arith
flows_cost (Block c ByBreak) a h = omega arith
flows_cost (Block c ByContinue) a h = omega arith
flows_cost (Block c ByReturn) a h = omega arith
flows_cost (Then p q) a h =
    let v = dearest_ways p in
    let w = dearest_ways q in
    cost_append (edge_costs p) (edge_costs q) (flows p (then_first v w a)) (flows q (then_second v w a)) (flows_length p (then_first v w a)) ∙ (λ i. flows_cost p (then_first v w a) (then_first_feasible v w a h) i + flows_cost q (then_second v w a) (then_second_feasible v w a h) i) ∙ then_value v w a h
flows_cost (Choice c p q) a h =
    let v = dearest_ways p in
    let w = dearest_ways q in
    let x = choice_first v w a in
    let z = choice_second v w a in
    omega (arith, cost_append (edge_costs p) (edge_costs q) (flows p x) (flows q z) (flows_length p x), flows_cost p x (choice_first_feasible v w a), flows_cost q z (choice_second_feasible c v w a h), choice_value c v w a h)
flows_cost (While c m s p) a h =
    let w = dearest_ways p in
    let y = full_turn_cost c s w in
    let stays = while_stays c m y w a.next in
    let breaks = while_breaks c m y w a.next in
    let full = while_full m w stays (breaks + a.returns) in
    let x = loop_body_amounts w full breaks a.returns in
    omega (arith, cost_append (step_costs s) (edge_costs p) (step_flows s full) (flows p x) (step_flows_length s full), of_step s full, flows_cost p x (while_feasible c m y w a h), while_value c (step_cost s) m w a y refl h full refl)
  where
    of_step : (o : Option ℕ) (x : ℕ) → cost_by (step_costs o) (step_flows o x) ≡ step_cost o * x
    of_step None x = omega arith
    of_step (Some d) x = omega arith
flows_cost (Do c m p) a h =
    let w = dearest_ways p in
    let y = full_turn_cost c None w in
    let stays = do_stays c m y w a.next in
    let breaks = do_breaks c m y w a.next in
    let full = do_full m w (stays + (breaks + a.returns)) in
    let x = loop_body_amounts w (full + stays) breaks a.returns in
    omega (arith, cost_append (edge_costs p) (c ∷ (c ∷ [])) (flows p x) (full ∷ (stays ∷ [])) (flows_length p x), flows_cost p x (do_feasible c m y w a h), do_value c m w a y refl h full refl)
flows_cost (Body p) a h = flows_cost p (body_amounts (dearest_ways p) a.next) (body_feasible (dearest_ways p) a h) ∙ body_value (dearest_ways p) a
