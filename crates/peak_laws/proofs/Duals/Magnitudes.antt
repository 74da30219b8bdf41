-- Ways, turns and potentials are bounded by what a part costs at its caps.
use Rattle.std.proofs.Common.{◌≡◌, ◌≤◌, ℕ, ◌+◌, ◌*◌, List, [], ◌∷◌, Option, Some, None, refl, ap, arith}
use Rattle.std.proofs.Math.Nat.{mul-le-mul_left}
use Rattle.flow_laws.specs.Sites.{Targets, with_next, body_of}
use Rattle.flow_laws.specs.Graphs.{all_to}
use Rattle.peak_laws.specs.Parts.{ByEnd, ByBreak, ByContinue, ByReturn, Part, Nothing, Block, Then, Choice, While, Do, Body, greater, more, sum_of_both, Ways, way_back, full_turn_cost, turn_cost, step_cost, dearest_ways, at_condition, from_entry, step_potentials, potentials, CostedLoop, costed_loops}
use Rattle.peak_laws.specs.Magnitudes.{cap_cost, loop_count, excess, WayIsAtMost, WaysAreAtMost}
use Rattle.peak_laws.proofs.Optima.Dearest.{UpTo, upper}
use Rattle.peak_laws.proofs.GraphParts.Places.{Every, every_append, every_of}

-- ---- ways

most_weak : (o : Option ℕ) (x z : ℕ) → WayIsAtMost o x → x ≤ z → WayIsAtMost o z
most_weak None x z h le = tt
most_weak (Some d) x z h le = omega (arith, h, le)

pub all_most_weak : (w : Ways) (x z : ℕ) → WaysAreAtMost w x → x ≤ z → WaysAreAtMost w z
all_most_weak w x z h le =
    record { next = most_weak w.next x z h.next le; breaks = most_weak w.breaks x z h.breaks le; continues = most_weak w.continues x z h.continues le; returns = most_weak w.returns x z h.returns le }

pub most_greater : (o p : Option ℕ) (x : ℕ) → WayIsAtMost o x → WayIsAtMost p x → WayIsAtMost (greater o p) x
most_greater None p x h k = k
most_greater (Some d) None x h k = h
most_greater (Some d) (Some e) x h k = omega (arith, h, k)

most_more : (c : ℕ) (o : Option ℕ) (x z : ℕ) → WayIsAtMost o x → c + x ≤ z → WayIsAtMost (more c o) z
most_more c None x z h le = tt
most_more c (Some d) x z h le = omega (arith, h, le)

most_both : (o p : Option ℕ) (x z : ℕ) → WayIsAtMost o x → WayIsAtMost p z → WayIsAtMost (sum_of_both o p) (x + z)
most_both None p x z h k = tt
most_both (Some d) None x z h k = tt
most_both (Some d) (Some e) x z h k = omega (arith, h, k)

pub most_turn : (c : ℕ) (o : Option ℕ) (x : ℕ) → WayIsAtMost o x → turn_cost c o ≤ c + x
most_turn c None x h = omega arith
most_turn c (Some d) x h = omega (arith, h)

pub turn_light : (c : ℕ) (s : Option ℕ) (p : Part) → WaysAreAtMost (dearest_ways p) (cap_cost p) → full_turn_cost c s (dearest_ways p) ≤ c + step_cost s + cap_cost p
turn_light c s p h = most_turn (c + step_cost s) (way_back (dearest_ways p)) (cap_cost p) (most_greater (dearest_ways p).next (dearest_ways p).continues (cap_cost p) h.next h.continues)

light_then : (p q : Part) → WaysAreAtMost (dearest_ways p) (cap_cost p) → WaysAreAtMost (dearest_ways q) (cap_cost q) → WaysAreAtMost (dearest_ways (Then p q)) (cap_cost p + cap_cost q)
light_then p q h k =
    let x = cap_cost p + cap_cost q in
    record {
      next = most_both (dearest_ways p).next (dearest_ways q).next (cap_cost p) (cap_cost q) h.next k.next;
      breaks = most_greater (dearest_ways p).breaks (sum_of_both (dearest_ways p).next (dearest_ways q).breaks) x (most_weak (dearest_ways p).breaks (cap_cost p) x h.breaks (omega arith)) (most_both (dearest_ways p).next (dearest_ways q).breaks (cap_cost p) (cap_cost q) h.next k.breaks);
      continues = most_greater (dearest_ways p).continues (sum_of_both (dearest_ways p).next (dearest_ways q).continues) x (most_weak (dearest_ways p).continues (cap_cost p) x h.continues (omega arith)) (most_both (dearest_ways p).next (dearest_ways q).continues (cap_cost p) (cap_cost q) h.next k.continues);
      returns = most_greater (dearest_ways p).returns (sum_of_both (dearest_ways p).next (dearest_ways q).returns) x (most_weak (dearest_ways p).returns (cap_cost p) x h.returns (omega arith)) (most_both (dearest_ways p).next (dearest_ways q).returns (cap_cost p) (cap_cost q) h.next k.returns);
    }

light_choice : (c : ℕ) (p q : Part) → WaysAreAtMost (dearest_ways p) (cap_cost p) → WaysAreAtMost (dearest_ways q) (cap_cost q) → WaysAreAtMost (dearest_ways (Choice c p q)) (c + (cap_cost p + cap_cost q))
light_choice c p q h k =
    record { next = part (dearest_ways p).next (dearest_ways q).next h.next k.next; breaks = part (dearest_ways p).breaks (dearest_ways q).breaks h.breaks k.breaks; continues = part (dearest_ways p).continues (dearest_ways q).continues h.continues k.continues; returns = part (dearest_ways p).returns (dearest_ways q).returns h.returns k.returns }
  where
    part : (o r : Option ℕ) → WayIsAtMost o (cap_cost p) → WayIsAtMost r (cap_cost q) → WayIsAtMost (more c (greater o r)) (c + (cap_cost p + cap_cost q))
    part o r h k = most_more c (greater o r) (cap_cost p + cap_cost q) _ (most_greater o r (cap_cost p + cap_cost q) (most_weak o (cap_cost p) _ h (omega arith)) (most_weak r (cap_cost q) _ k (omega arith))) (omega arith)

light_while : (c m : ℕ) (s : Option ℕ) (p : Part) → WaysAreAtMost (dearest_ways p) (cap_cost p) → WaysAreAtMost (dearest_ways (While c m s p)) (cap_cost (While c m s p))
light_while c m s p h =
    let y = full_turn_cost c s (dearest_ways p) in
    let w = cap_cost (While c m s p) in
    let each = turn_light c s p h in
    let all = mul-le-mul_left m each in
    record {
      next = most_greater (Some ((m + 1) * y + c)) (more (m * y + c) (dearest_ways p).breaks) w (omega (arith, each, all)) (most_more (m * y + c) (dearest_ways p).breaks (cap_cost p) w h.breaks (omega (arith, each, all)));
      breaks = tt;
      continues = tt;
      returns = most_more (m * y + c) (dearest_ways p).returns (cap_cost p) w h.returns (omega (arith, each, all));
    }

light_do : (c m : ℕ) (p : Part) → WaysAreAtMost (dearest_ways p) (cap_cost p) → WaysAreAtMost (dearest_ways (Do c m p)) (cap_cost (Do c m p))
light_do c m p h =
    let y = full_turn_cost c None (dearest_ways p) in
    let w = cap_cost (Do c m p) in
    let each = turn_light c None p h in
    let all = mul-le-mul_left m each in
    record {
      next = most_greater (more (m * y + c) (way_back (dearest_ways p))) (more (m * y) (dearest_ways p).breaks) w (most_more (m * y + c) (way_back (dearest_ways p)) (cap_cost p) w (most_greater (dearest_ways p).next (dearest_ways p).continues (cap_cost p) h.next h.continues) (omega (arith, each, all))) (most_more (m * y) (dearest_ways p).breaks (cap_cost p) w h.breaks (omega (arith, each, all)));
      breaks = tt;
      continues = tt;
      returns = most_more (m * y) (dearest_ways p).returns (cap_cost p) w h.returns (omega (arith, each, all));
    }

-- no way costs more than all nodes at their caps
pub light : (p : Part) → WaysAreAtMost (dearest_ways p) (cap_cost p)
light Nothing = record { next = omega arith; breaks = tt; continues = tt; returns = tt }
light (Block c ByEnd) = record { next = omega arith; breaks = tt; continues = tt; returns = tt }
light (Block c ByBreak) = record { next = tt; breaks = omega arith; continues = tt; returns = tt }
light (Block c ByContinue) = record { next = tt; breaks = tt; continues = omega arith; returns = tt }
light (Block c ByReturn) = record { next = tt; breaks = tt; continues = tt; returns = omega arith }
light (Then p q) = light_then p q (light p) (light q)
light (Choice c p q) = light_choice c p q (light p) (light q)
light (While c m s p) = light_while c m s p (light p)
light (Do c m p) = light_do c m p (light p)
light (Body p) =
    let h = light p in
    record { next = most_greater (greater (dearest_ways p).next (dearest_ways p).breaks) (greater (dearest_ways p).continues (dearest_ways p).returns) (cap_cost p) (most_greater (dearest_ways p).next (dearest_ways p).breaks (cap_cost p) h.next h.breaks) (most_greater (dearest_ways p).continues (dearest_ways p).returns (cap_cost p) h.continues h.returns); breaks = tt; continues = tt; returns = tt }

-- ---- entries and potentials

pub record Below (t : Targets) (top : ℕ) : Type 0 where
  pub next : t.next ≤ top
  pub breaks : t.breaks ≤ top
  pub continues : t.continues ≤ top
  pub returns : t.returns ≤ top

upto : (o : Option ℕ) (t x top : ℕ) → WayIsAtMost o x → t ≤ top → UpTo 0 o t (x + top)
upto None t x top h le = tt
upto (Some d) t x top h le = omega (arith, h, le)

pub entry_most : (p : Part) (t : Targets) (top : ℕ) → Below t top → from_entry p t ≤ cap_cost p + top
entry_most p t top b =
    let h = light p in
    omega (arith, upper p 0 (cap_cost p + top) t (record { next = upto (dearest_ways p).next t.next (cap_cost p) top h.next b.next; breaks = upto (dearest_ways p).breaks t.breaks (cap_cost p) top h.breaks b.breaks; continues = upto (dearest_ways p).continues t.continues (cap_cost p) top h.continues b.continues; returns = upto (dearest_ways p).returns t.returns (cap_cost p) top h.returns b.returns }))

pub cap_cost_excess : (p : Part) → cap_cost p ≤ excess p
cap_cost_excess Nothing = omega arith
cap_cost_excess (Block c l) = omega arith
cap_cost_excess (Then p q) = omega (arith, cap_cost_excess p, cap_cost_excess q)
cap_cost_excess (Choice c p q) = omega (arith, cap_cost_excess p, cap_cost_excess q)
cap_cost_excess (While c m s p) = omega arith
cap_cost_excess (Do c m p) = omega arith
cap_cost_excess (Body p) = cap_cost_excess p

abbrev pub AtMost : ℕ → ℕ → Type 0
AtMost x n = n ≤ x

at_most_weak : (x z : ℕ) (ns : List ℕ) → x ≤ z → Every (AtMost x) ns → Every (AtMost z) ns
at_most_weak x z ns le h = every_of (AtMost x) (AtMost z) ns (λ n i. omega (arith, i, le)) h

abbrev Bounded : Part → Type 0
Bounded p = (t : Targets) (top : ℕ) → Below t top → Every (AtMost (excess p + top)) (potentials p t)

bounded_while : (c m : ℕ) (s : Option ℕ) (p : Part) → Bounded p → Bounded (While c m s p)
bounded_while c m s p h t top b =
    let q = at_condition c s (dearest_ways p) (from_entry p) t in
    let w = While c m s p in
    let entry = entry_most w t top b in
    let low : q ≤ cap_cost w + top = omega (arith, entry) in
    let ahead = step_cost s + q in
    let inner = body_of t ahead in
    let limit = step_cost s + (cap_cost w + top) in
    let body = h inner limit (record { next = omega (arith, low); breaks = omega (arith, b.next); continues = omega (arith, low); returns = omega (arith, b.returns) }) in
    (omega (arith, low), every_append (AtMost (excess w + top)) (step_potentials s q) (potentials p inner) (of_step s refl low) (at_most_weak (excess p + limit) (excess w + top) (potentials p inner) (omega arith) body))
  where
    of_step : (o : Option ℕ) → s ≡ o → (let q = at_condition c s (dearest_ways p) (from_entry p) t in q ≤ cap_cost (While c m s p) + top → Every (AtMost (excess (While c m s p) + top)) (step_potentials o q))
    of_step None is low = tt
    of_step (Some d) is low = (omega (arith, low, ap step_cost is), tt)

bounded_do : (c m : ℕ) (p : Part) → Bounded p → Bounded (Do c m p)
bounded_do c m p h t top b =
    let q = at_condition c None (dearest_ways p) (from_entry p) t in
    let w = Do c m p in
    let v = step_cost None + (c + t.next) in
    let around = entry_most p (body_of t v) (c + top) (record { next = omega (arith, b.next); breaks = omega (arith, b.next); continues = omega (arith, b.next); returns = omega (arith, b.returns) }) in
    let once : c + cap_cost p ≤ cap_cost w = omega arith in
    let low : q ≤ 2 * cap_cost w + top = omega (arith, around, b.next, once) in
    let inner = body_of t q in
    let limit = 2 * cap_cost w + top in
    let body = h inner limit (record { next = low; breaks = omega (arith, b.next); continues = low; returns = omega (arith, b.returns) }) in
    every_append (AtMost (excess w + top)) (potentials p inner) (q ∷ []) (at_most_weak (excess p + limit) (excess w + top) (potentials p inner) (omega arith) body) (omega (arith, low), tt)

bounded_then : (p q : Part) → Bounded p → Bounded q → Bounded (Then p q)
bounded_then p q h k t top b =
    let e = from_entry q t in
    let u = with_next t e in
    let entry = entry_most q t top b in
    let more = cap_cost_excess q in
    let limit = excess q + top in
    let first = h u limit (record { next = omega (arith, entry, more); breaks = omega (arith, b.breaks); continues = omega (arith, b.continues); returns = omega (arith, b.returns) }) in
    every_append (AtMost (excess p + excess q + top)) (potentials p u) (potentials q t) (at_most_weak (excess p + limit) (excess p + excess q + top) (potentials p u) (omega arith) first) (at_most_weak (excess q + top) (excess p + excess q + top) (potentials q t) (omega arith) (k t top b))

pub bounded : (p : Part) → Bounded p
bounded Nothing t top b = tt
bounded (Block c ByEnd) t top b = (omega (arith, b.next), tt)
bounded (Block c ByBreak) t top b = (omega (arith, b.breaks), tt)
bounded (Block c ByContinue) t top b = (omega (arith, b.continues), tt)
bounded (Block c ByReturn) t top b = (omega (arith, b.returns), tt)
bounded (Then p q) t top b = bounded_then p q (bounded p) (bounded q) t top b
bounded (Choice c p q) t top b =
    let x = excess (Choice c p q) + top in
    (omega (arith, entry_most p t top b, entry_most q t top b, cap_cost_excess p, cap_cost_excess q), every_append (AtMost x) (potentials p t) (potentials q t) (at_most_weak (excess p + top) x (potentials p t) (omega arith) (bounded p t top b)) (at_most_weak (excess q + top) x (potentials q t) (omega arith) (bounded q t top b)))
bounded (While c m s p) t top b = bounded_while c m s p (bounded p) t top b
bounded (Do c m p) t top b = bounded_do c m p (bounded p) t top b
bounded (Body p) t top b = bounded p (all_to t.next) top (record { next = b.next; breaks = b.next; continues = b.next; returns = b.next })

-- ---- turns

pub dues : (p : Part) (n : ℕ) → Every (λ f. f.turn ≤ cap_cost p) (costed_loops p n)
dues Nothing n = tt
dues (Block c l) n = tt
dues (Then p q) n =
    every_append (λ (f : CostedLoop). f.turn ≤ cap_cost p + cap_cost q) (costed_loops p n) (costed_loops q _) (every_of (λ (f : CostedLoop). f.turn ≤ cap_cost p) (λ f. f.turn ≤ cap_cost p + cap_cost q) (costed_loops p n) (λ f h. omega (arith, h)) (dues p n)) (every_of (λ (f : CostedLoop). f.turn ≤ cap_cost q) (λ f. f.turn ≤ cap_cost p + cap_cost q) (costed_loops q _) (λ f h. omega (arith, h)) (dues q _))
dues (Choice c p q) n =
    every_append (λ (f : CostedLoop). f.turn ≤ c + (cap_cost p + cap_cost q)) (costed_loops p (n + 1)) (costed_loops q _) (every_of (λ (f : CostedLoop). f.turn ≤ cap_cost p) (λ f. f.turn ≤ c + (cap_cost p + cap_cost q)) (costed_loops p (n + 1)) (λ f h. omega (arith, h)) (dues p (n + 1))) (every_of (λ (f : CostedLoop). f.turn ≤ cap_cost q) (λ f. f.turn ≤ c + (cap_cost p + cap_cost q)) (costed_loops q _) (λ f h. omega (arith, h)) (dues q _))
dues (While c m s p) n =
    let w = cap_cost (While c m s p) in
    let one : c + step_cost s + cap_cost p ≤ w = omega arith in
    (omega (arith, turn_light c s p (light p), one), every_of (λ (f : CostedLoop). f.turn ≤ cap_cost p) (λ f. f.turn ≤ w) (costed_loops p _) (λ f h. omega (arith, h, one)) (dues p _))
dues (Do c m p) n =
    let w = cap_cost (Do c m p) in
    let one : c + cap_cost p ≤ w = omega arith in
    every_append (λ (f : CostedLoop). f.turn ≤ w) (costed_loops p n) _ (every_of (λ (f : CostedLoop). f.turn ≤ cap_cost p) (λ f. f.turn ≤ w) (costed_loops p n) (λ f h. omega (arith, h, one)) (dues p n)) (omega (arith, turn_light c None p (light p), one), tt)
dues (Body p) n = dues p n

-- ---- in numbers

pub excess_most : (p : Part) (x : ℕ) → cap_cost p ≤ x → excess p ≤ cap_cost p + 3 * (loop_count p * x)
excess_most Nothing x h = omega arith
excess_most (Block c l) x h = omega arith
excess_most (Then p q) x h = omega (arith, excess_most p x (omega (arith, h)), excess_most q x (omega (arith, h)))
excess_most (Choice c p q) x h = omega (arith, excess_most p x (omega (arith, h)), excess_most q x (omega (arith, h)))
excess_most (While c m s p) x h =
    let one : step_cost s + cap_cost p ≤ cap_cost (While c m s p) = omega arith in
    omega (arith, h, one, excess_most p x (omega (arith, h, one)))
excess_most (Do c m p) x h =
    let one : cap_cost p ≤ cap_cost (Do c m p) = omega arith in
    omega (arith, h, one, excess_most p x (omega (arith, h, one)))
excess_most (Body p) x h = excess_most p x h
