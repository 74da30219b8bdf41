-- What a part costs from its first node on is the dearest of its ways with what is ahead of each.
use Rattle.std.proofs.Common.{◌≡◌, ◌≤◌, ℕ, ◌+◌, ◌*◌, max, Option, Some, None, refl, subst, arith}
use Rattle.flow_laws.specs.Sites.{Targets, with_next, body_of}
use Rattle.flow_laws.specs.Graphs.{all_to}
use Rattle.peak_laws.specs.Parts.{Leaving, ByEnd, ByBreak, ByContinue, ByReturn, Part, Nothing, Block, Then, Choice, While, Do, Body, greater, more, sum_of_both, Ways, way_back, full_turn_cost, turn_cost, step_cost, dearest_ways, from_condition, at_condition, from_entry}

-- with d before it and t ahead, at most x
abbrev pub UpTo : ℕ → Option ℕ → ℕ → ℕ → Type 0
UpTo d None t x = Unit {0}
UpTo d (Some e) t x = d + e + t ≤ x

pub record AllUpTo (d : ℕ) (a : Ways) (t : Targets) (x : ℕ) : Type 0 where
  pub next : UpTo d a.next t.next x
  pub breaks : UpTo d a.breaks t.breaks x
  pub continues : UpTo d a.continues t.continues x
  pub returns : UpTo d a.returns t.returns x

greater_left : (d : ℕ) (o p : Option ℕ) (t x : ℕ) → UpTo d (greater o p) t x → UpTo d o t x
greater_left d None p t x h = tt
greater_left d (Some e) None t x h = h
greater_left d (Some e) (Some f) t x h = omega (arith, h)

greater_right : (d : ℕ) (o p : Option ℕ) (t x : ℕ) → UpTo d (greater o p) t x → UpTo d p t x
greater_right d None p t x h = h
greater_right d (Some e) None t x h = tt
greater_right d (Some e) (Some f) t x h = omega (arith, h)

greater_both : (d : ℕ) (o p : Option ℕ) (t x : ℕ) → UpTo d o t x → UpTo d p t x → UpTo d (greater o p) t x
greater_both d None p t x h k = k
greater_both d (Some e) None t x h k = h
greater_both d (Some e) (Some f) t x h k = omega (arith, h, k)

more_in : (d c : ℕ) (o : Option ℕ) (t x : ℕ) → UpTo d (more c o) t x → UpTo (d + c) o t x
more_in d c None t x h = tt
more_in d c (Some e) t x h = omega (arith, h)

more_out : (d c : ℕ) (o : Option ℕ) (t x : ℕ) → UpTo (d + c) o t x → UpTo d (more c o) t x
more_out d c None t x h = tt
more_out d c (Some e) t x h = omega (arith, h)

both_in : (d : ℕ) (o p : Option ℕ) (t x e : ℕ) → o ≡ Some e → UpTo d (sum_of_both o p) t x → UpTo (d + e) p t x
both_in d None p t x e is h = absurd (cc)
both_in d (Some f) p t x e is h =
    let same : f ≡ e = cc in
    subst (λ n. UpTo (d + n) p t x) same (more_in d f p t x h)

-- if the next way needs what the second part needs, both hold
through : (d : ℕ) (o : Option ℕ) (w x : ℕ) → ((e : ℕ) → o ≡ Some e → (d + e) + w ≤ x) → UpTo d o w x
through d None w x h = tt
through d (Some e) w x h = h e refl

-- ---- at most: what a part costs from its first node on is one of its ways

abbrev pub Upper : Part → Type 0
Upper a = (d x : ℕ) (t : Targets) → AllUpTo d (dearest_ways a) t x → d + from_entry a t ≤ x

block_upper : (c : ℕ) (l : Leaving) → Upper (Block c l)
block_upper c ByEnd d x t h = omega (arith, h.next)
block_upper c ByBreak d x t h = omega (arith, h.breaks)
block_upper c ByContinue d x t h = omega (arith, h.continues)
block_upper c ByReturn d x t h = omega (arith, h.returns)

then_upper : (a b : Part) → Upper a → Upper b → Upper (Then a b)
then_upper a b ha hb d x t h =
    ha d x (with_next t (from_entry b t)) (record {
      next = through d (dearest_ways a).next (from_entry b t) x (λ e is. hb (d + e) x t (record {
        next = both_in d (dearest_ways a).next (dearest_ways b).next t.next x e is h.next;
        breaks = both_in d (dearest_ways a).next (dearest_ways b).breaks t.breaks x e is (greater_right d (dearest_ways a).breaks (sum_of_both (dearest_ways a).next (dearest_ways b).breaks) t.breaks x h.breaks);
        continues = both_in d (dearest_ways a).next (dearest_ways b).continues t.continues x e is (greater_right d (dearest_ways a).continues (sum_of_both (dearest_ways a).next (dearest_ways b).continues) t.continues x h.continues);
        returns = both_in d (dearest_ways a).next (dearest_ways b).returns t.returns x e is (greater_right d (dearest_ways a).returns (sum_of_both (dearest_ways a).next (dearest_ways b).returns) t.returns x h.returns);
      }));
      breaks = greater_left d (dearest_ways a).breaks (sum_of_both (dearest_ways a).next (dearest_ways b).breaks) t.breaks x h.breaks;
      continues = greater_left d (dearest_ways a).continues (sum_of_both (dearest_ways a).next (dearest_ways b).continues) t.continues x h.continues;
      returns = greater_left d (dearest_ways a).returns (sum_of_both (dearest_ways a).next (dearest_ways b).returns) t.returns x h.returns;
    })

choice_upper : (c : ℕ) (a b : Part) → Upper a → Upper b → Upper (Choice c a b)
choice_upper c a b ha hb d x t h =
    let n = more_in d c (greater (dearest_ways a).next (dearest_ways b).next) t.next x h.next in
    let k = more_in d c (greater (dearest_ways a).breaks (dearest_ways b).breaks) t.breaks x h.breaks in
    let o = more_in d c (greater (dearest_ways a).continues (dearest_ways b).continues) t.continues x h.continues in
    let r = more_in d c (greater (dearest_ways a).returns (dearest_ways b).returns) t.returns x h.returns in
    let left = ha (d + c) x t (record { next = greater_left (d + c) (dearest_ways a).next (dearest_ways b).next t.next x n; breaks = greater_left (d + c) (dearest_ways a).breaks (dearest_ways b).breaks t.breaks x k; continues = greater_left (d + c) (dearest_ways a).continues (dearest_ways b).continues t.continues x o; returns = greater_left (d + c) (dearest_ways a).returns (dearest_ways b).returns t.returns x r }) in
    let right = hb (d + c) x t (record { next = greater_right (d + c) (dearest_ways a).next (dearest_ways b).next t.next x n; breaks = greater_right (d + c) (dearest_ways a).breaks (dearest_ways b).breaks t.breaks x k; continues = greater_right (d + c) (dearest_ways a).continues (dearest_ways b).continues t.continues x o; returns = greater_right (d + c) (dearest_ways a).returns (dearest_ways b).returns t.returns x r }) in
    omega (arith, left, right)

-- ---- turns

-- no full turn costs more than `full_turn_cost`
turn_next : (c : ℕ) (o p : Option ℕ) (e : ℕ) → o ≡ Some e → c + e ≤ turn_cost c (greater o p)
turn_next c None p e is = absurd (cc)
turn_next c (Some f) None e is = let same : f ≡ e = cc in omega (arith, same)
turn_next c (Some f) (Some g) e is = let same : f ≡ e = cc in omega (arith, same)

turn_continue : (c : ℕ) (o p : Option ℕ) (e : ℕ) → p ≡ Some e → c + e ≤ turn_cost c (greater o p)
turn_continue c o None e is = absurd (cc)
turn_continue c None (Some f) e is = let same : f ≡ e = cc in omega (arith, same)
turn_continue c (Some g) (Some f) e is = let same : f ≡ e = cc in omega (arith, same)

-- a body's ways, where it leads back to a place before which v stands and each way back costs at most y - c
body_upto : (a : Part) (c s d x v : ℕ) (t : Targets) → d + turn_cost c (way_back (dearest_ways a)) + v ≤ x + c → UpTo d (dearest_ways a).breaks t.next x → UpTo d (dearest_ways a).returns t.returns x → AllUpTo d (dearest_ways a) (body_of t v) x
body_upto a c s d x v t h k r =
    record {
      next = through d (dearest_ways a).next v x (λ e is. omega (arith, h, turn_next c (dearest_ways a).next (dearest_ways a).continues e is));
      breaks = k;
      continues = through d (dearest_ways a).continues v x (λ e is. omega (arith, h, turn_continue c (dearest_ways a).next (dearest_ways a).continues e is));
      returns = r;
    }

while_upper : (c m : ℕ) (s : Option ℕ) (a : Part) → Upper a → Upper (While c m s a)
while_upper c m s a ha d x t h =
    let y = full_turn_cost c s (dearest_ways a) in
    let n : d + ((m + 1) * y + c) + t.next ≤ x = greater_left d (Some ((m + 1) * y + c)) (more (m * y + c) (dearest_ways a).breaks) t.next x h.next in
    let k = more_in d (m * y + c) (dearest_ways a).breaks t.next x (greater_right d (Some ((m + 1) * y + c)) (more (m * y + c) (dearest_ways a).breaks) t.next x h.next) in
    let r = more_in d (m * y + c) (dearest_ways a).returns t.returns x h.returns in
    let v = step_cost s + (c + t.next) in
    let out = ha (d + (m * y + c)) x (body_of t v) (body_upto a (c + step_cost s) 0 (d + (m * y + c)) x v t (omega (arith, n)) k r) in
    omega (arith, n, out)

-- what leads back, with d before it
way_next : (d : ℕ) (a : Ways) (t x e : ℕ) → UpTo d (way_back a) t x → a.next ≡ Some e → d + e + t ≤ x
way_next d a t x e h is = subst (λ o. UpTo d o t x) is (greater_left d a.next a.continues t x h)

way_continue : (d : ℕ) (a : Ways) (t x e : ℕ) → UpTo d (way_back a) t x → a.continues ≡ Some e → d + e + t ≤ x
way_continue d a t x e h is = subst (λ o. UpTo d o t x) is (greater_right d a.next a.continues t x h)

do_upper : (c m : ℕ) (a : Part) → Upper a → Upper (Do c m a)
do_upper c m a ha d x t h =
    let y = full_turn_cost c None (dearest_ways a) in
    let b = more_in d (m * y + c) (way_back (dearest_ways a)) t.next x (greater_left d (more (m * y + c) (way_back (dearest_ways a))) (more (m * y) (dearest_ways a).breaks) t.next x h.next) in
    let k = more_in d (m * y) (dearest_ways a).breaks t.next x (greater_right d (more (m * y + c) (way_back (dearest_ways a))) (more (m * y) (dearest_ways a).breaks) t.next x h.next) in
    let r = more_in d (m * y) (dearest_ways a).returns t.returns x h.returns in
    let v = step_cost None + (c + t.next) in
    let first : d + m * y + from_entry a (body_of t v) ≤ x = ha (d + m * y) x (body_of t v) (record {
      next = through (d + m * y) (dearest_ways a).next v x (λ e is. omega (arith, way_next (d + (m * y + c)) (dearest_ways a) t.next x e b is));
      breaks = k;
      continues = through (d + m * y) (dearest_ways a).continues v x (λ e is. omega (arith, way_continue (d + (m * y + c)) (dearest_ways a) t.next x e b is));
      returns = r;
    }) in
    let q = from_condition c y (from_entry a (body_of t v)) t.next in
    let all : d + m * y + from_entry a (body_of t q) ≤ x = ha (d + m * y) x (body_of t q) (record {
      next = through (d + m * y) (dearest_ways a).next q x (λ e is. omega (arith, first, way_next (d + (m * y + c)) (dearest_ways a) t.next x e b is, turn_next (c + 0) (dearest_ways a).next (dearest_ways a).continues e is));
      breaks = k;
      continues = through (d + m * y) (dearest_ways a).continues q x (λ e is. omega (arith, first, way_continue (d + (m * y + c)) (dearest_ways a) t.next x e b is, turn_continue (c + 0) (dearest_ways a).next (dearest_ways a).continues e is));
      returns = r;
    }) in
    omega (arith, all)

body_upper : (a : Part) → Upper a → Upper (Body a)
body_upper a ha d x t h =
    let one = greater_left d (greater (dearest_ways a).next (dearest_ways a).breaks) (greater (dearest_ways a).continues (dearest_ways a).returns) t.next x h.next in
    let two = greater_right d (greater (dearest_ways a).next (dearest_ways a).breaks) (greater (dearest_ways a).continues (dearest_ways a).returns) t.next x h.next in
    ha d x (all_to t.next) (record { next = greater_left d (dearest_ways a).next (dearest_ways a).breaks t.next x one; breaks = greater_right d (dearest_ways a).next (dearest_ways a).breaks t.next x one; continues = greater_left d (dearest_ways a).continues (dearest_ways a).returns t.next x two; returns = greater_right d (dearest_ways a).continues (dearest_ways a).returns t.next x two })

pub upper : (a : Part) → Upper a
upper Nothing d x t h = omega (arith, h.next)
upper (Block c l) d x t h = block_upper c l d x t h
upper (Then a b) d x t h = then_upper a b (upper a) (upper b) d x t h
upper (Choice c a b) d x t h = choice_upper c a b (upper a) (upper b) d x t h
upper (While c m s a) d x t h = while_upper c m s a (upper a) d x t h
upper (Do c m a) d x t h = do_upper c m a (upper a) d x t h
upper (Body a) d x t h = body_upper a (upper a) d x t h

-- ---- at least: each way is within what a part costs from its first node on

abbrev pub Lower : Part → Type 0
Lower a = (t : Targets) → AllUpTo 0 (dearest_ways a) t (from_entry a t)

weaken : (d : ℕ) (o : Option ℕ) (t x z : ℕ) → UpTo d o t x → x ≤ z → UpTo d o t z
weaken d None t x z h le = tt
weaken d (Some e) t x z h le = omega (arith, h, le)

block_lower : (c : ℕ) (l : Leaving) → Lower (Block c l)
block_lower c ByEnd t = record { next = omega arith; breaks = tt; continues = tt; returns = tt }
block_lower c ByBreak t = record { next = tt; breaks = omega arith; continues = tt; returns = tt }
block_lower c ByContinue t = record { next = tt; breaks = tt; continues = omega arith; returns = tt }
block_lower c ByReturn t = record { next = tt; breaks = tt; continues = tt; returns = omega arith }

-- a way through both parts
both_lower : (o p : Option ℕ) (w t x : ℕ) → UpTo 0 o w x → UpTo 0 p t w → UpTo 0 (sum_of_both o p) t x
both_lower None p w t x h k = tt
both_lower (Some e) None w t x h k = tt
both_lower (Some e) (Some f) w t x h k = omega (arith, h, k)

then_lower : (a b : Part) → Lower a → Lower b → Lower (Then a b)
then_lower a b ha hb t =
    let w = from_entry b t in
    let x = from_entry a (with_next t w) in
    let one = ha (with_next t w) in
    let two = hb t in
    record {
      next = both_lower (dearest_ways a).next (dearest_ways b).next w t.next x one.next two.next;
      breaks = greater_both 0 (dearest_ways a).breaks (sum_of_both (dearest_ways a).next (dearest_ways b).breaks) t.breaks x one.breaks (both_lower (dearest_ways a).next (dearest_ways b).breaks w t.breaks x one.next two.breaks);
      continues = greater_both 0 (dearest_ways a).continues (sum_of_both (dearest_ways a).next (dearest_ways b).continues) t.continues x one.continues (both_lower (dearest_ways a).next (dearest_ways b).continues w t.continues x one.next two.continues);
      returns = greater_both 0 (dearest_ways a).returns (sum_of_both (dearest_ways a).next (dearest_ways b).returns) t.returns x one.returns (both_lower (dearest_ways a).next (dearest_ways b).returns w t.returns x one.next two.returns);
    }

-- c more on both sides
choice_one : (c : ℕ) (o p : Option ℕ) (t x z : ℕ) → UpTo 0 o t x → UpTo 0 p t z → UpTo 0 (more c (greater o p)) t (c + max x z)
choice_one c None None t x z h k = tt
choice_one c None (Some f) t x z h k = omega (arith, k)
choice_one c (Some e) None t x z h k = omega (arith, h)
choice_one c (Some e) (Some f) t x z h k = omega (arith, h, k)

choice_lower : (c : ℕ) (a b : Part) → Lower a → Lower b → Lower (Choice c a b)
choice_lower c a b ha hb t =
    let x = from_entry a t in
    let z = from_entry b t in
    record {
      next = choice_one c (dearest_ways a).next (dearest_ways b).next t.next x z (ha t).next (hb t).next;
      breaks = choice_one c (dearest_ways a).breaks (dearest_ways b).breaks t.breaks x z (ha t).breaks (hb t).breaks;
      continues = choice_one c (dearest_ways a).continues (dearest_ways b).continues t.continues x z (ha t).continues (hb t).continues;
      returns = choice_one c (dearest_ways a).returns (dearest_ways b).returns t.returns x z (ha t).returns (hb t).returns;
    }

-- with n before it
before : (n : ℕ) (o : Option ℕ) (t x z : ℕ) → UpTo 0 o t x → n + x ≤ z → UpTo 0 (more n o) t z
before n None t x z h le = tt
before n (Some e) t x z h le = omega (arith, h, le)

while_lower : (c m : ℕ) (s : Option ℕ) (a : Part) → Lower a → Lower (While c m s a)
while_lower c m s a ha t =
    let y = full_turn_cost c s (dearest_ways a) in
    let w = from_entry a (body_of t (step_cost s + (c + t.next))) in
    let one = ha (body_of t (step_cost s + (c + t.next))) in
    let x = (m + 1) * y + from_condition c y w t.next in
    let le : (m * y + c) + w ≤ x = omega arith in
    record {
      next = greater_both 0 (Some ((m + 1) * y + c)) (more (m * y + c) (dearest_ways a).breaks) t.next x (omega arith) (before (m * y + c) (dearest_ways a).breaks t.next w x one.breaks le);
      breaks = tt;
      continues = tt;
      returns = before (m * y + c) (dearest_ways a).returns t.returns w x one.returns le;
    }

do_lower : (c m : ℕ) (a : Part) → Lower a → Lower (Do c m a)
do_lower c m a ha t =
    let y = full_turn_cost c None (dearest_ways a) in
    let q = from_condition c y (from_entry a (body_of t (step_cost None + (c + t.next)))) t.next in
    let w = from_entry a (body_of t q) in
    let one = ha (body_of t q) in
    let x = m * y + w in
    let leads : UpTo 0 (way_back (dearest_ways a)) q w = greater_both 0 (dearest_ways a).next (dearest_ways a).continues q w one.next one.continues in
    record {
      next = greater_both 0 (more (m * y + c) (way_back (dearest_ways a))) (more (m * y) (dearest_ways a).breaks) t.next x (shift (way_back (dearest_ways a)) (m * y) c t.next q w (omega arith) leads) (before (m * y) (dearest_ways a).breaks t.next w x one.breaks (omega arith));
      breaks = tt;
      continues = tt;
      returns = before (m * y) (dearest_ways a).returns t.returns w x one.returns (omega arith);
    }
  where
    shift : (o : Option ℕ) (n c t q w : ℕ) → c + t ≤ q → UpTo 0 o q w → UpTo 0 (more (n + c) o) t (n + w)
    shift None n c t q w le h = tt
    shift (Some e) n c t q w le h = omega (arith, le, h)

body_lower : (a : Part) → Lower a → Lower (Body a)
body_lower a ha t =
    let x = from_entry a (all_to t.next) in
    let one = ha (all_to t.next) in
    record {
      next = greater_both 0 (greater (dearest_ways a).next (dearest_ways a).breaks) (greater (dearest_ways a).continues (dearest_ways a).returns) t.next x (greater_both 0 (dearest_ways a).next (dearest_ways a).breaks t.next x one.next one.breaks) (greater_both 0 (dearest_ways a).continues (dearest_ways a).returns t.next x one.continues one.returns);
      breaks = tt;
      continues = tt;
      returns = tt;
    }

pub lower : (a : Part) → Lower a
lower Nothing t = record { next = omega arith; breaks = tt; continues = tt; returns = tt }
lower (Block c l) t = block_lower c l t
lower (Then a b) t = then_lower a b (lower a) (lower b) t
lower (Choice c a b) t = choice_lower c a b (lower a) (lower b) t
lower (While c m s a) t = while_lower c m s a (lower a) t
lower (Do c m a) t = do_lower c m a (lower a) t
lower (Body a) t = body_lower a (lower a) t

-- ---- a loop's condition

-- going once more through the body costs no more than what the turn takes off
pub turning : (c : ℕ) (s : Option ℕ) (a : Part) (t : Targets) → c + from_entry a (body_of t (step_cost s + at_condition c s (dearest_ways a) (from_entry a) t)) ≤ at_condition c s (dearest_ways a) (from_entry a) t + full_turn_cost c s (dearest_ways a)
turning c s a t =
    let y = full_turn_cost c s (dearest_ways a) in
    let q = at_condition c s (dearest_ways a) (from_entry a) t in
    let v = step_cost s + (c + t.next) in
    let low = lower a (body_of t v) in
    upper a c (q + y) (body_of t (step_cost s + q)) (body_upto a (c + step_cost s) 0 c (q + y) (step_cost s + q) t (omega arith) (exit (dearest_ways a).breaks (from_entry a (body_of t v)) y t.next low.breaks) (exit (dearest_ways a).returns (from_entry a (body_of t v)) y t.returns low.returns))
  where
    exit : (o : Option ℕ) (w y n : ℕ) → UpTo 0 o n w → UpTo c o n (from_condition c y w t.next + y)
    exit None w y n h = tt
    exit (Some e) w y n h = omega (arith, h)
