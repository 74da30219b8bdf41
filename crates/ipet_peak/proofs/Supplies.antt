-- For the code: the turns that are added are the multipliers of the loops, and fewer entries need no higher caps.
use Rattle.std.proofs.Common.{◌≡◌, ◌≤◌, ℕ, ℤ, pos, map, ◌+◌, ◌*◌, List, [], ◌∷◌, ◌++◌, Option, Some, None, refl, ap, ◌∙◌, arith}
use Rattle.std.proofs.Math.Nat.{mul-le-mul_left}
use Rattle.peak_laws.specs.Parts.{Part, Nothing, Block, Then, Choice, While, Do, Body, dearest_ways, full_turn_cost, step_size, part_size, CostedLoop, costed_loop, do_copy, costed_loops}
use Rattle.peak_laws.specs.Answers.{turn_costs}
use Rattle.peak_laws.specs.Magnitudes.{step_caps, node_caps}
use Rattle.ipet_peak.specs.Trees.{turns_of}
use Rattle.peak_laws.proofs.GraphParts.Places.{Every, every_append}
use Rattle.peak_laws.proofs.Duals.Ranges.{UpTo, every_left, every_right}

-- ---- turns

turns_append : (fs gs : List CostedLoop) → turn_costs (fs ++ gs) ≡ turn_costs fs ++ turn_costs gs
turns_append [] gs = refl
turns_append (f ∷ fs) gs = ap (λ ys. f.turn ∷ ys) (turns_append fs gs)

pub turns_are : (p : Part) (n : ℕ) → turn_costs (costed_loops p n) ≡ turns_of p
turns_are Nothing n = refl
turns_are (Block c l) n = refl
turns_are (Then p q) n = turns_append (costed_loops p n) (costed_loops q (n + part_size p)) ∙ (λ i. turns_are p n i ++ turns_are q (n + part_size p) i)
turns_are (Choice c p q) n = turns_append (costed_loops p (n + 1)) (costed_loops q (n + 1 + part_size p)) ∙ (λ i. turns_are p (n + 1) i ++ turns_are q (n + 1 + part_size p) i)
turns_are (While c m s p) n = ap (λ ys. full_turn_cost c s (dearest_ways p) ∷ ys) (turns_are p (n + 1 + step_size s))
turns_are (Do c m p) n =
    turns_append (costed_loops p n) (costed_loop (do_copy p n m) (full_turn_cost c None (dearest_ways p)) ∷ []) ∙ ap (λ ys. ys ++ (full_turn_cost c None (dearest_ways p) ∷ [])) (turns_are p n)
turns_are (Body p) n = turns_are p n

-- ---- caps

step_fewer : (s : Option ℕ) (j k x : ℕ) → j ≤ k → Every (UpTo x) (step_caps s k) → Every (UpTo x) (step_caps s j)
step_fewer None j k x le h = tt
step_fewer (Some d) j k x le h = (omega (arith, h.0, le), tt)

times_le : (m j k : ℕ) → j ≤ k → j * m ≤ k * m
times_le m j k le = omega (arith, mul-le-mul_left m le)

pub caps_fewer : (p : Part) (j k x : ℕ) → j ≤ k → Every (UpTo x) (node_caps p k) → Every (UpTo x) (node_caps p j)
caps_fewer Nothing j k x le h = tt
caps_fewer (Block c l) j k x le h = (omega (arith, h.0, le), tt)
caps_fewer (Then p q) j k x le h =
    every_append (UpTo x) (node_caps p j) (node_caps q j) (caps_fewer p j k x le (every_left x (node_caps p k) (node_caps q k) h)) (caps_fewer q j k x le (every_right x (node_caps p k) (node_caps q k) h))
caps_fewer (Choice c p q) j k x le h =
    (omega (arith, h.0, le), every_append (UpTo x) (node_caps p j) (node_caps q j) (caps_fewer p j k x le (every_left x (node_caps p k) (node_caps q k) h.1)) (caps_fewer q j k x le (every_right x (node_caps p k) (node_caps q k) h.1)))
caps_fewer (While c m s p) j k x le h =
    let inside = times_le (m + 1) j k le in
    (omega (arith, h.0, times_le (m + 1 + 1) j k le), every_append (UpTo x) (step_caps s (j * (m + 1))) (node_caps p (j * (m + 1))) (step_fewer s (j * (m + 1)) (k * (m + 1)) x inside (every_left x (step_caps s (k * (m + 1))) (node_caps p (k * (m + 1))) h.1)) (caps_fewer p (j * (m + 1)) (k * (m + 1)) x inside (every_right x (step_caps s (k * (m + 1))) (node_caps p (k * (m + 1))) h.1)))
caps_fewer (Do c m p) j k x le h =
    let inside = times_le (m + 1) j k le in
    let last = every_right x (node_caps p (k * (m + 1))) ((k * (m + 1)) ∷ []) h in
    every_append (UpTo x) (node_caps p (j * (m + 1))) ((j * (m + 1)) ∷ []) (caps_fewer p (j * (m + 1)) (k * (m + 1)) x inside (every_left x (node_caps p (k * (m + 1))) ((k * (m + 1)) ∷ []) h)) (omega (arith, last.0, inside), tt)
caps_fewer (Body p) j k x le h = caps_fewer p j k x le h

-- ---- multipliers

pub multipliers_are : (y0 y1 y2 y3 : List ℤ) (v : ℕ) (ps ts : List ℕ) → y0 ≡ [] → y1 ≡ y0 ++ map pos (v ∷ []) → y2 ≡ y1 ++ map pos ps → y3 ≡ y2 ++ map pos ts → y3 ≡ pos v ∷ (map pos ps ++ map pos ts)
multipliers_are y0 y1 y2 y3 v ps ts none one two three =
    three ∙ ap (λ z. z ++ map pos ts) (two ∙ ap (λ z. z ++ map pos ps) (one ∙ ap (λ z. z ++ map pos (v ∷ [])) none))
