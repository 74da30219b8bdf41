-- Potentials of a tree, one layer at a time, and the room that they need.
use Rattle.std.proofs.Common.{◌≡◌, ◌≤◌, ℕ, ◌+◌, max, ℤ, pos, map, List, [], ◌∷◌, ◌++◌, Option, None, refl, sym, ap, ◌∙◌, arith}
use Rattle.flow_laws.specs.Sites.{Targets, with_next, body_of}
use Rattle.flow_laws.specs.Graphs.{all_to}
use Rattle.ipet_peak.specs.declared.tree.Tree.{Tree}
use Rattle.ipet_peak.specs.declared.tree.Tree.TheVariants as tree
use Rattle.peak_laws.specs.Parts.{Part, While, Do, dearest_ways, step_cost, at_condition, from_entry, step_potentials, potentials}
use Rattle.peak_laws.specs.declared.ways.Ways.{Ways}
use Rattle.peak_laws.specs.Magnitudes.{cap_cost, excess}
use Rattle.ipet_peak.specs.Trees.{part_of, greatest_target}
use Rattle.peak_laws.proofs.Duals.Magnitudes.{cap_cost_excess}
use Rattle.ipet_peak.proofs.TreeLayers.{part-Nothing, part-Then, part-Choice, part-While, part-Do, part-Body}
use Rattle.ipet_peak.proofs.Pushed.{entry_tallest, two_pushed}

excess_of : (t : Tree) (p : Part) → part_of t ≡ p → excess (part_of t) ≡ excess p
excess_of t p is = ap excess is

pub then_room : (ways : Ways) (t a b : Tree) (k : Targets) (x : ℕ) → t ≡ tree.Then ways a b → excess (part_of t) + greatest_target k ≤ x → (cap_cost (part_of a) ≤ x) × (cap_cost (part_of b) ≤ x) × ((w : ℕ) → w ≤ cap_cost (part_of b) + greatest_target k → excess (part_of a) + greatest_target (with_next k w) ≤ x) × (excess (part_of b) + greatest_target k ≤ x)
then_room ways t a b k x is h =
    let e = ap excess (ap part_of is ∙ part-Then ways a b) in
    (omega (arith, e, h, cap_cost_excess (part_of a)), omega (arith, e, h, cap_cost_excess (part_of b)), λ w le. omega (arith, e, h, le, cap_cost_excess (part_of b)), omega (arith, e, h))

pub choice_room : (ways : Ways) (t a b : Tree) (c : ℕ) (k : Targets) (x : ℕ) → t ≡ tree.Choice ways c a b → excess (part_of t) + greatest_target k ≤ x → (cap_cost (part_of a) ≤ x) × (cap_cost (part_of b) ≤ x) × (excess (part_of a) + greatest_target k ≤ x) × (excess (part_of b) + greatest_target k ≤ x) × (c + (cap_cost (part_of a) + cap_cost (part_of b)) + greatest_target k ≤ x)
choice_room ways t a b c k x is h =
    let e = ap excess (ap part_of is ∙ part-Choice ways c a b) in
    (omega (arith, e, h, cap_cost_excess (part_of a)), omega (arith, e, h, cap_cost_excess (part_of b)), omega (arith, e, h), omega (arith, e, h), omega (arith, e, h, cap_cost_excess (part_of a), cap_cost_excess (part_of b)))

pub while_room : (ways : Ways) (t a : Tree) (c m : ℕ) (s : Option ℕ) (k : Targets) (x : ℕ) → t ≡ tree.While ways c m s a → excess (part_of t) + greatest_target k ≤ x → (let at = at_condition c s (dearest_ways (part_of a)) (from_entry (part_of a)) k in (cap_cost (part_of a) ≤ x) × (at ≤ x) × (step_cost s + at ≤ x) × (excess (part_of a) + greatest_target (body_of k (step_cost s + at)) ≤ x))
while_room ways t a c m s k x is h =
    let e = ap excess (ap part_of is ∙ part-While ways c m s a) in
    let low = entry_tallest (While c m s (part_of a)) k in
    (omega (arith, e, h, cap_cost_excess (part_of a)), omega (arith, e, h, low), omega (arith, e, h, low), omega (arith, e, h, low))

pub do_room : (ways : Ways) (t a : Tree) (c m : ℕ) (k : Targets) (x : ℕ) → t ≡ tree.Do ways c m a → excess (part_of t) + greatest_target k ≤ x → (let at = at_condition c None (dearest_ways (part_of a)) (from_entry (part_of a)) k in (cap_cost (part_of a) ≤ x) × (at ≤ x) × (excess (part_of a) + greatest_target (body_of k at) ≤ x))
do_room ways t a c m k x is h =
    let p = part_of a in
    let e = ap excess (ap part_of is ∙ part-Do ways c m a) in
    let around = entry_tallest p (body_of k (step_cost None + (c + k.next))) in
    let once : c + cap_cost p ≤ cap_cost (Do c m p) = omega arith in
    (omega (arith, e, h, cap_cost_excess p), omega (arith, e, h, around, once), omega (arith, e, h, around, once))

pub body_room : (ways : Ways) (t a : Tree) (k : Targets) (x : ℕ) → t ≡ tree.Body ways a → excess (part_of t) + greatest_target k ≤ x → excess (part_of a) + greatest_target (all_to k.next) ≤ x
body_room ways t a k x is h = let e = ap excess (ap part_of is ∙ part-Body ways a) in omega (arith, e, h)

-- ---- layers

pub pots_nothing : (t : Tree) (k : Targets) → t ≡ tree.Nothing → potentials (part_of t) k ≡ []
pots_nothing t k is = ap (λ p. potentials p k) (ap part_of is ∙ part-Nothing)

pub pots_then : (ways : Ways) (t a b x y z : Tree) (k u : Targets) (w : ℕ) → t ≡ tree.Then ways a b → x ≡ a → y ≡ b → z ≡ b → w ≡ from_entry (part_of y) k → u ≡ with_next k w → potentials (part_of t) k ≡ potentials (part_of x) u ++ potentials (part_of z) k
pots_then ways t a b x y z k u w is xa yb zb wy uk =
    ap (λ p. potentials p k) (ap part_of is ∙ part-Then ways a b) ∙ sym ((λ i. potentials (part_of (xa i)) (uk i) ++ potentials (part_of (zb i)) k) ∙ (λ i. potentials (part_of a) (with_next k ((wy ∙ ap (λ y. from_entry (part_of y) k) yb) i)) ++ potentials (part_of b) k))

pub pots_choice : (ways : Ways) (t a b x y : Tree) (c v : ℕ) (k : Targets) → t ≡ tree.Choice ways c a b → x ≡ a → y ≡ b → v ≡ c + max (from_entry (part_of a) k) (from_entry (part_of b) k) → potentials (part_of t) k ≡ ((v ∷ []) ++ potentials (part_of x) k) ++ potentials (part_of y) k
pots_choice ways t a b x y c v k is xa yb vy =
    ap (λ p. potentials p k) (ap part_of is ∙ part-Choice ways c a b) ∙ sym (λ i. ((vy i ∷ []) ++ potentials (part_of (xa i)) k) ++ potentials (part_of (yb i)) k)

pub pots_while : (ways : Ways) (t a x : Tree) (c m v z : ℕ) (s : Option ℕ) (k u : Targets) → t ≡ tree.While ways c m s a → x ≡ a → v ≡ at_condition c s (dearest_ways (part_of a)) (from_entry (part_of a)) k → z ≡ step_cost s → u ≡ body_of k (z + v) → potentials (part_of t) k ≡ ((v ∷ []) ++ step_potentials s v) ++ potentials (part_of x) u
pots_while ways t a x c m v z s k u is xa vy zs uk =
    ap (λ p. potentials p k) (ap part_of is ∙ part-While ways c m s a) ∙ sym ((λ i. ((v ∷ []) ++ step_potentials s v) ++ potentials (part_of (xa i)) (uk i)) ∙ (λ i. ((vy i ∷ []) ++ step_potentials s (vy i)) ++ potentials (part_of a) (body_of k (zs i + vy i))))

pub pots_do : (ways : Ways) (t a x : Tree) (c m v : ℕ) (k u : Targets) → t ≡ tree.Do ways c m a → x ≡ a → v ≡ at_condition c None (dearest_ways (part_of a)) (from_entry (part_of a)) k → u ≡ body_of k v → potentials (part_of t) k ≡ potentials (part_of x) u ++ (v ∷ [])
pots_do ways t a x c m v k u is xa vy uk =
    ap (λ p. potentials p k) (ap part_of is ∙ part-Do ways c m a) ∙ sym ((λ i. potentials (part_of (xa i)) (uk i) ++ (v ∷ [])) ∙ (λ i. potentials (part_of a) (body_of k (vy i)) ++ (vy i ∷ [])))

pub three_pushed : (old x y z : List ℤ) (p q r s : List ℕ) → x ≡ old ++ map pos p → y ≡ x ++ map pos q → z ≡ y ++ map pos r → s ≡ (p ++ q) ++ r → z ≡ old ++ map pos s
three_pushed old x y z p q r s one two three is = two_pushed old y z (p ++ q) r s (two_pushed old x y p q (p ++ q) one two refl) three is
