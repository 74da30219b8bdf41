-- Counts of a tree, one layer at a time, and the room that they need.
use Rattle.std.proofs.Common.{◌≡◌, ◌≤◌, ℕ, ◌+◌, ◌*◌, ◌^◌, List, [], ◌∷◌, ◌++◌, Option, None, refl, sym, ap, ◌∙◌, subst, append_assoc, append-nil, arith}
use Rattle.std.proofs.Math.Nat.{mul-le-mul_left}
use Rattle.flow_laws.specs.Sites.{Targets}
use Rattle.ipet_peak.specs.declared.tree.Tree.{Tree}
use Rattle.ipet_peak.specs.declared.tree.Tree.TheVariants as tree
use Rattle.peak_laws.specs.Parts.{Part, Then, Choice, While, Do, Body, sum_of_both, dearest_ways, full_turn_cost}
use Rattle.peak_laws.specs.declared.ways.Ways.{Ways}
use Rattle.peak_laws.specs.Flows.{by_first, by_second, whole, then_first, then_second, choice_first, choice_second, amount_by_way, loop_body_amounts, step_flows, flows}
use Rattle.peak_laws.specs.Magnitudes.{cap_cost, EachIsAtMost, node_caps, step_caps}
use Rattle.ipet_peak.specs.Trees.{part_of, FitsCaps}
use Rattle.peak_laws.proofs.Attaining.Amounts.{shared}
use Rattle.peak_laws.proofs.Duals.Magnitudes.{light, turn_light}
use Rattle.peak_laws.proofs.Attaining.Turned.{amount_by_way_most}
use Rattle.peak_laws.proofs.GraphParts.Places.{Every}
use Rattle.peak_laws.proofs.Duals.Ranges.{UpTo, every_left, every_right}
use Rattle.ipet_peak.proofs.Supplies.{caps_fewer}
use Rattle.ipet_peak.proofs.TreeLayers.{part-Nothing, part-Then, part-Choice, part-While, part-Do, part-Body}

pub shares : (o p : Option ℕ) (x s b : ℕ) → s ≡ by_first o p x → b ≡ by_second o p x → s + b ≡ x
shares o p x s b is two = omega (arith, is, two, shared o p x)

pub then_most : (v w : Ways) (a : Targets) → whole (then_second v w a) ≤ whole a
then_most v w a =
    omega (arith, shared v.breaks (sum_of_both v.next w.breaks) a.breaks, shared v.continues (sum_of_both v.next w.continues) a.continues, shared v.returns (sum_of_both v.next w.returns) a.returns)

pub inner_whole : (w : Ways) (f b r : ℕ) → whole (loop_body_amounts w f b r) ≡ f + (b + r)
inner_whole w f b r = omega (arith, shared w.next w.continues f)

pub while_light : (c m : ℕ) (s : Option ℕ) (p : Part) → (m + 1) * full_turn_cost c s (dearest_ways p) + c ≤ cap_cost (While c m s p)
while_light c m s p =
    let each = turn_light c s p (light p) in
    omega (arith, each, mul-le-mul_left m each)

pub do_light : (c m : ℕ) (p : Part) → m * full_turn_cost c None (dearest_ways p) + c ≤ cap_cost (Do c m p)
do_light c m p =
    let each = turn_light c None p (light p) in
    omega (arith, each, mul-le-mul_left m each)

-- a loop that is left s times by its condition and b times by others makes f full turns
pub while_most : (m s b x f : ℕ) (o : Option ℕ) → s + b ≤ x → f ≡ amount_by_way o ((m + 1) * s + m * b) → ((m + 1) * s + m * b + b ≤ x * (m + 1)) × (f + b ≤ x * (m + 1))
while_most m s b x f o le is =
    let all = mul-le-mul_left (m + 1) le in
    (omega (arith, all), omega (arith, all, is, amount_by_way_most o ((m + 1) * s + m * b)))

pub do_most : (m s b x f : ℕ) (o : Option ℕ) → s + b ≤ x → f ≡ amount_by_way o (m * (s + b)) → (m * (s + b) + (s + b) ≤ x * (m + 1)) × (f + (s + b) ≤ x * (m + 1))
do_most m s b x f o le is =
    let all = mul-le-mul_left (m + 1) le in
    (omega (arith, all), omega (arith, all, is, amount_by_way_most o (m * (s + b))))

-- ---- a part that is entered so often fits, and so do its parts

each_every : (x : ℕ) (ns : List ℕ) → EachIsAtMost x ns → Every (UpTo x) ns
each_every x [] h = tt
each_every x (n ∷ ns) h = (h.0, each_every x ns h.1)

every_each : (x : ℕ) (ns : List ℕ) → Every (UpTo x) ns → EachIsAtMost x ns
every_each x [] h = tt
every_each x (n ∷ ns) h = (h.0, every_each x ns h.1)

left : (x : ℕ) (ms ns : List ℕ) → EachIsAtMost x (ms ++ ns) → EachIsAtMost x ms
left x ms ns h = every_each x ms (every_left x ms ns (each_every x (ms ++ ns) h))

right : (x : ℕ) (ms ns : List ℕ) → EachIsAtMost x (ms ++ ns) → EachIsAtMost x ns
right x ms ns h = every_each x ns (every_right x ms ns (each_every x (ms ++ ns) h))

pub fit_less : (p : Part) (j k : ℕ) → j ≤ k → FitsCaps p k → FitsCaps p j
fit_less p j k le h =
    record { entries = omega (arith, le, h.entries); caps = every_each (2 ^ 40) (node_caps p j) (caps_fewer p j k (2 ^ 40) le (each_every (2 ^ 40) (node_caps p k) h.caps)) }

pub fit_then : (ways : Ways) (t a b : Tree) (k : ℕ) → t ≡ tree.Then ways a b → FitsCaps (part_of t) k → FitsCaps (part_of a) k × FitsCaps (part_of b) k
fit_then ways t a b k is h =
    let g : FitsCaps (Then (part_of a) (part_of b)) k = subst (λ p. FitsCaps p k) (ap part_of is ∙ part-Then ways a b) h in
    let p = node_caps (part_of a) k in
    let q = node_caps (part_of b) k in
    (record { entries = g.entries; caps = left (2 ^ 40) p q g.caps }, record { entries = g.entries; caps = right (2 ^ 40) p q g.caps })

pub fit_choice : (ways : Ways) (t a b : Tree) (c k : ℕ) → t ≡ tree.Choice ways c a b → FitsCaps (part_of t) k → FitsCaps (part_of a) k × FitsCaps (part_of b) k
fit_choice ways t a b c k is h =
    let g : FitsCaps (Choice c (part_of a) (part_of b)) k = subst (λ p. FitsCaps p k) (ap part_of is ∙ part-Choice ways c a b) h in
    let p = node_caps (part_of a) k in
    let q = node_caps (part_of b) k in
    (record { entries = g.entries; caps = left (2 ^ 40) p q g.caps.1 }, record { entries = g.entries; caps = right (2 ^ 40) p q g.caps.1 })

pub fit_while : (ways : Ways) (t a : Tree) (c m : ℕ) (s : Option ℕ) (k : ℕ) → t ≡ tree.While ways c m s a → FitsCaps (part_of t) k → FitsCaps (part_of a) (k * (m + 1))
fit_while ways t a c m s k is h =
    let g : FitsCaps (While c m s (part_of a)) k = subst (λ p. FitsCaps p k) (ap part_of is ∙ part-While ways c m s a) h in
    record { entries = omega (arith, g.caps.0); caps = right (2 ^ 40) (step_caps s (k * (m + 1))) (node_caps (part_of a) (k * (m + 1))) g.caps.1 }

pub fit_do : (ways : Ways) (t a : Tree) (c m k : ℕ) → t ≡ tree.Do ways c m a → FitsCaps (part_of t) k → FitsCaps (part_of a) (k * (m + 1))
fit_do ways t a c m k is h =
    let g : FitsCaps (Do c m (part_of a)) k = subst (λ p. FitsCaps p k) (ap part_of is ∙ part-Do ways c m a) h in
    let p = node_caps (part_of a) (k * (m + 1)) in
    let last : EachIsAtMost (2 ^ 40) ((k * (m + 1)) ∷ []) = right (2 ^ 40) p ((k * (m + 1)) ∷ []) g.caps in
    record { entries = last.0; caps = left (2 ^ 40) p ((k * (m + 1)) ∷ []) g.caps }

pub fit_body : (ways : Ways) (t a : Tree) (k : ℕ) → t ≡ tree.Body ways a → FitsCaps (part_of t) k → FitsCaps (part_of a) k
fit_body ways t a k is h =
    let g : FitsCaps (Body (part_of a)) k = subst (λ p. FitsCaps p k) (ap part_of is ∙ part-Body ways a) h in
    record { entries = g.entries; caps = g.caps }

-- ---- lists that are added one after the other

pub none_added : (old r : List ℕ) → r ≡ [] → old ≡ old ++ r
none_added old r is = sym (ap (λ y. old ++ y) is ∙ append-nil old)

pub two_added : (old x y p q r : List ℕ) → x ≡ old ++ p → y ≡ x ++ q → r ≡ p ++ q → y ≡ old ++ r
two_added old x y p q r one two is = two ∙ ap (λ z. z ++ q) one ∙ append_assoc old p q ∙ ap (λ z. old ++ z) (sym is)

pub four_added : (old x y z w p q r s u : List ℕ) → x ≡ old ++ p → y ≡ x ++ q → z ≡ y ++ r → w ≡ z ++ s → u ≡ p ++ (q ++ (r ++ s)) → w ≡ old ++ u
four_added old x y z w p q r s u one two three four is =
    two_added old x w p (q ++ (r ++ s)) u one (two_added x y w q (r ++ s) (q ++ (r ++ s)) two (two_added y z w r s (r ++ s) three four refl) refl) is

pub three_added : (old x y z p q r u : List ℕ) → x ≡ old ++ p → y ≡ x ++ q → z ≡ y ++ r → u ≡ p ++ (q ++ r) → z ≡ old ++ u
three_added old x y z p q r u one two three is =
    two_added old x z p (q ++ r) u one (two_added x y z q r (q ++ r) two three refl) is

-- ---- counts, one layer at a time

pub flows_nothing : (t : Tree) (a : Targets) → t ≡ tree.Nothing → flows (part_of t) a ≡ []
flows_nothing t a is = ap (λ p. flows p a) (ap part_of is ∙ part-Nothing)

pub flows_then : (ways : Ways) (t a b x y x' y' : Tree) (k u v : Targets) → t ≡ tree.Then ways a b → x ≡ a → y ≡ b → x' ≡ a → y' ≡ b → u ≡ then_first (dearest_ways (part_of x')) (dearest_ways (part_of y')) k → v ≡ then_second (dearest_ways (part_of x')) (dearest_ways (part_of y')) k → flows (part_of t) k ≡ flows (part_of x) u ++ flows (part_of y) v
flows_then ways t a b x y x' y' k u v is xa yb xa' yb' uk vk =
    ap (λ p. flows p k) (ap part_of is ∙ part-Then ways a b) ∙ sym (λ i. flows (part_of (xa i)) ((uk ∙ (λ j. then_first (dearest_ways (part_of (xa' j))) (dearest_ways (part_of (yb' j))) k)) i) ++ flows (part_of (yb i)) ((vk ∙ (λ j. then_second (dearest_ways (part_of (xa' j))) (dearest_ways (part_of (yb' j))) k)) i))

pub flows_choice : (ways : Ways) (t a b x y x' y' : Tree) (c f s : ℕ) (k u v : Targets) → t ≡ tree.Choice ways c a b → x ≡ a → y ≡ b → x' ≡ a → y' ≡ b → u ≡ choice_first (dearest_ways (part_of x')) (dearest_ways (part_of y')) k → v ≡ choice_second (dearest_ways (part_of x')) (dearest_ways (part_of y')) k → f ≡ whole u → s ≡ whole v → flows (part_of t) k ≡ (f ∷ []) ++ ((s ∷ []) ++ (flows (part_of x) u ++ flows (part_of y) v))
flows_choice ways t a b x y x' y' c f s k u v is xa yb xa' yb' uk vk fu sv =
    let first = uk ∙ (λ j. choice_first (dearest_ways (part_of (xa' j))) (dearest_ways (part_of (yb' j))) k) in
    let second = vk ∙ (λ j. choice_second (dearest_ways (part_of (xa' j))) (dearest_ways (part_of (yb' j))) k) in
    ap (λ p. flows p k) (ap part_of is ∙ part-Choice ways c a b) ∙ sym (λ i. (fu ∙ ap whole first) i ∷ ((sv ∙ ap whole second) i ∷ (flows (part_of (xa i)) (first i) ++ flows (part_of (yb i)) (second i))))

pub flows_while : (ways : Ways) (t a x y : Tree) (c m f g h : ℕ) (s : Option ℕ) (k u : Targets) → t ≡ tree.While ways c m s a → x ≡ a → y ≡ a → flows (While c m s (part_of x)) k ≡ f ∷ (g ∷ (step_flows s h ++ flows (part_of x) u)) → flows (part_of t) k ≡ (f ∷ []) ++ ((g ∷ []) ++ (step_flows s h ++ flows (part_of y) u))
flows_while ways t a x y c m f g h s k u is xa ya eq =
    ap (λ p. flows p k) (ap part_of is ∙ part-While ways c m s a) ∙ sym (ap (λ z. flows (While c m s (part_of z)) k) xa) ∙ eq ∙ (λ i. f ∷ (g ∷ (step_flows s h ++ flows (part_of ((xa ∙ sym ya) i)) u)))

pub flows_do : (ways : Ways) (t a x y : Tree) (c m f g : ℕ) (k u : Targets) → t ≡ tree.Do ways c m a → x ≡ a → y ≡ a → flows (Do c m (part_of x)) k ≡ flows (part_of x) u ++ (f ∷ (g ∷ [])) → flows (part_of t) k ≡ flows (part_of y) u ++ ((f ∷ []) ++ (g ∷ []))
flows_do ways t a x y c m f g k u is xa ya eq =
    ap (λ p. flows p k) (ap part_of is ∙ part-Do ways c m a) ∙ sym (ap (λ z. flows (Do c m (part_of z)) k) xa) ∙ eq ∙ (λ i. flows (part_of ((xa ∙ sym ya) i)) u ++ (f ∷ (g ∷ [])))
