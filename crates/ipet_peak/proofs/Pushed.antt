-- Numbers that are added to a list one after the other.
use Rattle.std.proofs.Common.{◌≡◌, ℕ, ℤ, pos, List, [], ◌∷◌, ◌++◌, map, Option, None, refl, sym, ap, ◌∙◌, append_assoc, append-nil, ◌≤◌, ◌+◌, Some, arith}
use Rattle.ipet_peak.specs.declared.tree.Tree.{Tree}
use Rattle.ipet_peak.specs.declared.tree.Tree.TheVariants as tree
use Rattle.peak_laws.specs.Parts.{Part, full_turn_cost, dearest_ways, from_entry}
use Rattle.peak_laws.specs.declared.ways.Leaving.{Leaving}
use Rattle.peak_laws.specs.declared.ways.Ways.{Ways}
use Rattle.ipet_peak.specs.Trees.{part_of, turns_of, cost_by_way, dearest_cost, greatest_target}
use Rattle.flow_laws.specs.Sites.{Targets}
use Rattle.peak_laws.proofs.Optima.Dearest.{UpTo, upper, lower}
use Rattle.peak_laws.specs.Magnitudes.{cap_cost}
use Rattle.peak_laws.proofs.Duals.Magnitudes.{Below, entry_most}
use Rattle.ipet_peak.proofs.TreeLayers.{part-Nothing, part-Block, part-Then, part-Choice, part-While, part-Do}

map_append : (p q : List ℕ) → map pos (p ++ q) ≡ map pos p ++ map pos q
map_append [] q = refl
map_append (x ∷ p) q = ap (λ ys. pos x ∷ ys) (map_append p q)

pub none_pushed : (old : List ℤ) (r : List ℕ) → r ≡ [] → old ≡ old ++ map pos r
none_pushed old r is = sym (ap (λ y. old ++ map pos y) is ∙ append-nil old)

pub two_pushed : (old x y : List ℤ) (p q r : List ℕ) → x ≡ old ++ map pos p → y ≡ x ++ map pos q → r ≡ p ++ q → y ≡ old ++ map pos r
two_pushed old x y p q r one two is =
    two ∙ ap (λ z. z ++ map pos q) one ∙ append_assoc old (map pos p) (map pos q) ∙ ap (λ z. old ++ z) (sym (map_append p q)) ∙ ap (λ z. old ++ map pos z) (sym is)

-- ---- turns, one layer at a time

pub turns_nothing : (t : Tree) → t ≡ tree.Nothing → turns_of (part_of t) ≡ []
turns_nothing t is = ap (λ y. turns_of (part_of y)) is ∙ ap turns_of part-Nothing

pub turns_block : (t : Tree) (c : ℕ) (l : Leaving) → t ≡ tree.Block c l → turns_of (part_of t) ≡ []
turns_block t c l is = ap (λ y. turns_of (part_of y)) is ∙ ap turns_of (part-Block c l)

pub turns_then : (ways : Ways) (t a b x y : Tree) → t ≡ tree.Then ways a b → x ≡ a → y ≡ b → turns_of (part_of t) ≡ turns_of (part_of x) ++ turns_of (part_of y)
turns_then ways t a b x y is xa yb =
    ap (λ z. turns_of (part_of z)) is ∙ ap turns_of (part-Then ways a b) ∙ sym (λ i. turns_of (part_of (xa i)) ++ turns_of (part_of (yb i)))

pub turns_choice : (ways : Ways) (t a b x y : Tree) (c : ℕ) → t ≡ tree.Choice ways c a b → x ≡ a → y ≡ b → turns_of (part_of t) ≡ turns_of (part_of x) ++ turns_of (part_of y)
turns_choice ways t a b x y c is xa yb =
    ap (λ z. turns_of (part_of z)) is ∙ ap turns_of (part-Choice ways c a b) ∙ sym (λ i. turns_of (part_of (xa i)) ++ turns_of (part_of (yb i)))

pub turns_while : (ways : Ways) (t a x : Tree) (c m v : ℕ) (s : Option ℕ) → t ≡ tree.While ways c m s a → x ≡ a → v ≡ full_turn_cost c s (dearest_ways (part_of a)) → turns_of (part_of t) ≡ v ∷ turns_of (part_of x)
turns_while ways t a x c m v s is xa vy =
    ap (λ z. turns_of (part_of z)) is ∙ ap turns_of (part-While ways c m s a) ∙ sym (λ i. vy i ∷ turns_of (part_of (xa i)))

pub turns_do : (ways : Ways) (t a x : Tree) (c m v : ℕ) → t ≡ tree.Do ways c m a → x ≡ a → v ≡ full_turn_cost c None (dearest_ways (part_of a)) → turns_of (part_of t) ≡ turns_of (part_of x) ++ (v ∷ [])
turns_do ways t a x c m v is xa vy =
    ap (λ z. turns_of (part_of z)) is ∙ ap turns_of (part-Do ways c m a) ∙ sym (λ i. turns_of (part_of (xa i)) ++ (vy i ∷ []))

-- ---- what a part costs from its entry on is its best way

cost_by_way_most : (o : Option ℕ) (t x : ℕ) → UpTo 0 o t x → cost_by_way o t ≤ x
cost_by_way_most None t x h = omega arith
cost_by_way_most (Some d) t x h = omega (arith, h)

most_cost_by_way : (o : Option ℕ) (t x : ℕ) → cost_by_way o t ≤ x → UpTo 0 o t x
most_cost_by_way None t x h = tt
most_cost_by_way (Some d) t x h = omega (arith, h)

pub dearest_cost_is : (p : Part) (t : Targets) → from_entry p t ≡ dearest_cost (dearest_ways p) t
dearest_cost_is p t =
    let w = dearest_ways p in
    let low = lower p t in
    let x = dearest_cost w t in
    let high = upper p 0 x t (record { next = most_cost_by_way w.next t.next x (omega arith); breaks = most_cost_by_way w.breaks t.breaks x (omega arith); continues = most_cost_by_way w.continues t.continues x (omega arith); returns = most_cost_by_way w.returns t.returns x (omega arith) }) in
    omega (arith, high, cost_by_way_most w.next t.next (from_entry p t) low.next, cost_by_way_most w.breaks t.breaks (from_entry p t) low.breaks, cost_by_way_most w.continues t.continues (from_entry p t) low.continues, cost_by_way_most w.returns t.returns (from_entry p t) low.returns)

below_tallest : (t : Targets) → Below t (greatest_target t)
below_tallest t = record { next = omega arith; breaks = omega arith; continues = omega arith; returns = omega arith }

pub entry_tallest : (p : Part) (t : Targets) → from_entry p t ≤ cap_cost p + greatest_target t
entry_tallest p t = entry_most p t (greatest_target t) (below_tallest t)
