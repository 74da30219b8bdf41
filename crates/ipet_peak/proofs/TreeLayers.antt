-- The part that a tree is, one layer at a time, as code opens it.
use Rattle.std.proofs.Common.{◌≡◌, ◌≤◌, ℕ, ◌+◌, ◌*◌, Option, None, refl, sym, ap, ◌∙◌, subst, arith}
use Rattle.std.proofs.Math.Nat.{mul-le-mul_left}
use Rattle.ipet_peak.specs.declared.tree.Tree.{Tree}
use Rattle.ipet_peak.specs.declared.tree.Tree.TheVariants as tree
use Rattle.ipet_peak.specs.declared.tree.Tree.TheBlock.{shape-the_row-Tree-0, hidden-the_row-Tree-0}
use denote.Hole.Carrier.{hidden}
use Rattle.peak_laws.specs.Parts.{Nothing, Block, Then, Choice, While, Do, Body, full_turn_cost, dearest_ways}
use Rattle.peak_laws.specs.declared.ways.Leaving.{Leaving}
use Rattle.peak_laws.specs.declared.ways.Ways.{Ways}
use Rattle.peak_laws.specs.Magnitudes.{cap_cost, WaysAreAtMost}
use Rattle.ipet_peak.specs.Trees.{part_of, row_part_of, KeepsWays, RowKeepsWays, IsTreeOf}
use Rattle.peak_laws.proofs.Duals.Magnitudes.{light, turn_light, all_most_weak}

pub part-Nothing : part_of tree.Nothing ≡ Nothing
unfolding part_of
part-Nothing = refl

pub part-Block : (c : ℕ) (l : Leaving) → part_of (tree.Block c l) ≡ Block c l
unfolding part_of
part-Block c l = refl

pub part-Then : (w : Ways) (a b : Tree) → part_of (tree.Then w a b) ≡ Then (part_of a) (part_of b)
unfolding part_of row_part_of shape-the_row-Tree-0 hidden-the_row-Tree-0 hidden
part-Then w a b = refl

pub part-Choice : (w : Ways) (c : ℕ) (a b : Tree) → part_of (tree.Choice w c a b) ≡ Choice c (part_of a) (part_of b)
unfolding part_of row_part_of shape-the_row-Tree-0 hidden-the_row-Tree-0 hidden
part-Choice w c a b = refl

pub part-While : (w : Ways) (c m : ℕ) (s : Option ℕ) (a : Tree) → part_of (tree.While w c m s a) ≡ While c m s (part_of a)
unfolding part_of row_part_of shape-the_row-Tree-0 hidden-the_row-Tree-0 hidden
part-While w c m s a = refl

pub part-Do : (w : Ways) (c m : ℕ) (a : Tree) → part_of (tree.Do w c m a) ≡ Do c m (part_of a)
unfolding part_of row_part_of shape-the_row-Tree-0 hidden-the_row-Tree-0 hidden
part-Do w c m a = refl

pub part-Body : (w : Ways) (a : Tree) → part_of (tree.Body w a) ≡ Body (part_of a)
unfolding part_of row_part_of shape-the_row-Tree-0 hidden-the_row-Tree-0 hidden
part-Body w a = refl

pub ruleset tree_layers = (part-Nothing, part-Block, part-Then, part-Choice, part-While, part-Do, part-Body)

-- ---- room: what holds of a tree holds of its parts

pub room_then : (ways : Ways) (t a b : Tree) (x : ℕ) → t ≡ tree.Then ways a b → cap_cost (part_of t) ≤ x → (cap_cost (part_of a) ≤ x) × (cap_cost (part_of b) ≤ x)
room_then ways t a b x is h =
    let e : cap_cost (part_of t) ≡ cap_cost (part_of a) + cap_cost (part_of b) = ap (λ y. cap_cost (part_of y)) is ∙ ap cap_cost (part-Then ways a b) in
    (omega (arith, h, e), omega (arith, h, e))

pub room_choice : (ways : Ways) (t a b : Tree) (c x : ℕ) → t ≡ tree.Choice ways c a b → cap_cost (part_of t) ≤ x → (cap_cost (part_of a) ≤ x) × (cap_cost (part_of b) ≤ x)
room_choice ways t a b c x is h =
    let e : cap_cost (part_of t) ≡ c + (cap_cost (part_of a) + cap_cost (part_of b)) = ap (λ y. cap_cost (part_of y)) is ∙ ap cap_cost (part-Choice ways c a b) in
    (omega (arith, h, e), omega (arith, h, e))

pub room_while : (ways : Ways) (t a : Tree) (c m : ℕ) (s : Option ℕ) (x : ℕ) → t ≡ tree.While ways c m s a → cap_cost (part_of t) ≤ x → (cap_cost (part_of a) ≤ x) × ((m + 1) * full_turn_cost c s (dearest_ways (part_of a)) + c ≤ x)
room_while ways t a c m s x is h =
    let e : cap_cost (part_of t) ≡ cap_cost (While c m s (part_of a)) = ap (λ y. cap_cost (part_of y)) is ∙ ap cap_cost (part-While ways c m s a) in
    let each = turn_light c s (part_of a) (light (part_of a)) in
    let all = mul-le-mul_left m each in
    (omega (arith, h, e), omega (arith, h, e, each, all))

pub room_do : (ways : Ways) (t a : Tree) (c m x : ℕ) → t ≡ tree.Do ways c m a → cap_cost (part_of t) ≤ x → (cap_cost (part_of a) ≤ x) × (m * full_turn_cost c None (dearest_ways (part_of a)) + c ≤ x)
room_do ways t a c m x is h =
    let e : cap_cost (part_of t) ≡ cap_cost (Do c m (part_of a)) = ap (λ y. cap_cost (part_of y)) is ∙ ap cap_cost (part-Do ways c m a) in
    let each = turn_light c None (part_of a) (light (part_of a)) in
    let all = mul-le-mul_left m each in
    (omega (arith, h, e), omega (arith, h, e, each, all))

pub room_body : (ways : Ways) (t a : Tree) (x : ℕ) → t ≡ tree.Body ways a → cap_cost (part_of t) ≤ x → cap_cost (part_of a) ≤ x
room_body ways t a x is h = let e : cap_cost (part_of t) ≡ cap_cost (part_of a) = ap (λ y. cap_cost (part_of y)) is ∙ ap cap_cost (part-Body ways a) in omega (arith, h, e)

-- the ways of a tree that costs at most x
pub small_ways : (t : Tree) (w : Ways) (x : ℕ) → w ≡ dearest_ways (part_of t) → cap_cost (part_of t) ≤ x → WaysAreAtMost w x
small_ways t w x is h = subst (λ v. WaysAreAtMost v x) (sym is) (all_most_weak (dearest_ways (part_of t)) (cap_cost (part_of t)) x (light (part_of t)) h)

-- ---- the ways that a tree keeps

pub record Keeps (t : Tree) (ways : Ways) (a : Tree) : Type 0 where
  pub ways_are : ways ≡ dearest_ways (part_of t)
  pub body : KeepsWays a

pub record KeepsBoth (t : Tree) (ways : Ways) (a b : Tree) : Type 0 where
  pub ways_are : ways ≡ dearest_ways (part_of t)
  pub first : KeepsWays a
  pub second : KeepsWays b

keeps-Then : (ways : Ways) (a b : Tree) → KeepsWays (tree.Then ways a b) → KeepsBoth (tree.Then ways a b) ways a b
unfolding part_of row_part_of KeepsWays RowKeepsWays shape-the_row-Tree-0 hidden-the_row-Tree-0 hidden
keeps-Then ways a b h = record { ways_are = h.0; first = h.1.0; second = h.1.1 }

keeps-Choice : (ways : Ways) (c : ℕ) (a b : Tree) → KeepsWays (tree.Choice ways c a b) → KeepsBoth (tree.Choice ways c a b) ways a b
unfolding part_of row_part_of KeepsWays RowKeepsWays shape-the_row-Tree-0 hidden-the_row-Tree-0 hidden
keeps-Choice ways c a b h = record { ways_are = h.0; first = h.1.0; second = h.1.1 }

keeps-While : (ways : Ways) (c m : ℕ) (s : Option ℕ) (a : Tree) → KeepsWays (tree.While ways c m s a) → Keeps (tree.While ways c m s a) ways a
unfolding part_of row_part_of KeepsWays RowKeepsWays shape-the_row-Tree-0 hidden-the_row-Tree-0 hidden
keeps-While ways c m s a h = record { ways_are = h.0; body = h.1 }

keeps-Do : (ways : Ways) (c m : ℕ) (a : Tree) → KeepsWays (tree.Do ways c m a) → Keeps (tree.Do ways c m a) ways a
unfolding part_of row_part_of KeepsWays RowKeepsWays shape-the_row-Tree-0 hidden-the_row-Tree-0 hidden
keeps-Do ways c m a h = record { ways_are = h.0; body = h.1 }

keeps-Body : (ways : Ways) (a : Tree) → KeepsWays (tree.Body ways a) → Keeps (tree.Body ways a) ways a
unfolding part_of row_part_of KeepsWays RowKeepsWays shape-the_row-Tree-0 hidden-the_row-Tree-0 hidden
keeps-Body ways a h = record { ways_are = h.0; body = h.1 }

pub keeps_then : (ways : Ways) (t a b : Tree) → t ≡ tree.Then ways a b → KeepsWays t → KeepsBoth t ways a b
keeps_then ways t a b is h = subst (λ z. KeepsBoth z ways a b) (sym is) (keeps-Then ways a b (subst KeepsWays is h))

pub keeps_choice : (ways : Ways) (t a b : Tree) (c : ℕ) → t ≡ tree.Choice ways c a b → KeepsWays t → KeepsBoth t ways a b
keeps_choice ways t a b c is h = subst (λ z. KeepsBoth z ways a b) (sym is) (keeps-Choice ways c a b (subst KeepsWays is h))

pub keeps_while : (ways : Ways) (t a : Tree) (c m : ℕ) (s : Option ℕ) → t ≡ tree.While ways c m s a → KeepsWays t → Keeps t ways a
keeps_while ways t a c m s is h = subst (λ z. Keeps z ways a) (sym is) (keeps-While ways c m s a (subst KeepsWays is h))

pub keeps_do : (ways : Ways) (t a : Tree) (c m : ℕ) → t ≡ tree.Do ways c m a → KeepsWays t → Keeps t ways a
keeps_do ways t a c m is h = subst (λ z. Keeps z ways a) (sym is) (keeps-Do ways c m a (subst KeepsWays is h))

pub keeps_body : (ways : Ways) (t a : Tree) → t ≡ tree.Body ways a → KeepsWays t → Keeps t ways a
keeps_body ways t a is h = subst (λ z. Keeps z ways a) (sym is) (keeps-Body ways a (subst KeepsWays is h))

-- the child that code has got keeps its ways
pub keeps_at : (x a : Tree) → x ≡ a → KeepsWays a → KeepsWays x
keeps_at x a is = subst KeepsWays (sym is)

-- ---- trees that are made

nothing_made : KeepsWays tree.Nothing
unfolding KeepsWays
nothing_made = tt

block_made : (c : ℕ) (l : Leaving) → KeepsWays (tree.Block c l)
unfolding KeepsWays
block_made c l = tt

pub tree-Nothing : (t : Tree) → t ≡ tree.Nothing → IsTreeOf t Nothing
tree-Nothing t is = subst (λ z. IsTreeOf z Nothing) (sym is) (record { part = part-Nothing; keeps = nothing_made })

pub tree-Block : (t : Tree) (c : ℕ) (l : Leaving) → t ≡ tree.Block c l → IsTreeOf t (Block c l)
tree-Block t c l is = subst (λ z. IsTreeOf z (Block c l)) (sym is) (record { part = part-Block c l; keeps = block_made c l })

then_made : (ways : Ways) (a b : Tree) → ways ≡ dearest_ways (Then (part_of a) (part_of b)) → KeepsWays a → KeepsWays b → KeepsWays (tree.Then ways a b)
unfolding part_of row_part_of KeepsWays RowKeepsWays shape-the_row-Tree-0 hidden-the_row-Tree-0 hidden
then_made ways a b is h k = (is, (h, k))

choice_made : (ways : Ways) (c : ℕ) (a b : Tree) → ways ≡ dearest_ways (Choice c (part_of a) (part_of b)) → KeepsWays a → KeepsWays b → KeepsWays (tree.Choice ways c a b)
unfolding part_of row_part_of KeepsWays RowKeepsWays shape-the_row-Tree-0 hidden-the_row-Tree-0 hidden
choice_made ways c a b is h k = (is, (h, k))

while_made : (ways : Ways) (c m : ℕ) (s : Option ℕ) (a : Tree) → ways ≡ dearest_ways (While c m s (part_of a)) → KeepsWays a → KeepsWays (tree.While ways c m s a)
unfolding part_of row_part_of KeepsWays RowKeepsWays shape-the_row-Tree-0 hidden-the_row-Tree-0 hidden
while_made ways c m s a is h = (is, h)

do_made : (ways : Ways) (c m : ℕ) (a : Tree) → ways ≡ dearest_ways (Do c m (part_of a)) → KeepsWays a → KeepsWays (tree.Do ways c m a)
unfolding part_of row_part_of KeepsWays RowKeepsWays shape-the_row-Tree-0 hidden-the_row-Tree-0 hidden
do_made ways c m a is h = (is, h)

body_made : (ways : Ways) (a : Tree) → ways ≡ dearest_ways (Body (part_of a)) → KeepsWays a → KeepsWays (tree.Body ways a)
unfolding part_of row_part_of KeepsWays RowKeepsWays shape-the_row-Tree-0 hidden-the_row-Tree-0 hidden
body_made ways a is h = (is, h)

pub tree-Then : (t a b : Tree) (ways : Ways) → t ≡ tree.Then ways a b → ways ≡ dearest_ways (Then (part_of a) (part_of b)) → KeepsWays a → KeepsWays b → IsTreeOf t (Then (part_of a) (part_of b))
tree-Then t a b ways is w h k = subst (λ z. IsTreeOf z (Then (part_of a) (part_of b))) (sym is) (record { part = part-Then ways a b; keeps = then_made ways a b w h k })

pub tree-Choice : (t a b : Tree) (c : ℕ) (ways : Ways) → t ≡ tree.Choice ways c a b → ways ≡ dearest_ways (Choice c (part_of a) (part_of b)) → KeepsWays a → KeepsWays b → IsTreeOf t (Choice c (part_of a) (part_of b))
tree-Choice t a b c ways is w h k = subst (λ z. IsTreeOf z (Choice c (part_of a) (part_of b))) (sym is) (record { part = part-Choice ways c a b; keeps = choice_made ways c a b w h k })

pub tree-While : (t a : Tree) (c m : ℕ) (s : Option ℕ) (ways : Ways) → t ≡ tree.While ways c m s a → ways ≡ dearest_ways (While c m s (part_of a)) → KeepsWays a → IsTreeOf t (While c m s (part_of a))
tree-While t a c m s ways is w h = subst (λ z. IsTreeOf z (While c m s (part_of a))) (sym is) (record { part = part-While ways c m s a; keeps = while_made ways c m s a w h })

pub tree-Do : (t a : Tree) (c m : ℕ) (ways : Ways) → t ≡ tree.Do ways c m a → ways ≡ dearest_ways (Do c m (part_of a)) → KeepsWays a → IsTreeOf t (Do c m (part_of a))
tree-Do t a c m ways is w h = subst (λ z. IsTreeOf z (Do c m (part_of a))) (sym is) (record { part = part-Do ways c m a; keeps = do_made ways c m a w h })

pub tree-Body : (t a : Tree) (ways : Ways) → t ≡ tree.Body ways a → ways ≡ dearest_ways (Body (part_of a)) → KeepsWays a → IsTreeOf t (Body (part_of a))
tree-Body t a ways is w h = subst (λ z. IsTreeOf z (Body (part_of a))) (sym is) (record { part = part-Body ways a; keeps = body_made ways a w h })
