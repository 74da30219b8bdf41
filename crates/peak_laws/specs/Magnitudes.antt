-- How large numbers over a part can be. This project's own.
use Rattle.std.specs.Prelude.{◌≤◌, ℕ, ◌+◌, ◌*◌, List, [], ◌∷◌, ◌++◌, Option, Some, None}
use Rattle.peak_laws.specs.Parts.{Part, Nothing, Block, Then, Choice, While, Do, Body, Ways, step_cost}

-- what the caps allow: the sum over the nodes of the cost times how often the node can be reached, where the part is
-- entered once
abbrev pub cap_cost : Part → ℕ
cap_cost Nothing = 0
cap_cost (Block c l) = c
cap_cost (Then p q) = cap_cost p + cap_cost q
cap_cost (Choice c p q) = c + (cap_cost p + cap_cost q)
cap_cost (While c m s p) = (m + 2) * c + (m + 1) * (step_cost s + cap_cost p)
cap_cost (Do c m p) = (m + 1) * (c + cap_cost p)
cap_cost (Body p) = cap_cost p

-- how many loops
abbrev pub loop_count : Part → ℕ
loop_count Nothing = 0
loop_count (Block c l) = 0
loop_count (Then p q) = loop_count p + loop_count q
loop_count (Choice c p q) = loop_count p + loop_count q
loop_count (While c m s p) = 1 + loop_count p
loop_count (Do c m p) = 1 + loop_count p
loop_count (Body p) = loop_count p

-- by how much a potential can exceed what is ahead
abbrev pub excess : Part → ℕ
excess Nothing = 0
excess (Block c l) = c
excess (Then p q) = excess p + excess q
excess (Choice c p q) = c + (excess p + excess q)
excess (While c m s p) = step_cost s + (cap_cost (While c m s p) + excess p)
excess (Do c m p) = 2 * cap_cost (Do c m p) + excess p
excess (Body p) = excess p

-- how often each node can be reached, where the part is entered k times
abbrev pub step_caps : Option ℕ → ℕ → List ℕ
step_caps None k = []
step_caps (Some s) k = k ∷ []

abbrev pub node_caps : Part → ℕ → List ℕ
node_caps Nothing k = []
node_caps (Block c l) k = k ∷ []
node_caps (Then p q) k = node_caps p k ++ node_caps q k
node_caps (Choice c p q) k = k ∷ (node_caps p k ++ node_caps q k)
node_caps (While c m s p) k = (k * (m + 1 + 1)) ∷ (step_caps s (k * (m + 1)) ++ node_caps p (k * (m + 1)))
node_caps (Do c m p) k = node_caps p (k * (m + 1)) ++ ((k * (m + 1)) ∷ [])
node_caps (Body p) k = node_caps p k

-- each way costs at most x
abbrev pub WayIsAtMost : Option ℕ → ℕ → Type 0
WayIsAtMost None x = Unit {0}
WayIsAtMost (Some d) x = d ≤ x

pub record WaysAreAtMost (a : Ways) (x : ℕ) : Type 0 where
  pub next : WayIsAtMost a.next x
  pub breaks : WayIsAtMost a.breaks x
  pub continues : WayIsAtMost a.continues x
  pub returns : WayIsAtMost a.returns x

-- each number is at most x
abbrev pub EachIsAtMost : ℕ → List ℕ → Type 0
EachIsAtMost x [] = Unit {0}
EachIsAtMost x (n ∷ ns) = (n ≤ x) × EachIsAtMost x ns
