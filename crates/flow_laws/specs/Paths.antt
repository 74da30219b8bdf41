-- Paths as lists of edge numbers: which lists follow the edges, which keep a loop's bound, what they count and what
-- they cost.
-- This project's own.
use Rattle.std.specs.Prelude.{
  ◌≡◌,
  ◌≤◌,
  ℕ,
  zero,
  suc,
  ◌+◌,
  ◌*◌,
  ◌-◌,
  ◌==◌,
  nat_lt,
  ◌&&◌,
  not,
  Bool,
  true,
  false,
  if◌then◌else◌,
  List,
  [],
  ◌∷◌,
  ◌++◌,
  slice_get,
  Option,
  Some,
  None,
  is_some,
}
use Rattle.std.specs.List.{list_all}
use Rattle.c_tree.specs.declared.program.BlockName.{BlockName}
use Rattle.c_tree.specs.declared.program.Costs.{Costs}
use Rattle.c_tree.specs.Meaning.Claims.{block_cost}
use Rattle.flow_laws.specs.declared.graph.Edge.{Edge}
use Rattle.flow_laws.specs.declared.graph.Loop.{Loop}
use Rattle.flow_laws.specs.declared.graph.Way.{Way}
use Rattle.flow_laws.specs.Sites.{Site}
use Rattle.flow_laws.specs.Graphs.{edges}

-- ---- following

-- where an edge leads, if it is there and begins at the node n
abbrev pub end_node_on : ℕ → Option Edge → (ℕ → Option ℕ) → Option ℕ
end_node_on n None go = None
end_node_on n (Some e) go = if e.from == n then go e.to else None

-- the node to which the edges lead from the node n, where each is there and begins where the one before ends
abbrev pub end_node : List Edge → ℕ → List ℕ → Option ℕ
end_node es n [] = Some n
end_node es n (j ∷ q) = end_node_on n (slice_get es j) (λ m. end_node es m q)

-- the list names only edges, and is contiguous from Entry
abbrev pub follows : List Edge → List ℕ → Bool
follows es q = is_some (end_node es 0 q)

-- the number is that of an edge that leaves the node
abbrev pub IsEdgeFrom : List Edge → ℕ → ℕ → Type 0
IsEdgeFrom es n j = (e : Edge) × (slice_get es j ≡ Some e) × (e.from ≡ n)

-- the number is that of an edge that leaves by this way
abbrev pub LeavesBy : List Edge → ℕ → Way → Type 0
LeavesBy es j way = (e : Edge) × (slice_get es j ≡ Some e) × (e.way ≡ way)

-- it leads from Entry into Exit
abbrev pub IsPath : List Edge → List ℕ → Type 0
IsPath es q = end_node es 0 q ≡ Some 1

-- ---- counts

-- how often a list has what is chosen
abbrev pub times : {A : Type 0} → (A → Bool) → List A → ℕ
times p [] = 0
times p (x ∷ q) = if p x then suc (times p q) else times p q

-- how often the list has the edge number j
abbrev pub edge_count : List ℕ → ℕ → ℕ
edge_count q j = times (λ i. i == j) q

-- the sum of the counts of some edges
abbrev pub total : List ℕ → List ℕ → ℕ
total q [] = 0
total q (j ∷ js) = edge_count q j + total q js

-- the same for the edges, of which the first has the number i, that have a property
abbrev pub total_of : List ℕ → (Edge → Bool) → ℕ → List Edge → ℕ
total_of q p i [] = 0
total_of q p i (e ∷ es) = if p e then edge_count q i + total_of q p (i + 1) es else total_of q p (i + 1) es

-- the counts of the edges that leave a node, and of those that lead to it
abbrev pub leaving_count : List Edge → List ℕ → ℕ → ℕ
leaving_count es q n = total_of q (λ e. e.from == n) 0 es

abbrev pub arriving_count : List Edge → List ℕ → ℕ → ℕ
arriving_count es q n = total_of q (λ e. e.to == n) 0 es

-- the cap of an edge is that of its source
abbrev pub cap_of : Option Site → ℕ
cap_of None = 0
cap_of (Some s) = s.node.cap

-- the sum of the caps of the block copies
abbrev pub cap_of_copy : Option BlockName → ℕ → ℕ
cap_of_copy None cap = 0
cap_of_copy (Some b) cap = cap

abbrev pub copy_caps : List Site → ℕ
copy_caps [] = 0
copy_caps (s ∷ g) = cap_of_copy s.node.block s.node.cap + copy_caps g

-- ---- bounds of loops

abbrev pub is_in_list : ℕ → List ℕ → Bool
is_in_list j [] = false
is_in_list j (i ∷ is) = if j == i then true else is_in_list j is

-- how often the condition of a loop may hold after each entry: the body of `do` was entered once before
abbrev pub most_turns : Loop → ℕ
most_turns l = if l.at_end then l.bound - 1 else l.bound

-- after each edge of `into`, up to the next one, there are at most so many edges of `turn`
abbrev pub Keeps : Loop → List ℕ → Type 0
Keeps l q =
    (before between after : List ℕ) (j : ℕ) → q ≡ before ++ (j ∷ (between ++ after)) → is_in_list j l.into ≡ true
    → list_all (λ i. not (is_in_list i l.into)) between ≡ true → times (λ i. i == l.turn) between ≤ most_turns l

abbrev pub KeepsEach : List Loop → List ℕ → Type 0
KeepsEach [] q = Unit {0}
KeepsEach (l ∷ ls) q = Keeps l q × KeepsEach ls q

-- ---- the same, computed by a counter of the turns that are left, which is none before the loop is first entered

abbrev pub after_turn : Option ℕ → (Option ℕ → Bool) → Bool
after_turn None go = go None
after_turn (Some zero) go = false
after_turn (Some (suc n)) go = go (Some n)

-- `en` chooses the edges of `into` and `tu` those of `turn`; an edge of `into` starts the counter anew
abbrev pub keeps_from : {A : Type 0} → (A → Bool) → (A → Bool) → ℕ → Option ℕ → List A → Bool
keeps_from en tu most left [] = true
keeps_from en tu most left (e ∷ q) =
    if en e then keeps_from en tu most (Some most) q
    else (if tu e then after_turn left (λ m. keeps_from en tu most m q) else keeps_from en tu most left q)

abbrev pub keeps : Loop → List ℕ → Bool
keeps l q = keeps_from (λ j. is_in_list j l.into) (λ j. j == l.turn) (most_turns l) None q

-- the same for each loop
abbrev pub keeps_each : List Loop → List ℕ → Bool
keeps_each [] q = true
keeps_each (l ∷ ls) q = keeps l q && keeps_each ls q

-- ---- one edge more: the turns that are left of a loop behind a list, none before the loop is first entered

abbrev pub one_less : Option ℕ → Option ℕ
one_less None = None
one_less (Some n) = Some (n - 1)

abbrev pub turns_left_on : Loop → ℕ → Option ℕ → Option ℕ
turns_left_on l j left =
    if is_in_list j l.into then Some (most_turns l) else (if j == l.turn then one_less left else left)

abbrev pub turns_left_from : Loop → Option ℕ → List ℕ → Option ℕ
turns_left_from l left [] = left
turns_left_from l left (j ∷ q) = turns_left_from l (turns_left_on l j left) q

abbrev pub turns_left : Loop → List ℕ → Option ℕ
turns_left l q = turns_left_from l None q

abbrev pub has_turn : Option ℕ → Bool
has_turn None = true
has_turn (Some n) = nat_lt 0 n

-- with these turns left, the edge keeps the loop's bound
abbrev pub allows : Loop → ℕ → Option ℕ → Bool
allows l j left = if is_in_list j l.into then true else (if j == l.turn then has_turn left else true)

-- behind the list, it keeps the bound of each loop
abbrev pub each_allows : List Loop → List ℕ → ℕ → Bool
each_allows [] q j = true
each_allows (l ∷ ls) q j = allows l j (turns_left l q) && each_allows ls q j

-- ---- costs

abbrev pub cost_of_block : Costs → Option BlockName → ℕ
cost_of_block t None = 0
cost_of_block t (Some b) = block_cost t b

abbrev pub cost_of_site : Costs → Option Site → ℕ
cost_of_site t None = 0
cost_of_site t (Some s) = cost_of_block t s.node.block

abbrev pub cost_of_edge : Costs → List Site → Option Edge → ℕ
cost_of_edge t g None = 0
cost_of_edge t g (Some e) = cost_of_site t (slice_get g e.from)

-- the cost of the block of the edge's source, and 0 where that is Entry or a landing
abbrev pub edge_cost : Costs → List Site → ℕ → ℕ
edge_cost t g j = cost_of_edge t g (slice_get (edges g) j)

abbrev pub price : Costs → List Site → List ℕ → ℕ
price t g [] = 0
price t g (j ∷ q) = edge_cost t g j + price t g q

-- the same by counts: the sum of the edges' costs times their counts, where the first edge has the number i
abbrev pub worth_of : Costs → List Site → List ℕ → ℕ → List Edge → ℕ
worth_of t g q i [] = 0
worth_of t g q i (e ∷ es) = cost_of_edge t g (Some e) * edge_count q i + worth_of t g q (i + 1) es

abbrev pub worth : Costs → List Site → List ℕ → ℕ
worth t g q = worth_of t g q 0 (edges g)
