-- Parts of a flat graph as trees, calls inlined, and their dearest ways. A part is entered at its first node, and is
-- left in four ways, as a list of statements is: by its end, `break`, `continue` and `return`. This project's own.
use Rattle.std.specs.Prelude.{
  ◌≤◌,
  ℕ,
  ◌+◌,
  ◌-◌,
  ◌*◌,
  ◌==◌,
  ◌&&◌,
  max,
  Bool,
  true,
  false,
  if◌then◌else◌,
  List,
  [],
  ◌∷◌,
  ◌++◌,
  Option,
  Some,
  None,
}
use Rattle.flow_laws.specs.declared.graph.Way.{Way}
use Rattle.flow_laws.specs.declared.graph.Way.TheVariants.{Next, True, False}
use Rattle.flow_laws.specs.declared.graph.Edge.{Edge}
use Rattle.flow_laws.specs.Sites.{LoopCopy, loop_at, Targets, head, with_next, body_of}
use Rattle.flow_laws.specs.Graphs.{leaves, enters, all_to}
pub use Rattle.peak_laws.specs.declared.ways.Leaving.{Leaving}
pub use Rattle.peak_laws.specs.declared.ways.Leaving.TheVariants.{ByEnd, ByBreak, ByContinue, ByReturn}
pub use Rattle.peak_laws.specs.declared.ways.Ways.{Ways}

-- no node; a node with one end; one part after the other; a condition with two parts; a loop with its condition, its
-- step and its body; and a callee's body, whose `return` leads to its end. Each node has its cost. `spare` is the bound
-- of the loop less one
pub data Part : Type 0 where
  Nothing : Part
  Block : (cost : ℕ) (leaving : Leaving) → Part
  Then : (a b : Part) → Part
  Choice : (cost : ℕ) (a b : Part) → Part
  While : (cost spare : ℕ) (step : Option ℕ) (a : Part) → Part
  Do : (cost spare : ℕ) (a : Part) → Part
  Body : (a : Part) → Part

-- ---- numbers that may be none

-- the greater of two, or the one that is there
abbrev pub greater : Option ℕ → Option ℕ → Option ℕ
greater None o = o
greater (Some d) None = Some d
greater (Some d) (Some e) = Some (max d e)

-- d more
abbrev pub more : ℕ → Option ℕ → Option ℕ
more d None = None
more d (Some e) = Some (d + e)

-- their sum, where both are there
abbrev pub sum_of_both : Option ℕ → Option ℕ → Option ℕ
sum_of_both None o = None
sum_of_both (Some d) o = more d o

-- ---- dearest ways

-- the end alone is a way out
abbrev pub only_next : Option ℕ → Ways
only_next o = record { next = o; breaks = None; continues = None; returns = None }

abbrev pub block_ways : ℕ → Leaving → Ways
block_ways c ByEnd = only_next (Some c)
block_ways c ByBreak = record { next = None; breaks = Some c; continues = None; returns = None }
block_ways c ByContinue = record { next = None; breaks = None; continues = Some c; returns = None }
block_ways c ByReturn = record { next = None; breaks = None; continues = None; returns = Some c }

abbrev pub then_ways : Ways → Ways → Ways
then_ways a b = record {
  next = sum_of_both a.next b.next;
  breaks = greater a.breaks (sum_of_both a.next b.breaks);
  continues = greater a.continues (sum_of_both a.next b.continues);
  returns = greater a.returns (sum_of_both a.next b.returns);
}

abbrev pub choice_ways : ℕ → Ways → Ways → Ways
choice_ways c a b = record {
  next = more c (greater a.next b.next);
  breaks = more c (greater a.breaks b.breaks);
  continues = more c (greater a.continues b.continues);
  returns = more c (greater a.returns b.returns);
}

abbrev pub step_cost : Option ℕ → ℕ
step_cost None = 0
step_cost (Some s) = s

-- the way through a loop's body that leads back to its condition
abbrev pub way_back : Ways → Option ℕ
way_back a = greater a.next a.continues

-- what a dearest full turn costs, or 0 where no full turn exists: c is the cost of the condition and the step
abbrev pub turn_cost : ℕ → Option ℕ → ℕ
turn_cost c None = 0
turn_cost c (Some d) = c + d

abbrev pub full_turn_cost : ℕ → Option ℕ → Ways → ℕ
full_turn_cost c s a = turn_cost (c + step_cost s) (way_back a)

-- where each turn costs y: all turns and out by the condition, or all but one and out of the body
abbrev pub while_ways : ℕ → ℕ → ℕ → Ways → Ways
while_ways c m y a = record {
  next = greater (Some ((m + 1) * y + c)) (more (m * y + c) a.breaks);
  breaks = None;
  continues = None;
  returns = more (m * y + c) a.returns;
}

-- the same, where the body comes first and may be entered once less by the condition
abbrev pub do_ways : ℕ → ℕ → ℕ → Ways → Ways
do_ways c m y a = record {
  next = greater (more (m * y + c) (way_back a)) (more (m * y) a.breaks);
  breaks = None;
  continues = None;
  returns = more (m * y) a.returns;
}

-- a callee's body: all ways out lead to the landing
abbrev pub body_ways : Ways → Ways
body_ways a = only_next (greater (greater a.next a.breaks) (greater a.continues a.returns))

-- the cost of the dearest way through a part, for each of the four ways out
abbrev pub dearest_ways : Part → Ways
dearest_ways Nothing = only_next (Some 0)
dearest_ways (Block c l) = block_ways c l
dearest_ways (Then a b) = then_ways (dearest_ways a) (dearest_ways b)
dearest_ways (Choice c a b) = choice_ways c (dearest_ways a) (dearest_ways b)
dearest_ways (While c m s a) = while_ways c m (full_turn_cost c s (dearest_ways a)) (dearest_ways a)
dearest_ways (Do c m a) = do_ways c m (full_turn_cost c None (dearest_ways a)) (dearest_ways a)
dearest_ways (Body a) = body_ways (dearest_ways a)

-- ---- dearest costs to the end

-- where a node leads, or what is ahead of it
abbrev pub ahead : Targets → Leaving → ℕ
ahead k ByEnd = k.next
ahead k ByBreak = k.breaks
ahead k ByContinue = k.continues
ahead k ByReturn = k.returns

-- from a loop's condition on, where y is taken off for the turn, and w is the cost from the body's first node on
abbrev pub from_condition : ℕ → ℕ → ℕ → ℕ → ℕ
from_condition c y w next = c + max next (w - y)

-- the same, for a body that costs `entry` from its first node on
abbrev pub at_condition : ℕ → Option ℕ → Ways → (Targets → ℕ) → Targets → ℕ
at_condition c s a entry t = from_condition c (full_turn_cost c s a) (entry (body_of t (step_cost s + (c + t.next))))
    t.next

-- what a part costs at most from its first node on, where what is ahead costs t; an entry of a loop pays all its turns
-- ahead, and each turn is taken off
abbrev pub from_entry : Part → Targets → ℕ
from_entry Nothing t = t.next
from_entry (Block c l) t = c + ahead t l
from_entry (Then a b) t = from_entry a (with_next t (from_entry b t))
from_entry (Choice c a b) t = c + max (from_entry a t) (from_entry b t)
from_entry (While c m s a) t = (m + 1) * full_turn_cost c s (dearest_ways a) + at_condition c s (dearest_ways a)
    (from_entry a) t
from_entry (Do c m a) t = m * full_turn_cost c None (dearest_ways a)
    + from_entry a (body_of t (at_condition c None (dearest_ways a) (from_entry a) t))
from_entry (Body a) t = from_entry a (all_to t.next)

-- ---- nodes, by their numbers

abbrev pub step_size : Option ℕ → ℕ
step_size None = 0
step_size (Some s) = 1

-- how many nodes
abbrev pub part_size : Part → ℕ
part_size Nothing = 0
part_size (Block c l) = 1
part_size (Then a b) = part_size a + part_size b
part_size (Choice c a b) = 1 + (part_size a + part_size b)
part_size (While c m s a) = 1 + (step_size s + part_size a)
part_size (Do c m a) = part_size a + 1
part_size (Body a) = part_size a

abbrev pub step_costs : Option ℕ → List ℕ
step_costs None = []
step_costs (Some s) = s ∷ []

-- the cost of each node
abbrev pub node_costs : Part → List ℕ
node_costs Nothing = []
node_costs (Block c l) = c ∷ []
node_costs (Then a b) = node_costs a ++ node_costs b
node_costs (Choice c a b) = c ∷ (node_costs a ++ node_costs b)
node_costs (While c m s a) = c ∷ (step_costs s ++ node_costs a)
node_costs (Do c m a) = node_costs a ++ (c ∷ [])
node_costs (Body a) = node_costs a

abbrev pub step_potentials : Option ℕ → ℕ → List ℕ
step_potentials None q = []
step_potentials (Some s) q = (s + q) ∷ []

-- the dearest cost from each node on to the end, where what is ahead costs t
abbrev pub potentials : Part → Targets → List ℕ
potentials Nothing t = []
potentials (Block c l) t = (c + ahead t l) ∷ []
potentials (Then a b) t = potentials a (with_next t (from_entry b t)) ++ potentials b t
potentials (Choice c a b) t = (c + max (from_entry a t) (from_entry b t)) ∷ (potentials a t ++ potentials b t)
potentials (While c m s a) t =
    let q = at_condition c s (dearest_ways a) (from_entry a) t in
    q ∷ (step_potentials s q ++ potentials a (body_of t (step_cost s + q)))
potentials (Do c m a) t =
    let q = at_condition c None (dearest_ways a) (from_entry a) t in
    potentials a (body_of t q) ++ (q ∷ [])
potentials (Body a) t = potentials a (all_to t.next)

-- ---- edges and loops

abbrev pub step_edges : Option ℕ → ℕ → List Edge
step_edges None n = []
step_edges (Some s) n = leaves (n + 1) Next n ∷ []

-- the edges of a part whose first node is n and whose ends lead to k, by their sources
abbrev pub part_edges : Part → ℕ → Targets → List Edge
part_edges Nothing n k = []
part_edges (Block c l) n k = leaves n Next (ahead k l) ∷ []
part_edges (Then a b) n k =
    part_edges a n (with_next k (head (part_size b) (n + part_size a) k.next)) ++ part_edges b (n + part_size a) k
part_edges (Choice c a b) n k =
    leaves n True (head (part_size a) (n + 1) k.next)
    ∷ (leaves n False (head (part_size b) (n + 1 + part_size a) k.next)
    ∷ (part_edges a (n + 1) k ++ part_edges b (n + 1 + part_size a) k))
part_edges (While c m s a) n k =
    let again = head (step_size s) (n + 1) n in
    leaves n True (head (part_size a) (n + 1 + step_size s) again)
    ∷ (leaves n False k.next ∷ (step_edges s n ++ part_edges a (n + 1 + step_size s) (body_of k again)))
part_edges (Do c m a) n k =
    part_edges a n (body_of k (n + part_size a))
    ++ (leaves (n + part_size a) True (head (part_size a) n (n + part_size a))
    ∷ (leaves (n + part_size a) False k.next ∷ []))
part_edges (Body a) n k = part_edges a n (all_to k.next)

-- a loop and what each turn of it costs
pub record CostedLoop : Type 0 where
  pub loop_copy : LoopCopy
  pub turn : ℕ

abbrev pub costed_loop : LoopCopy → ℕ → CostedLoop
costed_loop l y = record { loop_copy = l; turn = y }

abbrev pub while_copy : Part → ℕ → ℕ → Option ℕ → LoopCopy
while_copy a n m s = loop_at n (n + 1 + step_size s + part_size a) n (m + 1) false

abbrev pub do_copy : Part → ℕ → ℕ → LoopCopy
do_copy a n m = loop_at n (n + part_size a + 1) (n + part_size a) (m + 1) true

-- the loops of a part, by their conditions' nodes
abbrev pub costed_loops : Part → ℕ → List CostedLoop
costed_loops Nothing n = []
costed_loops (Block c l) n = []
costed_loops (Then a b) n = costed_loops a n ++ costed_loops b (n + part_size a)
costed_loops (Choice c a b) n = costed_loops a (n + 1) ++ costed_loops b (n + 1 + part_size a)
costed_loops (While c m s a) n = costed_loop (while_copy a n m s) (full_turn_cost c s (dearest_ways a))
    ∷ costed_loops a (n + 1 + step_size s)
costed_loops (Do c m a) n = costed_loops a n ++ (costed_loop (do_copy a n m) (full_turn_cost c None (dearest_ways a))
    ∷ [])
costed_loops (Body a) n = costed_loops a n

-- how often the condition of a loop may hold after each entry
abbrev pub turn_limit : LoopCopy → ℕ
turn_limit l = if l.at_end then l.bound - 1 else l.bound

abbrev pub is_true_way : Way → Bool
is_true_way True = true
is_true_way False = false
is_true_way Next = false

-- the edge turns the loop
abbrev pub turns : LoopCopy → Edge → Bool
turns l e = is_true_way e.way && e.from == l.test

-- what an edge pays ahead for the loops that it enters
abbrev pub entry_charge : List CostedLoop → Edge → ℕ
entry_charge [] e = 0
entry_charge (f ∷ fs) e = (if enters f.loop_copy e then turn_limit f.loop_copy * f.turn else 0) + entry_charge fs e

-- what is taken off where it turns a loop
abbrev pub turn_refund : List CostedLoop → Edge → ℕ
turn_refund [] e = 0
turn_refund (f ∷ fs) e = (if turns f.loop_copy e then f.turn else 0) + turn_refund fs e

-- the potential of the edge's source covers its cost and the potential of its target, over these loops
abbrev pub Covers : (ℕ → ℕ) → (ℕ → ℕ) → List CostedLoop → Edge → Type 0
Covers cost potential fs e = cost e.from + potential e.to + entry_charge fs e ≤ potential e.from + turn_refund fs e
