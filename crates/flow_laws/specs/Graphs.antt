-- The graph of a program: its nodes, its edges and its loop copies, by their numbers. This project's own.
use Rattle.std.specs.Prelude.{
  ℕ,
  ◌+◌,
  ◌==◌,
  ◌&&◌,
  not,
  nat_lt,
  nat_le,
  Bool,
  false,
  if◌then◌else◌,
  List,
  [],
  ◌∷◌,
  ◌++◌,
  length,
  map,
  take,
  slice_get,
  Option,
  Some,
  None,
}
use Rattle.c_tree.specs.declared.program.Func.{Func}
use Rattle.c_tree.specs.declared.program.Program.{Program}
use Rattle.flow_laws.specs.declared.graph.Way.{Way}
use Rattle.flow_laws.specs.declared.graph.Way.TheVariants.{Next, True, False}
use Rattle.flow_laws.specs.declared.graph.Edge.{Edge}
use Rattle.flow_laws.specs.declared.graph.Node.{Node}
use Rattle.flow_laws.specs.declared.graph.Loop.{Loop}
use Rattle.flow_laws.specs.Sites.{
  LoopCopy,
  Content,
  Entry,
  Exit,
  Test,
  Missing,
  Site,
  Position,
  Copy,
  Targets,
  one_end_site,
  head,
  list_size,
  list_flow,
}

-- ---- sites

-- all ways lead to one node
abbrev pub all_to : ℕ → Targets
all_to n = record { next = n; breaks = n; continues = n; returns = n }

-- the function number k over those above it
abbrev pub copy_of : ℕ → Func → List Copy → Copy
copy_of k f cs =
    record {
      locals = f.locals;
      result = f.result;
      size = list_size cs f.body false;
      sites = λ chain scale n landing.
          list_flow cs (record { func = k; chain = chain; scale = scale }) f.body 0 n [] (all_to landing);
    }

-- each function, over those above it
abbrev pub copies : List Copy → List Func → List Copy
copies cs [] = cs
copies cs (f ∷ fs) = copies (cs ++ copy_of (length cs) f cs ∷ []) fs

-- where Entry and Exit stand: in no call, and reached once. (They have no block, so the function is of no account)
abbrev pub outermost : Position
outermost = record { func = 0; chain = []; scale = 1 }

-- Entry 0, Exit 1, and the entry function's nodes
abbrev pub sites_of : Option Copy → List Site
sites_of None = one_end_site outermost Missing None 1 ∷ []
sites_of (Some c) = one_end_site outermost Entry None (head c.size 2 1) ∷ (one_end_site outermost Exit None 1
    ∷ c.sites [] 1 2 1)

unfoldable pub graph : Program → List Site
graph p = sites_of (slice_get (copies [] p.funcs) p.entry)

-- ---- nodes

abbrev pub nodes : List Site → List Node
nodes g = map (λ s. s.node) g

-- ---- edges

abbrev pub leaves : ℕ → Way → ℕ → Edge
leaves n t m = record { from = n; to = m; way = t }

-- a node's edges, `True` before `False`; Exit has none
abbrev pub outs : ℕ → Site → Content → List Edge
outs n s Exit = []
outs n s (Test l e) = leaves n True s.yes ∷ (leaves n False s.no ∷ [])
outs n s _ = leaves n Next s.yes ∷ []

abbrev pub edges_from : ℕ → List Site → List Edge
edges_from n [] = []
edges_from n (s ∷ g) = outs n s s.content ++ edges_from (n + 1) g

-- by their sources
unfoldable pub edges : List Site → List Edge
edges g = edges_from 0 g

-- the number of the first edge that leaves the node n: as many have a lower number as leave nodes before it
abbrev pub first_out : List Site → ℕ → ℕ
first_out g n = length (edges (take n g))

-- ---- loop copies

abbrev pub is_in : ℕ → ℕ → ℕ → Bool
is_in from past n = nat_le from n && nat_lt n past

-- the edge leads into the loop from outside
abbrev pub enters : LoopCopy → Edge → Bool
enters l e = e.to == l.from && not (is_in l.from l.past e.from)

abbrev pub loops_at : Content → List LoopCopy
loops_at (Test (Some l) e) = l ∷ []
loops_at _ = []

-- by their conditions' nodes
abbrev pub loop_copies : List Site → List LoopCopy
loop_copies [] = []
loop_copies (s ∷ g) = loops_at s.content ++ loop_copies g

-- the numbers, from i on, of the edges with a property
abbrev pub positions : ℕ → (Edge → Bool) → List Edge → List ℕ
positions i p [] = []
positions i p (e ∷ q) = if p e then i ∷ positions (i + 1) p q else positions (i + 1) p q

-- `into` are the edges that lead into the loop from outside, `turn` is the `True` of its condition, which has that
-- node's first number
abbrev pub loop_of : List Site → LoopCopy → Loop
loop_of g l =
    record { bound = l.bound; into = positions 0 (enters l) (edges g); turn = first_out g l.test; at_end = l.at_end }

abbrev pub loops : List Site → List Loop
loops g = map (loop_of g) (loop_copies g)
