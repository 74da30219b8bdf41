-- Driving with a counter for each loop: one state, one edge, one next state.
use Rattle.std.specs.Prelude.{◌≡◌, ℕ, zero, suc, ◌+◌, ◌-◌, ◌==◌, ◌&&◌, Bool, true, false, if◌then◌else◌, List, [], ◌∷◌, ◌++◌, slice_get, Option, Some, None, option_map}
use Rattle.c_tree.specs.declared.program.BlockName.{BlockName}
use Rattle.c_tree.specs.declared.program.Program.{Program}
use Rattle.c_tree.specs.declared.program.Input.{Input}
use Rattle.flow_laws.specs.declared.graph.Way.{Way}
use Rattle.flow_laws.specs.declared.graph.Way.TheVariants.{Next, True, False}
use Rattle.flow_laws.specs.declared.graph.Edge.{Edge}
use Rattle.flow_laws.specs.Sites.{LoopCopy, Content, Test, Site}
use Rattle.flow_laws.specs.Graphs.{leaves, enters}
use Rattle.flow_laws.specs.Driving.{Memory, Move, Stuck, Stays, Goes, content_move, start_memory}

-- the turns that are left to each loop, none where it was not entered
abbrev pub Counters : Type 0
Counters = LoopCopy → Option ℕ

-- before the node is done
pub record State : Type 0 where
  pub node : ℕ
  pub memory : Memory
  pub left : Counters

abbrev pub at : ℕ → Memory → Counters → State
at n m l = record { node = n; memory = m; left = l }

abbrev pub limit : LoopCopy → ℕ
limit l = if l.at_end then l.bound - 1 else l.bound

abbrev pub is_true_end : Way → Bool
is_true_end Next = false
is_true_end True = true
is_true_end False = false

abbrev pub turns : LoopCopy → Edge → Bool
turns l e = e.from == l.test && is_true_end e.way

abbrev pub passed : Edge → Counters → Counters
passed e left l =
    if enters l e then Some (limit l) else (if turns l e then option_map (λ n. n - 1) (left l) else left l)

abbrev pub is_zero : Option ℕ → Bool
is_zero None = false
is_zero (Some zero) = true
is_zero (Some (suc n)) = false

-- the loop's bound is used up
abbrev pub is_over : Content → Way → Counters → Bool
is_over (Test (Some l) e) True left = is_zero (left l)
is_over _ _ left = false

-- ---- one edge

pub data Status : Type 0 where
  Nowhere : Status
  Arrived : Status
  Undefined_ : Status
  Broken : Status
  Going : (edge : Edge) (next : State) → Status

abbrev pub target : Site → Way → ℕ
target s Next = s.yes
target s True = s.yes
target s False = s.no

abbrev pub along : Site → Way → Memory → State → Status
along s t m a =
    let e : Edge = leaves a.node t (target s t) in
    if is_over s.content t a.left then Broken else Going e (at e.to m (passed e a.left))

abbrev pub moved : Site → State → Move → Status
moved s a Stuck = Undefined_
moved s a Stays = Arrived
moved s a (Goes t m) = along s t m a

abbrev pub status_at : Option Site → State → Status
status_at None a = Nowhere
status_at (Some s) a = moved s a (content_move s.content a.memory)

unfoldable pub status : List Site → State → Status
status g a = status_at (slice_get g a.node) a

-- from a the edges lead to b
abbrev pub Driven : List Site → List Edge → State → State → Type 0
Driven g [] a b = a ≡ b
Driven g (e ∷ q) a b = (m : State) × (status g a ≡ Going e m) × Driven g q m b

abbrev pub listed : Option BlockName → List BlockName
listed None = []
listed (Some b) = b ∷ []

abbrev pub blocks_at : Option Site → List BlockName
blocks_at None = []
blocks_at (Some s) = listed s.node.block

-- the blocks of the edges' sources
abbrev pub trace_of : List Site → List Edge → List BlockName
trace_of g [] = []
trace_of g (e ∷ q) = blocks_at (slice_get g e.from) ++ trace_of g q

unfoldable pub hit : ℕ → ℕ → ℕ
hit x n = if x == n then 1 else 0

-- how often edges leave the node x
abbrev pub visits : ℕ → List Edge → ℕ
visits x [] = 0
visits x (e ∷ q) = hit x e.from + visits x q

-- before Entry no loop was entered
abbrev pub first_state : Program → Input → State
first_state p i = at 0 (start_memory p i) (λ l. None)

-- the edges lead into Exit
pub record DrivenPath (g : List Site) (a : State) (q : List Edge) : Type 0 where
  pub last : State
  pub driven : Driven g q a last
  pub at_exit : last.node ≡ 1
