-- Driving: which lists of edges an input takes from Entry on. The statements of each source are defined, the guard of
-- each edge holds, and each loop keeps its bound (statements as in C11 6.8; the bounds are this project's own).
use Rattle.std.specs.Prelude.{
  ◌≡◌,
  ℕ,
  ◌==◌,
  ◌&&◌,
  Bool,
  true,
  false,
  is_some,
  if◌then◌else◌,
  List,
  [],
  ◌∷◌,
  length,
  drop,
  slice_get,
  Option,
  Some,
  None,
  option_and_then,
  option_map,
}
use Rattle.c_tree.specs.declared.tree.Stmt.{Stmt}
use Rattle.c_tree.specs.declared.tree.Expr.{Expr}
use Rattle.c_tree.specs.declared.tree.Target.{Target}
use Rattle.c_tree.specs.declared.program.Local.{Local}
use Rattle.c_tree.specs.declared.program.Program.{Program}
use Rattle.c_tree.specs.declared.program.Input.{Input}
use Rattle.c_tree.specs.declared.value.Value.{Value}
use Rattle.c_tree.specs.declared.value.Slot.{Slot}
use Rattle.c_tree.specs.declared.value.Store.{Store}
use Rattle.c_tree.specs.Meaning.Values.{is_nonzero}
use Rattle.c_tree.specs.Meaning.Expressions.{val, all_values}
use Rattle.c_tree.specs.Meaning.Statements.{Ends, Undefined, OverBound, simple, give, unset_target}
use Rattle.c_tree.specs.Meaning.Runs.{entry_slots, result_of, entry_types, arguments, global_slots}
use Rattle.flow_laws.specs.declared.graph.Way.{Way}
use Rattle.flow_laws.specs.declared.graph.Way.TheVariants.{Next, True, False}
use Rattle.flow_laws.specs.declared.graph.Edge.{Edge}
use Rattle.flow_laws.specs.Sites.{Content, Entry, Exit, Simple, Test, Jump, Give, Enter, Missing, Land, Site, Copy}
use Rattle.flow_laws.specs.Graphs.{copies, graph, edges, loops}
use Rattle.flow_laws.specs.Paths.{KeepsEach, keeps_each}

-- the store, the locals of the callers, innermost first, and the value that was returned
pub record Memory : Type 0 where
  pub store : Store
  pub frames : List (List Slot)
  pub result : Option Value

abbrev pub memory : Store → List (List Slot) → Option Value → Memory
memory s fs r = record { store = s; frames = fs; result = r }

-- ---- what a node does: it is undefined, it is Exit, or it is left by an end

pub data Move : Type 0 where
  Stuck : Move
  Stays : Move
  Goes : (way : Way) (memory : Memory) → Move

abbrev pub goes_with : Option Memory → Move
goes_with None = Stuck
goes_with (Some m) = Goes Next m

-- the guard of a condition's edge
abbrev pub by_test : Memory → Option Value → Move
by_test m None = Stuck
by_test m (Some v) = Goes (if is_nonzero v then True else False) m

abbrev pub store_after_all : List Stmt → Store → Option Store
store_after_all [] s = Some s
store_after_all (st ∷ rest) s = option_and_then (store_after_all rest) (simple st s)

-- a callee's first store, and the caller's locals put aside. A call that initialises a local unsets it before its
-- arguments are evaluated
abbrev pub entry_move : Target → List Local → List Expr → Memory → Move
entry_move t ls es m =
    let s : Store = unset_target t m.store in
    goes_with (option_map (λ vs. memory (record { locals = entry_slots ls vs; globals = s.globals }) (s.locals
    ∷ m.frames) None) (all_values es s))

-- the result goes to its target in the caller's store
abbrev pub landing_move : Target → Option Value → List Slot → List (List Slot) → List Slot → Move
landing_move t v ls fs gs =
    elim (give t v (record { locals = ls; globals = gs })) as (λ o. Move) [
      | Ends u s w ↦ Goes Next (memory s fs None)
      | Undefined ↦ Stuck
      | OverBound ↦ Stuck
    ]

-- the statements of a node
abbrev pub content_move : Content → Memory → Move
content_move Entry m = Goes Next m
content_move Exit m = Stays
content_move (Simple ss) m = goes_with (option_map (λ s. memory s m.frames m.result) (store_after_all ss m.store))
content_move (Test l e) m = by_test m (val e m.store)
content_move Jump m = Goes Next m
content_move (Give None) m = Goes Next (memory m.store m.frames None)
content_move (Give (Some e)) m = goes_with (option_map (λ v. memory m.store m.frames (Some v)) (val e m.store))
content_move (Enter t ls es) m = entry_move t ls es m
content_move Missing m = Stuck
content_move (Land t ty b) m =
    elim (m.frames) as (λ fs. Move) [
      | [] ↦ Stuck
      | ls ∷ fs ↦ landing_move t (result_of ty m.result) ls fs
          m.store.globals
    ]

-- ---- lists of edges

-- the edge number j leads from the node n, whose statements are defined in this memory, by the end that its guard
-- chooses
pub record Passes (g : List Site) (j n : ℕ) (m : Memory) (n' : ℕ) (m' : Memory) : Type 0 where
  pub edge : Edge
  pub site : Site
  pub is : slice_get (edges g) j ≡ Some edge
  pub from_is : edge.from ≡ n
  pub to_is : edge.to ≡ n'
  pub stands : slice_get g n ≡ Some site
  pub moves : content_move site.content m ≡ Goes edge.way m'

-- one after the other
abbrev pub Walks : List Site → List ℕ → ℕ → Memory → ℕ → Memory → Type 0
Walks g [] n m n' m' = (n ≡ n') × (m ≡ m')
Walks g (j ∷ q) n m n' m' = (x : ℕ) × (y : Memory) × Passes g j n m x y × Walks g q x y n' m'

-- ---- the input in the store

abbrev pub copy_slots : Option Copy → List Value → List Slot
copy_slots None vs = []
copy_slots (Some c) vs = entry_slots c.locals vs

unfoldable pub start_memory : Program → Input → Memory
start_memory p i =
    let ts = entry_types (slice_get p.funcs p.entry) in
    memory (record {
      locals = copy_slots (slice_get (copies [] p.funcs) p.entry) (arguments ts i.values);
      globals =
          global_slots p.globals (drop (length ts) i.values);
    }) [] None

-- the input drives the list, which leads to `node`
pub record Drives (p : Program) (i : Input) (q : List ℕ) : Type 0 where
  pub node : ℕ
  pub memory : Memory
  pub walks : Walks (graph p) q 0 (start_memory p i) node memory
  pub keeps : KeepsEach (loops (graph p)) q

-- ---- the same, computed

-- before the node is done
pub record Place : Type 0 where
  pub node : ℕ
  pub memory : Memory

abbrev pub place_at : ℕ → Memory → Place
place_at n m = record { node = n; memory = m }

abbrev pub is_way : Way → Way → Bool
is_way Next Next = true
is_way True True = true
is_way False False = true
is_way _ _ = false

-- behind the edge, if the node is left by its way
abbrev pub place_behind : Edge → Move → Option Place
place_behind e Stuck = None
place_behind e Stays = None
place_behind e (Goes way m) = if is_way e.way way then Some (place_at e.to m) else None

abbrev pub move_at : Option Site → Memory → Move
move_at None m = Stuck
move_at (Some s) m = content_move s.content m

-- where an edge leads, if it leaves this node, whose statements are defined, by the end that its guard chooses
abbrev pub place_after : List Site → Option Edge → Place → Option Place
place_after g None a = None
place_after g (Some e) a =
    if e.from == a.node then place_behind e (move_at (slice_get g a.node) a.memory) else None

abbrev pub place_along : List Site → List ℕ → Place → Option Place
place_along g [] a = Some a
place_along g (j ∷ q) a = option_and_then (place_along g q) (place_after g (slice_get (edges g) j) a)

-- where the input leads over the list
abbrev pub reached_place : Program → Input → List ℕ → Option Place
reached_place p i q = place_along (graph p) q (place_at 0 (start_memory p i))

abbrev pub drives : Program → Input → List ℕ → Bool
drives p i q = is_some (reached_place p i q) && keeps_each (loops (graph p)) q
