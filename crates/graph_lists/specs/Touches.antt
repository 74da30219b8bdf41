-- The loops that each edge enters or turns, and what a list does to a counter for each loop. This project's own.
use Rattle.std.specs.Prelude.{
  ℕ,
  zero,
  suc,
  ◌+◌,
  ◌==◌,
  nat_lt,
  Bool,
  true,
  false,
  if◌then◌else◌,
  List,
  [],
  ◌∷◌,
  Option,
  Some,
  None,
  slice_get,
  slice_index_or,
}
use Rattle.std.specs.List.{list_all}
use Rattle.flow_laws.specs.declared.graph.Edge.{Edge}
use Rattle.flow_laws.specs.declared.graph.Loop.{Loop}
use Rattle.flow_laws.specs.Paths.{is_in_list, most_turns}
use Rattle.graph_lists.specs.declared.touch.Touch.{Touch}
use Rattle.graph_lists.specs.declared.touch.Touch.TheVariants.{Enters, Turns}

-- ---- the table

-- what the edge number j does to the loop of the number k
abbrev pub touch_of : ℕ → Loop → ℕ → Option Touch
touch_of k l j =
    if is_in_list j l.into then Some (Enters k (most_turns l)) else (if j == l.turn then Some (Turns k) else None)

abbrev pub with_touch : Option Touch → List Touch → List Touch
with_touch None ts = ts
with_touch (Some t) ts = t ∷ ts

-- what it does to each loop, of which the first has the number k
abbrev pub touches_of : ℕ → List Loop → ℕ → List Touch
touches_of k [] j = []
touches_of k (l ∷ ls) j = with_touch (touch_of k l j) (touches_of (k + 1) ls j)

-- the same of each edge, of which the first has the number j
abbrev pub all_touches : List Loop → ℕ → List Edge → List (List Touch)
all_touches ls j [] = []
all_touches ls j (e ∷ es) = touches_of 0 ls j ∷ all_touches ls (j + 1) es

-- the loop's number is one of a plan's
abbrev pub is_low : Touch → Bool
is_low (Enters k n) = nat_lt k 1024
is_low (Turns k) = nat_lt k 1024

abbrev pub are_low : List Touch → Bool
are_low ts = list_all is_low ts

-- ---- the turns that are left of each loop

-- by the loop's number
abbrev pub Counters : Type 0
Counters = ℕ → Option ℕ

abbrev pub none_entered : Counters
none_entered k = None

abbrev pub counters : List (Option ℕ) → Counters
counters left k = slice_index_or left k None

abbrev pub with_turns_left : Counters → ℕ → Option ℕ → Counters
with_turns_left left k n j = if j == k then n else left j

-- of a loop that was not entered a turn says nothing
abbrev pub on_turn : Option ℕ → Bool → (ℕ → Bool) → Bool
on_turn None same fewer = same
on_turn (Some zero) same fewer = false
on_turn (Some (suc n)) same fewer = fewer n

abbrev pub is_kept_at : Touch → Counters → (Counters → Bool) → Bool
is_kept_at (Enters k n) left go = go (with_turns_left left k (Some n))
is_kept_at (Turns k) left go = on_turn (left k) (go left) (λ n. go (with_turns_left left k (Some n)))

abbrev pub is_kept_over : List Touch → Counters → (Counters → Bool) → Bool
is_kept_over [] left go = go left
is_kept_over (t ∷ ts) left go = is_kept_at t left (λ m. is_kept_over ts m go)

abbrev pub is_kept_by_row : Option (List Touch) → Counters → (Counters → Bool) → Bool
is_kept_by_row None left go = false
is_kept_by_row (Some ts) left go = is_kept_over ts left go

-- whether the list names only edges of the table, and no loop turns when no turn is left of it
abbrev pub is_kept_by : List (List Touch) → Counters → List ℕ → Bool
is_kept_by table left [] = true
is_kept_by table left (j ∷ q) = is_kept_by_row (slice_get table j) left (λ m. is_kept_by table m q)
