-- The turns that are left of each loop, as they are counted edge by edge. This project's own.
use Rattle.std.specs.Prelude.{
  ◌≡◌,
  ℕ,
  nat_lt,
  Bool,
  true,
  List,
  [],
  ◌∷◌,
  length,
  Option,
  Some,
  None,
  slice_get,
  slice_set,
  slice_index_or,
}
use Rattle.flow_laws.specs.declared.graph.Loop.{Loop}
use Rattle.flow_laws.specs.Paths.{allows, turns_left, turns_left_on, one_less, has_turn}
use Rattle.graph_lists.specs.declared.touch.Touch.{Touch}
use Rattle.graph_lists.specs.declared.touch.Touch.TheVariants.{Enters, Turns}

-- the counter of the loop number k
abbrev pub left_of : List (Option ℕ) → ℕ → Option ℕ
left_of left k = slice_index_or left k None

-- ---- by what an edge does to loops

-- the loop's number is below n
abbrev pub is_below : ℕ → Touch → Bool
is_below n (Enters k m) = nat_lt k n
is_below n (Turns k) = nat_lt k n

-- with these counters it keeps the loop's bound
abbrev pub may_touch : List (Option ℕ) → Touch → Bool
may_touch left (Enters k n) = true
may_touch left (Turns k) = has_turn (left_of left k)

-- the counters behind it
abbrev pub after_touch : List (Option ℕ) → Touch → List (Option ℕ)
after_touch left (Enters k n) = slice_set left k (Some n)
after_touch left (Turns k) = slice_set left k (one_less (left_of left k))

abbrev pub after_touches : List (Option ℕ) → List Touch → List (Option ℕ)
after_touches left [] = left
after_touches left (t ∷ ts) = after_touches (after_touch left t) ts

-- ---- by the definition of the turns that are left

-- the edge keeps the bound of each loop
abbrev pub MayTurn : List Loop → List (Option ℕ) → ℕ → Type 0
MayTurn ls left e = (k : ℕ) (l : Loop) → slice_get ls k ≡ Some l → allows l e (left_of left k) ≡ true

-- the new counters are those behind one edge more
pub record AreOn (ls : List Loop) (e : ℕ) (old new : List (Option ℕ)) : Type 0 where
  pub each : (k : ℕ) (l : Loop) → slice_get ls k ≡ Some l → left_of new k ≡ turns_left_on l e (left_of old k)
  pub as_many : length new ≡ length old

-- these are the counters behind the list
pub record AreAfter (ls : List Loop) (q : List ℕ) (left : List (Option ℕ)) : Type 0 where
  pub each : (k : ℕ) (l : Loop) → slice_get ls k ≡ Some l → left_of left k ≡ turns_left l q
  pub as_many : length left ≡ length ls
