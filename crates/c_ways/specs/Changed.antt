-- A store that a statement leaves, where the statement is defined.
use Rattle.std.specs.Prelude.{ℕ, Bool, true, false, if◌then◌else◌, nat_lt, List, length, slice_set, Option, Some, None}
use Rattle.c_tree.specs.declared.value.Value.{Value}
use Rattle.c_tree.specs.declared.value.Slot.{Slot}
use Rattle.c_tree.specs.declared.value.Slot.TheVariants.{Numbers}
use Rattle.c_tree.specs.declared.value.Store.{Store}
use Rattle.c_tree.specs.Meaning.Values.{convert}

abbrev pub store_if_changed : Bool → Store → Option Store
store_if_changed true s = Some s
store_if_changed false s = None

abbrev pub changed_list : Bool → List Slot → Option (List Slot)
changed_list true xs = Some xs
changed_list false xs = None

-- the slots with an element of the array `o`, which is the slot n, changed
abbrev pub with_element : List Slot → ℕ → Option Slot → ℕ → Value → Option (List Slot)
with_element xs n (Some (Numbers t vs)) at v =
    if nat_lt at (length vs) then Some (slice_set xs n (Numbers t (slice_set vs at (convert t v)))) else None
with_element xs n _ at v = None
