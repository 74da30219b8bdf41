-- Stores: what each local and each global has, which is no value yet, a number, or the numbers of an array. A slot
-- keeps its type.
use Rattle.std.specs.Prelude.{
  ℕ,
  ◌-◌,
  List,
  ◌++◌,
  length,
  replicate,
  slice_get,
  slice_set,
  nat_lt,
  if◌then◌else◌,
  Option,
  Some,
  None,
  pos,
  negsuc,
}
use Rattle.c_tree.specs.declared.tree.Ty.{Ty}
use Rattle.c_tree.specs.declared.tree.Ty.TheVariants as ty
use Rattle.c_tree.specs.declared.tree.Var.{Var}
use Rattle.c_tree.specs.declared.tree.Var.TheVariants.{Local, Global}
use Rattle.c_tree.specs.declared.value.Value.{Value}
use Rattle.c_tree.specs.declared.value.Value.TheVariants.{Int, Unsigned}
use Rattle.c_tree.specs.declared.value.Slot.{Slot}
use Rattle.c_tree.specs.declared.value.Slot.TheVariants.{Unset, Number, Numbers}
use Rattle.c_tree.specs.declared.value.Store.{Store}
use Rattle.c_tree.specs.Meaning.Values.{ty_of, convert, converted_values, zero_of}

-- ---- reading

abbrev pub slot : Store → Var → Option Slot
slot s (Local n) = slice_get s.locals n
slot s (Global n) = slice_get s.globals n

abbrev pub slot_ty : Option Slot → Ty
slot_ty None = ty.Int
slot_ty (Some (Unset t)) = t
slot_ty (Some (Number v)) = ty_of v
slot_ty (Some (Numbers t vs)) = t

-- the number of a scalar, undefined where it is unset
abbrev pub number_in : Option Slot → Option Value
number_in (Some (Number v)) = Some v
number_in _ = None

-- an element of an array, undefined outside it and where it is unset
abbrev pub number_at : Option Slot → ℕ → Option Value
number_at (Some (Numbers t vs)) n = slice_get vs n
number_at _ n = None

abbrev pub slot_length : Option Slot → ℕ
slot_length (Some (Numbers t vs)) = length vs
slot_length _ = 0

-- an index, which is no negative number (6.5.2.1, 6.5.6 paragraph 8)
abbrev pub index : Value → Option ℕ
index (Int (pos n)) = Some n
index (Int (negsuc n)) = None
index (Unsigned n) = Some n

-- ---- writing

abbrev pub with_locals : Store → List Slot → Store
with_locals s ls = record { locals = ls; globals = s.globals }

abbrev pub with_globals : Store → List Slot → Store
with_globals s gs = record { locals = s.locals; globals = gs }

abbrev pub with_slot : Store → Var → Slot → Store
with_slot s (Local n) x = with_locals s (slice_set s.locals n x)
with_slot s (Global n) x = with_globals s (slice_set s.globals n x)

-- a declaration that is reached: its local has no value (6.2.4 paragraph 6)
abbrev pub unset_local : ℕ → Store → Store
unset_local l s = with_slot s (Local l) (Unset (slot_ty (slice_get s.locals l)))

-- assignment to a scalar converts to its type (6.5.16.1)
abbrev pub put_number : Store → Var → Value → Store
put_number s x v = with_slot s x (Number (convert (slot_ty (slot s x)) v))

-- assignment to an element, undefined outside the array
abbrev pub put_at : Store → Var → Option Slot → ℕ → Value → Option Store
put_at s x (Some (Numbers t vs)) n v =
    if nat_lt n (length vs) then Some (with_slot s x (Numbers t (slice_set vs n (convert t v)))) else None
put_at s x _ n v = None

-- a list of n numbers of a type: the values converted, and 0 after them (6.7.9 paragraphs 19 and 21)
abbrev pub padded_list : Ty → ℕ → List Value → List Value
padded_list t n vs = converted_values t vs ++ replicate (n - length vs) (zero_of t)

-- a local array, of the type and length that its slot had
abbrev pub put_list : Store → ℕ → Option Slot → List Value → Store
put_list s l o vs = with_slot s (Local l) (Numbers (slot_ty o) (padded_list (slot_ty o) (slot_length o) vs))
