-- Layouts: what each local and global is, a scalar or an array of a type, and the stores that have a layout.
use Rattle.std.specs.Prelude.{
  ◌≡◌,
  ℕ,
  Bool,
  false,
  IsTrue,
  List,
  [],
  ◌∷◌,
  length,
  slice_get,
  Option,
  Some,
  None,
  is_some,
  is_none,
}
use Rattle.c_tree.specs.declared.tree.Ty.{Ty}
use Rattle.c_tree.specs.declared.tree.Var.{Var}
use Rattle.c_tree.specs.declared.tree.Var.TheVariants.{Local, Global}
use Rattle.c_tree.specs.declared.program.Local.{Local as Declared}
use Rattle.c_tree.specs.declared.program.Global.{Global as Outside}
use Rattle.c_tree.specs.declared.value.Value.{Value}
use Rattle.c_tree.specs.declared.value.Slot.{Slot}
use Rattle.c_tree.specs.declared.value.Slot.TheVariants.{Unset, Number, Numbers}
use Rattle.c_tree.specs.declared.value.Store.{Store}
use Rattle.c_tree.specs.Meaning.Values.{ty_of, is_value}

-- ---- layouts

-- what a variable is: of a type, and an array where it has a length
pub record Shape : Type 0 where
  pub ty : Ty
  pub length : Option ℕ

pub record Layout : Type 0 where
  pub locals : List Shape
  pub globals : List Shape

abbrev pub shape_of : Ty → Option ℕ → Shape
shape_of t n = record { ty = t; length = n }

abbrev pub local_shapes : List Declared → List Shape
local_shapes [] = []
local_shapes (l ∷ ls) = shape_of l.ty l.length ∷ local_shapes ls

abbrev pub global_shapes : List Outside → List Shape
global_shapes [] = []
global_shapes (g ∷ gs) = shape_of g.ty g.length ∷ global_shapes gs

-- what a variable is, if it is there
abbrev pub shape : Layout → Var → Option Shape
shape l (Local n) = slice_get l.locals n
shape l (Global n) = slice_get l.globals n

abbrev pub is_scalar : Option Shape → Bool
is_scalar None = false
is_scalar (Some x) = is_none x.length

abbrev pub is_array : Option Shape → Bool
is_array None = false
is_array (Some x) = is_some x.length

-- ---- stores of a layout

-- a number of this type, in its range
pub record IsValueOf (t : Ty) (v : Value) : Type 0 where
  pub same_type : ty_of v ≡ t
  pub in_range : IsTrue (is_value v)

abbrev pub AreValuesOf : Ty → List Value → Type 0
AreValuesOf t [] = Unit {0}
AreValuesOf t (v ∷ vs) = IsValueOf t v × AreValuesOf t vs

-- a scalar is unset or has a number of its type; an array has as many numbers of its type as it is long
abbrev pub IsSlotOf : Ty → Option ℕ → Slot → Type 0
IsSlotOf t None (Unset u) = u ≡ t
IsSlotOf t None (Number v) = IsValueOf t v
IsSlotOf t None (Numbers u vs) = ⊥
IsSlotOf t (Some n) (Unset u) = ⊥
IsSlotOf t (Some n) (Number v) = ⊥
IsSlotOf t (Some n) (Numbers u vs) = (u ≡ t) × ((length vs ≡ n) × AreValuesOf t vs)

-- the same, but an array may be unset, as in its own initialiser
abbrev pub IsReadSlotOf : Ty → Option ℕ → Slot → Type 0
IsReadSlotOf t o (Unset u) = u ≡ t
IsReadSlotOf t None (Number v) = IsValueOf t v
IsReadSlotOf t None (Numbers u vs) = ⊥
IsReadSlotOf t (Some n) (Number v) = ⊥
IsReadSlotOf t (Some n) (Numbers u vs) = (u ≡ t) × AreValuesOf t vs

-- a slot for each shape
abbrev pub EachSlot : (Ty → Option ℕ → Slot → Type 0) → List Shape → List Slot → Type 0
EachSlot R [] [] = Unit {0}
EachSlot R [] (y ∷ ys) = ⊥
EachSlot R (x ∷ xs) [] = ⊥
EachSlot R (x ∷ xs) (y ∷ ys) = R x.ty x.length y × EachSlot R xs ys

-- the store before and after each statement
pub record HasLayout (l : Layout) (s : Store) : Type 0 where
  pub locals_of : EachSlot IsSlotOf l.locals s.locals
  pub globals_of : EachSlot IsSlotOf l.globals s.globals

-- the store in which an expression is evaluated
pub record HasReadLayout (l : Layout) (s : Store) : Type 0 where
  pub locals_of : EachSlot IsReadSlotOf l.locals s.locals
  pub globals_of : EachSlot IsReadSlotOf l.globals s.globals
