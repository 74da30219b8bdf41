-- The numbers of an input, and the slots that they give.
use Rattle.std.specs.Prelude.{
  ◌≤◌,
  ℕ,
  if◌then◌else◌,
  IsTrue,
  List,
  [],
  ◌∷◌,
  length,
  take,
  Option,
  Some,
  None,
  unwrap_or,
  ℤ,
}
use Rattle.c_tree.specs.declared.tree.Ty.{Ty}
use Rattle.c_tree.specs.declared.program.Global.{Global}
use Rattle.c_tree.specs.declared.value.Slot.{Slot}
use Rattle.c_tree.specs.Meaning.Values.{is_of}
use Rattle.c_tree.specs.Meaning.Runs.{types_of, global_slot}
use Rattle.c_tree.specs.Keeping.WellFormed.{AreNumbersOf}

-- where there is a type and a number, the number is in the type's range
abbrev pub NumberAt : Option Ty → Option ℤ → Type 0
NumberAt (Some t) (Some z) = IsTrue (is_of t z)
NumberAt (Some t) None = Unit {0}
NumberAt None z = Unit {0}

-- how many input numbers an extern variable has
abbrev pub input_width : Global → ℕ
input_width g = unwrap_or g.length 1

-- as many numbers come first, in its type's range
pub record Takes (g : Global) (zs : List ℤ) : Type 0 where
  pub enough : input_width g ≤ length zs
  pub numbers : AreNumbersOf g.ty (take (input_width g) zs)

-- how many of the numbers left a global takes, and its slot
abbrev pub own_width : Global → ℕ
own_width g = if g.outer then input_width g else 0

abbrev pub own_slot : Global → List ℤ → Slot
own_slot g zs = global_slot g.ty g.length (if g.outer then take (input_width g) zs else g.values)

-- the numbers behind those of these types, if the first ones are of them
abbrev pub rest_of : List Ty → List ℤ → Option (List ℤ)
rest_of [] zs = Some zs
rest_of (t ∷ ts) [] = None
rest_of (t ∷ ts) (z ∷ zs) = if is_of t z then rest_of ts zs else None

-- the types of the input numbers of a global
abbrev pub own_types : Global → List Ty
own_types g = if g.outer then types_of g.ty g.length else []
