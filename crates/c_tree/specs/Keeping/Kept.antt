-- What execution keeps: the layout of the store, ways that the place allows, and results of the function's type.
use Rattle.std.specs.Prelude.{◌≡◌, Bool, IsTrue, List, [], ◌∷◌, length, Option, Some, None}
use Rattle.c_tree.specs.declared.tree.Ty.{Ty}
use Rattle.c_tree.specs.declared.program.Func.{Func}
use Rattle.c_tree.specs.declared.value.Value.{Value}
use Rattle.c_tree.specs.declared.value.Slot.{Slot}
use Rattle.c_tree.specs.declared.value.Way.{Way}
use Rattle.c_tree.specs.declared.value.Way.TheVariants as way
use Rattle.c_tree.specs.Meaning.Values.{is_value}
use Rattle.c_tree.specs.Meaning.Statements.{
  Outcome,
  Ends,
  Undefined,
  OverBound,
  Back,
  Gives,
  CallUndefined,
  CallOverBound,
  Callee,
}
use Rattle.c_tree.specs.Keeping.Layouts.{Shape, Layout, IsValueOf, IsSlotOf, EachSlot, HasLayout}

-- ---- statements

-- `break` and `continue` only in a loop, and `return` with a value exactly where the function has a result
abbrev pub IsWayOf : Option Ty → Bool → Way → Type 0
IsWayOf r looped way.Next = Unit {0}
IsWayOf r looped way.Break = IsTrue looped
IsWayOf r looped way.Continue = IsTrue looped
IsWayOf None looped (way.Return None) = Unit {0}
IsWayOf None looped (way.Return (Some v)) = ⊥
IsWayOf (Some t) looped (way.Return None) = ⊥
IsWayOf (Some t) looped (way.Return (Some v)) = IsTrue (is_value v)

-- an outcome in a function of this layout and result, in a loop or not
abbrev pub Keeps : Layout → Option Ty → Bool → Outcome → Type 0
Keeps l r looped (Ends t s w) = HasLayout l s × IsWayOf r looped w
Keeps l r looped Undefined = Unit {0}
Keeps l r looped OverBound = Unit {0}

-- ---- calls

-- numbers in the ranges of their types
abbrev pub AreValues : List Value → Type 0
AreValues [] = Unit {0}
AreValues (v ∷ vs) = IsTrue (is_value v) × AreValues vs

-- no result, or one of the function's type
abbrev pub IsResultOf : Option Ty → Option Value → Type 0
IsResultOf r None = Unit {0}
IsResultOf None (Some v) = ⊥
IsResultOf (Some t) (Some v) = IsValueOf t v

-- what a function of this result comes back with, over globals of these shapes
abbrev pub GivesBack : List Shape → Option Ty → Back → Type 0
GivesBack globals r (Gives t gs v) = EachSlot IsSlotOf globals gs × IsResultOf r v
GivesBack globals r CallUndefined = Unit {0}
GivesBack globals r CallOverBound = Unit {0}

-- with as many values as parameters, the function comes back so
pub record IsCalleeOf (globals : List Shape) (f : Func) (c : Callee) : Type 0 where
  pub comes_back : (vs : List Value) (gs : List Slot) → length vs ≡ f.params → AreValues vs → EachSlot IsSlotOf globals
      gs → GivesBack globals f.result (c vs gs)

-- each function has its callee
abbrev pub AreCalleesOf : List Shape → List Func → List Callee → Type 0
AreCalleesOf globals [] [] = Unit {0}
AreCalleesOf globals [] (c ∷ cs) = ⊥
AreCalleesOf globals (f ∷ fs) [] = ⊥
AreCalleesOf globals (f ∷ fs) (c ∷ cs) = IsCalleeOf globals f c × AreCalleesOf globals fs cs
