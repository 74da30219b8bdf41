-- A well-formed statement finds the variables and the function that it asks for.
use Rattle.std.proofs.Common.{ℕ, Bool, List, length, Option, Some, None, refl}
use Rattle.std.specs.Prelude.{IsTrue, is_some}
use Rattle.c_tree.specs.declared.tree.Var.{Var}
use Rattle.c_tree.specs.declared.tree.Var.TheVariants.{Local}
use Rattle.c_tree.specs.declared.tree.Place.{Place}
use Rattle.c_tree.specs.declared.tree.Place.TheVariants.{Scalar as PlainPlace, Elem as ElemPlace}
use Rattle.c_tree.specs.declared.tree.Target.{Target}
use Rattle.c_tree.specs.declared.tree.Target.TheVariants.{Nothing, Assign as Into, Declare}
use Rattle.c_tree.specs.declared.tree.Stmt.{Stmt}
use Rattle.c_tree.specs.declared.tree.Stmt.TheVariants.{Empty, Scalar, Array, Assign, Call, Break, Continue, Return, If', While', Do', For', Group'}
use Rattle.c_tree.specs.declared.value.Store.{Store}
use Rattle.c_tree.specs.Meaning.Stores.{slot}
use Rattle.c_tree.specs.Meaning.Statements.{Callee, unset_target}
use Rattle.c_tree.specs.Keeping.Layouts.{Shape, Layout, shape, is_scalar, is_array, HasLayout, HasReadLayout}
use Rattle.c_tree.specs.Keeping.WellFormed.{Context, WellFormedPlace, WellFormedTarget, WellFormedStmt, FitsLength, FitsArray}
use Rattle.c_tree.specs.Keeping.Asked.{has_scalar, has_array, FindsPlace, FindsTarget, FindsStmt}
use Rattle.c_tree.specs.Keeping.Kept.{AreCalleesOf}
use Rattle.c_tree.proofs.Keeping.Slots.{read_at, read_layout, unset_reads, scalar_there, array_there}
use Rattle.c_tree.proofs.Keeping.Evaluated.{expr_finds, exprs_find, optional_finds}
use Rattle.c_tree.proofs.Keeping.Called.{callee_there}

scalar_found : (l : Layout) (s : Store) → HasLayout l s → (x : Var) → IsTrue (is_scalar (shape l x)) → IsTrue (has_scalar (slot s x))
scalar_found l s h x is = scalar_there (shape l x) (slot s x) (read_at l s (read_layout l s h) x) is

array_found : (l : Layout) (s : Store) → HasLayout l s → (x : Var) → IsTrue (is_array (shape l x)) → IsTrue (has_array (slot s x))
array_found l s h x is = array_there (shape l x) (slot s x) (read_at l s (read_layout l s h) x) is

length_is : (o : Option ℕ) (n : ℕ) → FitsLength o n → IsTrue (is_some o)
length_is None n fits = absurd fits
length_is (Some m) n fits = refl

fits_array : (o : Option Shape) (n : ℕ) → FitsArray o n → IsTrue (is_array o)
fits_array None n fits = absurd fits
fits_array (Some x) n fits = length_is x.length n fits

place_found : (l : Layout) (s : Store) → HasLayout l s → (p : Place) → WellFormedPlace l p → FindsPlace s p
place_found l s h (PlainPlace x) w = scalar_found l s h x w
place_found l s h (ElemPlace x i) w =
    (array_found l s h x w.0, expr_finds l s (read_layout l s h) i w.1)

target_found : (l : Layout) (s : Store) → HasLayout l s → (t : Target) → WellFormedTarget l t → FindsTarget s t
target_found l s h Nothing w = tt
target_found l s h (Into x) w = scalar_found l s h x w
target_found l s h (Declare n) w = scalar_found l s h (Local n) w

target_reads : (l : Layout) (s : Store) → HasLayout l s → (t : Target) → HasReadLayout l (unset_target t s)
target_reads l s h Nothing = read_layout l s h
target_reads l s h (Into x) = read_layout l s h
target_reads l s h (Declare n) = unset_reads l s n h

pub stmt_finds : (c : Context) (cs : List Callee) → AreCalleesOf c.layout.globals c.above cs → (looped : Bool) (st : Stmt) (s : Store) → WellFormedStmt c looped st → HasLayout c.layout s → FindsStmt cs s st
unfolding WellFormedStmt
stmt_finds c cs are looped Empty s w h = tt
stmt_finds c cs are looped (Scalar l e) s w h =
    (scalar_found c.layout s h (Local l) w.0, optional_finds c.layout _ (unset_reads c.layout s l h) e w.1)
stmt_finds c cs are looped (Array l es) s w h =
    (array_found c.layout s h (Local l) (fits_array (shape c.layout (Local l)) (length es) w.0), exprs_find c.layout _ (unset_reads c.layout s l h) es w.1)
stmt_finds c cs are looped (Assign p op e) s w h =
    (place_found c.layout s h p w.0, expr_finds c.layout s (read_layout c.layout s h) e w.1.1)
stmt_finds c cs are looped (Call t g es) s w h =
    (callee_there c.layout.globals c.above cs are g (length es) t w.1.0, (target_found c.layout s h t w.0, exprs_find c.layout _ (target_reads c.layout s h t) es w.1.1))
stmt_finds c cs are looped Break s w h = tt
stmt_finds c cs are looped Continue s w h = tt
stmt_finds c cs are looped (Return e) s w h = optional_finds c.layout s (read_layout c.layout s h) e w.1
stmt_finds c cs are looped (If' e a x b y) s w h = expr_finds c.layout s (read_layout c.layout s h) e w.0
stmt_finds c cs are looped (While' k e a x) s w h = expr_finds c.layout s (read_layout c.layout s h) e w.1.0
stmt_finds c cs are looped (Do' k a x e) s w h = expr_finds c.layout s (read_layout c.layout s h) e w.1.1
stmt_finds c cs are looped (For' k i e j a x) s w h =
    expr_finds c.layout s (read_layout c.layout s h) e w.1.1.0
stmt_finds c cs are looped (Group' a x) s w h = tt
