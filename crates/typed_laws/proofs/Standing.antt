-- What the names in scope stand for is there: variables of a layout, and functions.
use Rattle.std.proofs.Common.{◌≡◌, ℕ, Bool, true, false, List, [], ◌∷◌, ◌++◌, length, Option, Some, None, refl, subst}
use Rattle.std.specs.Prelude.{IsTrue, IfSome, is_none, is_some, option_map, slice_get, if◌then◌else◌, bytes_eq}
use Rattle.std.specs.Option.{option_or}
use Rattle.c_tree.specs.declared.tree.Ty.{Ty}
use Rattle.c_tree.specs.declared.program.Local.{Local as Declared}
use Rattle.c_tree.specs.declared.program.Func.{Func}
use Rattle.c_tree.specs.Checking.Scopes.{Entity, Variable, Function, Known, latest, entity_of, variable}
use Rattle.c_tree.specs.Keeping.Layouts.{Shape, Layout, shape, shape_of, local_shapes, is_scalar, is_array}
use Rattle.typed_laws.proofs.Faultless.{NamesVariable}

-- ---- what a name stands for

-- a variable is there, an array or not
abbrev pub IsThere : Option Shape → Bool → Type 0
IsThere None array = ⊥
IsThere (Some x) array = is_some x.length ≡ array

-- a function is there, with these parameters and this result
abbrev pub IsFunction : Option Func → ℕ → Option Ty → Type 0
IsFunction None params result = ⊥
IsFunction (Some f) params result = (f.params ≡ params) × (f.result ≡ result)

abbrev pub Stands : Layout → List Func → Entity → Type 0
Stands l fs (Variable v array constant) = IsThere (shape l v) array
Stands l fs (Function g params result) = IsFunction (slice_get fs g) params result

abbrev pub AllStand : Layout → List Func → List Known → Type 0
AllStand l fs [] = Unit {0}
AllStand l fs (k ∷ ks) = Stands l fs k.entity × AllStand l fs ks

pub stand_append : (l : Layout) (fs : List Func) (ks js : List Known) → AllStand l fs ks → AllStand l fs js → AllStand l fs (ks ++ js)
stand_append l fs [] js h g = g
stand_append l fs (k ∷ ks) js h g = (h.0, stand_append l fs ks js h.1 g)

latest_stands : (l : Layout) (fs : List Func) (k : Known) (o : Option Known) (b : Bool) → Stands l fs k.entity → IfSome o (λ j. Stands l fs j.entity) → IfSome (option_or o (if b then Some k else None)) (λ j. Stands l fs j.entity)
latest_stands l fs k (Some j) b h g = g
latest_stands l fs k None true h g = h
latest_stands l fs k None false h g = tt

found_stands : (l : Layout) (fs : List Func) (ks : List Known) (name : List ℕ) → AllStand l fs ks → IfSome (latest ks name) (λ j. Stands l fs j.entity)
found_stands l fs [] name h = tt
found_stands l fs (k ∷ ks) name h =
    latest_stands l fs k (latest ks name) (bytes_eq k.name name) h.0 (found_stands l fs ks name h.1)

entity_stands : (l : Layout) (fs : List Func) (o : Option Known) → IfSome o (λ j. Stands l fs j.entity) → IfSome (option_map (λ (j : Known). j.entity) o) (Stands l fs)
entity_stands l fs None h = tt
entity_stands l fs (Some k) h = h

-- a name in scope stands for what is there
pub name_stands : (l : Layout) (fs : List Func) (ks : List Known) (name : List ℕ) → AllStand l fs ks → IfSome (entity_of ks name) (Stands l fs)
name_stands l fs ks name h = entity_stands l fs (latest ks name) (found_stands l fs ks name h)

-- ---- variables

scalar_of : (o : Option Shape) → IsThere o false → IsTrue (is_scalar o)
scalar_of None h = absurd h
scalar_of (Some x) h = none_of x.length h
  where
    none_of : (n : Option ℕ) → is_some n ≡ false → IsTrue (is_none n)
    none_of None e = refl
    none_of (Some m) e = absurd (cc)

array_of : (o : Option Shape) → IsThere o true → IsTrue (is_array o)
array_of None h = absurd h
array_of (Some x) h = h

pub scalar_named : (l : Layout) (fs : List Func) (e : Option Entity) → IfSome e (Stands l fs) → NamesVariable e false → IsTrue (is_scalar (shape l (variable e)))
scalar_named l fs None h g = absurd g
scalar_named l fs (Some (Variable v array constant)) h g = scalar_of (shape l v) (subst (IsThere (shape l v)) g h)
scalar_named l fs (Some (Function n params result)) h g = absurd g

pub array_named : (l : Layout) (fs : List Func) (e : Option Entity) → IfSome e (Stands l fs) → NamesVariable e true → IsTrue (is_array (shape l (variable e)))
array_named l fs None h g = absurd g
array_named l fs (Some (Variable v array constant)) h g = array_of (shape l v) (subst (IsThere (shape l v)) g h)
array_named l fs (Some (Function n params result)) h g = absurd g

-- ---- locals

-- the local behind others
pub local_there : (ls : List Declared) (l : Declared) (ms : List Declared) → slice_get (local_shapes (ls ++ (l ∷ ms))) (length ls) ≡ Some (shape_of l.ty l.length)
local_there [] l ms = refl
local_there (k ∷ ls) l ms = local_there ls l ms
