-- Runs of a program: its functions, its inputs, and what a run ends with.
-- This project's own: the free choice of the entry function, `main` among the others, and the order of the inputs.
use Rattle.std.specs.Prelude.{
  ℕ,
  zero,
  suc,
  Bool,
  true,
  false,
  ◌&&◌,
  ◌-◌,
  if◌then◌else◌,
  List,
  [],
  ◌∷◌,
  ◌++◌,
  length,
  take,
  drop,
  replicate,
  slice_get,
  Option,
  Some,
  None,
  ℤ,
  map,
}
use Rattle.c_tree.specs.declared.tree.Ty.{Ty}
use Rattle.c_tree.specs.declared.program.BlockName.{BlockName}
use Rattle.c_tree.specs.declared.program.Local.{Local}
use Rattle.c_tree.specs.declared.program.Global.{Global}
use Rattle.c_tree.specs.declared.program.Func.{Func}
use Rattle.c_tree.specs.declared.program.Program.{Program}
use Rattle.c_tree.specs.declared.program.Input.{Input}
use Rattle.c_tree.specs.declared.value.Value.{Value}
use Rattle.c_tree.specs.declared.value.Slot.{Slot}
use Rattle.c_tree.specs.declared.value.Slot.TheVariants.{Unset, Number, Numbers}
use Rattle.c_tree.specs.declared.value.Way.TheVariants as way
use Rattle.c_tree.specs.Meaning.Values.{convert, is_of, of_int, zero_of}
use Rattle.c_tree.specs.Meaning.Statements.{
  Callee,
  Back,
  Gives,
  CallUndefined,
  CallOverBound,
  Outcome,
  Ends,
  Undefined,
  OverBound,
  list_exec,
}

-- ---- functions

-- the slot of a local that is no parameter, as a call begins. The zeros of an array only keep its length: its name is
-- in scope from its declaration on, which makes it unset
abbrev pub fresh : Ty → Option ℕ → Slot
fresh t None = Unset t
fresh t (Some n) = Numbers t (replicate n (zero_of t))

-- the slots of a function's locals as a call begins: the parameters have the arguments, converted to their types
-- (6.5.2.2 paragraph 7)
abbrev pub entry_slots : List Local → List Value → List Slot
entry_slots [] vs = []
entry_slots (l ∷ ls) [] = fresh l.ty l.length ∷ entry_slots ls []
entry_slots (l ∷ ls) (v ∷ vs) = Number (convert l.ty v) ∷ entry_slots ls vs

-- a returned value, converted to the function's type (6.8.6.4 paragraph 3)
abbrev pub result_of : Option Ty → Option Value → Option Value
result_of (Some t) (Some v) = Some (convert t v)
result_of (Some t) None = None
result_of None v = None

-- what a function's outermost list comes back with
abbrev pub back : Option Ty → Outcome → Back
back t (Ends u s (way.Return v)) = Gives u s.globals (result_of t v)
back t (Ends u s _) = Gives u s.globals None
back t Undefined = CallUndefined
back t OverBound = CallOverBound

-- the function number k over those above it
abbrev pub callee : ℕ → Func → List Callee → Callee
callee k f cs vs gs =
    back f.result (list_exec cs k f.body 0 false (record { locals = entry_slots f.locals vs; globals = gs }))

-- each function, over those above it
abbrev pub callees : List Callee → List Func → List Callee
callees cs [] = cs
callees cs (f ∷ fs) = callees (cs ++ callee (length cs) f cs ∷ []) fs

-- ---- inputs: the entry function's parameters in order, then the extern variables, an array element by element

abbrev pub types_of : Ty → Option ℕ → List Ty
types_of t None = t ∷ []
types_of t (Some n) = replicate n t

abbrev pub param_types : ℕ → List Local → List Ty
param_types zero ls = []
param_types (suc n) [] = []
param_types (suc n) (l ∷ ls) = l.ty ∷ param_types n ls

abbrev pub outer_types : List Global → List Ty
outer_types [] = []
outer_types (g ∷ gs) = if g.outer then types_of g.ty g.length ++ outer_types gs else outer_types gs

abbrev pub entry_types : Option Func → List Ty
entry_types None = []
entry_types (Some f) = param_types f.params f.locals

-- the type of each input number
abbrev pub input_types : Program → List Ty
input_types p = entry_types (slice_get p.funcs p.entry) ++ outer_types p.globals

abbrev pub are_of : List Ty → List ℤ → Bool
are_of [] [] = true
are_of (t ∷ ts) (z ∷ zs) = is_of t z && are_of ts zs
are_of [] (z ∷ zs) = false
are_of (t ∷ ts) [] = false

-- an input has as many numbers as the program asks for, each in its type's range
abbrev pub fits : Program → Input → Bool
fits p i = are_of (input_types p) i.values

-- ---- the store of an input

-- a global with these values, and 0 where there are none (6.7.9 paragraphs 10 and 21)
abbrev pub global_slot : Ty → Option ℕ → List ℤ → Slot
global_slot t None [] = Number (zero_of t)
global_slot t None (z ∷ zs) = Number (of_int t z)
global_slot t (Some n) zs = Numbers t (map (of_int t) zs ++ replicate (n - length zs) (zero_of t))

-- an extern variable has its numbers of the input, of which `zs` are left; another has those of its initialiser
abbrev pub global_slots : List Global → List ℤ → List Slot
global_slots [] zs = []
global_slots (g ∷ gs) zs =
    let w = length (types_of g.ty g.length) in
    if g.outer then global_slot g.ty g.length (take w zs) ∷ global_slots gs (drop w zs) else global_slot g.ty g.length
    g.values ∷ global_slots gs zs

abbrev pub arguments : List Ty → List ℤ → List Value
arguments [] zs = []
arguments (t ∷ ts) [] = []
arguments (t ∷ ts) (z ∷ zs) = of_int t z ∷ arguments ts zs

-- ---- runs

pub data Run : Type 0 where
  Ended : (trace : List BlockName) → Run
  IsUndefined : Run
  IsOverBound : Run

-- the entry function's result is not used
abbrev pub run_of : Back → Run
run_of (Gives t gs r) = Ended t
run_of CallUndefined = IsUndefined
run_of CallOverBound = IsOverBound

abbrev pub entry_run : Option Callee → List Value → List Slot → Run
entry_run None vs gs = IsUndefined
entry_run (Some f) vs gs = run_of (f vs gs)

-- the run of a program on an input
abbrev pub run : Program → Input → Run
run p i =
    let ts = entry_types (slice_get p.funcs p.entry) in
    entry_run (slice_get (callees [] p.funcs) p.entry) (arguments ts i.values)
    (global_slots p.globals (drop (length ts) i.values))
