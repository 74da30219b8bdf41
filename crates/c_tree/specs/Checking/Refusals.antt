-- The faults of a unit. Each is read in a unit that has none with a smaller number; elsewhere what a definition says
-- of it does not matter, since the fault with the smallest number is refused, and of that one the smallest place.
use Rattle.std.specs.Prelude.{
  ◌≡◌,
  ℕ,
  ◌<◌,
  ◌≤◌,
  Bool,
  true,
  false,
  not,
  ◌&&◌,
  ◌||◌,
  nat_lt,
  nat_le,
  ◌==◌,
  if◌then◌else◌,
  List,
  [],
  ◌∷◌,
  ◌++◌,
  map,
  replicate,
  Option,
  Some,
  None,
  is_none,
  slice_get,
  ◌^◌,
  bytes_eq,
  All,
  ◌⊎◌,
}
use Rattle.std.specs.Option.{option_map_or, option_to_list}
use Rattle.std.specs.List.{flat_map, Contains}
use Rattle.c_tree.specs.declared.unit.RawParam.{RawParam}
use Rattle.c_tree.specs.declared.unit.RawExpr.{RawExpr}
use Rattle.c_tree.specs.declared.unit.RawFunc.{RawFunc}
use Rattle.c_tree.specs.declared.unit.RawTop.{RawTop}
use Rattle.c_tree.specs.declared.unit.RawTop.TheVariants as top
use Rattle.c_tree.specs.declared.unit.Unit.{Unit as Tree}
use Rattle.c_tree.specs.declared.program.Program.{Program}
use Rattle.c_tree.specs.Meaning.Spans.{spans}
use Rattle.c_tree.specs.Checking.Scopes.{Entity, Variable, Function}
use Rattle.c_tree.specs.Checking.Constants.{declared_length}
use Rattle.c_tree.specs.Checking.Naming.{is_bound, program_of}
use Rattle.c_tree.specs.Checking.Uses.{
  Use,
  Read,
  Assigned,
  Called,
  Declared,
  Sized,
  Constant,
  Returned,
  Left,
  Looped,
  uses,
}

pub data FaultKind : Type 0 where
  NoName Twice Kind Arity NoValue Const Stray NoBound BoundRange NoEntry LaterCall ArrayLength Inputs NoInit Span :
      FaultKind

abbrev pub fault_number : FaultKind → ℕ
fault_number NoName = 1
fault_number Twice = 2
fault_number Kind = 3
fault_number Arity = 4
fault_number NoValue = 5
fault_number Const = 6
fault_number Stray = 7
fault_number NoBound = 8
fault_number BoundRange = 9
fault_number NoEntry = 10
fault_number LaterCall = 11
fault_number ArrayLength = 12
fault_number Inputs = 13
fault_number NoInit = 14
fault_number Span = 15

-- a fault and its place
pub record PlacedFault : Type 0 where
  pub fault : FaultKind
  pub at : ℕ

abbrev pub placed_fault : FaultKind → ℕ → PlacedFault
placed_fault k at = record { fault = k; at = at }

-- the fault, where the condition holds
abbrev pub where_true : Bool → FaultKind → ℕ → List PlacedFault
where_true b k at = if b then placed_fault k at ∷ [] else []

-- ---- of one use

-- 1: a used name is not in scope, or a called one is no name of the unit in scope
abbrev pub no_name_faults : Use → List PlacedFault
no_name_faults (Read at e indexed) = where_true (is_none e) NoName at
no_name_faults (Assigned at e indexed) = where_true (is_none e) NoName at
no_name_faults (Called at e n is_used caller) = where_true (is_none e) NoName at
no_name_faults _ = []

-- 2: a name is declared again in its scope
abbrev pub twice_faults : Use → List PlacedFault
twice_faults (Declared at again) = where_true again Twice at
twice_faults _ = []

-- an array without index, an index on a scalar, or a function that is not called
abbrev pub is_misread : Bool → Option Entity → Bool
is_misread indexed None = false
is_misread indexed (Some (Variable v array constant)) = if array then not indexed else indexed
is_misread indexed (Some (Function n params result)) = true

abbrev pub is_constant : Option Entity → Bool
is_constant (Some (Variable v array constant)) = constant
is_constant _ = false

abbrev pub is_variable : Option Entity → Bool
is_variable (Some (Variable v array constant)) = true
is_variable _ = false

-- 3: one of these, an assignment to a `const` name, or a variable that is called. (No text has a list for a scalar or
-- an expression for an array)
abbrev pub kind_faults : Use → List PlacedFault
kind_faults (Read at e indexed) = where_true (is_misread indexed e) Kind at
kind_faults (Assigned at e indexed) = where_true (is_misread indexed e || is_constant e) Kind at
kind_faults (Called at e n is_used caller) = where_true (is_variable e) Kind at
kind_faults _ = []

-- 4: a call with another number of arguments than parameters
abbrev pub arity_faults : Use → List PlacedFault
arity_faults (Called at (Some (Function g params result)) n is_used caller) = where_true (not (n == params)) Arity at
arity_faults _ = []

-- 5: the result of a `void` function used, `return` with a value in a `void` function, or without one in another
abbrev pub no_value_faults : Use → List PlacedFault
no_value_faults (Called at (Some (Function g params result)) n is_used caller) = where_true (is_used && is_none result)
    NoValue at
no_value_faults (Returned at value result) = where_true (if value then not result else result) NoValue at
no_value_faults _ = []

-- 6: an expression that is to be a constant has a name in it or is undefined
abbrev pub const_faults : Use → List PlacedFault
const_faults (Constant at v) = where_true (is_none v) Const at
const_faults _ = []

-- 7: `break` or `continue` outside a loop
abbrev pub stray_faults : Use → List PlacedFault
stray_faults (Left at looped) = where_true (not looped) Stray at
stray_faults _ = []

-- 8: a loop without a bound
abbrev pub no_bound_faults : Use → List PlacedFault
no_bound_faults (Looped at None) = placed_fault NoBound at ∷ []
no_bound_faults _ = []

-- 9: a bound outside 1 to 1,048,576
abbrev pub bound_range_faults : Use → List PlacedFault
bound_range_faults (Looped at (Some b)) = where_true (not (is_bound b.value)) BoundRange b.at
bound_range_faults _ = []

-- 11: the called function is the caller or is not defined above it
abbrev pub later_call_faults : Use → List PlacedFault
later_call_faults (Called at (Some (Function g params result)) n is_used caller) = where_true (nat_le caller g)
    LaterCall at
later_call_faults _ = []

-- 12: a length outside 1 to 64, or a list longer than the array. (One that is not written is that of the list, and 0
-- without a list)
abbrev pub array_length_faults : Use → List PlacedFault
array_length_faults (Sized at n list local) =
    where_true (not (nat_le 1 n && nat_le n 64) || option_map_or (nat_lt n) list false) ArrayLength at
array_length_faults _ = []

-- 14: a local array without a list
abbrev pub no_init_faults : Use → List PlacedFault
no_init_faults (Sized at n list local) = where_true (local && is_none list) NoInit at
no_init_faults _ = []

-- the faults of a use
abbrev pub faults_of : Use → List PlacedFault
faults_of u =
    no_name_faults u ++ (twice_faults u
    ++ (kind_faults u ++ (arity_faults u
    ++ (no_value_faults u
    ++ (const_faults u ++ (stray_faults u
    ++ (no_bound_faults u
    ++ (bound_range_faults u ++ (later_call_faults u ++ (array_length_faults u ++ no_init_faults u))))))))))

-- ---- of the whole unit

-- the first function of this name
abbrev pub func_named : List ℕ → List RawTop → Option RawFunc
func_named entry [] = None
func_named entry (top.Func g ∷ ts) = if bytes_eq g.spot.name entry then Some g else func_named entry ts
func_named entry (t ∷ ts) = func_named entry ts

-- 10: no function has the entry's name. Its place is the text's end
abbrev pub no_entry_faults : Tree → List ℕ → List PlacedFault
no_entry_faults u entry = where_true (is_none (func_named entry u.tops)) NoEntry u.end

-- for each input number the place of the name that declares it: those of the entry function's parameters in order,
-- then those of the extern variables in order of declaration, an array element by element
abbrev pub param_inputs : Option RawFunc → List ℕ
param_inputs None = []
param_inputs (Some g) = map (λ (p : RawParam). p.spot.at) g.params

abbrev pub outer_count : Option RawExpr → ℕ
outer_count None = 1
outer_count (Some e) = declared_length (Some e) None

abbrev pub outer_inputs : List RawTop → List ℕ
outer_inputs [] = []
outer_inputs (top.Outer constant t x e ∷ ts) = replicate (outer_count e) x.at ++ outer_inputs ts
outer_inputs (t ∷ ts) = outer_inputs ts

abbrev pub input_counts : Tree → List ℕ → List ℕ
input_counts u entry = param_inputs (func_named entry u.tops) ++ outer_inputs u.tops

-- 13: a 65th input number
abbrev pub input_faults : Tree → List ℕ → List PlacedFault
input_faults u entry = map (placed_fault Inputs) (option_to_list (slice_get (input_counts u entry) 64))

-- 15: a function whose span is above 2^64
abbrev pub wide_func_faults : List ℕ → List RawTop → List PlacedFault
wide_func_faults ss [] = []
wide_func_faults [] ts = []
wide_func_faults (s ∷ ss) (top.Func g ∷ ts) = where_true (nat_lt (2 ^ 64) s) Span g.spot.at ++ wide_func_faults ss ts
wide_func_faults ss (t ∷ ts) = wide_func_faults ss ts

abbrev pub span_faults : Tree → List ℕ → List PlacedFault
span_faults u entry = wide_func_faults (spans [] (program_of u entry).funcs) u.tops

-- all faults of a unit with this entry
unfoldable pub faults : Tree → List ℕ → List PlacedFault
faults u entry = flat_map faults_of (uses u)
    ++ (no_entry_faults u entry ++ (input_faults u entry ++ span_faults u entry))

-- ---- what checking answers

-- a refusal does not come after another: it has a smaller number, or the same and no greater place
abbrev pub IsFirstOf : PlacedFault → PlacedFault → Type 0
IsFirstOf a b = (fault_number a.fault < fault_number b.fault) ⊎ ((fault_number a.fault ≡ fault_number b.fault)
    × (a.at ≤ b.at))

-- the unit is refused so
pub record IsRefused (u : Tree) (entry : List ℕ) (r : PlacedFault) : Type 0 where
  pub stands : Contains (faults u entry) r
  pub first : All (IsFirstOf r) (faults u entry)

-- no fault stands, and this is the unit with its names replaced by numbers
pub record Typed (u : Tree) (entry : List ℕ) (p : Program) : Type 0 where
  pub sound : faults u entry ≡ []
  pub named : p ≡ program_of u entry
