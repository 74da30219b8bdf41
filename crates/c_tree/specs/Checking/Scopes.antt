-- What the names of a text stand for (C11 6.2.1). Scopes are numbered by their depth: 0 has the functions of the whole
-- unit, 1 is file scope, 2 has a function's parameters and its outermost list, and each list or `for` inside is one
-- deeper.
use Rattle.std.specs.Prelude.{
  ℕ,
  Bool,
  false,
  ◌==◌,
  if◌then◌else◌,
  List,
  [],
  ◌∷◌,
  Option,
  Some,
  None,
  option_map,
  bytes_eq,
}
use Rattle.std.specs.Option.{option_or, option_map_or}
use Rattle.c_tree.specs.declared.tree.Ty.{Ty}
use Rattle.c_tree.specs.declared.tree.Var.{Var}
use Rattle.c_tree.specs.declared.tree.Var.TheVariants.{Local}

-- a variable, whether it is an array, and whether it is `const`; or the function of a number, its number of parameters
-- and its result
pub data Entity : Type 0 where
  Variable : (var : Var) (array constant : Bool) → Entity
  Function : (number params : ℕ) (result : Option Ty) → Entity

-- a name, the depth of the scope that declares it, and what it stands for
pub record Known : Type 0 where
  pub name : List ℕ
  pub depth : ℕ
  pub entity : Entity

-- of the names in scope, in the order of their declarations, the last one like this: it hides those before it (6.2.1
-- paragraph 4)
abbrev pub latest : List Known → List ℕ → Option Known
latest [] name = None
latest (k ∷ ks) name = option_or (latest ks name) (if bytes_eq k.name name then Some k else None)

-- what a name stands for
abbrev pub entity_of : List Known → List ℕ → Option Entity
entity_of known name = option_map (λ k. k.entity) (latest known name)

-- whether the scope of this depth, the innermost one, has the name already
abbrev pub is_known_at : List Known → ℕ → List ℕ → Bool
is_known_at known depth name = option_map_or (λ k. k.depth == depth) (latest known name) false

-- the variable and the function that a name stands for. Where it stands for none, which is a fault, any will do
abbrev pub variable : Option Entity → Var
variable (Some (Variable v array constant)) = v
variable _ = Local 0

abbrev pub function_number : Option Entity → ℕ
function_number (Some (Function n params result)) = n
function_number _ = 0
