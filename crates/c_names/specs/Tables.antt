-- What the code's table of names keeps.
use Rattle.std.specs.Prelude.{◌≡◌, ℕ, List, [], ◌∷◌, ◌++◌, map, Option, Some, None, bytes_eq, if◌then◌else◌}
use Rattle.std.specs.Option.{option_or}
use Rattle.std.specs.Ordering.{nat_cmp}
use Rattle.std.specs.BTreeMap.{BTreeMap, get_by}
use Rattle.std.specs.Cmp.Lexicographic.{slice_cmp}
use denote.Ref.{Bor}
use Rattle.c_tree.specs.Checking.Scopes as scope
use Rattle.c_names.specs.declared.names.Entity.{Entity}
use Rattle.c_names.specs.declared.names.Entity.TheVariants.{Variable, Function}
use Rattle.c_names.specs.declared.names.Binding.{Binding}
use Rattle.c_names.specs.declared.names.Declaration.{Declaration}

-- what the code's entities are
abbrev pub entity_view : Entity → scope.Entity
entity_view (Variable v array constant) = scope.Variable v array constant
entity_view (Function n params result) = scope.Function n params result

abbrev pub known_of : Declaration → scope.Known
known_of d = record { name = d.name.now; depth = d.binding.depth; entity = entity_view d.binding.entity }

abbrev pub known : List Declaration → List scope.Known
known ds = map known_of ds

-- the last binding of a name
abbrev pub last_binding : List Declaration → List ℕ → Option Binding
last_binding [] name = None
last_binding (d ∷ ds) name = option_or (last_binding ds name) (if bytes_eq d.name.now name then Some d.binding
    else None)

-- what the map has for a name
abbrev pub looked_up : BTreeMap (Bor (List ℕ)) Binding → List ℕ → Option Binding
looked_up m q = get_by (λ k. slice_cmp nat_cmp q k.now) m

-- the map has the last binding of each name
abbrev pub Shows : BTreeMap (Bor (List ℕ)) Binding → List Declaration → Type 0
Shows m ds = (q : List ℕ) → looked_up m q ≡ last_binding ds q

-- the new map has this for the name, and for each other name what the old one has
abbrev pub Rebinds : (m n : BTreeMap (Bor (List ℕ)) Binding) → List ℕ → Option Binding → Type 0
Rebinds m n name b = (q : List ℕ) → looked_up n q ≡ (if bytes_eq name q then b else looked_up m q)

-- each declaration keeps the binding that it hides, after those before it
abbrev pub HideAfter : List Declaration → List Declaration → Type 0
HideAfter before [] = Unit {0}
HideAfter before (d ∷ ds) = (d.hidden ≡ last_binding before d.name.now) × HideAfter (before ++ d ∷ []) ds

pub record IsTable (latest : BTreeMap (Bor (List ℕ)) Binding) (declared : List Declaration) : Type 0 where
  pub shows : Shows latest declared
  pub hides : HideAfter [] declared

-- a binding of a name
abbrev pub known_as : List ℕ → Binding → scope.Known
known_as name b = record { name = name; depth = b.depth; entity = entity_view b.entity }
