-- What stands in a unit without faults, use by use.
use Rattle.std.proofs.Common.{◌≡◌, ℕ, ◌<◌, ◌≤◌, Bool, true, false, List, [], ◌∷◌, ◌++◌, Option, Some, None, refl, arith}
use Rattle.std.specs.Prelude.{IsTrue, IsSome, not, ◌&&◌, ◌||◌, nat_le, nat_lt, ◌==◌, is_none, is_some}
use Rattle.std.specs.List.{flat_map}
use Rattle.std.proofs.lemmas.Bool.{eqb-true, leb-true, ltb-false, and_parts, or_parts}
use Rattle.std.proofs.lemmas.Bool.Decides.{leb_tells}
use Rattle.c_tree.specs.declared.tree.Ty.{Ty}
use Rattle.c_tree.specs.declared.unit.RawBound.{RawBound}
use Rattle.c_tree.specs.Checking.Scopes.{Entity, Variable, Function}
use Rattle.c_tree.specs.Checking.Naming.{is_bound}
use Rattle.c_tree.specs.Checking.Uses.{Use, Read, Assigned, Called, Declared, Sized, Constant, Returned, Left, Looped}
use Rattle.c_tree.specs.Checking.Refusals.{FaultKind, Arity, NoValue, LaterCall, ArrayLength, NoInit, BoundRange, PlacedFault, where_true, faults_of}
use Rattle.std.specs.Option.{option_map_or}

-- ---- what is asked of a use

-- a name stands for a variable, for an array exactly where an index follows it
abbrev pub NamesVariable : Option Entity → Bool → Type 0
NamesVariable None indexed = ⊥
NamesVariable (Some (Variable v array constant)) indexed = array ≡ indexed
NamesVariable (Some (Function g params result)) indexed = ⊥

-- a `void` function's result is not used
abbrev pub gives : Bool → Option Ty → Bool
gives false r = true
gives true r = is_some r

-- a name stands for a function above the caller, with this number of parameters
abbrev pub NamesFunction : Option Entity → ℕ → Bool → ℕ → Type 0
NamesFunction None n is_used caller = ⊥
NamesFunction (Some (Variable v array constant)) n is_used caller = ⊥
NamesFunction (Some (Function g params result)) n is_used caller =
    (n ≡ params) × (IsTrue (gives is_used result) × (g < caller))

abbrev pub HasBound : Option RawBound → Type 0
HasBound None = ⊥
HasBound (Some b) = IsTrue (is_bound b.value)

-- a list is no longer than its array, and a local has one
abbrev pub FitsIn : ℕ → Option ℕ → Bool → Type 0
FitsIn n None local = local ≡ false
FitsIn n (Some m) local = m ≤ n

abbrev pub Clean : Use → Type 0
Clean (Read at e indexed) = NamesVariable e indexed
Clean (Assigned at e indexed) = NamesVariable e indexed
Clean (Called at e n is_used caller) = NamesFunction e n is_used caller
Clean (Declared at again) = Unit {0}
Clean (Sized at n list local) = ((1 ≤ n) × (n ≤ 64)) × FitsIn n list local
Clean (Constant at v) = IsSome v
Clean (Returned at value result) = value ≡ result
Clean (Left at looped) = IsTrue looped
Clean (Looped at bound) = HasBound bound

abbrev pub AllClean : List Use → Type 0
AllClean [] = Unit {0}
AllClean (u ∷ us) = Clean u × AllClean us

pub clean_parts : (us vs : List Use) → AllClean (us ++ vs) → AllClean us × AllClean vs
clean_parts [] vs h = (tt, h)
clean_parts (u ∷ us) vs h = let rest = clean_parts us vs h.1 in ((h.0, rest.0), rest.1)

-- ---- a use without faults

pub none_of : {A : Type 0} (xs ys : List A) → xs ++ ys ≡ [] → (xs ≡ []) × (ys ≡ [])
none_of [] ys h = (refl, h)
none_of (x ∷ xs) ys h = absurd (cc)

pub not_there : (b : Bool) (k : FaultKind) (at : ℕ) → where_true b k at ≡ [] → b ≡ false
not_there true k at h = absurd (cc)
not_there false k at h = refl

-- the first of several lists, and the others
pub first_none : (b : Bool) (k : FaultKind) (at : ℕ) (rest : List PlacedFault) → where_true b k at ++ rest ≡ [] → (b ≡ false) × (rest ≡ [])
first_none b k at rest h = let parts = none_of (where_true b k at) rest h in (not_there b k at parts.0, parts.1)

holds : (b : Bool) → not b ≡ false → b ≡ true
holds true h = refl
holds false h = absurd (cc)

gives_it : (is_used : Bool) (r : Option Ty) → (is_used && is_none r) ≡ false → IsTrue (gives is_used r)
gives_it false r h = refl
gives_it true None h = absurd (cc)
gives_it true (Some t) h = refl

in_range : (n : ℕ) → not (nat_le 1 n && nat_le n 64) ≡ false → (1 ≤ n) × (n ≤ 64)
in_range n h =
    let both = and_parts (nat_le 1 n) (nat_le n 64) (holds (nat_le 1 n && nat_le n 64) h) in
    (leb-true 1 n both.0, leb-true n 64 both.1)

list_fits : (n : ℕ) (list : Option ℕ) (local : Bool) → option_map_or (nat_lt n) list false ≡ false → (local && is_none list) ≡ false → FitsIn n list local
list_fits n None true h g = absurd (cc)
list_fits n None false h g = refl
list_fits n (Some m) local h g = ltb-false n m h

called_clean : (at n : ℕ) (g params caller : ℕ) (r : Option Ty) (is_used : Bool) → faults_of (Called at (Some (Function g params r)) n is_used caller) ≡ [] → NamesFunction (Some (Function g params r)) n is_used caller
called_clean at n g params caller r is_used h =
    let arity = first_none (not (n == params)) Arity at (where_true (is_used && is_none r) NoValue at ++ (where_true (nat_le caller g) LaterCall at ++ [])) h in
    let value = first_none (is_used && is_none r) NoValue at (where_true (nat_le caller g) LaterCall at ++ []) arity.1 in
    let above = first_none (nat_le caller g) LaterCall at [] value.1 in
    (eqb-true n params (holds (n == params) arity.0), (gives_it is_used r value.0, below caller g above.0))
  where
    below : (c g : ℕ) → nat_le c g ≡ false → g < c
    below c g e = grind (arith, leb_tells c g)

sized_clean : (at n : ℕ) (list : Option ℕ) (local : Bool) → faults_of (Sized at n list local) ≡ [] → Clean (Sized at n list local)
sized_clean at n list local h =
    let long = first_none (not (nat_le 1 n && nat_le n 64) || option_map_or (nat_lt n) list false) ArrayLength at (where_true (local && is_none list) NoInit at) h in
    let parts = or_parts (not (nat_le 1 n && nat_le n 64)) (option_map_or (nat_lt n) list false) long.0 in
    (in_range n parts.0, list_fits n list local parts.1 (not_there (local && is_none list) NoInit at long.1))

bound_clean : (at : ℕ) (b : RawBound) → faults_of (Looped at (Some b)) ≡ [] → IsTrue (is_bound b.value)
bound_clean at b h = holds (is_bound b.value) (first_none (not (is_bound b.value)) BoundRange b.at [] h).0

pub use_clean : (u : Use) → faults_of u ≡ [] → Clean u
use_clean (Read at None indexed) h = absurd (cc)
use_clean (Read at (Some (Variable v true constant)) true) h = refl
use_clean (Read at (Some (Variable v true constant)) false) h = absurd (cc)
use_clean (Read at (Some (Variable v false constant)) true) h = absurd (cc)
use_clean (Read at (Some (Variable v false constant)) false) h = refl
use_clean (Read at (Some (Function g params result)) indexed) h = absurd (cc)
use_clean (Assigned at None indexed) h = absurd (cc)
use_clean (Assigned at (Some (Variable v true constant)) true) h = refl
use_clean (Assigned at (Some (Variable v true constant)) false) h = absurd (cc)
use_clean (Assigned at (Some (Variable v false constant)) true) h = absurd (cc)
use_clean (Assigned at (Some (Variable v false constant)) false) h = refl
use_clean (Assigned at (Some (Function g params result)) indexed) h = absurd (cc)
use_clean (Called at None n is_used caller) h = absurd (cc)
use_clean (Called at (Some (Variable v array constant)) n is_used caller) h = absurd (cc)
use_clean (Called at (Some (Function g params result)) n is_used caller) h = called_clean at n g params caller result is_used h
use_clean (Declared at again) h = tt
use_clean (Sized at n list local) h = sized_clean at n list local h
use_clean (Constant at None) h = absurd (cc)
use_clean (Constant at (Some v)) h = refl
use_clean (Returned at true true) h = refl
use_clean (Returned at true false) h = absurd (cc)
use_clean (Returned at false true) h = absurd (cc)
use_clean (Returned at false false) h = refl
use_clean (Left at true) h = refl
use_clean (Left at false) h = absurd (cc)
use_clean (Looped at None) h = absurd (cc)
use_clean (Looped at (Some b)) h = bound_clean at b h

pub all_clean : (us : List Use) → flat_map faults_of us ≡ [] → AllClean us
all_clean [] h = tt
all_clean (u ∷ us) h =
    let parts = none_of (faults_of u) (flat_map faults_of us) h in (use_clean u parts.0, all_clean us parts.1)
