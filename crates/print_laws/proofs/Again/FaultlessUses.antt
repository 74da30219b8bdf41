-- Uses without faults: lists of them, and each of them at another place.
use Rattle.std.proofs.Common.{◌≡◌, ℕ, Bool, true, false, List, [], ◌∷◌, ◌++◌, Option, Some, None, refl, sym, ap, ◌∙◌}
use Rattle.std.specs.List.{flat_map}
use Rattle.std.specs.Prelude.{not, ◌&&◌, ◌||◌, nat_le, nat_lt, ◌==◌, is_none, if◌then◌else◌}
use Rattle.std.specs.Option.{option_map_or}
use Rattle.std.proofs.lemmas.Grind.{flat_map-append}
use Rattle.c_tree.specs.declared.tree.Var.{Var}
use Rattle.c_tree.specs.Checking.Scopes.{Entity, Variable, Function}
use Rattle.c_tree.specs.Checking.Uses.{Use, Read, Assigned, Called, Declared, Sized, Returned, Left}
use Rattle.c_tree.specs.Checking.Refusals.{FaultKind, Arity, NoValue, LaterCall, ArrayLength, NoInit, PlacedFault, where_true, faults_of}
use Rattle.typed_laws.proofs.Faultless.{none_of}

-- no fault stands in these
abbrev pub AreFaultless : List Use → Type 0
AreFaultless us = flat_map faults_of us ≡ []

pub faultless_parts : (us vs : List Use) → AreFaultless (us ++ vs) → AreFaultless us × AreFaultless vs
faultless_parts us vs h =
    none_of (flat_map faults_of us) (flat_map faults_of vs) (sym (flat_map-append faults_of us vs) ∙ h)

pub faultless_both : (us vs : List Use) → AreFaultless us → AreFaultless vs → AreFaultless (us ++ vs)
faultless_both us vs h g = flat_map-append faults_of us vs ∙ (λ i. h i ++ g i)

-- the first one, and the others
pub faultless_first : (u : Use) (us : List Use) → AreFaultless (u ∷ us) → (faults_of u ≡ []) × AreFaultless us
faultless_first u us h = none_of (faults_of u) (flat_map faults_of us) h

pub faultless_more : (u : Use) (us : List Use) → faults_of u ≡ [] → AreFaultless us → AreFaultless (u ∷ us)
faultless_more u us h g = λ i. h i ++ g i

-- ---- names of variables

pub read_faultless : (at : ℕ) (o : Option Entity) (v : Var) (array : Bool) → o ≡ Some (Variable v array false) → faults_of (Read at o array) ≡ []
read_faultless at o v array is = ap (λ e. faults_of (Read at e array)) is ∙ read array
  where
    read : (array : Bool) → faults_of (Read at (Some (Variable v array false)) array) ≡ []
    read true = refl
    read false = refl

pub assigned_faultless : (at : ℕ) (o : Option Entity) (v : Var) (array : Bool) → o ≡ Some (Variable v array false) → faults_of (Assigned at o array) ≡ []
assigned_faultless at o v array is = ap (λ e. faults_of (Assigned at e array)) is ∙ assigned array
  where
    assigned : (array : Bool) → faults_of (Assigned at (Some (Variable v array false)) array) ≡ []
    assigned true = refl
    assigned false = refl

-- ---- other uses at another place

elsewhere : (b : Bool) (k : FaultKind) (from to : ℕ) (xs ys : List PlacedFault) → where_true b k from ++ xs ≡ [] → (xs ≡ [] → ys ≡ []) → where_true b k to ++ ys ≡ []
elsewhere true k from to xs ys h rest = absurd (cc)
elsewhere false k from to xs ys h rest = rest h

alone : (b : Bool) (k : FaultKind) (from to : ℕ) → where_true b k from ≡ [] → where_true b k to ≡ []
alone true k from to h = absurd (cc)
alone false k from to h = refl

pub declared_elsewhere : (from to : ℕ) (again : Bool) → faults_of (Declared from again) ≡ [] → faults_of (Declared to again) ≡ []
declared_elsewhere from to true h = absurd (cc)
declared_elsewhere from to false h = refl

pub left_elsewhere : (from to : ℕ) (looped : Bool) → faults_of (Left from looped) ≡ [] → faults_of (Left to looped) ≡ []
left_elsewhere from to true h = refl
left_elsewhere from to false h = absurd (cc)

pub returned_elsewhere : (from to : ℕ) (value result : Bool) → faults_of (Returned from value result) ≡ [] → faults_of (Returned to value result) ≡ []
returned_elsewhere from to value result h =
    elsewhere (if value then not result else result) NoValue from to [] [] h (λ e. e)

pub sized_elsewhere : (from to n : ℕ) (list : Option ℕ) (local : Bool) → faults_of (Sized from n list local) ≡ [] → faults_of (Sized to n list local) ≡ []
sized_elsewhere from to n list local h =
    let last : List PlacedFault = where_true (local && is_none list) NoInit from in
    elsewhere (not (nat_le 1 n && nat_le n 64) || option_map_or (nat_lt n) list false) ArrayLength from to last (where_true (local && is_none list) NoInit to) h (alone (local && is_none list) NoInit from to)

pub called_elsewhere : (from to : ℕ) (o : Option Entity) (n : ℕ) (is_used : Bool) (caller : ℕ) → faults_of (Called from o n is_used caller) ≡ [] → faults_of (Called to o n is_used caller) ≡ []
called_elsewhere from to None n is_used caller h = absurd (cc)
called_elsewhere from to (Some (Variable v array constant)) n is_used caller h = absurd (cc)
called_elsewhere from to (Some (Function g params r)) n is_used caller h =
    elsewhere (not (n == params)) Arity from to _ _ h (λ more. elsewhere (is_used && is_none r) NoValue from to _ _ more (λ last. elsewhere (nat_le caller g) LaterCall from to [] [] last (λ e. e)))
