-- The keys of a table ascend, so the first in byte order at which a test is true is the first that a walk meets.
use Rattle.std.proofs.Common.{◌≡◌, ℕ, Bool, true, false, List, [], ◌∷◌, Option, Some, None, String, Global, Less, string_bytes, nat_cmp, refl, sym, ap, subst, ◌∙◌, if◌then◌else◌}
use Rattle.std.specs.List.{AllByRecursion}
use Rattle.std.specs.List.Sorted.{IsStrictlySortedBy}
use Rattle.std.specs.Map.{keys_of}
use Rattle.std.specs.Ordering.{is_gt}
use Rattle.std.specs.String.{string_cmp}
use Rattle.std.specs.Cmp.Lexicographic.{slice_cmp}
use Rattle.toml.specs.declared.value.Value.{Value}
use Rattle.toml.specs.Data.{Data}
use Rattle.toml.specs.View.{view, members_view}
use Rattle.cost_document.specs.Documents.{earlier, first_key}

abbrev pub Entry : Type 0
Entry = String Global × Value

-- what is left of a walk ascends, and has the first key of the whole
pub record Keeps (test : List ℕ → Data → Bool) (all left : List Entry) : Type 0 where
  pub ordered : IsStrictlySortedBy string_cmp (keys_of left)
  pub same : first_key test (members_view left) ≡ first_key test (members_view all)

pub begins : (test : List ℕ → Data → Bool) (all left : List Entry) → left ≡ all → IsStrictlySortedBy string_cmp (keys_of all) → Keeps test all left
begins test all left is ordered = record { ordered = rw is ordered; same = ap (λ es. first_key test (members_view es)) is }

-- a key before all the others is the earlier
first_of_one : (key other : List ℕ) → slice_cmp nat_cmp key other ≡ Less → (if is_gt (slice_cmp nat_cmp key other) then other else key) ≡ key
first_of_one key other before = rw before

first_of_two : (passes last : Bool) (key other rest : List ℕ) → slice_cmp nat_cmp key other ≡ Less → earlier key (Some rest) ≡ key
    → earlier key (if passes then Some (if last then rest else other) else Some rest) ≡ key
first_of_two false last key other rest before same = same
first_of_two true true key other rest before same = same
first_of_two true false key other rest before same = first_of_one key other before

first_of_more : (passes : Bool) (key other : List ℕ) (found : Option (List ℕ)) → slice_cmp nat_cmp key other ≡ Less → earlier key found ≡ key
    → earlier key (if passes then Some (earlier other found) else found) ≡ key
first_of_more true key other None before same = first_of_one key other before
first_of_more false key other None before same = refl
first_of_more passes key other (Some rest) before same = first_of_two passes (is_gt (slice_cmp nat_cmp other rest)) key other rest before same

first_of : (key : String Global) (test : List ℕ → Data → Bool) (es : List Entry) → AllByRecursion (λ other. string_cmp key other ≡ Less) (keys_of es)
    → earlier (string_bytes key) (first_key test (members_view es)) ≡ string_bytes key
first_of key test [] before = refl
first_of key test (e ∷ es) before =
    first_of_more (test (string_bytes e.0) (view e.1)) (string_bytes key) (string_bytes e.0) (first_key test (members_view es)) before.0 (first_of key test es before.1)

-- ---- one step of the walk

-- the walk meets a key at which the test is true
pub found : (test : List ℕ → Data → Bool) (all left rest : List Entry) (e : Entry) → Keeps test all left → left ≡ e ∷ rest → test (string_bytes e.0) (view e.1) ≡ true
    → first_key test (members_view all) ≡ Some (string_bytes e.0)
unfolding IsStrictlySortedBy
found test all left rest e keeps is passes =
    let order : IsStrictlySortedBy string_cmp (keys_of (e ∷ rest)) = subst (λ es. IsStrictlySortedBy string_cmp (keys_of es)) is keeps.ordered in
    let here : first_key test (members_view (e ∷ rest)) ≡ Some (string_bytes e.0) = rw passes (ap Some (first_of e.0 test rest order.0)) in
    sym keeps.same ∙ ap (λ es. first_key test (members_view es)) is ∙ here

-- or goes on
pub goes_on : (test : List ℕ → Data → Bool) (all left rest : List Entry) (e : Entry) → Keeps test all left → left ≡ e ∷ rest → test (string_bytes e.0) (view e.1) ≡ false
    → Keeps test all rest
unfolding IsStrictlySortedBy
goes_on test all left rest e keeps is fails =
    let order : IsStrictlySortedBy string_cmp (keys_of (e ∷ rest)) = subst (λ es. IsStrictlySortedBy string_cmp (keys_of es)) is keeps.ordered in
    let here : first_key test (members_view (e ∷ rest)) ≡ first_key test (members_view rest) = rw fails in
    record { ordered = order.1; same = sym here ∙ sym (ap (λ es. first_key test (members_view es)) is) ∙ keeps.same }
