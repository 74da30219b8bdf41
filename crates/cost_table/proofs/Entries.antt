-- What a key of a table holds, against a walk over its keys.
use Rattle.std.proofs.Common.{◌≡◌, ℕ, Bool, true, false, not, ◌&&◌, List, Option, Some, None, Ordering, Less, Equal, Greater, nat_cmp, if◌then◌else◌, refl, sym, ap, subst, ◌∙◌}
use Rattle.std.specs.Prelude.{is_some}
use Rattle.std.specs.Ordering.{match_ordering}
use Rattle.std.specs.Cmp.{tied_itself}
use Rattle.std.specs.Cmp.Lexicographic.{slice_cmp}
use Rattle.std.proofs.lemmas.Cmp.{nat_list_cmp_total}
use Rattle.toml.specs.Data.{Data, Members, no_members, member, get_member}
use Rattle.cost_document.specs.Documents.{earlier, first_key}
use Rattle.cost_document.proofs.Reading.{equal_is}
use Rattle.plain_laws.proofs.Booleans.{and-true}

-- ---- no key fails, so what a key holds does not

passed : {A : Type 0} (fails : Bool) (a : A) (rest : Option A) → (if fails then Some a else rest) ≡ None → (fails ≡ false) × (rest ≡ None)
passed false a rest none = (refl, none)
passed true a rest none = absurd (cc)

at_key : (test : List ℕ → Data → Bool) (name key : List ℕ) (held d : Data) (found : Option Data) (o : Ordering) → slice_cmp nat_cmp name key ≡ o
    → test key held ≡ false → (found ≡ Some d → test name d ≡ false) → match_ordering o found (Some held) found ≡ Some d → test name d ≡ false
at_key test name key held d found Less is here rest holds = rest holds
at_key test name key held d found Greater is here rest holds = rest holds
at_key test name key held d found Equal is here rest holds =
    let same : held ≡ d = cc in
    subst (λ x. test name x ≡ false) same (subst (λ k. test k held ≡ false) (sym (equal_is name key is)) here)

pub none_fails : (test : List ℕ → Data → Bool) (ms : Members) (name : List ℕ) (d : Data) → first_key test ms ≡ None → get_member name ms ≡ Some d → test name d ≡ false
none_fails test no_members name d none holds = absurd (cc)
none_fails test (member key held ms) name d none holds =
    let parts = passed (test key held) (earlier key (first_key test ms)) (first_key test ms) none in
    at_key test name key held d (get_member name ms) (slice_cmp nat_cmp name key) refl parts.0 (none_fails test ms name d parts.1) holds

-- ---- two tests that agree at the keys of a table

own_key : (key : List ℕ) (d : Data) (ms : Members) → is_some (get_member key (member key d ms)) ≡ true
own_key key d ms = rw (tied_itself nat_list_cmp_total key)

still : (o : Ordering) (d : Data) (found : Option Data) → is_some found ≡ true → is_some (match_ordering o found (Some d) found) ≡ true
still Less d found some = some
still Equal d found some = refl
still Greater d found some = some

pub same_first_key : (test other : List ℕ → Data → Bool) (ms : Members) → ((key : List ℕ) (d : Data) → is_some (get_member key ms) ≡ true → test key d ≡ other key d)
    → first_key test ms ≡ first_key other ms
same_first_key test other no_members agree = refl
same_first_key test other (member key d ms) agree =
    let rest = same_first_key test other ms (λ k e some. agree k e (still (slice_cmp nat_cmp k key) d (get_member k ms) some)) in
    rw (agree key d (own_key key d ms), rest)

-- the names that are known, against those of all blocks
pub same_first_unknown : (es : Members) (known named : List ℕ → Bool) → ((key : List ℕ) → known key ≡ (named key && is_some (get_member key es)))
    → first_key (λ key d. not (known key)) es ≡ first_key (λ key d. not (named key)) es
same_first_unknown es known named is = same_first_key _ _ es (λ key d some. ap not (is key ∙ rw some (and-true (named key))))
