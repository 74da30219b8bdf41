-- Names no two of which are the same.
use Rattle.std.proofs.Common.{◌≡◌, ℕ, zero, suc, List, [], ◌∷◌, ◌++◌, map, Some, refl, sym, ap, ◌∙◌}
use Rattle.std.specs.Prelude.{slice_get}

-- a name is none of these
abbrev pub IsNew : List ℕ → List (List ℕ) → Type 0
IsNew name [] = Unit {0}
IsNew name (n ∷ ns) = (name ≡ n → ⊥) × IsNew name ns

-- each name is none of those behind it
abbrev pub AreDifferent : List (List ℕ) → Type 0
AreDifferent [] = Unit {0}
AreDifferent (n ∷ ns) = IsNew n ns × AreDifferent ns

-- each of some names is none of others
abbrev pub AreNew : List (List ℕ) → List (List ℕ) → Type 0
AreNew [] ns = Unit {0}
AreNew (m ∷ ms) ns = IsNew m ns × AreNew ms ns

-- ---- one after the other

pub new_append : (name : List ℕ) (ms ns : List (List ℕ)) → IsNew name ms → IsNew name ns → IsNew name (ms ++ ns)
new_append name [] ns h g = g
new_append name (m ∷ ms) ns h g = (h.0, new_append name ms ns h.1 g)

pub new_parts : (name : List ℕ) (ms ns : List (List ℕ)) → IsNew name (ms ++ ns) → IsNew name ms × IsNew name ns
new_parts name [] ns h = (tt, h)
new_parts name (m ∷ ms) ns h = let rest = new_parts name ms ns h.1 in ((h.0, rest.0), rest.1)

-- names that are none of some and of one more
pub are_new_parts : (ms ns : List (List ℕ)) (name : List ℕ) → AreNew ms (ns ++ name ∷ []) → AreNew ms ns × IsNew name ms
are_new_parts [] ns name h = (tt, tt)
are_new_parts (m ∷ ms) ns name h =
    let first = new_parts m ns (name ∷ []) h.0 in
    let rest = are_new_parts ms ns name h.1 in
    ((first.0, rest.0), (λ same. first.1.0 (sym same), rest.1))

-- one more name in the middle
pub different_middle : (name : List ℕ) (ms ns : List (List ℕ)) → IsNew name (ms ++ ns) → AreDifferent (ms ++ ns) → AreDifferent (ms ++ name ∷ ns)
different_middle name [] ns new h = (new, h)
different_middle name (m ∷ ms) ns new h =
    let parts = new_parts m ms ns h.0 in
    (new_append m ms (name ∷ ns) parts.0 (λ same. new.0 (sym same), parts.1), different_middle name ms ns new.1 h.1)

-- a name is none of those before it
pub new_at_seam : (name : List ℕ) (ms ns : List (List ℕ)) → AreDifferent (ms ++ name ∷ ns) → IsNew name ms
new_at_seam name [] ns h = tt
new_at_seam name (m ∷ ms) ns h =
    let parts = new_parts m ms (name ∷ ns) h.0 in (λ same. parts.1.0 (sym same), new_at_seam name ms ns h.1)

-- ---- at their places

pub new_at : {A : Type 0} (f : A → List ℕ) (name : List ℕ) (xs : List A) (n : ℕ) (x : A) → IsNew name (map f xs) → slice_get xs n ≡ Some x → name ≡ f x → ⊥
new_at f name [] n x h at same = absurd (cc)
new_at f name (y ∷ ys) zero x h at same = let here : y ≡ x = cc in h.0 (same ∙ ap f (sym here))
new_at f name (y ∷ ys) (suc n) x h at same = new_at f name ys n x h.1 at same

-- a name is that of one place
pub same_place : {A : Type 0} (f : A → List ℕ) (xs : List A) (m n : ℕ) (x y : A) → AreDifferent (map f xs) → slice_get xs m ≡ Some x → slice_get xs n ≡ Some y → f x ≡ f y → m ≡ n
same_place f [] m n x y h at there same = absurd (cc)
same_place f (z ∷ zs) zero zero x y h at there same = refl
same_place f (z ∷ zs) zero (suc n) x y h at there same =
    let here : z ≡ x = cc in absurd (new_at f (f z) zs n y h.0 there (ap f here ∙ same))
same_place f (z ∷ zs) (suc m) zero x y h at there same =
    let here : z ≡ y = cc in absurd (new_at f (f z) zs m x h.0 at (ap f here ∙ sym same))
same_place f (z ∷ zs) (suc m) (suc n) x y h at there same = ap suc (same_place f zs m n x y h.1 at there same)

-- no name of the first is one of the others
pub apart_at : {A B : Type 0} (f : A → List ℕ) (g : B → List ℕ) (xs : List A) (ys : List B) (m n : ℕ) (x : A) (y : B) → AreDifferent (map f xs ++ map g ys) → slice_get xs m ≡ Some x → slice_get ys n ≡ Some y → f x ≡ g y → ⊥
apart_at f g [] ys m n x y h at there same = absurd (cc)
apart_at f g (z ∷ zs) ys zero n x y h at there same =
    let here : z ≡ x = cc in
    new_at g (f z) ys n y (new_parts (f z) (map f zs) (map g ys) h.0).1 there (ap f here ∙ same)
apart_at f g (z ∷ zs) ys (suc m) n x y h at there same = apart_at f g zs ys m n x y h.1 at there same

pub different_parts : (ms ns : List (List ℕ)) → AreDifferent (ms ++ ns) → AreDifferent ms × AreDifferent ns
different_parts [] ns h = (tt, h)
different_parts (m ∷ ms) ns h =
    let rest = different_parts ms ns h.1 in (((new_parts m ms ns h.0).0, rest.0), rest.1)
