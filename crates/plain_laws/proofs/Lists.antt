-- Elements and rests of lists, of two joined and of one that grew.
use Rattle.std.proofs.Common.{◌≡◌, ℕ, zero, suc, ◌+◌, ◌<◌, ◌≤◌, List, [], ◌∷◌, ◌++◌, length, drop, get_or, Option, Some, None, refl, sym, ap, ◌∙◌, arith, add-one, drop-cons, length-append}
use Rattle.std.specs.Prelude.{slice_get, slice_index}
use Rattle.std.proofs.lemmas.Option.{slice_get-get_or}

-- an element of the front stands at the same place in the whole
pub get-front : {X : Type 0} (xs ys : List X) (j : ℕ) (x : X) → slice_get xs j ≡ Some x → slice_get (xs ++ ys) j ≡ Some x
get-front [] ys j x h = absurd (cc)
get-front (y ∷ xs) ys zero x h = h
get-front (y ∷ xs) ys (suc j) x h = get-front xs ys j x h

-- a place below the length of the front has what the front has there
pub get-below : {X : Type 0} (xs ys : List X) (n : ℕ) → n < length xs → slice_get (xs ++ ys) n ≡ slice_get xs n
get-below [] ys n lt = absurd (omega (arith, lt))
get-below (x ∷ xs) ys zero lt = refl
get-below (x ∷ xs) ys (suc n) lt = get-below xs ys n (omega (arith, lt))

-- an element of the second list stands in the whole, later by the length of the first
pub get-second : {X : Type 0} (xs ys : List X) (j : ℕ) (x : X) → slice_get ys j ≡ Some x → slice_get (xs ++ ys) (length xs + j) ≡ Some x
get-second [] ys j x h = let z : 0 + j ≡ j = omega arith in ap (slice_get ys) z ∙ h
get-second (y ∷ xs) ys j x h =
    let z : length (y ∷ xs) + j ≡ suc (length xs + j) = omega arith in
    ap (slice_get ((y ∷ xs) ++ ys)) z ∙ get-second xs ys j x h

-- nothing stands past the end
pub get-past : {X : Type 0} (xs : List X) (n : ℕ) → slice_get xs (length xs + n) ≡ None
get-past [] n = refl
get-past (x ∷ xs) n =
    let e : length (x ∷ xs) + n ≡ suc (length xs + n) = omega arith in
    ap (slice_get (x ∷ xs)) e ∙ get-past xs n

-- what was put on stands where the list had ended
pub get-seam : {X : Type 0} (xs : List X) (x : X) → slice_get (xs ++ x ∷ []) (length xs + 0) ≡ Some x
get-seam [] x = refl
get-seam (y ∷ xs) x =
    let e : length (y ∷ xs) + 0 ≡ suc (length xs + 0) = omega arith in
    ap (slice_get ((y ∷ xs) ++ x ∷ [])) e ∙ get-seam xs x

pub get-last : {X : Type 0} (xs : List X) (x : X) → slice_get (xs ++ x ∷ []) (length xs) ≡ Some x
get-last [] x = refl
get-last (y ∷ xs) x = get-last xs x

-- what is read at a place below the length stands there
pub get-read : {X : Type 0} (xs : List X) (i : ℕ) (x : X) → i < length xs → x ≡ get_or xs i x → slice_get xs i ≡ Some x
get-read [] i x h e = absurd (omega (arith, h))
get-read (y ∷ xs) zero x h e = ap Some (sym e)
get-read (y ∷ xs) (suc i) x h e = get-read xs i x (omega (arith, h)) e

pub index-front : (xs ys : List ℕ) (n : ℕ) → n < length xs → slice_index (xs ++ ys) n ≡ slice_index xs n
index-front [] ys n h = absurd (omega arith)
index-front (x ∷ xs) ys zero h = refl
index-front (x ∷ xs) ys (suc n) h = index-front xs ys n (omega arith)

-- what is left from a place begins with the element that is read there
pub drop-read : {X : Type 0} (xs : List X) (i : ℕ) (x : X) → i < length xs → x ≡ get_or xs i x → drop i xs ≡ x ∷ drop (i + 1) xs
drop-read xs i x lt e = rw (add-one, drop-cons xs i x) (ap (λ y. y ∷ drop (suc i) xs) (sym e))

pub drop-number : (xs : List ℕ) (n : ℕ) → n < length xs → drop n xs ≡ get_or xs n 0 ∷ drop (n + 1) xs
drop-number xs n lt =
    let e = get_or xs n 0 in
    let both : Some e ≡ Some (get_or xs n e) = sym (slice_get-get_or xs n 0 lt) ∙ slice_get-get_or xs n e lt in
    let same : e ≡ get_or xs n e = cc in
    drop-read xs n e lt same

-- nothing is left from a place past the end
pub drop-past : {X : Type 0} (xs : List X) (i : ℕ) → length xs ≤ i → drop i xs ≡ []
drop-past [] zero h = refl
drop-past [] (suc i) h = refl
drop-past (x ∷ xs) zero h = absurd (omega (arith, h))
drop-past (x ∷ xs) (suc i) h = drop-past xs i (omega (arith, h))

pub length-push : {X : Type 0} (xs : List X) (x : X) → length (xs ++ x ∷ []) ≡ suc (length xs)
length-push [] x = refl
length-push (y ∷ xs) x = ap suc (length-push xs x)

-- two lists that are the same begin with the same and go on with the same
pub cons-parts : (a b : List ℕ) (x y : List (List ℕ)) → a ∷ x ≡ b ∷ y → (a ≡ b) × (x ≡ y)
cons-parts a b x y same = (cc, cc)
