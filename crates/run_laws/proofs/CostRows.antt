-- A table of rows whose numbers are less than 2^32.
use Rattle.std.proofs.Common.{◌≡◌, ◌<◌, ◌^◌, ℕ, zero, suc, List, [], ◌∷◌, length, get_or, refl, sym, subst, arith}
use Rattle.std.specs.Prelude.{slice_get, unwrap_or, option_and_then}
use Rattle.std.proofs.lemmas.Option.{slice_get_read}

abbrev pub SmallAt : List (List ℕ) → ℕ → Type 0
SmallAt rows i = (n : ℕ) → unwrap_or (option_and_then (λ row. slice_get row n) (slice_get rows i)) 0 < 2 ^ 32

-- past the rows there is no number
pub all_small : (rows : List (List ℕ)) → ((i : ℕ) → i < length rows → SmallAt rows i) → (i : ℕ) → SmallAt rows i
all_small [] h i n = omega arith
all_small (r ∷ rows) h zero n = h 0 (omega arith) n
all_small (r ∷ rows) h (suc i) n = all_small rows (λ i lt. h (suc i) (omega (arith, lt))) i n

pub small_row : (rows : List (List ℕ)) (i : ℕ) (row numbers : List ℕ) → i < length rows → row ≡ get_or rows i row → numbers ≡ row → ((n : ℕ) → unwrap_or (slice_get numbers n) 0 < 2 ^ 32) → SmallAt rows i
small_row rows i row numbers lt is same small n =
    let here = slice_get_read rows (length rows) i row refl lt is in
    subst (λ o. unwrap_or (option_and_then (λ row. slice_get row n) o) 0 < 2 ^ 32) (sym here) (subst (λ row. unwrap_or (slice_get row n) 0 < 2 ^ 32) same (small n))
