-- What the limit of one edge says of the vectors in a box.
use Rattle.std.proofs.Common.{◌≡◌, ◌≤◌, ◌<◌, ℕ, zero, suc, List, [], ◌∷◌, length, get_or, Option, Some, None, arith}
use Rattle.std.specs.Prelude.{slice_get, IsSomeAnd}
use Rattle.std.specs.List.{AllZip}
use Rattle.race_item.specs.Lists.{EachOf}
use Rattle.count_box.proofs.Limits.{AllZip-at}
use Rattle.count_box.proofs.Kept.{Holds}
use Rattle.plain_laws.proofs.Zips.{AllZip-length}

-- there is a count, and it is so
pub count_is : (P : ℕ → Type 0) (x : List ℕ) (e : ℕ) → IsSomeAnd (slice_get x e) P → (e < length x) × P (get_or x e 0)
count_is P [] e h = absurd h
count_is P (n ∷ x) zero h = (omega arith, h)
count_is P (n ∷ x) (suc e) h =
    let rest = count_is P x e h in
    (omega (arith, rest.0), rest.1)

-- no vector of the box has a count beyond the edges
pub outside : (P : ℕ → Type 0) (ls : List (ℕ × ℕ)) (x : List ℕ) (e : ℕ) → AllZip Holds ls x → length ls ≤ e → IsSomeAnd (slice_get x e) P → ⊥
outside P ls x e inside beyond has =
    let there = count_is P x e has in
    omega (arith, AllZip-length Holds ls x inside, beyond, there.0)

-- the count lies within the limit, and is so
pub at_place : (P : ℕ → Type 0) (ls : List (ℕ × ℕ)) (x : List ℕ) (e : ℕ) → AllZip Holds ls x → IsSomeAnd (slice_get x e) P → Holds (get_or ls e (0, 0)) (get_or x e 0) × P (get_or x e 0)
at_place P ls x e inside has =
    let there = count_is P x e has in
    (AllZip-at Holds ls x e (0, 0) 0 inside (omega (arith, AllZip-length Holds ls x inside, there.0)), there.1)

-- both halves of a limit
pub least_of : (lo hi : ℕ) (o : Option ℕ) → IsSomeAnd o (λ n. (lo ≤ n) × (n ≤ hi)) → IsSomeAnd o (λ n. lo ≤ n)
least_of lo hi None h = absurd h
least_of lo hi (Some n) h = h.0

pub most_of : (lo hi : ℕ) (o : Option ℕ) → IsSomeAnd o (λ n. (lo ≤ n) × (n ≤ hi)) → IsSomeAnd o (λ n. n ≤ hi)
most_of lo hi None h = absurd h
most_of lo hi (Some n) h = h.1

-- an element of a list of which each is so
pub each_at : {X : Type 0} (P : X → Type 0) (xs : List X) (j : ℕ) (d : X) → EachOf P xs → j < length xs → P (get_or xs j d)
each_at P [] j d each h = absurd (omega (arith, h))
each_at P (x ∷ xs) zero d each h = each.0
each_at P (x ∷ xs) (suc j) d each h = each_at P xs j d each.1 (omega arith)

-- the counts of a vector that is at least another
pub least_at : (x least : List ℕ) (e : ℕ) → AllZip (λ n m. m ≤ n) x least → e < length least → IsSomeAnd (slice_get x e) (λ n. get_or least e 0 ≤ n)
least_at [] [] e each h = absurd (omega (arith, h))
least_at [] (m ∷ least) e each h = absurd each
least_at (n ∷ x) [] e each h = absurd each
least_at (n ∷ x) (m ∷ least) zero each h = each.0
least_at (n ∷ x) (m ∷ least) (suc e) each h = least_at x least e each.1 (omega arith)
