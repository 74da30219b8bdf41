-- Numbers that bytes write.
use Rattle.std.specs.Prelude.{◌≡◌, ◌≢◌, ◌<◌, ◌^◌, ℕ, List, Option, MatchOption}
use Rattle.std.specs.Fmt.{decimal}

-- the answer is the number of 128 bits that the bytes write, if there is one
abbrev pub IsNumberOf : List ℕ → Option ℕ → Type 0
IsNumberOf bytes answer =
    MatchOption answer ((n : ℕ) → n < 2 ^ 128 → bytes ≢ decimal n) (λ n. (n < 2 ^ 128) × (bytes ≡ decimal n))
