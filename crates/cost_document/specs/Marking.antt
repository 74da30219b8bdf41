-- How the numbers of a function are marked. This project's own.
use Rattle.std.specs.Prelude.{◌≡◌, ◌≢◌, ◌<◌, ◌^◌, ℕ, Bool, true, List, set, Option, Some, None, MatchOption}
use Rattle.cost_document.specs.Documents.{numbered_name}

-- the number, where there is one and it has a place
abbrev pub marked : List Bool → Option ℕ → List Bool
marked held None = held
marked held (Some number) = set held number true

-- the number whose name the key is, where it is one of the function
abbrev pub IsNumberOfKey : List ℕ → List ℕ → Option ℕ → Type 0
IsNumberOfKey key function found =
    MatchOption found ((number : ℕ) → number < 2 ^ 64 → key ≢ numbered_name function number) (λ number. (number < 2 ^ 64) × (key ≡ numbered_name function number))
