-- Numbers that bytes write.
use Rattle.std.specs.Prelude.{◌≡◌, ◌≢◌, ◌≤◌, ℕ, ℤ, List, Option, MatchOption, unsigned_abs}
use Rattle.std.specs.Fmt.{decimal, signed_decimal}
use Rattle.cnf_form.specs.Literals.{most}

-- the answer is the number up to `limit` that the bytes write, if there is one
abbrev pub IsNumberOf : ℕ → List ℕ → Option ℕ → Type 0
IsNumberOf limit bytes answer =
    MatchOption answer ((n : ℕ) → n ≤ limit → bytes ≢ decimal n) (λ n. (n ≤ limit) × (bytes ≡ decimal n))

-- the same of an integer with this magnitude at most
abbrev pub IsIntegerOf : List ℕ → Option ℤ → Type 0
IsIntegerOf bytes answer =
    MatchOption answer ((z : ℤ) → unsigned_abs z ≤ most → bytes ≢ signed_decimal z) (λ z. (unsigned_abs z ≤ most)
    × (bytes ≡ signed_decimal z))
