-- What it is to be the first key of a table in byte order.
use Rattle.std.specs.Prelude.{◌≡◌, ◌⊎◌, ℕ, List, Bool, true, false, Option}
use Rattle.std.specs.Option.{MatchOption}
use Rattle.std.specs.Ordering.{nat_cmp, is_lt}
use Rattle.std.specs.Cmp.Lexicographic.{slice_cmp}
use Rattle.toml.specs.Data.{Data, Members, no_members, member}

-- the table has this key, with this value
abbrev pub Holds : Members → List ℕ → Data → Type 0
Holds no_members key d = ⊥
Holds (member k e ms) key d = ((key ≡ k) × (d ≡ e)) ⊎ Holds ms key d

-- the test is true at this key, and at none before it in byte order
pub record IsFirstKey (test : List ℕ → Data → Bool) (ms : Members) (key : List ℕ) : Type 0 where
  pub passes : (d : Data) × Holds ms key d × (test key d ≡ true)
  pub first : (other : List ℕ) (d : Data) → Holds ms other d → test other d ≡ true
      → is_lt (slice_cmp nat_cmp other key) ≡ false

-- the test is false at each key
abbrev pub NoKeyPasses : (List ℕ → Data → Bool) → Members → Type 0
NoKeyPasses test ms = (key : List ℕ) (d : Data) → Holds ms key d → test key d ≡ false

abbrev pub IsFirstOrNone : (List ℕ → Data → Bool) → Members → Option (List ℕ) → Type 0
IsFirstOrNone test ms found = MatchOption found (NoKeyPasses test ms) (IsFirstKey test ms)
