-- Why the literals of a trail are true.
use Rattle.std.specs.Prelude.{
  ◌≡◌,
  ℕ,
  ◌-◌,
  ◌<◌,
  ◌≢◌,
  ℤ,
  neg_ℤ,
  List,
  length,
  take,
  None,
  All,
  AllPairs,
  Contains,
  IsSomeAnd,
  MatchOption,
  slice_get,
}
use Rattle.std.specs.List.{slice_index_or}
use Rattle.cnf_form.specs.Literals.{NamesOnce}
use Rattle.rup_check.specs.Trail.{IsWithin}
use Rattle.search_tables.specs.Trail.{Trail, literal_at}

-- the clause has the literal, and its other literals were made false before
pub record IsReason (literals : List ℤ) (l : ℤ) (before : List ℤ) : Type 0 where
  pub named : Contains literals l
  pub others : All (λ m. m ≢ l → Contains before (neg_ℤ m)) literals

-- a known clause of this number has the property
abbrev pub IsKnownAnd : List (List ℤ) → ℕ → (List ℤ → Type 0) → Type 0
IsKnownAnd known number P = IsSomeAnd (slice_get known number) P

-- at the place stands a decision, or a literal that a known clause made true
abbrev pub IsSupported : List (List ℤ) → Trail → List ℕ → ℕ → Type 0
IsSupported known trail starts p =
    MatchOption (slice_index_or trail.reasons p None) (Contains starts p)
    (λ number. IsKnownAnd known number (λ literals. IsReason literals (literal_at trail.literals p)
    (take p trail.literals)))

-- a trail over the known clauses, with the places of its decisions
pub record IsSound (known : List (List ℤ)) (trail : Trail) (starts : List ℕ) : Type 0 where
  pub aligned : length trail.reasons ≡ length trail.literals
  pub apart : NamesOnce trail.literals
  pub within : All (IsWithin trail.variables) trail.literals
  pub supported : (p : ℕ) → p < length trail.literals → IsSupported known trail starts p
  pub rising : AllPairs (λ one other. one < other) starts
  pub below : All (λ s. s < length trail.literals) starts

-- where the last level begins
abbrev pub last_start : List ℕ → ℕ
last_start starts = slice_index_or starts (length starts - 1) 0
