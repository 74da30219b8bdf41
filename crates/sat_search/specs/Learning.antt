-- What a conflict teaches.
use Rattle.std.specs.Prelude.{
  ◌≡◌,
  ℕ,
  ◌-◌,
  ◌<◌,
  ◌≤◌,
  ℤ,
  neg_ℤ,
  List,
  length,
  take,
  map,
  Bool,
  Some,
  None,
  All,
  AllPairs,
  IsSomeAnd,
  IfSome,
}
use Rattle.std.specs.List.{slice_index_or}
use Rattle.rup_check.specs.Follows.{Leads}
use Rattle.search_tables.specs.Trail.{Trail, literal_at}
use Rattle.sat_search.specs.Sound.{IsReason, IsKnownAnd}
use Rattle.search_tables.specs.Marking.{IsSeen}

-- at the place stands a literal that a known clause made true
abbrev pub IsReasoned : List (List ℤ) → Trail → ℕ → Type 0
IsReasoned known trail p =
    IsSomeAnd (slice_index_or trail.reasons p None)
    (λ number. IsKnownAnd known number (λ literals. IsReason literals (literal_at trail.literals p)
    (take p trail.literals)))

-- where the literal at the place has a reason, that is one
abbrev pub IfReasoned : List (List ℤ) → Trail → ℕ → Type 0
IfReasoned known trail p =
    IfSome (slice_index_or trail.reasons p None)
    (λ number. IsKnownAnd known number (λ literals. IsReason literals (literal_at trail.literals p)
    (take p trail.literals)))

-- the clause of this number made the literal at the place true, and all its variables are marked
pub record IsMarkedReason (known : List (List ℤ)) (trail : Trail) (p : ℕ) (seen : List Bool) (number : ℕ) : Type 0 where
  pub is : slice_index_or trail.reasons p None ≡ Some number
  pub marked : IsKnownAnd known number (λ literals. IsReason literals (literal_at trail.literals p)
      (take p trail.literals) × All (IsSeen seen) literals)

-- a clause of the negated literals at some places of a trail, the last place first, none of them before `low`
pub record IsOfPlaces (literals : List ℤ) (low : ℕ) (clause : List ℤ) (places : List ℕ) : Type 0 where
  pub is : clause ≡ map (λ q. neg_ℤ (literal_at literals q)) places
  pub falling : AllPairs (λ one other. other < one) places
  pub inside : All (λ q. q < length literals) places
  pub above : All (λ q. low ≤ q) places

-- the first place is at `from` or behind it, and the others are before it
pub record IsAsserting (from : ℕ) (places : List ℕ) : Type 0 where
  pub some : 0 < length places
  pub first : from ≤ slice_index_or places 0 0
  pub others : (k : ℕ) → 0 < k → k < length places → slice_index_or places k 0 < from

-- a clause that a conflict teaches: it has one literal of the level that begins at `from`, its first one; and the hints
-- lead on from its negated literals
pub record IsLearned (known : List (List ℤ)) (literals : List ℤ) (from : ℕ) (clause : List ℤ) (hints : List ℕ) : Type 0
  where
    pub places : List ℕ
    pub listed : IsOfPlaces literals 0 clause places
    pub asserting : IsAsserting from places
    pub leads : Leads known (map neg_ℤ clause) hints

-- where the search goes back to: all literals of the clause but the first are false before that level, and not before
-- an earlier one
pub record GoesBack (starts : List ℕ) (places : List ℕ) (back : ℕ) : Type 0 where
  pub there : back < length starts
  pub others : (k : ℕ) → 0 < k → k < length places → slice_index_or places k 0 < slice_index_or starts back 0
  pub tight : 0 < back → (1 < length places) × (slice_index_or starts (back - 1) 0 ≤ slice_index_or places 1 0)
