-- Known clauses that are satisfied, or watched by two literals.
use Rattle.std.specs.Prelude.{◌≡◌, ◌≢◌, ◌⊎◌, ℕ, ◌<◌, ℤ, neg_ℤ, List, [], length, drop, Contains}
use Rattle.std.specs.List.{slice_index_or}
use Rattle.search_tables.specs.declared.watches.Pair.{Pair}
use Rattle.search_tables.specs.Entries.{list_of}
use Rattle.search_tables.specs.Watching.{pair_at, IsProper}

-- a literal of the clause was made true
pub record IsSatisfied (made clause : List ℤ) : Type 0 where
  pub literal : ℤ
  pub named : Contains clause literal
  pub holds : Contains made literal

-- two different literals of the clause are watched, and it is satisfied where one of them is false by what is done
pub record IsWatched (clause : List ℤ) (pair : Pair) (done made : List ℤ) : Type 0 where
  pub differ : pair.one ≢ pair.other
  pub one_named : Contains clause pair.one
  pub other_named : Contains clause pair.other
  pub one : Contains done (neg_ℤ pair.one) → IsSatisfied made clause
  pub other : Contains done (neg_ℤ pair.other) → IsSatisfied made clause

-- it is satisfied, or watched
abbrev pub IsGuarded : List ℤ → Pair → List ℤ → List ℤ → Type 0
IsGuarded clause pair done made = IsSatisfied made clause ⊎ IsWatched clause pair done made

-- known clause c
abbrev pub clause_of : List (List ℤ) → ℕ → List ℤ
clause_of known c = slice_index_or known c []

-- every known clause is satisfied, or watched
abbrev pub AreGuarded : List (List ℤ) → List Pair → List ℤ → List ℤ → Type 0
AreGuarded known pairs done made = (c : ℕ) → c < length known → IsGuarded (clause_of known c) (pair_at pairs c) done
    made

-- the clauses that watch a literal are satisfied, but for those that stand in its list from i on
abbrev pub IsPassing : List (List ℤ) → List Pair → List (List ℕ) → List ℤ → ℤ → ℕ → Type 0
IsPassing known pairs lists made falsified i =
    (c : ℕ) → IsProper pairs c → ((pair_at pairs c).one ≡ falsified) ⊎ ((pair_at pairs c).other ≡ falsified)
    → IsSatisfied made (clause_of known c) ⊎ Contains (drop i (list_of lists falsified)) c
