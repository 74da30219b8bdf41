-- Watched literals: which two each clause has, and the lists of clauses that watch a literal.
use Rattle.std.specs.Prelude.{◌≡◌, ◌≢◌, ◌⊎◌, ℕ, ◌+◌, ◌*◌, ◌<◌, ℤ, pos, List, [], ◌∷◌, ◌++◌, length, All, Contains}
use Rattle.std.specs.List.{slice_index_or}
use Rattle.rup_check.specs.Trail.{IsWithin}
use Rattle.search_tables.specs.declared.watches.Pair.{Pair}
use Rattle.search_tables.specs.Entries.{list_of}

-- a pair of no literals
abbrev pub no_pair : Pair
no_pair = record { one = pos 0; other = pos 0 }

-- the literals that clause c watches
abbrev pub pair_at : List Pair → ℕ → Pair
pair_at pairs c = slice_index_or pairs c no_pair

-- clause c is there, and two different literals of it are watched
pub record IsProper (pairs : List Pair) (c : ℕ) : Type 0 where
  pub there : c < length pairs
  pub differ : (pair_at pairs c).one ≢ (pair_at pairs c).other

-- two literals of each clause are watched, or one, where it has no other; and the list of a literal has the clauses of
-- the first sort that watch it
pub record IsWatching (variables : ℕ) (pairs : List Pair) (lists : List (List ℕ)) : Type 0 where
  pub sized : length lists ≡ 2 * variables + 2
  pub within : All (λ pair. IsWithin variables pair.one × IsWithin variables pair.other) pairs
  pub entries : (at c : ℕ) → Contains (slice_index_or lists at []) c → IsProper pairs c
  pub listed_one : (c : ℕ) → IsProper pairs c → Contains (list_of lists (pair_at pairs c).one) c
  pub listed_other : (c : ℕ) → IsProper pairs c → Contains (list_of lists (pair_at pairs c).other) c

-- a pair that clause n can watch in place of its own, which has the literal that became false: one of its literals is
-- new, and the other stays
pub record IsChange (pairs : List Pair) (n : ℕ) (falsified : ℤ) (pair : Pair) : Type 0 where
  pub differ : pair.one ≢ pair.other
  pub one : pair.one ≢ falsified
  pub other : pair.other ≢ falsified
  pub stays : (pair.other ≡ (pair_at pairs n).one) ⊎ (pair.other ≡ (pair_at pairs n).other)

-- the pair that a clause watches at first: its first two literals, or its only one twice
pub record IsPairOf (clause : List ℤ) (pair : Pair) : Type 0 where
  pub one : pair.one ≡ slice_index_or clause 0 (pos 0)
  pub other : 1 < length clause → pair.other ≡ slice_index_or clause 1 (pos 0)

-- one clause more is watched
pub record WatchesMore (variables : ℕ) (clause : List ℤ) (old new : List Pair) (lists : List (List ℕ)) : Type 0 where
  pub pair : Pair
  pub is : IsPairOf clause pair
  pub pushed : new ≡ old ++ pair ∷ []
  pub watching : IsWatching variables new lists
