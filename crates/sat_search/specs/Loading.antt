-- A search takes the clauses of its formula in.
use Rattle.std.specs.Prelude.{◌≡◌, ℕ, ◌<◌, ℤ, List, [], length}
use Rattle.cnf_form.specs.declared.cnf.Cnf.{Cnf}
use Rattle.rup_check.specs.Follows.{IsFalse}
use Rattle.search_tables.specs.declared.watches.Pair.{Pair}
use Rattle.search_tables.specs.Trail.{Trail}
use Rattle.sat_search.specs.Sound.{IsKnownAnd, IsSound}
use Rattle.search_tables.specs.Watching.{pair_at, IsWatching}
use Rattle.sat_search.specs.Guarded.{IsGuarded, clause_of}

-- the first i clauses are watched, and those of one literal are satisfied
pub record IsLoading (cnf : Cnf) (trail : Trail) (pairs : List Pair) (lists : List (List ℕ)) (i : ℕ) : Type 0 where
  pub variables : trail.variables ≡ cnf.variables
  pub sound : IsSound cnf.clauses trail []
  pub counted : length pairs ≡ i
  pub watching : IsWatching cnf.variables pairs lists
  pub guarded : (c : ℕ) → c < i → IsGuarded (clause_of cnf.clauses c) (pair_at pairs c) [] trail.literals

-- a clause of the formula is false without any decision
pub record IsRefuted (known : List (List ℤ)) (cnf : Cnf) (trail : Trail) (number : ℕ) : Type 0 where
  pub variables : trail.variables ≡ cnf.variables
  pub sound : IsSound known trail []
  pub conflict : IsKnownAnd known number (λ literals. IsFalse trail.literals literals)
