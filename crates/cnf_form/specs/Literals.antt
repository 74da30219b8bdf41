-- Literals and clauses.
use Rattle.std.specs.Prelude.{ℕ, ℤ, List, ◌<◌, ◌≤◌, ◌≢◌, unsigned_abs, All, AllPairs}

-- the greatest number of variables, of clauses and of lines
abbrev pub most : ℕ
most = 2147483647

-- a literal is a variable, counted from 1, or its negation: the variable's number, or that number negated
abbrev pub IsLiteral : ℤ → Type 0
IsLiteral l = (0 < unsigned_abs l) × (unsigned_abs l ≤ most)

-- no two literals are of one variable
abbrev pub NamesOnce : List ℤ → Type 0
NamesOnce literals = AllPairs (λ one other. unsigned_abs one ≢ unsigned_abs other) literals

-- a clause is a list of literals, no two of one variable
pub record IsClause (literals : List ℤ) : Type 0 where
  pub each : All IsLiteral literals
  pub once : NamesOnce literals

-- each of these lists is a clause
pub record AreClauses (clauses : List (List ℤ)) : Type 0 where
  pub each : All IsClause clauses

-- no literal is of a variable above the number of variables
abbrev pub NamesUpTo : ℕ → List ℤ → Type 0
NamesUpTo variables literals = All (λ l. unsigned_abs l ≤ variables) literals
