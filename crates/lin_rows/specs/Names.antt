-- Which edges the terms of a row name.
use Rattle.std.specs.Prelude.{ℕ, ℤ, List, ◌<◌, ◌≢◌, All, AllPairs}

-- each term names an edge below the number of edges
abbrev pub NamesBelow : ℕ → List (ℕ × ℤ) → Type 0
NamesBelow edges terms = All (λ term. term.0 < edges) terms

-- no two terms name one edge
abbrev pub NamesOnce : List (ℕ × ℤ) → Type 0
NamesOnce terms = AllPairs (λ one other. one.0 ≢ other.0) terms
