-- Clauses whose literals stand in one list.
use Rattle.std.specs.Prelude.{ℕ, ℤ, List, ◌≤◌, length, slice_range}
use Rattle.search_tables.specs.declared.clauses.Span.{Span}

-- the literals of the clause that stands there
abbrev pub span_literals : List ℤ → Span → List ℤ
span_literals literals span = slice_range literals span.start span.end

-- the clause stands in the list
pub record IsInside (literals : List ℤ) (span : Span) : Type 0 where
  pub ordered : span.start ≤ span.end
  pub within : span.end ≤ length literals
