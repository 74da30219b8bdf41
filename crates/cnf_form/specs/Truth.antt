-- Which assignments satisfy a formula.
use Rattle.std.specs.Prelude.{zero, suc, ℤ, pos, negsuc, List, Bool, false, not, All, IsTrue}
use Rattle.std.specs.List.{slice_index_or, list_any}

-- whether the assignment makes a literal true; the value of variable 1 stands first, and a variable past the list is
-- false (0 is no literal, and is never true)
abbrev pub literal_true : List Bool → ℤ → Bool
literal_true values (pos zero) = false
literal_true values (pos (suc n)) = slice_index_or values n false
literal_true values (negsuc n) = not (slice_index_or values n false)

-- whether it makes some literal of a clause true
abbrev pub clause_true : List Bool → List ℤ → Bool
clause_true values literals = list_any (literal_true values) literals

-- it satisfies a formula: it makes a literal of each clause true
abbrev pub Satisfies : List Bool → List (List ℤ) → Type 0
Satisfies values clauses = All (λ literals. IsTrue (clause_true values literals)) clauses

-- no assignment does
abbrev pub HasNoSolution : List (List ℤ) → Type 0
HasNoSolution clauses = (values : List Bool) → ¬ Satisfies values clauses
