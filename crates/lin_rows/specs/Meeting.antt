-- What it means that a vector of counts meets rows, and the written order of the test.
use Rattle.std.specs.Prelude.{◌≡◌, ℕ, ℤ, pos, ◌*ℤ◌, ◌≤ℤ◌, List, map, slice_index, All}
use Rattle.std.specs.List.{flat_map}
use Rattle.lin_rows.specs.declared.row.RowKind.{RowKind}
use Rattle.lin_rows.specs.declared.row.RowKind.TheVariants.{AtMost, Equal}
use Rattle.lin_rows.specs.declared.row.Row.{Row}
use Rattle.lin_rows.specs.declared.row.Rows.{Rows}
use Rattle.lin_rows.specs.Steps.{total, addition_steps}

-- factor times count, term by term
abbrev pub products : List (ℕ × ℤ) → List ℕ → List ℤ
products terms x = map (λ term. term.1 *ℤ pos (slice_index x term.0)) terms

-- the left side of a row at the vector x
abbrev pub left_side : List (ℕ × ℤ) → List ℕ → ℤ
left_side terms x = total (products terms x)

-- how two sides compare
abbrev pub Compares : RowKind → ℤ → ℤ → Type 0
Compares AtMost left right = left ≤ℤ right
Compares Equal left right = left ≡ right

-- the vector meets a row
abbrev pub MeetsRow : List ℕ → Row → Type 0
MeetsRow x row = Compares row.kind (left_side row.terms x) row.right

-- the vector meets every row
abbrev pub Meets : Rows → List ℕ → Type 0
Meets rows x = All (MeetsRow x) rows.rows

-- ---- the written order

-- a left side is summed term by term from 0
abbrev pub left_side_steps : List (ℕ × ℤ) → List ℕ → List ℤ
left_side_steps terms x = addition_steps (pos 0) (products terms x)

-- every row is summed, in order
abbrev pub meeting_steps : Rows → List ℕ → List ℤ
meeting_steps rows x = flat_map (λ row. left_side_steps row.terms x) rows.rows
