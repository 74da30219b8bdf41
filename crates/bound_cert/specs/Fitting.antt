-- Which multipliers may be used with rows.
use Rattle.std.specs.Prelude.{ℤ, pos, ◌≤ℤ◌}
use Rattle.std.specs.List.{AllZip}
use Rattle.lin_rows.specs.declared.multipliers.Multipliers.{Multipliers}
use Rattle.lin_rows.specs.declared.row.RowKind.{RowKind}
use Rattle.lin_rows.specs.declared.row.RowKind.TheVariants.{AtMost, Equal}
use Rattle.lin_rows.specs.declared.row.Rows.{Rows}

-- a row that is at most its right side takes a multiplier that is not negative
abbrev pub Takes : RowKind → ℤ → Type 0
Takes AtMost y = pos 0 ≤ℤ y
Takes Equal y = Unit {0}

-- d is at least 1, and there is one multiplier a row, each of which its row takes
pub record FitsRows (rows : Rows) (by : Multipliers) : Type 0 where
  pub divisor : pos 1 ≤ℤ by.d
  pub each : AllZip (λ row y. Takes row.kind y) rows.rows by.y
