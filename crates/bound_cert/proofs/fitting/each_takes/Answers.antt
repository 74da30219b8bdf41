use Rattle.std.proofs.Common.{ℤ}
use Rattle.std.proofs.lemmas.Bool.{false≢true}
use Rattle.lin_rows.specs.declared.row.Row.{Row}
use Rattle.bound_cert.specs.Fitting.{Takes}
use Rattle.bound_cert.proofs.fitting.each_takes.Goals as goal
use Rattle.plain_laws.proofs.Zips.{AllZip-length}

pub returns-then-rows-y : goal.returns-then-rows-y
returns-then-rows-y c =
    (λ yes. absurd (false≢true yes), λ each. absurd (c.if-rows-y.true (AllZip-length (λ (row : Row) (y : ℤ). Takes row.kind y) c.args.rows.now c.args.y.now each)))
