use Rattle.std.proofs.Common.{take, All}
use Rattle.lin_rows.specs.Names.{NamesBelow, NamesOnce}
use Rattle.lin_rows.proofs.row.names_fit.Given as goal

abbrev pub invariant-loop-row : goal.invariant-loop-row
invariant-loop-row l =
    All (λ row. NamesBelow l.edges row.terms) (take l.row-index l.rows) × All (λ row. NamesOnce row.terms) (take l.row-index l.rows)
