use Rattle.std.proofs.Common.{arith}
use Rattle.std.proofs.lemmas.Option.{unwrap_or-slice_get}
use Rattle.run_laws.proofs.costs.row_is_small.Goals as goal

pub returns : goal.returns
returns c = λ n. omega (arith, c.type_inv.row n, unwrap_or-slice_get c.args.row.now n 0)
