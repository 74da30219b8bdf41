use Rattle.std.proofs.Common.{arith}
use Rattle.case_maker.proofs.Blocks.{blocks-le}
use Rattle.case_maker.proofs.program.count_blocks.Goals as goal

pub overflow_add-result : goal.overflow_add-result
overflow_add-result c = omega (arith, c.requires, c.count_inner.ensures, blocks-le c.args.segments.now)

pub overflow_add-result-2 : goal.overflow_add-result-2
overflow_add-result-2 c = omega (arith, c.requires, c.count_inner.ensures, blocks-le c.args.segments.now)
