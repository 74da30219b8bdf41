use Rattle.std.proofs.Common.{length, ap, ◌∙◌, arith}
use Rattle.case_maker.proofs.Drawing.{length-segments}
use Rattle.case_maker.proofs.making.texts.Goals as goal

pub count_blocks-blocks-requires : goal.count_blocks-blocks-requires
count_blocks-blocks-requires c =
    omega (arith, c.requires, ap length (c.as_slice.ensures.value ∙ c.in_ok-segments.ensures.segments) ∙ length-segments c.new-draws.result.state c.args.size)
