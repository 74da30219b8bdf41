use Rattle.c_tree.proofs.laws.spans.each_block_has_a_scale.Goals as goal
use Rattle.c_tree.proofs.SpanLaws.{length_scales}

pub returns : goal.returns
returns c = length_scales
