use Rattle.c_tree.proofs.laws.spans.spans_are_sums_of_scales.Goals as goal
use Rattle.c_tree.proofs.SpanLaws.{span_without_calls}

pub returns : goal.returns
returns c = span_without_calls
