use Rattle.c_parse.proofs.Within.{in_order_within}
use Rattle.c_parse.proofs.parsing.ordered_tokens_are_within.Goals as goal

pub returns : goal.returns
returns c = in_order_within
