use Rattle.flow_laws.proofs.laws.counts.caps_sum_to_the_span.Goals as goal
use Rattle.flow_laws.proofs.Caps.CapsSumToSpan.{caps_are_span}

pub returns : goal.returns
returns c = caps_are_span
