use Rattle.std.proofs.Common.{◌-◌}
use Rattle.search_tables.proofs.order.Order.sink.Given as goal

abbrev pub decreases-loop-spot : goal.decreases-loop-spot
decreases-loop-spot l = l.count - l.spot
