use Rattle.search_tables.proofs.order.Order.rise.Given as goal

abbrev pub decreases-loop-spot : goal.decreases-loop-spot
decreases-loop-spot l = l.spot
