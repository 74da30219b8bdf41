use Rattle.item_turn.specs.Steps.{IsOpen}
use Rattle.item_turn.proofs.settling.past_forks.Given as goal

abbrev pub invariant-loop : goal.invariant-loop
invariant-loop l = IsOpen l.item l.fork
