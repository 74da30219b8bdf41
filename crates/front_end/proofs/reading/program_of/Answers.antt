-- The work on the text stops with this entry as with any.
use Rattle.std.proofs.Common.{rules}
use Rattle.front_end.proofs.reading.program_of.Goals as goal

pub returns-in_err-unit-clause-stopped : goal.returns-in_err-unit-clause-stopped
returns-in_err-unit-clause-stopped c = let stopped = c.in_err-unit.ensures.stopped c.args.entry.now in search rules
