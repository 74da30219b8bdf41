use Rattle.std.proofs.Common.{◌≡◌, take, length}
use Rattle.c_names.proofs.names.Names.close.Given as goal

-- the first declarations are as before
abbrev pub invariant-loop-self : goal.invariant-loop-self
invariant-loop-self l = take l.count l.self ≡ take l.count l.initial.self

abbrev pub decreases-loop-self : goal.decreases-loop-self
decreases-loop-self l = length l.self
