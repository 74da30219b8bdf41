use Rattle.std.proofs.Common.{◌≡◌, ◌-◌, replicate}
use Rattle.c_input.specs.Starts.{rest_of}
use Rattle.c_input.proofs.fitting.behind.Given as goal

abbrev pub invariant-loop-at : goal.invariant-loop-at
invariant-loop-at l =
    rest_of (replicate (l.count - l._at) l.ty) l.rest ≡ rest_of (replicate l.count l.ty) l.numbers
