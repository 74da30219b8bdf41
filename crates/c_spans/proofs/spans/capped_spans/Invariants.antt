use Rattle.std.proofs.Common.{◌≡◌, [], drop}
use Rattle.c_spans.specs.Capped.{capped_spans}
use Rattle.c_spans.proofs.spans.capped_spans.Given as goal

-- the spans so far are those of the functions so far
abbrev pub invariant-loop-func : goal.invariant-loop-func
invariant-loop-func l = capped_spans l.above.items (drop l.func-index l.funcs) ≡ capped_spans [] l.funcs
