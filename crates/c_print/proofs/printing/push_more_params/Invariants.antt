use Rattle.std.proofs.Common.{◌≡◌, ◌++◌, take, codes, flat_map}
use Rattle.print_laws.specs.Printed.{param_text}
use Rattle.c_print.proofs.printing.push_more_params.Given as goal

abbrev pub invariant-loop-local : goal.invariant-loop-local
invariant-loop-local l = l.text.items ≡ l.fn.text.items ++ flat_map (λ p. codes ", " ++ param_text p) (take l.local-index l.params)
