use Rattle.std.proofs.Common.{◌≡◌, ◌++◌, take, flat_map}
use Rattle.print_laws.specs.Printed.{func_text}
use Rattle.c_print.proofs.printing.push_funcs.Given as goal

abbrev pub invariant-loop-func : goal.invariant-loop-func
invariant-loop-func l = l.text.items ≡ l.fn.text.items ++ flat_map (func_text l.program) (take l.func-index l.funcs)
