use Rattle.std.proofs.Common.{◌≡◌, ◌++◌, take, flat_map}
use Rattle.print_laws.specs.Printed.{global_text}
use Rattle.c_print.proofs.printing.push_globals.Given as goal

abbrev pub invariant-loop-global : goal.invariant-loop-global
invariant-loop-global l = l.text.items ≡ l.fn.text.items ++ flat_map global_text (take l.global-index l.globals)
