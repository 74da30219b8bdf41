use Rattle.std.proofs.Common.{◌≡◌, ◌++◌, drop}
use Rattle.c_input.specs.InputTexts.{outer_leads}
use Rattle.c_input.proofs.leads.push_globals.Given as goal

abbrev pub invariant-loop-global : goal.invariant-loop-global
invariant-loop-global l = l.leads ++ outer_leads (drop l.global-index l.globals) ≡ l.fn.leads ++ outer_leads l.globals
