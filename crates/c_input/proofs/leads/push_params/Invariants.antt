use Rattle.std.proofs.Common.{◌≡◌, ◌++◌, drop}
use Rattle.c_input.specs.InputTexts.{param_leads}
use Rattle.c_input.proofs.leads.push_params.Given as goal

abbrev pub invariant-loop-local : goal.invariant-loop-local
invariant-loop-local l = l.leads ++ param_leads l.left (drop l.local-index l.locals) ≡ l.fn.leads ++ param_leads l.params l.locals
