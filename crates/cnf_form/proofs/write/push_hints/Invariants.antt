use Rattle.std.proofs.Common.{◌≡◌, ◌++◌, take}
use Rattle.cnf_form.specs.Texts.{hints_text}
use Rattle.cnf_form.proofs.write.push_hints.Given as goal

abbrev pub invariant-loop-hint : goal.invariant-loop-hint
invariant-loop-hint l = l.text.items ≡ l.fn.text.items ++ hints_text (take l.hint-index l.hints)
