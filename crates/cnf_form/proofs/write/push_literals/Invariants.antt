use Rattle.std.proofs.Common.{◌≡◌, ◌++◌, take}
use Rattle.cnf_form.specs.Texts.{literals_text}
use Rattle.cnf_form.proofs.write.push_literals.Given as goal

abbrev pub invariant-loop-literal : goal.invariant-loop-literal
invariant-loop-literal l = l.text.items ≡ l.fn.text.items ++ literals_text (take l.literal-index l.literals)
