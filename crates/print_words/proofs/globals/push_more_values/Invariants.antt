use Rattle.std.proofs.Common.{◌≡◌, ◌++◌, take, codes, flat_map}
use Rattle.print_laws.specs.PrintedExpressions.{value_text}
use Rattle.print_words.proofs.globals.push_more_values.Given as goal

abbrev pub invariant-loop-value : goal.invariant-loop-value
invariant-loop-value l = l.text.items ≡ l.fn.text.items ++ flat_map (λ z. codes ", " ++ value_text l.ty z) (take l.value-index l.values)
