use Rattle.std.proofs.Common.{◌≡◌, ◌++◌}
use Rattle.print_laws.specs.PrintedStatements.{margin}
use Rattle.print_words.proofs.parts.push_margin.Given as goal

abbrev pub invariant-loop : goal.invariant-loop
invariant-loop l = l.text.items ≡ l.fn.text.items ++ margin l.counter
