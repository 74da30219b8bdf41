use Rattle.std.specs.Prelude.{is_none}
use Rattle.cost_document.specs.Documents.{cost_in}
use Rattle.cost_table.proofs.FirstKeys.{Keeps}
use Rattle.cost_table.proofs.first.key_without_cost.Given as goal

abbrev pub invariant-loop-key : goal.invariant-loop-key
invariant-loop-key l = Keeps (λ key d. is_none (cost_in d)) l.entries.entries l.key-iterator
