use Rattle.cost_document.specs.Documents.{is_stray}
use Rattle.cost_table.proofs.FirstKeys.{Keeps}
use Rattle.cost_table.proofs.first.first_stray.Given as goal

abbrev pub invariant-loop-key : goal.invariant-loop-key
invariant-loop-key l = Keeps is_stray l.document.entries l.key-iterator
