use Rattle.std.specs.Prelude.{not}
use Rattle.std.specs.BTreeSet.{contains_text}
use Rattle.cost_table.proofs.FirstKeys.{Keeps}
use Rattle.cost_table.proofs.first.unknown_key.Given as goal

abbrev pub invariant-loop-key : goal.invariant-loop-key
invariant-loop-key l = Keeps (λ key d. not (contains_text l.known key)) l.entries.entries l.key-iterator
