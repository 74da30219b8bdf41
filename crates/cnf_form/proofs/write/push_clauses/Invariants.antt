use Rattle.std.proofs.Common.{◌≡◌, ◌++◌, take}
use Rattle.std.specs.List.{flat_map}
use Rattle.cnf_form.specs.Texts.{clause_text}
use Rattle.cnf_form.proofs.write.push_clauses.Given as goal

abbrev pub invariant-loop-clause : goal.invariant-loop-clause
invariant-loop-clause l = l.text.items ≡ l.fn.text.items ++ flat_map clause_text (take l.clause-index l.clauses)
