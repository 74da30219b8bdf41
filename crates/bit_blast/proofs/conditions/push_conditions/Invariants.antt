use Rattle.std.proofs.Common.{◌≡◌, ◌++◌, map, drop}
use Rattle.bit_circuits.specs.Tidy.{tidy_clauses}
use Rattle.bit_circuits.specs.Formula.{bits_at}
use Rattle.bit_blast.proofs.conditions.push_conditions.Given as goal

abbrev pub invariant-loop-term : goal.invariant-loop-term
invariant-loop-term l = l.clauses.items ++ tidy_clauses (map (bits_at (map (λ w. w.items) l.words)) (drop l.term-index l.conditions)) ≡ l.initial.clauses.items ++ tidy_clauses (map (bits_at (map (λ w. w.items) l.words)) l.conditions)
