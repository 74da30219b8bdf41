use Rattle.std.proofs.Common.{◌≡◌, ◌+◌, ◌++◌, drop}
use Rattle.bit_circuits.specs.Gates.{gates_clauses}
use Rattle.bit_blast.proofs.gates.push_gates.Given as goal

abbrev pub invariant-loop-gate : goal.invariant-loop-gate
invariant-loop-gate l = record {
  next : l.variable ≡ l.first + l.gate-index;
  whole : l.clauses.items ++ gates_clauses l.variable (drop l.gate-index l.gates) ≡ l.initial.clauses.items ++ gates_clauses l.first l.gates;
}
