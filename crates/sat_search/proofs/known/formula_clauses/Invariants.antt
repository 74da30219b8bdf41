use Rattle.std.proofs.Common.{◌≡◌, take}
use Rattle.sat_search.proofs.known.formula_clauses.Given as goal

abbrev pub invariant-loop-clause : goal.invariant-loop-clause
invariant-loop-clause l = l.known ≡ take l.clause-index l.clauses
