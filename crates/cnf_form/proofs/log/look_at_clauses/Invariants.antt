use Rattle.std.proofs.Common.{take, map}
use Rattle.cnf_form.specs.Literals.{AreClauses}
use Rattle.cnf_form.proofs.log.look_at_clauses.Given as goal

abbrev pub invariant-loop-line : goal.invariant-loop-line
invariant-loop-line l = AreClauses (map (λ line. line.clause) (take l.line-index l.lines))
