use Rattle.bit_circuits.proofs.Formulas.Clauses.{clauses-formula}
use Rattle.bit_circuits.proofs.law.clauses_are_formula.Goals as goal

pub returns : goal.returns
returns c = λ terms conditions fit. clauses-formula terms.inputs terms.ops conditions fit
