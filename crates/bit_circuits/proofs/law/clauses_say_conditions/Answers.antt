use Rattle.bit_circuits.proofs.Formulas.Meaning.{clauses-are}
use Rattle.bit_circuits.proofs.law.clauses_say_conditions.Goals as goal

pub returns : goal.returns
returns c = clauses-are
