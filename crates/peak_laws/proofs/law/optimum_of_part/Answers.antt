-- The law of `Greatest`.
use Rattle.peak_laws.proofs.Optima.Greatest.{optimum}
use Rattle.peak_laws.proofs.law.optimum_of_part.Goals as goal

pub returns : goal.returns
returns c = optimum
