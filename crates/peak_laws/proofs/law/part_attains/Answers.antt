-- The laws of `Greatest`.
use Rattle.peak_laws.proofs.Optima.Greatest.{attained, attained_cost}
use Rattle.peak_laws.proofs.law.part_attains.Goals as goal

pub returns : goal.returns
returns c = record { meet = attained; cost = attained_cost }
