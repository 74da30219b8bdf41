-- The laws of `Greatest`.
use Rattle.peak_laws.proofs.Duals.DualFits.{dual_fits}
use Rattle.peak_laws.proofs.Optima.Greatest.{fits, bounded}
use Rattle.peak_laws.proofs.law.part_bounds.Goals as goal

pub returns : goal.returns
returns c = record { fits = fits; value = bounded; room = dual_fits }
