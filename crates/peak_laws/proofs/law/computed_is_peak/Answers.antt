-- The law of `Computed`.
use Rattle.peak_laws.proofs.Optima.Computed.{is_peak}
use Rattle.peak_laws.proofs.law.computed_is_peak.Goals as goal

pub returns : goal.returns
returns c = is_peak
