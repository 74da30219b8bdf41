use Rattle.bound_cert.proofs.Duality.{weak_duality_lem}
use Rattle.bound_cert.proofs.law.weak_duality.Goals as goal

pub returns : goal.returns
returns c = weak_duality_lem
