use Rattle.bound_cert.proofs.Covered.{dual_of_covered, weak_duality_without_box_lem}
use Rattle.bound_cert.proofs.law.weak_duality_without_box.Goals as goal

pub returns-clause-value : goal.returns-clause-value
returns-clause-value c = dual_of_covered

pub returns-clause-above : goal.returns-clause-above
returns-clause-above c = weak_duality_without_box_lem
