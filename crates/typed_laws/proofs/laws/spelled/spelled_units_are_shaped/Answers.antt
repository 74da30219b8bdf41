use Rattle.typed_laws.proofs.Shaped.ShapedUnits.{unit_shaped}
use Rattle.typed_laws.proofs.laws.spelled.spelled_units_are_shaped.Goals as goal

pub returns : goal.returns
returns c = unit_shaped
