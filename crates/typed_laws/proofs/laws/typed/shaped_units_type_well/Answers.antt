use Rattle.typed_laws.proofs.Formed.FormedPrograms.{shaped_typed_formed}
use Rattle.typed_laws.proofs.laws.typed.shaped_units_type_well.Goals as goal

pub returns : goal.returns
returns c = shaped_typed_formed
