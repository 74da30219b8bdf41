-- The slot of a local as a call begins.
use Rattle.std.specs.Prelude.{Option, Some, None}
use Rattle.c_tree.specs.declared.program.Local.{Local}
use Rattle.c_tree.specs.declared.value.Value.{Value}
use Rattle.c_tree.specs.declared.value.Slot.{Slot}
use Rattle.c_tree.specs.declared.value.Slot.TheVariants.{Number}
use Rattle.c_tree.specs.Meaning.Values.{convert}
use Rattle.c_tree.specs.Meaning.Runs.{fresh}

-- of a parameter with its argument
abbrev pub parameter_slot : Local → Option Value → Slot
parameter_slot l None = fresh l.ty l.length
parameter_slot l (Some v) = Number (convert l.ty v)
