use Rattle.bit_circuits.proofs.Circuits.Parts.{take-lower}
use Rattle.bit_circuits.proofs.word.lower.Goals as goal

pub returns-else-is_empty : goal.returns-else-is_empty
returns-else-is_empty c = take-lower c.args.xs.now
