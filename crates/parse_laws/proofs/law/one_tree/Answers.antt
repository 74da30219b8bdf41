use Rattle.parse_laws.proofs.Whole.{unique}
use Rattle.parse_laws.proofs.law.one_tree.Goals as goal

pub returns : goal.returns
returns c = unique
