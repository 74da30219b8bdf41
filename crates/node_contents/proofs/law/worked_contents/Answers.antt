use Rattle.node_contents.proofs.WorkedContents.{two_choices}
use Rattle.node_contents.proofs.law.worked_contents.Goals as goal

pub returns : goal.returns
returns c = two_choices
