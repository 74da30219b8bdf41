use Rattle.ipet_peak.proofs.TreeLayers.{tree-Nothing}
use Rattle.ipet_peak.proofs.tree.no_tree.Goals as goal

pub returns : goal.returns
returns c = tree-Nothing _ c.in_ok-new.ensures
