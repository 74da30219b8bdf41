use Rattle.ipet_peak.proofs.TreeLayers.{tree-Block}
use Rattle.ipet_peak.proofs.tree.block_tree.Goals as goal

pub returns : goal.returns
returns c = tree-Block _ _ _ c.in_ok-new.ensures
