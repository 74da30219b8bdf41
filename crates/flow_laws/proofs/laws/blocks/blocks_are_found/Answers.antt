use Rattle.flow_laws.proofs.laws.blocks.blocks_are_found.Goals as goal
use Rattle.flow_laws.proofs.Graphs.FoundBlocks.{blocks_found, bare_found}

pub returns-clause-copies : goal.returns-clause-copies
returns-clause-copies c = blocks_found

pub returns-clause-others : goal.returns-clause-others
returns-clause-others c = bare_found
