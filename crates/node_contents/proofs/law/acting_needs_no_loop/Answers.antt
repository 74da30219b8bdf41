use Rattle.node_contents.proofs.Acting.{acting}
use Rattle.node_contents.proofs.law.acting_needs_no_loop.Goals as goal

pub returns : goal.returns
returns c = acting
