use Rattle.std.proofs.Common.{◌≡◌, ◌++◌, ◌-◌, [], length}
use Rattle.std.specs.Prelude.{slice_get}
use Rattle.flow_laws.specs.Graphs.{copies, sites_of}
use Rattle.flow_graph.specs.Spots.{spots}
use Rattle.flow_graph.specs.Layout.{laid_back}
use Rattle.flow_graph.proofs.unfold.lay_out.Given as goal

-- what is laid out, and what comes next, is the whole
abbrev pub invariant-nodes : goal.invariant-nodes
invariant-nodes l =
    l.out ++ laid_back (copies [] l.funcs) l.todo ≡ spots (sites_of (slice_get (copies [] l.funcs) l.entry))

abbrev pub decreases-nodes : goal.decreases-nodes
decreases-nodes l = length (spots (sites_of (slice_get (copies [] l.funcs) l.entry))) - length l.out
