use Rattle.std.proofs.Common.{◌≡◌, ◌++◌, [], length}
use Rattle.flow_laws.specs.Graphs.{copies}
use Rattle.flow_graph.specs.Layout.{laid_out, laid_back}
use Rattle.flow_graph.proofs.unfold.push_back.Given as goal

-- what is left, and what was moved, is the whole
abbrev pub invariant-items : goal.invariant-items
invariant-items l =
    laid_out (copies [] l.funcs) l.items ++ laid_back (copies [] l.funcs) l.todo ≡ laid_out (copies [] l.fn.funcs) l.fn.items ++ laid_back (copies [] l.fn.funcs) l.fn.todo

abbrev pub decreases-items : goal.decreases-items
decreases-items l = length l.items
