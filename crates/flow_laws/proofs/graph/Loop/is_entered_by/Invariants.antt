use Rattle.std.proofs.Common.{◌≡◌, drop}
use Rattle.flow_laws.specs.Paths.{is_in_list}
use Rattle.flow_laws.proofs.graph.Loop.is_entered_by.Given as goal

-- it is among the rest if it is among all
abbrev pub invariant-loop-other : goal.invariant-loop-other
invariant-loop-other g = is_in_list g.edge (drop g.other-index g.self.into) ≡ is_in_list g.edge g.self.into
