-- The ways of a callee's body are those of its part.
use Rattle.std.proofs.Common.{ap, ◌∙◌}
use Rattle.peak_laws.specs.Parts as spec
use Rattle.ipet_peak.specs.Trees.{part_of}
use Rattle.ipet_peak.proofs.TreeLayers.{keeps_at, tree-Body}
use Rattle.ipet_peak.proofs.tree.body_tree.Goals as goal

pub dearest_ways-requires : goal.dearest_ways-requires
dearest_ways-requires c = keeps_at _ _ c.get.ensures c.requires

pub returns : goal.returns
returns c =
    tree-Body _ _ _ c.in_ok-new.ensures (c.body_ways-ways.ensures ∙ ap spec.body_ways (c.dearest_ways.ensures ∙ ap (λ y. spec.dearest_ways (part_of y)) c.get.ensures)) c.requires
