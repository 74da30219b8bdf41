-- The ways of a choice are made of those of its two parts.
use Rattle.std.proofs.Common.{arith, ap, ◌∙◌}
use Rattle.peak_laws.specs.Parts as spec
use Rattle.peak_laws.specs.Magnitudes.{cap_cost}
use Rattle.ipet_peak.specs.Trees.{part_of}
use Rattle.ipet_peak.proofs.TreeLayers.{small_ways, keeps_at, tree-Choice}
use Rattle.ipet_peak.proofs.tree.choice_tree.Goals as goal

pub dearest_ways-first-requires : goal.dearest_ways-first-requires
dearest_ways-first-requires c = keeps_at _ _ c.get.ensures c.requires.a

pub dearest_ways-second-requires : goal.dearest_ways-second-requires
dearest_ways-second-requires c = keeps_at _ _ c.get-2.ensures c.requires.b

pub choice_ways-ways-requires-clause-a : goal.choice_ways-ways-requires-clause-a
choice_ways-ways-requires-clause-a c =
    small_ways c.get.result.now _ _ c.dearest_ways-first.ensures (omega (arith, c.requires.room, ap (λ y. cap_cost (part_of y)) c.get.ensures))

pub choice_ways-ways-requires-clause-b : goal.choice_ways-ways-requires-clause-b
choice_ways-ways-requires-clause-b c =
    small_ways c.get-2.result.now _ _ c.dearest_ways-second.ensures (omega (arith, c.requires.room, ap (λ y. cap_cost (part_of y)) c.get-2.ensures))

pub returns : goal.returns
returns c =
    let a = c.dearest_ways-first.ensures ∙ ap (λ y. spec.dearest_ways (part_of y)) c.get.ensures in
    let b = c.dearest_ways-second.ensures ∙ ap (λ y. spec.dearest_ways (part_of y)) c.get-2.ensures in
    tree-Choice _ _ _ _ _ c.in_ok-new.ensures (c.choice_ways-ways.ensures ∙ (λ i. spec.choice_ways (c.from.ensures i) (a i) (b i))) c.requires.a c.requires.b
