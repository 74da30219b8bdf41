-- The ways of two parts are made of theirs.
use Rattle.std.proofs.Common.{arith, ap, ◌∙◌}
use Rattle.peak_laws.specs.Parts as spec
use Rattle.peak_laws.specs.Magnitudes.{cap_cost}
use Rattle.ipet_peak.specs.Trees.{part_of}
use Rattle.ipet_peak.proofs.TreeLayers.{small_ways, keeps_at, tree-Then}
use Rattle.ipet_peak.proofs.tree.then_tree.Goals as goal

pub dearest_ways-requires : goal.dearest_ways-requires
dearest_ways-requires c = keeps_at _ _ c.get.ensures c.requires.a

pub dearest_ways-requires-2 : goal.dearest_ways-requires-2
dearest_ways-requires-2 c = keeps_at _ _ c.get-2.ensures c.requires.b

pub then_ways-ways-requires-clause-a : goal.then_ways-ways-requires-clause-a
then_ways-ways-requires-clause-a c =
    small_ways c.get.result.now _ _ c.dearest_ways.ensures (omega (arith, c.requires.room, ap (λ y. cap_cost (part_of y)) c.get.ensures))

pub then_ways-ways-requires-clause-b : goal.then_ways-ways-requires-clause-b
then_ways-ways-requires-clause-b c =
    small_ways c.get-2.result.now _ _ c.dearest_ways-2.ensures (omega (arith, c.requires.room, ap (λ y. cap_cost (part_of y)) c.get-2.ensures))

pub returns : goal.returns
returns c =
    let a = c.dearest_ways.ensures ∙ ap (λ y. spec.dearest_ways (part_of y)) c.get.ensures in
    let b = c.dearest_ways-2.ensures ∙ ap (λ y. spec.dearest_ways (part_of y)) c.get-2.ensures in
    tree-Then _ _ _ _ c.in_ok-new.ensures (c.then_ways-ways.ensures ∙ (λ i. spec.then_ways (a i) (b i))) c.requires.a c.requires.b
