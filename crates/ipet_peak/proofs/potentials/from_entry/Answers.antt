-- What a tree costs from its entry on is its best way.
use Rattle.std.proofs.Common.{arith, ◌≡◌, sym, ap, ◌∙◌}
use Rattle.peak_laws.specs.Parts as spec
use Rattle.ipet_peak.specs.Trees.{part_of, cost_targets, dearest_cost}
use Rattle.ipet_peak.proofs.TreeLayers.{small_ways}
use Rattle.ipet_peak.proofs.Pushed.{dearest_cost_is, entry_tallest}
use Rattle.ipet_peak.proofs.potentials.from_entry.Goals as goal

pub dearest_cost-requires-clause-w : goal.dearest_cost-requires-clause-w
dearest_cost-requires-clause-w c = small_ways _ _ _ c.dearest_ways.ensures c.requires.tree

pub returns : goal.returns
returns c =
    let p = part_of c.args.tree.now in
    let t = cost_targets c.args.t in
    let is : c.dearest_cost.result ≡ spec.from_entry p t = c.dearest_cost.ensures ∙ ap (λ w. dearest_cost w t) c.dearest_ways.ensures ∙ sym (dearest_cost_is p t) in
    record { value = is; most = omega (arith, is, entry_tallest p t) }
