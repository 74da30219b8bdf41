-- A turn's ways cost at most its body at its caps.
use Rattle.std.proofs.Common.{rules, ◌+◌, pos, ap, ◌∙◌}
use Rattle.std.proofs.lemmas.Int.{to_z-of_z}
use mir.Val.{SFits}
use mir.Syntax.{w128}
use Rattle.peak_laws.specs.Parts as spec
use Rattle.ipet_peak.proofs.TreeLayers.{small_ways}
use Rattle.ipet_peak.proofs.turns.turn.Goals as goal

pub turn_multiplier-requires-clause-a : goal.turn_multiplier-requires-clause-a
turn_multiplier-requires-clause-a c = small_ways _ _ _ c.dearest_ways.ensures c.requires.body

pub returns : goal.returns
returns c =
    let f : SFits w128 c.turn_multiplier.result = search rules in
    to_z-of_z w128 c.turn_multiplier.result f ∙ c.turn_multiplier.ensures ∙ ap (λ w. pos (spec.turn_cost (c.args.c + c.args.step) (spec.way_back w))) c.dearest_ways.ensures
