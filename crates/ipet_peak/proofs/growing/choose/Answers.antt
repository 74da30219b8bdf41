-- A choice is made of the last two trees.
use Rattle.std.proofs.Common.{◌∷◌, arith, ap, ◌∙◌}
use Rattle.peak_laws.specs.Parts as spec
use Rattle.peak_laws.specs.Magnitudes.{cap_cost}
use Rattle.ipet_peak.specs.Pieces.{last_part, earlier_parts}
use Rattle.ipet_peak.specs.Trees.{parts_of}
use Rattle.ipet_peak.proofs.Grown.{makes_of}
use Rattle.ipet_peak.proofs.growing.choose.Goals as goal
use Rattle.std.proofs.result.Match.{if_ok_then}

pub choice_tree-requires-clause-room : goal.choice_tree-requires-clause-room
choice_tree-requires-clause-room c =
    let first = c.in_ok-first.ensures.last.part in
    let second = c.in_ok-second.ensures.last.part ∙ ap last_part c.take_last.ensures.before in
    omega (arith, c.requires.room, ap cap_cost first, ap cap_cost second)

pub returns : goal.returns
returns c =
    let ps = parts_of c.args.trees.now in
    let first = c.in_ok-first.ensures.last.part in
    let second = c.in_ok-second.ensures.last.part ∙ ap last_part c.take_last.ensures.before in
    let before = c.take_last-2.ensures.before ∙ ap earlier_parts c.take_last.ensures.before in
    if_ok_then c.choice_tree.result _ _ (λ t is. makes_of t _ _ _ _ is before c.take_last-2.ensures.kept (λ i. spec.Choice c.args.c (first i) (second i) ∷ earlier_parts (earlier_parts ps))) c.choice_tree.ensures
