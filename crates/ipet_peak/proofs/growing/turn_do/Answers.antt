-- A `do` is made of the last tree.
use Rattle.std.proofs.Common.{◌≤◌, ◌^◌, ◌∷◌, arith, sym, subst}
use Rattle.peak_laws.specs.Parts as spec
use Rattle.peak_laws.specs.Magnitudes.{cap_cost}
use Rattle.ipet_peak.specs.Pieces.{earlier_parts}
use Rattle.ipet_peak.specs.Trees.{parts_of}
use Rattle.ipet_peak.proofs.Grown.{makes_of}
use Rattle.ipet_peak.proofs.growing.turn_do.Goals as goal
use Rattle.std.proofs.result.Match.{if_ok_then}

pub do_tree-requires-clause-room : goal.do_tree-requires-clause-room
do_tree-requires-clause-room c =
    subst (λ p. cap_cost (spec.Do c.args.c c.args.m p) ≤ 2 ^ 126) (sym c.in_ok-body.ensures.last.part) (omega (arith, c.requires.room))

pub returns : goal.returns
returns c =
    let ps = parts_of c.args.trees.now in
    let body = c.in_ok-body.ensures.last.part in
    if_ok_then c.do_tree.result _ _ (λ t is. makes_of t _ _ _ _ is c.take_last.ensures.before c.take_last.ensures.kept (λ i. spec.Do c.args.c c.args.m (body i) ∷ earlier_parts ps)) c.do_tree.ensures
