-- A turn's cost is a number of `i128`.
use Rattle.std.proofs.Common.{arith, ◌≡◌, ◌<◌, ◌^◌, pos, ap, ◌∙◌}
use Rattle.std.proofs.lemmas.Int.{ints}
use mir.Val.{to_z}
use mir.Syntax.{w128}
use Rattle.peak_ways.proofs.TurnCosts.{small_turn}
use Rattle.peak_ways.proofs.ways.turn_multiplier.Goals as goal

pub overflow_cast-result : goal.overflow_cast-result
overflow_cast-result c =
    let most = small_turn c.args.c (2 ^ 126) c.args.a c.requires.a in
    omega (arith, ints, most, c.turn_cost.ensures, c.requires.c)

pub returns : goal.returns
returns c =
    let most = small_turn c.args.c (2 ^ 126) c.args.a c.requires.a in
    let low : c.turn_cost.result < 2 ^ 127 = omega (arith, most, c.turn_cost.ensures, c.requires.c) in
    let cast : to_z w128 c.turn_cost.result ≡ pos c.turn_cost.result = omega (arith, ints, low) in
    cast ∙ ap pos c.turn_cost.ensures
