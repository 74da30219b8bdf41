use Rattle.std.proofs.Common.{◌≡◌, ◌<◌, ◌≤◌, ◌+◌, ◌*◌, ◌^◌, length, arith, refl, sym, ap, ◌∙◌, subst}
use Rattle.bit_circuits.specs.Runs.{Adds}
use Rattle.std.proofs.Math.Nat.{pow-le-pow_right, pow-suc}
use Rattle.bit_circuits.specs.Words.{choose as choose_of, stages as stages_of}
use Rattle.bit_circuits.specs.Moves.{move_of}
use Rattle.bit_circuits.proofs.WordArithmetic.Values.{twice}
use Rattle.bit_circuits.proofs.Circuits.Widths.{choose-wide}
use Rattle.bit_circuits.proofs.Construction.Turning.{move-wide, stages-more, stages-end}
use Rattle.bit_circuits.proofs.shift.stages.Goals as goal

pub moved-requires : goal.moved-requires
moved-requires c =
    let below : c.loop-i.i ≤ 4 = omega (arith, c.requires.five) in
    let power : 2 ^ c.loop-i.i ≤ 2 ^ 4 = pow-le-pow_right (omega arith) below in
    omega (arith, c.loop-i.invariant.places, c.loop-i.invariant.wide, ap length c.as_slice.ensures.value)

pub loop-i-preserved : goal.loop-i-preserved
loop-i-preserved c =
    let kind = c.args.kind.now in
    let below : c.loop-i.i ≤ 4 = omega (arith, c.requires.five) in
    let power : 2 ^ c.loop-i.i ≤ 2 ^ 4 = pow-le-pow_right (omega arith) below in
    let fits : c.loop-i.places ≤ length c.loop-i.bits.items = omega (arith, c.loop-i.invariant.places, c.loop-i.invariant.wide) in
    let moved : c.as_slice-in-loop-i.result.now ≡ move_of kind c.loop-i.places c.loop-i.bits.items =
    c.as_slice-in-loop-i.ensures.value ∙ c.in_ok-moved.ensures ∙ ap (move_of kind c.loop-i.places) c.as_slice.ensures.value in
    let moved-wide : length c.as_slice-in-loop-i.result.now ≡ length c.loop-i.bits.items = ap length moved ∙ move-wide kind c.loop-i.places c.loop-i.bits.items fits in
    let chosen : Adds (choose_of c.index-count-i.result c.as_slice-in-loop-i.result.now c.loop-i.bits.items) c.loop-i.netlist c.choose.new.netlist c.in_ok-bits-2.bits.items =
    subst (λ l. Adds (choose_of c.index-count-i.result c.as_slice-in-loop-i.result.now l) c.loop-i.netlist c.choose.new.netlist c.in_ok-bits-2.bits.items) c.as_slice-in-loop-i-2.ensures.value c.in_ok-bits-2.ensures in
    let step : 2 ^ (c.loop-i.i + 1) ≡ 2 * 2 ^ c.loop-i.i = ap (λ k. 2 ^ k) (omega arith) ∙ twice c.loop-i.i in
    record {
      places = omega (arith, step, c.loop-i.invariant.places);
      wide = choose-wide _ c.as_slice-in-loop-i.result.now c.loop-i.bits.items moved-wide chosen ∙ moved-wide ∙ c.loop-i.invariant.wide;
      whole = stages-more (λ t l. Adds (stages_of (move_of kind) 1 c.args.count.now c.args.xs.now) c.args.netlist.now t l) kind c.loop-i.places (c.loop-i.places * 2) c.args.count.now c.loop-i.bits.items c.as_slice-in-loop-i.result.now c.in_ok-bits-2.bits.items
          c.loop-i.i c.index-count-i.result c.loop-i.netlist c.choose.new.netlist (omega arith) c.index-count-i.is refl moved chosen c.loop-i.invariant.whole;
    }

pub returns : goal.returns
returns c = stages-end (λ t l. Adds (stages_of (move_of c.args.kind.now) 1 c.args.count.now c.args.xs.now) c.args.netlist.now t l) c.args.kind.now c.loop-i.places c.args.count.now c.loop-i.bits.items c.loop-i.i c.loop-i.netlist (omega arith) c.loop-i.invariant.whole
