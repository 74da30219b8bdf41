use Rattle.std.proofs.Common.{◌≡◌, suc, ◌-◌, length, drop, arith, sym, ap, ◌∙◌, subst, ◌+◌}
use Rattle.std.specs.List.{slice_index_or}
use Rattle.bit_circuits.specs.Words.{lower, false_literal, sum as sum_of, multiply as multiply_of}
use Rattle.bit_circuits.specs.Runs.{Adds}
use Rattle.bit_circuits.proofs.WordArithmetic.Values.{length-falses, length-lower}
use Rattle.bit_circuits.proofs.Circuits.Widths.{masked_word-wide, sum-wide, length-rest, rows-more, rows-end, multiply-adds}
use Rattle.bit_circuits.proofs.product.multiply.Goals as goal

pub loop-i-init : goal.loop-i-init
loop-i-init c = record {
  so_far = ap length c.in_ok-so_far.ensures ∙ length-falses (length c.args.xs.now) ∙ c.requires ∙ omega arith;
  rest = c.requires ∙ omega arith;
  whole = λ t ls a. multiply-adds c.args.xs.now c.args.ys.now _ _ ls _ t c.in_ok-so_far.ensures c.new-bits.ensures.items a;
}

pub sum-requires : goal.sum-requires
sum-requires c =
    ap length c.as_slice.ensures.value ∙ c.loop-i.invariant.so_far ∙ sym c.loop-i.invariant.rest ∙ sym (masked_word-wide _ c.loop-i.rest.now c.in_ok-row.ensures) ∙ sym (ap length c.as_slice-in-loop-i.ensures.value)

pub loop-i-preserved : goal.loop-i-preserved
loop-i-preserved c =
    let k = length c.args.ys.now - (c.loop-i.i + 1) in
    let total = c.in_ok-total.total.items in
    let row = c.in_ok-row.row.items in
    let so = c.loop-i.so_far.items in
    let row-wide : length row ≡ length c.loop-i.rest.now = masked_word-wide _ c.loop-i.rest.now c.in_ok-row.ensures in
    let same : length so ≡ length row = c.loop-i.invariant.so_far ∙ sym c.loop-i.invariant.rest ∙ sym row-wide in
    let added : Adds (sum_of c.falsity.result so row) c.masked.new.netlist c.sum.new.netlist total =
    subst (λ r. Adds (sum_of c.falsity.result so r) c.masked.new.netlist c.sum.new.netlist total) c.as_slice-in-loop-i.ensures.value
    (subst (λ r. Adds (sum_of c.falsity.result r c.as_slice-in-loop-i.result.now) c.masked.new.netlist c.sum.new.netlist total) c.as_slice.ensures.value c.in_ok-total.ensures) in
    let total-wide : length total ≡ suc (suc k) = sum-wide _ so row same added ∙ ap suc (c.loop-i.invariant.so_far ∙ omega arith) in
    let next : c.in_ok-so_far-2.so_far.items ≡ lower (drop 1 total) =
    c.in_ok-so_far-2.ensures.items ∙ c.lower.ensures ∙ ap lower (c.higher.ensures ∙ ap (drop 1) c.as_slice-in-loop-i-3.ensures.value) in
    let first : c.lowest.result ≡ slice_index_or total 0 false_literal = c.lowest.ensures ∙ ap (λ l. slice_index_or l 0 false_literal) c.as_slice-in-loop-i-2.ensures.value in
    record {
      so_far = ap length next ∙ length-lower k (drop 1 total) (length-rest (suc k) total total-wide);
      rest = ap length c.lower-rest.ensures ∙ length-lower k c.loop-i.rest.now (c.loop-i.invariant.rest ∙ omega arith);
      whole = rows-more (λ t ls. Adds (multiply_of c.args.xs.now c.args.ys.now) c.args.netlist.now t ls) so c.loop-i.rest.now c.args.ys.now row total _ _ c.loop-i.bits.items _ c.loop-i.i c.index-ys-i.result c.falsity.result c.lowest.result
          c.loop-i.netlist c.masked.new.netlist c.sum.new.netlist (omega arith) c.index-ys-i.is first c.falsity.ensures c.in_ok-row.ensures added next c.lower-rest.ensures c.in_ok-push.ensures.items c.loop-i.invariant.whole;
    }

pub returns : goal.returns
returns c = rows-end (λ t ls. Adds (multiply_of c.args.xs.now c.args.ys.now) c.args.netlist.now t ls) c.loop-i.so_far.items c.loop-i.rest.now c.args.ys.now c.loop-i.bits.items c.loop-i.i c.loop-i.netlist (omega arith) c.loop-i.invariant.whole
