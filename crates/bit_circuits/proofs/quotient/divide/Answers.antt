use Rattle.std.proofs.Common.{◌≡◌, suc, ◌∷◌, ◌-◌, ◌<◌, ◌≤◌, map, neg_ℤ, length, drop, vec_len, take, arith, sym, ap, ◌∙◌, subst}
use Rattle.std.proofs.lemmas.List.{drop_all}
use Rattle.bit_circuits.specs.Words.{top, lower, sum as sum_of, choose as choose_of, divide as divide_of}
use Rattle.bit_circuits.specs.Runs.{Adds}
use Rattle.bit_circuits.proofs.WordArithmetic.Values.{length-falses, length-lower, length-neg}
use Rattle.bit_circuits.proofs.Circuits.Parts.{take-lower}
use Rattle.bit_circuits.proofs.Circuits.Widths.{sum-wide, choose-wide, divide-none, divide-more}
use Rattle.bit_circuits.proofs.quotient.divide.Goals as goal

pub loop-i-init : goal.loop-i-init
loop-i-init c = record {
  wide = ap length c.in_ok-remainder.ensures ∙ length-falses (length c.args.ds.now);
  whole = subst (λ l. Adds (divide_of l c.args.ds.now) c.args.netlist.now c.args.netlist.now (record { quotient = c.new-quotient.result.items; remainder = c.in_ok-remainder.remainder.items }))
      (sym (drop_all (length c.args.xs.now) c.args.xs.now (omega arith))) (divide-none c.args.ds.now _ _ c.args.netlist.now c.new-quotient.ensures.items c.in_ok-remainder.ensures);
}

pub choose-requires : goal.choose-requires
choose-requires c =
    let k = length c.args.ds.now in
    let x = c.index-xs-i.result in
    let r0 = c.loop-i.remainder.items in
    let put = c.insert.new.self in
    let inserted : put.items ≡ x ∷ r0 = c.in_ok-insert.ensures.items in
    let size : vec_len put ≡ length put.items = omega (arith, put.ok.0) in
    let rest : c.pop.new.self.items ≡ lower (x ∷ r0) = c.pop.ensures.rest ∙ ap (λ j. take (j - 1) put.items) size ∙ take-lower put.items ∙ ap lower inserted in
    let rest-wide : length c.pop.new.self.items ≡ k = ap length rest ∙ length-lower k (x ∷ r0) (ap suc c.loop-i.invariant.wide) in
    let others : c.in_ok-others.others.items ≡ map neg_ℤ c.args.ds.now = c.in_ok-others.ensures in
    let total = c.in_ok-total.total.items in
    let added : Adds (sum_of c.truth.result c.pop.new.self.items c.in_ok-others.others.items) c.loop-i.netlist c.sum.new.netlist total =
    subst (λ l. Adds (sum_of c.truth.result c.pop.new.self.items l) c.loop-i.netlist c.sum.new.netlist total) c.as_slice-in-loop-i.ensures.value
    (subst (λ l. Adds (sum_of c.truth.result l c.as_slice-in-loop-i.result.now) c.loop-i.netlist c.sum.new.netlist total) c.as_slice.ensures.value c.in_ok-total.ensures) in
    let others-wide : length c.in_ok-others.others.items ≡ k = ap length others ∙ length-neg c.args.ds.now in
    let total-wide : length total ≡ suc k = sum-wide _ c.pop.new.self.items c.in_ok-others.others.items (rest-wide ∙ sym others-wide) added ∙ ap suc rest-wide in
    let low : c.lower.result.now ≡ lower total = c.lower.ensures ∙ ap lower c.as_slice-in-loop-i-3.ensures.value in
    ap length low ∙ length-lower k total total-wide ∙ sym rest-wide ∙ sym (ap length c.as_slice-in-loop-i-4.ensures.value)

pub loop-i-preserved : goal.loop-i-preserved
loop-i-preserved c =
    let k = length c.args.ds.now in
    let x = c.index-xs-i.result in
    let r0 = c.loop-i.remainder.items in
    let put = c.insert.new.self in
    let inserted : put.items ≡ x ∷ r0 = c.in_ok-insert.ensures.items in
    let size : vec_len put ≡ length put.items = omega (arith, put.ok.0) in
    let rest : c.pop.new.self.items ≡ lower (x ∷ r0) = c.pop.ensures.rest ∙ ap (λ j. take (j - 1) put.items) size ∙ take-lower put.items ∙ ap lower inserted in
    let rest-wide : length c.pop.new.self.items ≡ k = ap length rest ∙ length-lower k (x ∷ r0) (ap suc c.loop-i.invariant.wide) in
    let others : c.in_ok-others.others.items ≡ map neg_ℤ c.args.ds.now = c.in_ok-others.ensures in
    let total = c.in_ok-total.total.items in
    let added : Adds (sum_of c.truth.result c.pop.new.self.items c.in_ok-others.others.items) c.loop-i.netlist c.sum.new.netlist total =
    subst (λ l. Adds (sum_of c.truth.result c.pop.new.self.items l) c.loop-i.netlist c.sum.new.netlist total) c.as_slice-in-loop-i.ensures.value
    (subst (λ l. Adds (sum_of c.truth.result l c.as_slice-in-loop-i.result.now) c.loop-i.netlist c.sum.new.netlist total) c.as_slice.ensures.value c.in_ok-total.ensures) in
    let others-wide : length c.in_ok-others.others.items ≡ k = ap length others ∙ length-neg c.args.ds.now in
    let total-wide : length total ≡ suc k = sum-wide _ c.pop.new.self.items c.in_ok-others.others.items (rest-wide ∙ sym others-wide) added ∙ ap suc rest-wide in
    let low : c.lower.result.now ≡ lower total = c.lower.ensures ∙ ap lower c.as_slice-in-loop-i-3.ensures.value in
    let low-wide : length c.lower.result.now ≡ k = ap length low ∙ length-lower k total total-wide in
    let r = c.in_ok-remainder-2.remainder.items in
    let chosen : Adds (choose_of c.top-fits.result c.lower.result.now c.pop.new.self.items) c.sum.new.netlist c.choose.new.netlist r =
    subst (λ l. Adds (choose_of c.top-fits.result c.lower.result.now l) c.sum.new.netlist c.choose.new.netlist r) c.as_slice-in-loop-i-4.ensures.value c.in_ok-remainder-2.ensures in
    let fits : c.top-fits.result ≡ top total = c.top-fits.ensures ∙ ap top c.as_slice-in-loop-i-2.ensures.value in
    record {
      wide = choose-wide _ c.lower.result.now c.pop.new.self.items (low-wide ∙ sym rest-wide) chosen ∙ low-wide;
      whole = divide-more c.args.xs.now c.args.ds.now c.in_ok-others.others.items c.pop.new.self.items total c.lower.result.now r0 c.loop-i.quotient.items r _ c.loop-i.i x c.truth.result c.top-fits.result
          c.args.netlist.now c.loop-i.netlist c.sum.new.netlist c.choose.new.netlist (omega arith) (omega arith) c.index-xs-i.is c.loop-i.invariant.whole rest c.truth.ensures others added fits low chosen c.in_ok-insert-2.ensures.items;
    }
