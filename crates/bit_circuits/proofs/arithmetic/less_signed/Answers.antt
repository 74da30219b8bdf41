use Rattle.std.proofs.Common.{◌≡◌, arith, refl, sym, ap, ◌∙◌}
use Rattle.bit_circuits.specs.Runs.{Adds}
use Rattle.std.proofs.Common.{length}
use Rattle.bit_circuits.specs.Words.{less as less_of, less_signed as less_signed_of}
use Rattle.bit_circuits.proofs.WordArithmetic.Values.{length-turned}
use Rattle.bit_circuits.proofs.Construction.Steps.{ok_more, less_signed-adds}
use Rattle.bit_circuits.proofs.arithmetic.less_signed.Goals as goal

pub less-requires : goal.less-requires
less-requires c =
    ap length (c.as_slice.ensures.value ∙ c.in_ok-one.ensures) ∙ length-turned c.args.xs.now ∙ c.requires ∙ sym (length-turned c.args.ys.now) ∙ sym (ap length (c.as_slice-2.ensures.value ∙ c.in_ok-other.ensures))

pub returns : goal.returns
returns c =
    ok_more (λ bit. Adds (less_of c.as_slice.result.now c.as_slice-2.result.now) c.args.netlist.now c.less.new.netlist bit) (λ bit. Adds (less_signed_of c.args.xs.now c.args.ys.now) c.args.netlist.now c.less.new.netlist bit) c.less.result
    (λ bit a. less_signed-adds c.args.xs.now c.args.ys.now _ _ bit _ _ (c.as_slice.ensures.value ∙ c.in_ok-one.ensures) (c.as_slice-2.ensures.value ∙ c.in_ok-other.ensures) a) c.less.ensures
