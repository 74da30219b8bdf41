use Rattle.std.proofs.Common.{◌≡◌, ◌-◌, length, take, vec_len, arith, sym, ap, ◌∙◌}
use Rattle.bit_circuits.specs.Words.{lower}
use Rattle.bit_circuits.proofs.Circuits.Parts.{take-lower}
use Rattle.bit_circuits.proofs.Construction.Steps.{subtract-adds}
use Rattle.bit_circuits.proofs.arithmetic.subtract.Goals as goal

pub returns : goal.returns
returns c =
    let b = c.in_ok-bits.bits in
    let size : vec_len b ≡ length b.items = omega (arith, b.ok.0) in
    let rest : c.pop.new.self.items ≡ lower b.items = c.pop.ensures.rest ∙ ap (λ k. take (k - 1) b.items) size ∙ take-lower b.items in
    subtract-adds c.args.xs.now c.args.ys.now c.as_slice.result.now b.items _ _ _ _ c.truth.ensures (c.as_slice.ensures.value ∙ c.in_ok-others.ensures) rest c.in_ok-bits.ensures
