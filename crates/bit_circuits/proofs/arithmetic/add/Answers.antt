use Rattle.std.proofs.Common.{◌≡◌, ◌-◌, length, take, vec_len, arith, sym, ap, ◌∙◌}
use Rattle.bit_circuits.specs.Words.{lower}
use Rattle.bit_circuits.proofs.Circuits.Parts.{take-lower}
use Rattle.bit_circuits.proofs.Construction.Steps.{add-adds}
use Rattle.bit_circuits.proofs.arithmetic.add.Goals as goal

pub returns : goal.returns
returns c =
    let b = c.in_ok-bits.bits in
    let size : vec_len b ≡ length b.items = omega (arith, b.ok.0) in
    let rest : c.pop.new.self.items ≡ lower b.items = c.pop.ensures.rest ∙ ap (λ k. take (k - 1) b.items) size ∙ take-lower b.items in
    add-adds c.args.xs.now c.args.ys.now b.items _ _ _ _ c.falsity.ensures rest c.in_ok-bits.ensures
