use Rattle.std.proofs.Common.{◌≡◌, ◌-◌, ◌+◌, ◌*◌, ◌++◌, ◌∷◌, [], pos, arith, ap, ◌∙◌}
use Rattle.bit_circuits.specs.Formula.{input_bits as input_bits_of}
use Rattle.bit_circuits.proofs.Circuits.Parts.{variables-more}
use Rattle.bit_circuits.proofs.word.input_bits.Goals as goal

pub loop-i-preserved : goal.loop-i-preserved
loop-i-preserved c = (
  omega (arith, c.loop-i.invariant.0),
  variables-more c.loop-i.word.items _ (input_bits_of c.args.input) (32 - c.loop-i.i) (32 - (c.loop-i.i + 1)) c.loop-i.next
      (c.in_ok-push.ensures.items ∙ ap (λ z. c.loop-i.word.items ++ z ∷ []) c.of_variable.ensures) (omega arith) c.loop-i.invariant.1,
)
