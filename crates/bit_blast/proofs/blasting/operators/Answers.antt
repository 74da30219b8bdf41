use Rattle.std.proofs.Common.{◌≡◌, ◌++◌, [], ◌∷◌, sym, ap, ◌∙◌}
use Rattle.bit_blast.proofs.Pushing.{take-one}
use Rattle.bit_blast.proofs.blasting.operators.Goals as goal

pub loop-term-preserved : goal.loop-term-preserved
loop-term-preserved c = c.in_ok-push.ensures.items ∙ ap (λ l. l ++ c.op.result.now ∷ []) c.loop-term.invariant ∙ sym (take-one c.args.terms.now.ops c.loop-term.term c.op.result.now c.op.ensures)
