use Rattle.std.proofs.Common.{◌≡◌, ◌==◌, ◌%◌, ◌-◌, ◌+◌, cond, eq-eqb, arith, sym, ◌∙◌}
use Rattle.std.proofs.lemmas.Bool.{cond-true, cond-false, ne_eqb}
use Rattle.bit_circuits.specs.Words.{true_literal, false_literal, constant_bits as constant_of}
use Rattle.bit_circuits.proofs.Circuits.Parts.{constant_bits-more}
use Rattle.bit_circuits.proofs.word.constant.Goals.{then-rest-eq0, else-rest-eq0}
use Rattle.bit_circuits.proofs.word.constant.Goals as goal

pub loop-i-preserved : goal.loop-i-preserved
loop-i-preserved c =
    let n = c.loop-i.rest in
    let b : c.if-rest-eq0.bit ≡ cond (n % 2 == 0) false_literal true_literal =
    elim c.if-rest-eq0.branch [
      | then-rest-eq0 w ↦ w.bit-is ∙ w.falsity-bit.ensures ∙ sym (cond-true (n % 2 == 0) false_literal true_literal (eq-eqb (n % 2) 0 w.if-rest-eq0.true))
      | else-rest-eq0 w ↦ w.bit-is ∙ w.truth-bit.ensures ∙ sym (cond-false (n % 2 == 0) false_literal true_literal (ne_eqb (n % 2) 0 w.if-rest-eq0.false))
    ] in
    constant_bits-more c.loop-i.word.items _ (constant_of 32 c.args.number) (32 - c.loop-i.i) (32 - (c.loop-i.i + 1)) n c.if-rest-eq0.bit c.in_ok-push.ensures.items (omega arith) b c.loop-i.invariant
