use Rattle.std.proofs.Common.{◌≡◌, ◌<◌, false, length, slice_index_or, slice_set, rules, sym, ap, ◌∙◌, arith}
use Rattle.std.proofs.lemmas.List.{length-set}
use Rattle.cnf_form.specs.Truth.{literal_true}
use Rattle.bit_circuits.specs.Words.{word_value}
use Rattle.bit_circuits.specs.Formula.{input_bits, number_read}
use Rattle.bit_blast.proofs.Reading.{decoded-more}
use Rattle.bit_blast.proofs.decoding.decode.Goals as goal

pub word_at-word-requires : goal.word_at-word-requires
word_at-word-requires c = omega (arith, ap length c.as_slice-inputs.ensures, c.args.blasted.now.few)

pub loop-n-preserved : goal.loop-n-preserved
loop-n-preserved c =
    let inputs = c.args.blasted.now.inputs in
    let values = c.args.assignment.now.values in
    let n = c.loop-n.n in
    let s = slice_index_or c.as_slice-inputs.result.now n false in
    let stored : c.set.new.self ≡ slice_set c.loop-n.into.values n c.number_of.result = search rules in
    record {
      as_many = ap length stored ∙ length-set _ _ _ ∙ c.loop-n.invariant.as_many;
      whole = decoded-more values inputs _ c.loop-n.into.values c.set.new.self n s false c.number_of.result (omega (arith, ap length c.as_slice-inputs.ensures)) c.loop-n.invariant.as_many
          (ap (λ l. slice_index_or l n false) c.as_slice-inputs.ensures) stored
          (c.number_of.ensures ∙ ap (number_read s) (c.word_at-word.ensures ∙ ap (λ vs. word_value (literal_true vs) (input_bits n)) c.values.ensures)) c.loop-n.invariant.whole;
    }
