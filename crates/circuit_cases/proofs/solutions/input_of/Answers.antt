use Rattle.std.proofs.Common.{◌∙◌, ap}
use Rattle.bv_term.specs.Stores.{fits_store}
use Rattle.bit_circuits.specs.Formula.{decoded_words}
use Rattle.circuit_cases.proofs.solutions.input_of.Goals as goal

pub returns : goal.returns
returns c =
    let t = c.args.terms.now in
    let values = c.args.assignment.now.values in
    let law = c.clauses_say_conditions.ensures t c.args.conditions.now c.len.ensures.store.fits in
    ap (λ numbers. fits_store t (record { values = numbers })) (c.decode.ensures ∙ ap (λ inputs. decoded_words inputs values) c.requires.inputs) ∙ law.fits values c.requires.satisfies
