use Rattle.std.proofs.Common.{◌≡◌, ℕ, pos, length, Vec, Global, ap, ◌∙◌}
use Rattle.std.specs.Prelude.{replicate}
use Rattle.bv_term.specs.Stores.{op_words}
use Rattle.bv_fold.specs.Steps.{AreWords}
use Rattle.bv_fold.proofs.PutTerms.{if_ok}
use Rattle.bv_fold.proofs.FoldedTerms.{zeros_as, words_are, words_as_many}
use Rattle.bv_fold.proofs.zeros.words_at_zeros.Goals as goal

pub values-requires : goal.values-requires
values-requires c =
    zeros_as c.args.terms.now c.from_vec.result (c.from_vec.ensures ∙ c.in_ok-values.ensures.items_if_clones_equal (λ y h. h) ∙ ap (λ l. replicate (length l) (pos 0)) c.inputs.ensures)

pub returns-clause-count : goal.returns-clause-count
returns-clause-count c =
    let terms = c.args.terms.now in
    if_ok (λ (ws : Vec ℕ Global). ws.items ≡ op_words terms.ops c.from_vec.result) (λ (ws : Vec ℕ Global). length ws.items ≡ length terms.ops) c.values.result c.values.ensures
    (λ ws h. words_as_many terms c.from_vec.result ws.items h)

pub returns-clause-words : goal.returns-clause-words
returns-clause-words c =
    let terms = c.args.terms.now in
    if_ok (λ (ws : Vec ℕ Global). ws.items ≡ op_words terms.ops c.from_vec.result) (λ (ws : Vec ℕ Global). AreWords terms ws.items) c.values.result c.values.ensures
    (λ ws h. words_are terms c.from_vec.result ws.items (c.from_vec.ensures ∙ c.in_ok-values.ensures.items_if_clones_equal (λ y h. h) ∙ ap (λ l. replicate (length l) (pos 0)) c.inputs.ensures) h)
