use Rattle.std.proofs.Common.{◌≡◌, ap, ◌∙◌, List, ℤ, pos, length, replicate}
use Rattle.c_tree.specs.Meaning.Runs.{input_types}
use Rattle.item_turn.proofs.Trying.{nothing_weighs, inputs_of}
use Rattle.item_turn.proofs.trial.zeros.Goals as goal

pub condition-requires-clause-light : goal.condition-requires-clause-light
condition-requires-clause-light c = nothing_weighs c.args.plan.now.program

pub returns : goal.returns
returns c =
    let many : length c.inputs.result.now ≡ length (input_types c.args.plan.now.program) = ap length c.inputs.ensures ∙ (λ i. length (c.in_ok-start.ensures.terms i).terms.inputs) ∙ inputs_of c.args.plan.now.program in
    ap (λ (vs : List ℤ). record { values = vs }) (c.from_vec.ensures ∙ c.in_ok-values.ensures.items_if_clones_equal (λ y same. same) ∙ ap (λ n. replicate n (pos 0)) many)
