use Rattle.std.proofs.Common.{sym, ◌∙◌}
use Rattle.term_steps.proofs.ExpressionRuns.{mapped}
use Rattle.path_cond.proofs.CallRuns.{given_missing, given_value}
use Rattle.path_cond.proofs.calls.give.Goals as goal

pub returns-in_default-value : goal.returns-in_default-value
returns-in_default-value c =
    let goes = sym c.variable_of.ensures ∙ c.in-Some.is in
    mapped _ c.nowhere.result c.nowhere.ensures (λ cs h. given_missing c.args.target c.in-Some.var c.args.value c.args.store.now goes c.in_default-value.is c.requires.there h)

pub returns : goal.returns
returns c =
    let goes = sym c.variable_of.ensures ∙ c.in-Some.is in
    given_value _ c.args.target c.in-Some.var c.args.value c.in-Some-value.value c.args.store.now _ _ c.new-2.ensures goes c.in-Some-value.is c.requires.value c.requires.there c.put_term.ensures
