use Rattle.std.proofs.Common.{rules, ◌<◌, ◌+◌, ℕ, List, ◌∷◌, ◌++◌, length, drop, sym, ap, ◌∙◌, subst, arith}
use Rattle.cond_laws.specs.TermOperators as spec
use Rattle.term_steps.proofs.Runs.{Rest, rest_next, rest_joined, moved}
use Rattle.term_steps.proofs.Growing.{below_at, below_pushed}
use Rattle.term_steps.proofs.operands.where_true.Goals as goal
use Rattle.plain_laws.proofs.Lists.{drop-number}

pub one_where_true-requires-clause-chooser_in : goal.one_where_true-requires-clause-chooser_in
one_where_true-requires-clause-chooser_in c = omega (arith, c.loop-condition.invariant.rest.grows, c.requires.chooser_in)

pub one_where_true-requires-clause-condition_in : goal.one_where_true-requires-clause-condition_in
one_where_true-requires-clause-condition_in c =
    let i = c.loop-condition.condition-index in
    let inside : i < length c.args.conditions.now = search rules in
    omega (arith, c.loop-condition.invariant.rest.grows, below_at (length c.args.terms.now.ops) c.args.conditions.now i c.requires.conditions_in inside)

pub loop-condition-preserved : goal.loop-condition-preserved
loop-condition-preserved c =
    let l = c.loop-condition in
    let i = l.condition-index in
    let xs = c.args.conditions.now in
    let k = c.args.chooser in
    let inside : i < length xs = search rules in
    let begun = subst (λ (ns : List ℕ). Rest (spec.conditions_where_true k xs) (spec.conditions_where_true k ns) (λ cs. l.chosen ++ cs) c.args.terms.now l.terms) (drop-number xs i inside) l.invariant.rest in
    record {
      rest = rest_joined _ (λ cs. moved l.chosen c.in_ok-choice.choice cs ∙ ap (λ ns. ns ++ cs) (sym c.in_ok-push.ensures.ok)) (rest_next (λ y. spec.conditions_where_true k (drop (i + 1) xs)) (λ y ys. y ∷ ys) begun c.in_ok-choice.ensures);
      there = below_pushed l.chosen _ l.invariant.there c.in_ok-choice.ensures.grows c.in_ok-choice.ensures.fits c.in_ok-push.ensures.ok;
    }
