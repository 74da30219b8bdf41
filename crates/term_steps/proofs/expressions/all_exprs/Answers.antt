use Rattle.std.proofs.Common.{◌≡◌, ◌+◌, List, ◌∷◌, ◌++◌, length, drop, sym, ap, ◌∙◌, subst, append_assoc}
use Rattle.c_tree.specs.declared.tree.Expr.{Expr}
use Rattle.cond_laws.specs.TermExpressions as spec
use Rattle.term_steps.proofs.Runs.{Rest, rest_next, rest_joined, moved}
use Rattle.term_steps.proofs.Growing.{store_stays, below_pushed, below_grown}
use Rattle.term_steps.proofs.ExpressionRuns.{listed_is}
use Rattle.term_steps.proofs.expressions.all_exprs.Goals as goal
use Rattle.plain_laws.proofs.Lists.{drop-read}

pub expr-requires : goal.expr-requires
expr-requires c = store_stays c.requires c.loop-e.invariant.rest.grows

pub loop-e-preserved : goal.loop-e-preserved
loop-e-preserved c =
    let l = c.loop-e in
    let es = c.args.exprs.now in
    let s = c.args.store.now in
    let after = drop (l.e-index + 1) es in
    let value = c.in_ok-value.value in
    let at = drop-read es l.e-index c.e-item.result c.loop-e-test.true c.e-item.is in
    let begun = subst (λ (es' : List Expr). Rest (spec.all_exprs es s) (spec.all_exprs es' s) (λ more. spec.listed_terms (l.values ++ more.terms) (l.conditions ++ more.conditions)) c.args.terms.now l.terms) at l.invariant.rest in
    record {
      rest = rest_joined _ (λ m. listed_is (moved l.values value.term m.terms ∙ ap (λ ts. ts ++ m.terms) (sym c.in_ok-push.ensures.ok)) (sym (append_assoc l.conditions value.conditions m.conditions) ∙ ap (λ cs. cs ++ m.conditions) (sym c.in_ok-append.ensures))) (rest_next (λ j. spec.all_exprs after s) (λ j m. spec.listed_terms (j.term ∷ m.terms) (j.conditions ++ m.conditions)) begun c.in_ok-value.ensures);
      values_in = below_pushed l.values _ l.invariant.values_in c.in_ok-value.ensures.grows c.in_ok-value.ensures.fits.term c.in_ok-push.ensures.ok;
      conditions_in = below_grown l.conditions value.conditions _ l.invariant.conditions_in c.in_ok-value.ensures.grows c.in_ok-value.ensures.fits.conditions c.in_ok-append.ensures;
    }
