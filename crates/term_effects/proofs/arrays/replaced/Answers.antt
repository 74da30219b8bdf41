use Rattle.std.proofs.Common.{◌<◌, ◌+◌, ℕ, List, ◌∷◌, ◌++◌, length, drop, sym, ap, ◌∙◌, subst, arith, length-append}
use Rattle.cond_laws.specs.TermStores as spec
use Rattle.term_steps.proofs.Runs.{Rest, rest_next, rest_joined, moved}
use Rattle.term_steps.proofs.Growing.{below_at, below_pushed}
use Rattle.term_effects.proofs.arrays.replaced.Goals as goal
use Rattle.plain_laws.proofs.Lists.{drop-number}

pub one_pick-requires-clause-other_in : goal.one_pick-requires-clause-other_in
one_pick-requires-clause-other_in c =
    let i = c.loop-index.index in
    let inside : i < length c.args.elements.now = omega arith in
    omega (arith, c.loop-index.invariant.rest.grows, below_at (length c.args.terms.now.ops) c.args.elements.now i c.requires.elements_in inside)

pub loop-index-preserved : goal.loop-index-preserved
loop-index-preserved c =
    let l = c.loop-index in
    let i = l.index in
    let ns = c.args.elements.now in
    let e = c.args.at in
    let v = c.args.value in
    let inside : i < length ns = omega arith in
    let begun = subst (λ (ms : List ℕ). Rest (spec.elements_after e 0 v ns) (spec.elements_after e i v ms) (λ ys. l.after ++ ys) c.args.terms.now l.terms) (drop-number ns i inside) l.invariant.rest in
    record {
      rest = rest_joined _ (λ ys. moved l.after c.in_ok-element.element ys ∙ ap (λ xs. xs ++ ys) (sym c.in_ok-push.ensures.ok)) (rest_next (λ y. spec.elements_after e (i + 1) v (drop (i + 1) ns)) (λ y ys. y ∷ ys) begun c.in_ok-element.ensures);
      there = below_pushed l.after _ l.invariant.there c.in_ok-element.ensures.grows c.in_ok-element.ensures.fits c.in_ok-push.ensures.ok;
      many = ap length c.in_ok-push.ensures.ok ∙ (length-append l.after _ ∙ ap (λ n. n + 1) l.invariant.many);
    }
