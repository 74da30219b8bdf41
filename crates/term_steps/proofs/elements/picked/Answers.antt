use Rattle.std.proofs.Common.{◌<◌, ◌+◌, ℕ, List, length, drop, subst, arith}
use Rattle.cond_laws.specs.TermStores as spec
use Rattle.term_steps.proofs.Runs.{Rest, rest_goes}
use Rattle.term_steps.proofs.Growing.{below_at}
use Rattle.term_steps.proofs.elements.picked.Goals as goal
use Rattle.plain_laws.proofs.Lists.{drop-number}

pub one_pick-requires-clause-at_in : goal.one_pick-requires-clause-at_in
one_pick-requires-clause-at_in c = omega (arith, c.loop-index.invariant.rest.grows, c.requires.at_in)

pub one_pick-requires-clause-element_in : goal.one_pick-requires-clause-element_in
one_pick-requires-clause-element_in c =
    let i = c.loop-index.index in
    let inside : i < length c.args.elements.now = omega arith in
    omega (arith, c.loop-index.invariant.rest.grows, below_at (length c.args.terms.now.ops) c.args.elements.now i c.requires.elements_in inside)

pub loop-index-preserved : goal.loop-index-preserved
loop-index-preserved c =
    let l = c.loop-index in
    let i = l.index in
    let ns = c.args.elements.now in
    let e = c.args.at in
    let inside : i < length ns = omega arith in
    let begun = subst (λ (ms : List ℕ). Rest (spec.element_choice e 0 c.args.other ns) (spec.element_choice e i l.chosen ms) (λ x. x) c.args.terms.now l.terms) (drop-number ns i inside) l.invariant.rest in
    record {
      rest = rest_goes (λ y. spec.element_choice e (i + 1) y (drop (i + 1) ns)) begun c.in_ok-chosen.ensures;
      there = c.in_ok-chosen.ensures.fits;
    }
