use Rattle.std.proofs.Common.{◌≡◌, ◌+◌, ◌-◌, ℕ, suc, ◌∷◌, ◌++◌, length, sym, ap, ◌∙◌, subst, arith, length-append}
use Rattle.cond_laws.specs.TermStores as spec
use Rattle.term_steps.proofs.Runs.{Rest, rest_next, rest_joined, moved}
use Rattle.term_steps.proofs.Growing.{below_pushed}
use Rattle.term_effects.proofs.arrays.zeros.Goals as goal

pub loop-index-preserved : goal.loop-index-preserved
loop-index-preserved c =
    let l = c.loop-index in
    let n = c.args.count in
    let i = l._index in
    let one : n - i ≡ suc (n - (i + 1)) = omega arith in
    let begun = subst (λ (k : ℕ). Rest (spec.zero_terms n) (spec.zero_terms k) (λ zs. l.list ++ zs) c.args.terms.now l.terms) one l.invariant.rest in
    record {
      rest = rest_joined _ (λ zs. moved l.list c.in_ok-zero.zero zs ∙ ap (λ ns. ns ++ zs) (sym c.in_ok-push.ensures.ok)) (rest_next (λ y. spec.zero_terms (n - (i + 1))) (λ y ys. y ∷ ys) begun c.in_ok-zero.ensures);
      there = below_pushed l.list _ l.invariant.there c.in_ok-zero.ensures.grows c.in_ok-zero.ensures.fits c.in_ok-push.ensures.ok;
      many = ap length c.in_ok-push.ensures.ok ∙ (length-append l.list _ ∙ ap (λ n. n + 1) l.invariant.many);
    }
