use Rattle.std.proofs.Common.{◌+◌, ◌-◌, ◌++◌, length, subst, ap, ◌∙◌, arith}
use Rattle.std.proofs.lemmas.List.{length_push}
use Rattle.cond_laws.specs.TermPaths as spec
use Rattle.term_steps.proofs.Runs.{Rest}
use Rattle.term_steps.proofs.Growing.{below_pushed}
use Rattle.path_cond.proofs.StartRuns.{inputs_next, pushed}
use Rattle.path_cond.proofs.starts.inputs.Goals as goal

pub loop-k-preserved : goal.loop-k-preserved
loop-k-preserved c =
    let l = c.loop-k in
    let first = c.args.first in
    let many = c.args.count in
    let begun = subst (λ s. Rest (spec.input_terms first many) s (λ more. l.numbers ++ more) c.args.terms.now l.terms) (inputs_next first many l.k (omega arith)) l.invariant.rest in
    record {
      rest = pushed (spec.input_terms (first + (l.k + 1)) (many - (l.k + 1))) l.numbers _ begun c.in_ok-number.ensures c.in_ok-push.ensures.ok;
      there = below_pushed l.numbers _ l.invariant.there c.in_ok-number.ensures.grows c.in_ok-number.ensures.fits c.in_ok-push.ensures.ok;
      many = ap length c.in_ok-push.ensures.ok ∙ (length_push l.numbers c.in_ok-number.number ∙ ap (λ n. n + 1) l.invariant.many);
    }
