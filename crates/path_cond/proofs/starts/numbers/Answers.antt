use Rattle.std.proofs.Common.{◌+◌, List, ◌++◌, length, drop, ℤ, pos, subst, ap, ◌∙◌}
use Rattle.std.proofs.lemmas.List.{drop_more, length_push}
use Rattle.cond_laws.specs.TermPaths as spec
use Rattle.term_steps.proofs.Runs.{Rest}
use Rattle.term_steps.proofs.Growing.{below_pushed}
use Rattle.path_cond.proofs.StartRuns.{number_at, word_pushed}
use Rattle.path_cond.proofs.starts.numbers.Goals as goal

pub word_in-requires : goal.word_in-requires
word_in-requires c = number_at c.args.ty c.args.values.now c.loop-value.value-index (pos 0) c.requires c.loop-value-test.true

pub loop-value-preserved : goal.loop-value-preserved
loop-value-preserved c =
    let l = c.loop-value in
    let ty = c.args.ty in
    let zs = c.args.values.now in
    let at = drop_more zs l.value-index (pos 0) c.loop-value-test.true in
    let begun = subst (λ (rest : List ℤ). Rest (spec.numbers ty zs) (spec.numbers ty rest) (λ more. l.words ++ more) c.args.terms.now l.terms) at l.invariant.rest in
    record {
      rest = word_pushed (spec.numbers ty (drop (l.value-index + 1) zs)) c.word_in.result _ l.words _ c.word_in.ensures begun c.in_ok-word.ensures c.in_ok-push.ensures.ok;
      there = below_pushed l.words _ l.invariant.there c.in_ok-word.ensures.grows c.in_ok-word.ensures.fits c.in_ok-push.ensures.ok;
      many = ap length c.in_ok-push.ensures.ok ∙ (length_push l.words c.in_ok-word.word ∙ ap (λ n. n + 1) l.invariant.many);
    }
