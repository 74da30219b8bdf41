use Rattle.std.proofs.Common.{◌+◌, List, ◌++◌, drop, sym, ap, ◌∙◌, subst, append_assoc}
use Rattle.c_tree.specs.declared.tree.Stmt.{Stmt}
use Rattle.cond_laws.specs.TermStatements as spec
use Rattle.cond_laws.specs.TermStatements.{effect_with}
use Rattle.term_steps.proofs.Runs.{Rest, rest_next, rest_joined}
use Rattle.term_steps.proofs.Growing.{below_grown}
use Rattle.term_effects.proofs.EffectRuns.{small_at}
use Rattle.term_effects.proofs.statements.all_simple.Goals as goal
use Rattle.plain_laws.proofs.Lists.{drop-read}

pub simple-requires-clause-small : goal.simple-requires-clause-small
simple-requires-clause-small c = small_at c.args.statements.now c.loop-statement.statement-index c.statement-item.result c.requires.small c.loop-statement-test.true c.statement-item.is

pub loop-statement-preserved : goal.loop-statement-preserved
loop-statement-preserved c =
    let l = c.loop-statement in
    let ss = c.args.statements.now in
    let after = drop (l.statement-index + 1) ss in
    let more = c.in_ok-more.more in
    let at = drop-read ss l.statement-index c.statement-item.result c.loop-statement-test.true c.statement-item.is in
    let begun = subst (λ (ss' : List Stmt). Rest (spec.simple_effects ss c.args.store.now) (spec.simple_effects ss' l.store) (λ e. effect_with e.now (l.conditions ++ e.conditions)) c.args.terms.now l.terms) at l.invariant.rest in
    record {
      rest = rest_joined _ (λ e. ap (λ cs. effect_with e.now cs) (sym (append_assoc l.conditions more e.conditions) ∙ ap (λ cs. cs ++ e.conditions) (sym c.in_ok-append.ensures))) (rest_next (λ a. spec.simple_effects after a.now) (λ a b. effect_with b.now (a.conditions ++ b.conditions)) begun c.in_ok-more.ensures);
      there = c.in_ok-more.ensures.fits.now;
      conditions_in = below_grown l.conditions more _ l.invariant.conditions_in c.in_ok-more.ensures.grows c.in_ok-more.ensures.fits.conditions c.in_ok-append.ensures;
    }
