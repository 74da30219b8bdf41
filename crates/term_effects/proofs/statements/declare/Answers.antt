use Rattle.cond_laws.proofs.Fitting.ExpressionFits.{unset_fits}
use Rattle.term_effects.proofs.EffectRuns.{store_is, declared, initialised}
use Rattle.term_effects.proofs.statements.declare.Goals as goal

pub expr-requires : goal.expr-requires
expr-requires c = store_is c.unset_local.ensures (unset_fits _ c.args.local c.args.store.now c.requires)

pub returns-in-None : goal.returns-in-None
returns-in-None c = declared c.args.local c.args.store.now _ c.in-None.is c.unset_local.ensures c.new.ensures c.requires

pub returns-in_ok-value-in-Some : goal.returns-in_ok-value-in-Some
returns-in_ok-value-in-Some c = initialised c.args.local c.args.store.now c.in-Some.is c.unset_local.ensures c.put_term.ensures c.requires c.in_ok-value-in-Some.ensures
