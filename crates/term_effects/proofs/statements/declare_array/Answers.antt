use Rattle.std.proofs.Common.{arith}
use Rattle.cond_laws.proofs.Fitting.ExpressionFits.{unset_fits}
use Rattle.term_effects.proofs.EffectRuns.{store_is, array_declared}
use Rattle.term_effects.proofs.statements.declare_array.Goals as goal

pub all_exprs-requires : goal.all_exprs-requires
all_exprs-requires c = store_is c.unset_local.ensures (unset_fits _ c.args.local c.args.store.now c.requires.there)

pub returns : goal.returns
returns c = array_declared c.args.local c.args.list.now c.args.store.now c.held-slot.ensures c.held_ty-ty.ensures c.unset_local.ensures (omega (arith, c.saturating_sub-missing.ensures, c.held_length-length.ensures, c.len.ensures)) c.in_ok-values.ensures c.in_ok-rest.ensures c.in_ok-elements.ensures c.put_slot.ensures c.requires.there c.requires.few
