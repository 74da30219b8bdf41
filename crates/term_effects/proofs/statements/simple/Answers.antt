use Rattle.term_steps.proofs.ExpressionRuns.{mapped}
use Rattle.term_effects.proofs.EffectRuns.{other_runs}
use Rattle.term_effects.proofs.statements.simple.Goals as goal

pub returns-in_default : goal.returns-in_default
returns-in_default c = mapped _ c.nowhere.result c.nowhere.ensures (λ cs h. other_runs c.args.statement.now c.args.store.now c.in_default.not-Empty c.in_default.not-Scalar c.in_default.not-Array c.in_default.not-Assign c.requires.there h)
