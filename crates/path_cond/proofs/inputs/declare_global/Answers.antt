use Rattle.std.proofs.lemmas.Result.{on_ok_weaker}
use Rattle.std.proofs.Common.{◌++◌, replicate, ap, ◌∙◌}
use Rattle.cond_laws.specs.TermPaths.{is_signed}
use Rattle.path_cond.proofs.DeclaredInputs.{outer_inputs}
use Rattle.path_cond.proofs.inputs.declare_global.Goals as goal

pub returns-then-global-clause-inputs : goal.returns-then-global-clause-inputs
returns-then-global-clause-inputs c = on_ok_weaker c.declare_each.result (λ e. outer_inputs c.args.global.now _ _ c.if-global.true (e ∙ ap (λ n. c.args.terms.now.inputs ++ replicate n (is_signed c.args.global.now.ty)) c.width.ensures)) c.declare_each.ensures.inputs
