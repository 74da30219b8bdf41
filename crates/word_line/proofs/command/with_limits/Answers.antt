use Rattle.std.proofs.Common.{ap, codes, ◌∙◌}
use Rattle.std.proofs.lemmas.Result.{IfOk-weaker}
use Rattle.clap.specs.declared.builder.action.ArgAction.TheVariants.{Set}
use Rattle.clap.specs.Simple.{with_rule}
use Rattle.word_line.specs.Command.{named}
use Rattle.word_line.proofs.command.with_limits.Goals as goal

pub returns : goal.returns
returns c =
    IfOk-weaker c.with_named-2.result _ _
    (λ command h. h ∙ ap (λ app. with_rule app (named (codes "conflicts") Set)) c.in_ok-command.ensures)
    c.with_named-2.ensures
