use Rattle.std.proofs.Common.{◌++◌, length, ap, ◌∙◌, arith}
use Rattle.cond_laws.proofs.Fitting.OperandFits.{below_append}
use Rattle.term_steps.proofs.OperandRuns.{also_given}
use Rattle.term_steps.proofs.operands.with_operands.Goals as goal

pub returns : goal.returns
returns c =
    let p = c.args.p.conditions in
    let q = c.args.q.conditions in
    also_given (p ++ q) c.in_ok-conditions.conditions c.in_ok-value.ensures (below_append (length c.args.terms.now.ops) p q c.requires.p_in.conditions c.requires.q_in.conditions) (omega arith) (c.in_ok-conditions.ensures ∙ ap (λ cs. cs ++ c.in_ok-value.value.conditions) c.in_ok-operands.ensures)
