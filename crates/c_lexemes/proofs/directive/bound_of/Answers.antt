use Rattle.std.proofs.Common.{sym}
use Rattle.c_lexemes.proofs.Operands.{operand_long, operand_unended, operand_read}
use Rattle.c_lexemes.proofs.directive.bound_of.Goals as goal

pub returns-then-digits-gt10 : goal.returns-then-digits-gt10
returns-then-digits-gt10 c = operand_long c.args.operand.now (rw c.split_operand.ensures.digits at c.if-digits-gt10.true)

pub returns-then-not-is_line_end : goal.returns-then-not-is_line_end
returns-then-not-is_line_end c = operand_unended c.args.operand.now (rw c.split_operand.ensures.rest at (sym c.if-not-is_line_end.ensures))

pub returns-in_err-value : goal.returns-in_err-value
returns-in_err-value c =
    let parts = c.split_operand.ensures in
    rw c.from_residual.ensures (operand_read c.args.operand.now _ _ _ parts.digits parts.rest c.if-digits-gt10.false (sym c.if-not-is_line_end.ensures) c.in_err-value.ensures)

pub returns : goal.returns
returns c =
    let parts = c.split_operand.ensures in
    operand_read c.args.operand.now _ _ _ parts.digits parts.rest c.if-digits-gt10.false (sym c.if-not-is_line_end.ensures) c.in_ok-value.ensures
