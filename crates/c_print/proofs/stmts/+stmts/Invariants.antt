use Rattle.std.proofs.Common.{◌≡◌, ◌++◌, ◌+◌, take}
use Rattle.print_laws.specs.PrintedStatements.{stmts_text}
use Rattle.c_print.proofs.stmts.+stmts.Given as goal

abbrev pub invariant-push_block-loop-stmt : goal.invariant-push_block-loop-stmt
invariant-push_block-loop-stmt l = (l.text.items ≡ l.fn.text.items ++ stmts_text l.program l.func l.inner (take l.stmt-index l.stmts)) × (l.inner ≡ l.level + 1)
