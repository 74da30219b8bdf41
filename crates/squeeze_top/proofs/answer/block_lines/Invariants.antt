-- What is written so far of the lines of all functions.
use Rattle.std.proofs.Common.{◌≡◌, ◌++◌}
use Rattle.squeeze_top.specs.Answers.{block_lines}
use Rattle.squeeze_top.proofs.answer.block_lines.Given as goal

-- what is written, and the lines of the functions that are left, are those of all
abbrev pub invariant-loop-func : goal.invariant-loop-func
invariant-loop-func l =
    l.text.items ++ block_lines l.func-iterator.a.rest.now l.func-iterator.b.rest.now ≡ block_lines l.funcs l.rows
