-- What is written so far of a function's lines.
use Rattle.std.proofs.Common.{◌≡◌, ◌++◌, drop}
use Rattle.squeeze_top.specs.Answers.{func_lines}
use Rattle.squeeze_top.proofs.answer.add_func_lines.Given as goal

-- what is written, and the lines of the rest, are those of all
abbrev pub invariant-loop-number : goal.invariant-loop-number
invariant-loop-number l =
    l.text.items ++ func_lines l.function l.number (drop l.number l.row) ≡ l.initial.text.items ++ func_lines l.function 0 l.row
