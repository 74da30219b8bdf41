use Rattle.std.proofs.Common.{◌≡◌, ◌++◌, [], length}
use Rattle.cnf_form.specs.Literals.{most}
use Rattle.cnf_form.specs.Texts.{literals_text}
use Rattle.cnf_form.specs.Reading.{Keeps}
use Rattle.cnf_form.proofs.log_line.read_log_line.Given as goal

abbrev pub invariant-loop-token : goal.invariant-loop-token
invariant-loop-token l = record {
  keeps : Keeps l.front;
  variables : l.front.variables ≡ most;
  count : l.front.count ≡ 1;
  clauses : l.front.clauses.items ≡ [];
  line : l.line ≡ literals_text l.front.literals.items ++ l.rest;
}

abbrev pub decreases-loop-token : goal.decreases-loop-token
decreases-loop-token l = length l.rest
