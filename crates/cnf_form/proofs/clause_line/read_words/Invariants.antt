use Rattle.std.proofs.Common.{◌≡◌, length}
use Rattle.cnf_form.specs.Reading.{Keeps, front_words}
use Rattle.cnf_form.specs.Passing.{UpTo}
use Rattle.cnf_form.proofs.clause_line.read_words.Given as goal

abbrev pub invariant-loop-word : goal.invariant-loop-word
invariant-loop-word l = record {
  keeps : Keeps l.front;
  variables : l.front.variables ≡ l.fn.front.variables;
  count : l.front.count ≡ l.fn.front.count;
  up_to : UpTo (front_words l.fn.front.clauses.items l.fn.front.literals.items) l.line l.rest (front_words l.front.clauses.items l.front.literals.items);
}

abbrev pub decreases-loop-word : goal.decreases-loop-word
decreases-loop-word l = length l.rest
