-- Outcomes of runs after blocks that ran before.
use Rattle.std.proofs.Common.{◌≡◌, [], refl}
use Rattle.c_tree.specs.Meaning.Statements.{Outcome, Ends, Undefined, OverBound, after}

pub after_nothing : (o : Outcome) → after [] o ≡ o
after_nothing (Ends t s w) = refl
after_nothing Undefined = refl
after_nothing OverBound = refl
