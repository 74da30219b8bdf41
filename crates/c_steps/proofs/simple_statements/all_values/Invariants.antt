use Rattle.std.proofs.Common.{◌≡◌, ◌++◌, drop, option_map}
use Rattle.c_tree.specs.Meaning.Expressions.{all_values}
use Rattle.c_steps.proofs.simple_statements.all_values.Given as goal

abbrev pub invariant-loop-e : goal.invariant-loop-e
invariant-loop-e l =
    option_map (λ more. l.values ++ more) (all_values (drop l.e-index l.exprs) l.memory) ≡ all_values l.exprs l.memory
