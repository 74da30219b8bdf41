use Rattle.std.proofs.Common.{◌≡◌, ◌++◌, drop}
use Rattle.c_tree.specs.Checking.Naming.{known_funcs}
use Rattle.c_resolve.proofs.unit.know.Given as goal

-- the functions so far are known
abbrev pub invariant-loop-top : goal.invariant-loop-top
invariant-loop-top l =
    l.names ++ known_funcs l.number (drop l.top-index l.tops) ≡ l.initial.names ++ known_funcs 0 l.tops
