use Rattle.std.proofs.Common.{◌≡◌, drop}
use Rattle.c_tree.specs.Checking.Refusals.{func_named}
use Rattle.c_check.proofs.entry.func_named.Given as goal

-- the functions so far have other names
abbrev pub invariant-loop-top : goal.invariant-loop-top
invariant-loop-top l = func_named l.name (drop l.top-index l.tops) ≡ func_named l.name l.tops
