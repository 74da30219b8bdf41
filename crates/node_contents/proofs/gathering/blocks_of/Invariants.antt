use Rattle.std.proofs.Common.{◌≡◌, ◌++◌, map, drop}
use Rattle.flow_laws.specs.BlockLists.{blocks_of_body}
use Rattle.node_contents.specs.Contents.{what_of}
use Rattle.node_contents.proofs.gathering.blocks_of.Given as goal

-- the functions so far, and then the rest, are all
abbrev pub invariant-loop-func : goal.invariant-loop-func
invariant-loop-func l = what_of l.all ++ map blocks_of_body (drop l.func-index l.funcs) ≡ map blocks_of_body l.funcs
