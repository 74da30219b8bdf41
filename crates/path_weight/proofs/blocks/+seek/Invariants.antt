use Rattle.std.proofs.Common.{◌≡◌, ◌-◌, ◌≤◌, [], take, drop}
use Rattle.flow_laws.specs.BlockLists.{blocks_of_list}
use Rattle.path_weight.specs.Sought.{sought, block_part}
use Rattle.path_weight.proofs.blocks.+seek.Given as goal

-- from the run that is begun and the rest on, the block is what it is from all
abbrev pub invariant-seek_list-loop-at : goal.invariant-seek_list-loop-at
invariant-seek_list-loop-at l = record {
  begun : l.begun ≤ l.at;
  whole : sought (block_part l.scope.locals.now l.scope.globals.now l.scope.func) (blocks_of_list (take (l.at - l.begun) (drop l.begun l.list)) (drop l.at l.list)) l.left ≡ sought (block_part l.scope.locals.now l.scope.globals.now l.scope.func) (blocks_of_list [] l.list) l.number;
}
