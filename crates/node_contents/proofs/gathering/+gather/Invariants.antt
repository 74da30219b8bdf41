use Rattle.std.proofs.Common.{◌≡◌, ◌++◌, ◌-◌, ◌≤◌, [], map, take, drop}
use Rattle.flow_laws.specs.BlockLists.{blocks_of_list}
use Rattle.node_contents.specs.Contents.{what}
use Rattle.node_contents.proofs.gathering.+gather.Given as goal

-- the blocks so far, and then those of the run that is begun and of the rest, are all
abbrev pub invariant-gather_list-loop-at : goal.invariant-gather_list-loop-at
invariant-gather_list-loop-at l = record {
  begun : l.begun ≤ l.at;
  whole : map what l.out ++ blocks_of_list (take (l.at - l.begun) (drop l.begun l.list)) (drop l.at l.list) ≡ map what l.initial.out ++ blocks_of_list [] l.list;
}
