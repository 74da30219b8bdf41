-- What a count of blocks keeps while it is made.
use Rattle.std.proofs.Common.{◌≡◌, ◌+◌, ◌<◌, ◌^◌, false, drop}
use Rattle.c_tree.specs.Meaning.Blocks.{list_blocks}
use Rattle.c_semantics.proofs.blocks.+blocks.Given as goal

-- the blocks counted, and those of what is left
abbrev pub invariant-list_blocks-loop-stmt : goal.invariant-list_blocks-loop-stmt
invariant-list_blocks-loop-stmt l = record {
  fits : l.count < 2 ^ 64;
  all : l.count + list_blocks (drop l.stmt-index l.list) l.goes_on ≡ list_blocks l.list false;
}
