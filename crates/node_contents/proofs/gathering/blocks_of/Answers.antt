use Rattle.std.proofs.Common.{◌∙◌, ◌++◌, [], List, map, ap}
use Rattle.flow_laws.specs.BlockLists.{blocks_of_list}
use Rattle.node_contents.specs.declared.block.Block.{Block}
use Rattle.node_contents.specs.Contents.{what}
use Rattle.node_contents.proofs.Tabled.{func_step}
use Rattle.node_contents.proofs.gathering.blocks_of.Goals as goal

pub loop-func-preserved : goal.loop-func-preserved
loop-func-preserved c =
    let l = c.loop-func in
    func_step c.args.funcs.now l.func-index c.func-item.result l.all c.push.new.self c.gather_list.new.out _ c.loop-func-test.true c.func-item.is c.in_ok-push.ensures.ok (c.in_ok-gather_list.ensures ∙ ap (λ (bs : List Block). map what bs ++ blocks_of_list [] c.as_slice.result.now) c.new-blocks.ensures ∙ ap (blocks_of_list []) c.as_slice.ensures) l.invariant
