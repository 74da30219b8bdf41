use Rattle.std.proofs.Common.{◌≡◌, ◌∙◌, option_map, subst, sym}
use Rattle.flow_graph.specs.Plans.{Planned}
use Rattle.flow_laws.specs.BlockLists.{block_at}
use Rattle.node_contents.specs.Contents.{what}
use Rattle.node_contents.proofs.Tabled.{block_is}
use Rattle.node_contents.proofs.table.Contents.block.Goals as goal

pub returns : goal.returns
returns c =
    let k = c.args.name.func in
    let m = c.args.name.number in
    let row = c.in_ok-blocks.ensures in
    subst (λ (y : Planned). option_map what c.copied.result ≡ block_at y.program c.args.name) c.self.view_is (block_is c.self.inside.plan.now.program c.self.inside.blocks k m _ c.copied.result c.self.invariant.blocks_are (sym row.value) (c.copied.ensures ∙ c.get-2.ensures.value))
