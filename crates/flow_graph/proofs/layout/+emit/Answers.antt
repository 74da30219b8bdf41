use Rattle.std.proofs.Common.{◌≡◌, ◌∙◌, ap, sym, refl, rules, arith, drop, [], ◌+◌, ◌-◌, ◌++◌, true, false}
use Rattle.c_tree.specs.declared.tree.Stmt.{the_lemmas}
use Rattle.c_tree.specs.Meaning.Statements.{held_stmts}
use Rattle.flow_graph.proofs.BlockSizes.{list_blocks_le}
use Rattle.flow_graph.proofs.Layouts.Parts.{if_laid, while_laid, do_laid, for_laid}
use Rattle.flow_laws.specs.Graphs.{copies}
use Rattle.flow_laws.specs.Sites.{site_count, list_size, flow}
use Rattle.flow_laws.proofs.Graphs.PartSizes.{plain_size, simple_size, simple_blocks}
use Rattle.flow_laws.proofs.Graphs.FlowLayers.{site_count-If, site_count-While, site_count-Do, site_count-For, site_count-Group, flow-Group}
use Rattle.c_tree.specs.Meaning.Blocks.{is_simple, blocks, list_blocks}
use Rattle.flow_graph.specs.Spots.{spots}
use Rattle.flow_graph.specs.Layout.{copies_above, position_at, lead_targets, list_spots, laid_out, pending_spots}
use Rattle.flow_graph.proofs.Layouts.Along.{list_spots_is, enough, simple_step, plain_step, reread}
use Rattle.flow_graph.proofs.layout.+emit.Goals as goal
use Rattle.flow_graph.proofs.layout.+emit.Goals.{emit_list-then-is_simple, emit_list-else-is_simple+in_ok-block_after+in_ok-block}
use Rattle.std.proofs.result.Match.{if_ok_then}
use Rattle.plain_laws.proofs.Lists.{drop-read}

pub emit-emit_list-requires : goal.emit-emit_list-requires
emit-emit_list-requires t c =
    let a = c.args in
    let cs = copies_above a.scope.funcs.now a.scope.func in
    let is = ap (λ s. site_count cs s false) c.in-Group.is ∙ site_count-Group cs _ false in
    let xs = ap (λ ys. list_size cs ys false) c.as_slice.ensures in
    (search (rules, the_lemmas), (c.requires.known, (c.requires.blocks, omega (arith, c.requires.room, is, xs))))

pub emit-returns-in-Group-clause-items : goal.emit-returns-in-Group-clause-items
emit-returns-in-Group-clause-items t c =
    let a = c.args in
    let cs = copies_above a.scope.funcs.now a.scope.func in
    let w = position_at a.scope.func a.scope.chain.now a.at.scale in
    let k = lead_targets a.k in
    let whole = ap (λ s. spots (flow cs w s a.at.block a.at.node k)) c.in-Group.is ∙ ap spots (flow-Group cs w c.in-Group.list a.at.block a.at.node k) ∙ list_spots_is cs w c.in-Group.list a.at.block a.at.node [] k in
    if_ok_then c.emit_list.result _ _ (λ u h. h ∙ ap (λ ys. laid_out (copies [] a.scope.funcs.now) a.out.now ++ list_spots cs w ys a.at.block a.at.node false k) c.as_slice.ensures ∙ ap (λ y. laid_out (copies [] a.scope.funcs.now) a.out.now ++ y) (sym whole)) c.emit_list.ensures.items

pub emit_list-emit-requires : goal.emit_list-emit-requires
emit_list-emit-requires t c =
    let a = c.args in
    let l = c.loop-stmt in
    let x = c.stmt-item.result in
    let cs = copies_above a.scope.funcs.now a.scope.func in
    let w = position_at a.scope.func a.scope.chain.now a.at.scale in
    let is = drop-read a.list.now l.stmt-index x c.loop-stmt-test.true c.stmt-item.is in
    let plain : is_simple x ≡ false = sym c.is_simple.ensures ∙ c.if-is_simple.false in
    let some = enough (copies [] a.scope.funcs.now) cs w (lead_targets a.k) _ _ x l.run l.block l.node l.left c.stmt_nodes-count.result l.out _ _ _ is c.stmt_nodes-count.ensures l.invariant in
    (search (rules, the_lemmas), (c.requires.known, (plain, (omega (arith, c.in_ok-block_after.ensures.block, l.invariant.fewer), omega (arith, c.requires.room, l.invariant.nodes, some, c.stmt_nodes-count.ensures, plain_size cs x l.run plain)))))

pub emit_list-loop-stmt-preserved : goal.emit_list-loop-stmt-preserved
emit_list-loop-stmt-preserved t c =
    let a = c.args in
    let l = c.loop-stmt in
    let x = c.stmt-item.result in
    let cs = copies_above a.scope.funcs.now a.scope.func in
    let w = position_at a.scope.func a.scope.chain.now a.at.scale in
    let is = drop-read a.list.now l.stmt-index x c.loop-stmt-test.true c.stmt-item.is in
    let all = copies [] a.scope.funcs.now in
    let k = lead_targets a.k in
    let rest = drop (l.stmt-index + 1) a.list.now in
    let n = l.node + c.stmt_nodes-count.result in
    let left = l.left - c.stmt_nodes-count.result in
    let total = laid_out all a.out.now ++ list_spots cs w a.list.now a.at.block a.at.node false k in
    let n_end = a.at.node + list_size cs a.list.now false in
    let b_end = a.at.block + list_blocks a.list.now false in
    elim c.if-is_simple.branch [
      | emit_list-then-is_simple g ↦
          let r = simple_step all cs w k _ rest x l.run l.block l.node l.left c.stmt_nodes-count.result l.out total n_end b_end is c.stmt_nodes-count.ensures l.invariant (sym c.is_simple.ensures ∙ g.if-is_simple.true) in
          reread all cs w k rest true c.if-is_simple.run l.block c.if-is_simple.block n left l.out c.if-is_simple.out total n_end b_end (sym g.run-is) (sym g.block-is) (sym g.out-is) r
      | emit_list-else-is_simple+in_ok-block_after+in_ok-block g ↦
          let r = plain_step all cs w k _ rest x l.run l.block l.node l.left c.stmt_nodes-count.result l.out total n_end b_end is c.stmt_nodes-count.ensures l.invariant g.head-after.result g.in_ok-block_after.block_after g.in_ok-block.block g.put_pending.new.out g.emit.new.out (sym c.is_simple.ensures ∙ g.if-is_simple.false) g.head-after.ensures g.in_ok-block_after.ensures.block (g.in_ok-block_after.ensures.items ∙ ap (λ y. laid_out all l.out ++ pending_spots w l.run l.block y) g.head.ensures) g.in_ok-block.ensures.block g.in_ok-block.ensures.items in
          reread all cs w k rest false c.if-is_simple.run g.in_ok-block.block c.if-is_simple.block n left g.emit.new.out c.if-is_simple.out total n_end b_end (sym g.run-is) (sym g.block-is) (sym g.out-is) r
    ]

-- ---- a choice

pub emit-emit_if-requires : goal.emit-emit_if-requires
emit-emit_if-requires t c =
    let a = c.args in
    let cs = copies_above a.scope.funcs.now a.scope.func in
    let is = ap (λ s. site_count cs s false) c.in-If.is ∙ site_count-If cs c.in-If.field-0 c.in-If.yes c.in-If.no false in
    let xs = ap (λ ys. list_size cs ys false) c.as_slice-in-If.ensures in
    let ys = ap (λ ys. list_size cs ys false) c.as_slice-in-If-2.ensures in
    (search (rules, the_lemmas), (c.requires.known, (c.requires.blocks, omega (arith, c.requires.room, is, xs, ys))))

pub emit_if-emit_list-requires-2 : goal.emit_if-emit_list-requires-2
emit_if-emit_list-requires-2 t c =
    let a = c.args in
    let cs = copies_above a.scope.funcs.now a.scope.func in
    let few = list_blocks_le cs a.first.now false in
    (search (rules, the_lemmas), (c.requires.known, (omega (arith, c.requires.blocks, few, c.list_nodes-count.ensures, c.place-inner.ensures.block, c.place-inner-2.ensures.block, c.place-inner-2.ensures.node, c.in_ok-block.ensures.block, c.in_ok-block-2.ensures.block), omega (arith, c.requires.room, c.list_nodes-count.ensures, c.place-inner-2.ensures.node))))

pub emit_if-returns-clause-items : goal.emit_if-returns-clause-items
emit_if-returns-clause-items t c =
    let a = c.args in
    let all = copies [] a.scope.funcs.now in
    let f = a.scope.func in
    let chain = a.scope.chain.now in
    let k = lead_targets a.k in
    let at = a.at in
    let b1 = c.place-inner.ensures.block ∙ c.in_ok-block.ensures.block in
    let b2 = c.place-inner-2.ensures.block ∙ c.in_ok-block-2.ensures.block ∙ ap (λ z. z + list_blocks a.first.now false) b1 in
    if_ok_then c.emit_list-2.result _ _ (λ u h e. if_laid a.scope.funcs.now f chain at.scale at.block at.node e a.first.now a.second.now k (laid_out all a.out.now) _ _ _ _ _ _ _ _ _ _ _ _ _ _ _ c.in_ok-block.ensures.items c.in_ok-block-2.ensures.items h c.list_nodes-count.ensures c.list_nodes-more.ensures c.head-yes.ensures c.head-no.ensures c.place-inner.ensures.scale b1 c.place-inner.ensures.node refl c.place-inner-2.ensures.scale b2 c.place-inner-2.ensures.node refl) c.emit_list-2.ensures.items

-- ---- `while`

pub emit-emit_while-requires : goal.emit-emit_while-requires
emit-emit_while-requires t c =
    let a = c.args in
    let cs = copies_above a.scope.funcs.now a.scope.func in
    let is = ap (λ s. site_count cs s false) c.in-While.is ∙ site_count-While cs c.in-While.bound c.in-While.field-1 c.in-While.body false in
    let xs = ap (λ ys. list_size cs ys false) c.as_slice-in-While.ensures in
    (search (rules, the_lemmas), (c.requires.known, (c.requires.blocks, omega (arith, c.requires.room, is, xs))))

pub emit_while-returns-clause-items : goal.emit_while-returns-clause-items
emit_while-returns-clause-items t c =
    let a = c.args in
    let all = copies [] a.scope.funcs.now in
    let f = a.scope.func in
    let chain = a.scope.chain.now in
    let k = lead_targets a.k in
    let at = a.at in
    let b2 = c.place-inner.ensures.block ∙ c.in_ok-block.ensures.block ∙ ap (λ z. z + 1) c.place-test.ensures.block in
    let s1 = c.place-test.ensures.scale ∙ c.more_often.ensures in
    let s2 = c.place-inner.ensures.scale ∙ c.as_often.ensures in
    if_ok_then c.emit_list.result _ _ (λ u h e. while_laid a.scope.funcs.now f chain at.scale at.block at.node a.bound e a.body.now k (laid_out all a.out.now) _ _ _ _ _ _ _ _ _ _ _ _ c.in_ok-block.ensures.items h s1 c.place-test.ensures.block c.list_nodes-count.ensures c.turn-turn.ensures c.head-yes.ensures s2 b2 c.place-inner.ensures.node refl c.inside.ensures) c.emit_list.ensures.items

-- ---- `do`

pub emit-emit_do-requires : goal.emit-emit_do-requires
emit-emit_do-requires t c =
    let a = c.args in
    let cs = copies_above a.scope.funcs.now a.scope.func in
    let is = ap (λ s. site_count cs s false) c.in-Do.is ∙ site_count-Do cs c.in-Do.bound c.in-Do.body c.in-Do.field-2 false in
    let xs = ap (λ ys. list_size cs ys false) c.as_slice-in-Do.ensures in
    (search (rules, the_lemmas), (c.requires.known, (c.requires.blocks, omega (arith, c.requires.room, is, xs))))

pub emit_do-put-requires : goal.emit_do-put-requires
emit_do-put-requires t c =
    let a = c.args in
    let few = list_blocks_le (copies_above a.scope.funcs.now a.scope.func) a.body.now false in
    omega (arith, c.requires.blocks, c.requires.room, few, c.place-last.ensures.block, c.in_ok-block.ensures.block, c.place-inner.ensures.block)

pub emit_do-returns-clause-items : goal.emit_do-returns-clause-items
emit_do-returns-clause-items t c =
    let a = c.args in
    let all = copies [] a.scope.funcs.now in
    let f = a.scope.func in
    let chain = a.scope.chain.now in
    let k = lead_targets a.k in
    let at = a.at in
    let test = ap (λ z. at.node + z) c.list_nodes.ensures in
    let s1 = c.place-inner.ensures.scale ∙ c.as_often-scale.ensures in
    let s2 = c.place-last.ensures.scale ∙ c.as_often-scale.ensures in
    let b2 = c.place-last.ensures.block ∙ c.in_ok-block.ensures.block ∙ ap (λ z. z + list_blocks a.body.now false) c.place-inner.ensures.block in
    if_ok_then c.put.result _ _ (λ u h e. do_laid a.scope.funcs.now f chain at.scale at.block at.node a.bound e a.body.now k (laid_out all a.out.now) _ _ _ _ _ _ _ _ _ _ _ c.in_ok-block.ensures.items h s1 c.place-inner.ensures.block c.place-inner.ensures.node refl test c.inside.ensures s2 b2 c.turn-turn.ensures) c.put.ensures.items

-- ---- `for`

pub emit-emit_for-requires : goal.emit-emit_for-requires
emit-emit_for-requires t c =
    let a = c.args in
    let cs = copies_above a.scope.funcs.now a.scope.func in
    let is = ap (λ s. site_count cs s false) c.in-For.is ∙ site_count-For cs c.in-For.bound c.in-For.first c.in-For.step c.in-For.field-2 c.in-For.body false in
    let xs = ap (λ ys. list_size cs ys false) c.as_slice-body.ensures in
    (search (rules, the_lemmas), (c.requires.known, (c.requires.blocks, omega (arith, c.requires.room, is, xs))))

pub emit_for-put-requires : goal.emit_for-put-requires
emit_for-put-requires t c =
    let a = c.args in
    let few = list_blocks_le (copies_above a.scope.funcs.now a.scope.func) (held_stmts a.first.now) false in
    omega (arith, c.requires.room, c.requires.blocks, few, c.place-asked.ensures.block, c.in_ok-block.ensures.block)

pub emit_for-emit_held-requires-2 : goal.emit_for-emit_held-requires-2
emit_for-emit_held-requires-2 t c =
    let a = c.args in
    let few = list_blocks_le (copies_above a.scope.funcs.now a.scope.func) (held_stmts a.first.now) false in
    (search (rules, the_lemmas), (c.requires.known, (omega (arith, c.requires.blocks, few, c.held_nodes.ensures, c.place-inner.ensures.block, c.place-inner.ensures.node, c.place-asked.ensures.block, c.in_ok-block.ensures.block, c.in_ok-block-2.ensures.block), omega (arith, c.requires.room, c.held_nodes.ensures, c.place-inner.ensures.node))))

pub emit_for-emit_list-requires : goal.emit_for-emit_list-requires
emit_for-emit_list-requires t c =
    let a = c.args in
    let cs = copies_above a.scope.funcs.now a.scope.func in
    let few = list_blocks_le cs (held_stmts a.first.now) false in
    let fewer = list_blocks_le cs (held_stmts a.step.now) false in
    (search (rules, the_lemmas), (c.requires.known, (omega (arith, c.requires.blocks, few, fewer, c.held_nodes.ensures, c.held_nodes-between.ensures, c.place-inner-2.ensures.block, c.place-inner-2.ensures.node, c.place-inner.ensures.block, c.place-asked.ensures.block, c.in_ok-block.ensures.block, c.in_ok-block-2.ensures.block, c.in_ok-block-3.ensures.block), omega (arith, c.requires.room, c.held_nodes.ensures, c.held_nodes-between.ensures, c.place-inner-2.ensures.node))))

pub emit_for-returns-clause-items : goal.emit_for-returns-clause-items
emit_for-returns-clause-items t c =
    let a = c.args in
    let all = copies [] a.scope.funcs.now in
    let f = a.scope.func in
    let chain = a.scope.chain.now in
    let k = lead_targets a.k in
    let at = a.at in
    let test = ap (λ z. at.node + z) c.held_nodes.ensures in
    let b2 = c.place-asked.ensures.block ∙ c.in_ok-block.ensures.block in
    let b3 = c.place-inner.ensures.block ∙ c.in_ok-block-2.ensures.block ∙ ap (λ z. z + 1) b2 in
    let b4 = c.place-inner-2.ensures.block ∙ c.in_ok-block-3.ensures.block ∙ ap (λ z. z + list_blocks (held_stmts a.step.now) false) b3 in
    let s2 = c.place-asked.ensures.scale ∙ c.more_often.ensures in
    let s3 = c.place-inner.ensures.scale ∙ c.as_often-scale.ensures in
    let s4 = c.place-inner-2.ensures.scale ∙ c.as_often-scale.ensures in
    if_ok_then c.emit_list.result _ _ (λ u h e. for_laid a.scope.funcs.now f chain at.scale at.block at.node a.bound e a.first.now a.step.now a.body.now k (laid_out all a.out.now) _ _ _ _ _ _ c.held_nodes-between.result c.list_nodes-count.result c.head-again.result _ _ _ _ _ _ _ _ _ _ _ _ _ _ c.in_ok-block.ensures.items c.in_ok-block-2.ensures.items c.in_ok-block-3.ensures.items h test c.held_nodes-between.ensures c.list_nodes-count.ensures refl c.head-again.ensures c.head-yes.ensures c.turn-turn.ensures c.with_next.ensures s2 b2 s3 b3 c.place-inner.ensures.node c.with_next-2.ensures s4 b4 c.place-inner-2.ensures.node c.inside.ensures refl) c.emit_list.ensures.items

-- ---- an initialiser or a step

pub emit_held-put-requires : goal.emit_held-put-requires
emit_held-put-requires t c =
    let a = c.args in
    let cs = copies_above a.scope.funcs.now a.scope.func in
    let h : is_simple c.in-Some.stmt ≡ true = sym (ap is_simple c.get.ensures) ∙ sym c.is_simple.ensures ∙ c.if-is_simple.true in
    let is : list_size cs (held_stmts a.part.now) false ≡ site_count cs c.in-Some.stmt false + 0 = ap (λ o. list_size cs (held_stmts o) false) c.in-Some.is in
    omega (arith, c.requires.room, c.requires.blocks, is, simple_size cs c.in-Some.stmt false h)

pub emit_held-returns-then-is_simple-clause-block : goal.emit_held-returns-then-is_simple-clause-block
emit_held-returns-then-is_simple-clause-block t c =
    let a = c.args in
    let h : is_simple c.in-Some.stmt ≡ true = sym (ap is_simple c.get.ensures) ∙ sym c.is_simple.ensures ∙ c.if-is_simple.true in
    let is : list_blocks (held_stmts a.part.now) false ≡ blocks c.in-Some.stmt false + 0 = ap (λ o. list_blocks (held_stmts o) false) c.in-Some.is in
    if_ok_then c.put.result _ _ (λ u e. omega (arith, e, is, simple_blocks c.in-Some.stmt false h)) c.put.ensures.block
