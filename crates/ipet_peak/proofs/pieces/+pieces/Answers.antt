-- What is added to the pieces, step by step, is the part.
use Rattle.std.proofs.Common.{◌≡◌, ◌∙◌, ap, sym, arith, drop, [], ◌+◌, ◌∷◌, true, false}
use Rattle.c_tree.specs.Meaning.Blocks.{is_simple, blocks, list_blocks}
use Rattle.c_tree.specs.Meaning.Statements.{held_stmts}
use Rattle.c_tree.proofs.Layers.ExecLayers.{blocks-For}
use Rattle.flow_laws.proofs.Graphs.PartSizes.{simple_blocks}
use Rattle.peak_laws.specs.Parts as spec
use Rattle.peak_laws.specs.ProgramParts.{list_part}
use Rattle.ipet_peak.specs.Pieces.{stack_after, parts_above, costs_after}
use Rattle.ipet_peak.proofs.PartSteps.{at_first, simple_step, plain_step, reread, at_last, for_is}
use Rattle.ipet_peak.proofs.pieces.+pieces.Goals as goal
use Rattle.ipet_peak.proofs.pieces.+pieces.Goals.{list_pieces-then-is_simple, list_pieces-else-is_simple+in_ok-here+in_ok-block}
use Rattle.std.proofs.result.Match.{if_ok_then}
use Rattle.plain_laws.proofs.Lists.{drop-read}

-- ---- a list

pub list_pieces-loop-stmt-init : goal.list_pieces-loop-stmt-init
list_pieces-loop-stmt-init t c =
    let a = c.args in
    at_first (parts_above a.scope.costs.now a.scope.funcs.now) (costs_after a.scope.costs.now a.scope.funcs.now) a.list.now a.at a.out.now

pub list_pieces-loop-stmt-preserved : goal.list_pieces-loop-stmt-preserved
list_pieces-loop-stmt-preserved t c =
    let a = c.args in
    let l = c.loop-stmt in
    let x = c.stmt-item.result in
    let qs = parts_above a.scope.costs.now a.scope.funcs.now in
    let cost = costs_after a.scope.costs.now a.scope.funcs.now in
    let is = drop-read a.list.now l.stmt-index x c.loop-stmt-test.true c.stmt-item.is in
    let rest = drop (l.stmt-index + 1) a.list.now in
    let p = list_part qs cost a.list.now a.at false in
    let end = a.at + list_blocks a.list.now false in
    elim c.if-is_simple.branch [
      | list_pieces-then-is_simple g ↦
          let r = simple_step qs cost _ rest x l.run l.block l.out a.out.now p end is (sym c.is_simple.ensures ∙ g.if-is_simple.true) l.invariant in
          reread qs cost rest true c.if-is_simple.run l.block c.if-is_simple.block l.out c.if-is_simple.out a.out.now p end (sym g.run-is) (sym g.block-is) (sym g.out-is) r
      | list_pieces-else-is_simple+in_ok-here+in_ok-block g ↦
          let r = plain_step qs cost _ rest x l.run l.block g.in_ok-here.here g.in_ok-block.block l.out g.put_pending.new.out g.next_pieces.new.out a.out.now p end is (sym c.is_simple.ensures ∙ g.if-is_simple.false) g.in_ok-here.ensures.block g.in_ok-block.ensures.block g.in_ok-here.ensures.pieces g.in_ok-block.ensures.pieces l.invariant in
          reread qs cost rest false c.if-is_simple.run g.in_ok-block.block c.if-is_simple.block g.next_pieces.new.out c.if-is_simple.out a.out.now p end (sym g.run-is) (sym g.block-is) (sym g.out-is) r
    ]

pub list_pieces-returns-clause-block : goal.list_pieces-returns-clause-block
list_pieces-returns-clause-block t c =
    let a = c.args in
    let l = c.loop-stmt in
    let qs = parts_above a.scope.costs.now a.scope.funcs.now in
    let cost = costs_after a.scope.costs.now a.scope.funcs.now in
    let last = at_last qs cost a.list.now l.stmt-index l.run l.block l.out a.out.now (list_part qs cost a.list.now a.at false) _ c.loop-stmt-test.false l.invariant in
    if_ok_then c.put_last.result _ _ (λ b h. h ∙ last.0) c.put_last.ensures.block

pub list_pieces-returns-clause-pieces : goal.list_pieces-returns-clause-pieces
list_pieces-returns-clause-pieces t c =
    let a = c.args in
    let l = c.loop-stmt in
    let qs = parts_above a.scope.costs.now a.scope.funcs.now in
    let cost = costs_after a.scope.costs.now a.scope.funcs.now in
    let last = at_last qs cost a.list.now l.stmt-index l.run l.block l.out a.out.now (list_part qs cost a.list.now a.at false) _ c.loop-stmt-test.false l.invariant in
    if_ok_then c.put_last.result _ _ (λ b h ps. h qs ps ∙ last.1 ps) c.put_last.ensures.pieces

-- ---- an initialiser

pub held_pieces-returns-then-is_simple-clause-block : goal.held_pieces-returns-then-is_simple-clause-block
held_pieces-returns-then-is_simple-clause-block t c =
    let simple : is_simple c.in-Some.stmt ≡ true = sym (ap is_simple c.get-stmt.ensures) ∙ sym c.is_simple.ensures ∙ c.if-is_simple.true in
    let is : list_blocks (held_stmts c.args.part.now) false ≡ blocks c.in-Some.stmt false + list_blocks [] (is_simple c.in-Some.stmt) = ap (λ o. list_blocks (held_stmts o) false) c.in-Some.is in
    if_ok_then c.put_block.result _ _ (λ b h. omega (arith, h, is, simple_blocks c.in-Some.stmt false simple)) c.put_block.ensures.block

-- ---- `for`

pub stmt_pieces-returns-in_ok-inner-in-For-clause-block : goal.stmt_pieces-returns-in_ok-inner-in-For-clause-block
stmt_pieces-returns-in_ok-inner-in-For-clause-block t c =
    let f = c.in-For in
    let is = ap (λ s. blocks s false) f.is ∙ blocks-For f.bound f.first f.step f.field-2 f.body false in
    let xs = ap (λ ys. list_blocks ys false) c.as_slice-in-For.ensures in
    if_ok_then c.list_pieces-in-For.result _ _ (λ b h. omega (arith, h, is, xs, c.in_ok-inner-in-For.ensures, c.in_ok-held_blocks-in-For.ensures, c.in_ok-after-in-For.ensures, c.in_ok-test-in-For.ensures.block)) c.list_pieces-in-For.ensures.block

pub stmt_pieces-returns-in_ok-inner-in-For-clause-pieces : goal.stmt_pieces-returns-in_ok-inner-in-For-clause-pieces
stmt_pieces-returns-in_ok-inner-in-For-clause-pieces t c =
    let a = c.args in
    let f = c.in-For in
    let qs = parts_above a.scope.costs.now a.scope.funcs.now in
    let cost = costs_after a.scope.costs.now a.scope.funcs.now in
    let x = list_part qs cost c.as_slice-in-For.result.now c.in_ok-inner-in-For.inner false in
    let w = spec.While c.cost_of-in-For.result c.saturating_sub-spare-in-For.result c.held_step-each.result x in
    let first = list_part qs cost (held_stmts f.first) a.at false in
    let is = for_is qs cost a.stmt.now f.bound f.first f.step f.field-2 f.body c.as_slice-in-For.result.now a.at c.in_ok-test-in-For.test c.in_ok-after-in-For.after c.in_ok-inner-in-For.inner c.in_ok-held_blocks-in-For.field-0 c.cost_of-in-For.result c.saturating_sub-spare-in-For.result c.held_step-each.result f.is c.as_slice-in-For.ensures c.in_ok-test-in-For.ensures.block c.in_ok-after-in-For.ensures c.in_ok-inner-in-For.ensures c.in_ok-held_blocks-in-For.ensures c.cost_of-in-For.ensures c.saturating_sub-spare-in-For.ensures c.held_step-each.ensures in
    if_ok_then c.list_pieces-in-For.result _ _ (λ b h ps. h ps ∙ c.in_ok-put-in-For-2.ensures qs (x ∷ ps) ∙ c.in_ok-test-in-For.ensures.pieces (w ∷ ps) ∙ c.in_ok-put-in-For.ensures qs (first ∷ (w ∷ ps)) ∙ ap (λ p. stack_after qs a.out.now (p ∷ ps)) is) c.list_pieces-in-For.ensures.pieces
