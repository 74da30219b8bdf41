use Rattle.std.proofs.Common.{◌<◌, ◌∙◌, map, length, sym, arith}
use Rattle.node_contents.specs.Contents.{what}
use Rattle.node_contents.proofs.Gathered.{simple_step, if_blocks, while_blocks, do_blocks, for_blocks}
use Rattle.node_contents.proofs.gathering.+gather.Goals as goal

pub gather_list-loop-at-preserved-then-is_simple : goal.gather_list-loop-at-preserved-then-is_simple
gather_list-loop-at-preserved-then-is_simple t c =
    let l = c.loop-at in
    let lt : l.at < length c.args.list.now = omega arith in
    record {
      begun = omega (arith, l.invariant.begun);
      whole = simple_step c.args.list.now l.begun l.at c.index-list-at.result (map what l.out) _ l.invariant.begun lt c.index-list-at.is (sym c.is_simple.ensures ∙ c.if-is_simple.true) l.invariant.whole;
    }

pub gather-returns-in_ok-gather_list-in-If-2 : goal.gather-returns-in_ok-gather_list-in-If-2
gather-returns-in_ok-gather_list-in-If-2 t c =
    if_blocks c.args.stmt.now c.in-If.condition c.in-If.first c.in-If.second c.as_slice-in-If.result.now c.as_slice-in-If-2.result.now (map what c.args.out.now) (map what c.put-in-If.new.out) (map what c.gather_list-in-If.new.out) (map what c.gather_list-in-If-2.new.out) c.in-If.is c.in_ok-put-in-If.ensures c.in_ok-gather_list-in-If.ensures c.as_slice-in-If.ensures c.in_ok-gather_list-in-If-2.ensures c.as_slice-in-If-2.ensures

pub gather-returns-in_ok-gather_list-in-While : goal.gather-returns-in_ok-gather_list-in-While
gather-returns-in_ok-gather_list-in-While t c =
    while_blocks c.args.stmt.now c.in-While.field-0 c.in-While.condition c.in-While.body c.as_slice-in-While.result.now (map what c.args.out.now) (map what c.put-in-While.new.out) (map what c.gather_list-in-While.new.out) c.in-While.is c.in_ok-put-in-While.ensures c.in_ok-gather_list-in-While.ensures c.as_slice-in-While.ensures

pub gather-returns-in_ok-put-in-Do : goal.gather-returns-in_ok-put-in-Do
gather-returns-in_ok-put-in-Do t c =
    do_blocks c.args.stmt.now c.in-Do.field-0 c.in-Do.condition c.in-Do.body c.as_slice-in-Do.result.now (map what c.args.out.now) (map what c.gather_list-in-Do.new.out) (map what c.put-in-Do.new.out) c.in-Do.is c.in_ok-gather_list-in-Do.ensures c.as_slice-in-Do.ensures c.in_ok-put-in-Do.ensures

pub gather-returns-in_ok-gather_list-in-For : goal.gather-returns-in_ok-gather_list-in-For
gather-returns-in_ok-gather_list-in-For t c =
    for_blocks c.args.stmt.now c.in-For.field-0 c.in-For.first c.in-For.step c.in-For.condition c.in-For.body c.as_slice-in-For.result.now (map what c.args.out.now) (map what c.gather_held.new.out) (map what c.put-in-For.new.out) (map what c.gather_held-in-For.new.out) (map what c.gather_list-in-For.new.out) c.in-For.is c.in_ok-gather_held-in-For.ensures c.in_ok-put-in-For.ensures c.in_ok-gather_held-in-For-2.ensures c.in_ok-gather_list-in-For.ensures c.as_slice-in-For.ensures
