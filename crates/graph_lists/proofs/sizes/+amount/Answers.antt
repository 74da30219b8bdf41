use Rattle.std.proofs.Common.{◌∙◌, ◌+◌, drop, arith}
use Rattle.graph_lists.specs.Amounts.{capped_sum, list_amount}
use Rattle.graph_lists.proofs.Sums.{list_kept, one_more, at_end}
use Rattle.graph_lists.proofs.sizes.+amount.Goals as goal

pub list_amount-loop-stmt-init : goal.list_amount-loop-stmt-init
list_amount-loop-stmt-init t c = record { whole = list_kept c.args.weights c.args.above.now c.args.list.now _; fits = omega arith }

pub list_amount-loop-stmt-preserved : goal.list_amount-loop-stmt-preserved
list_amount-loop-stmt-preserved t c =
    let l = c.loop-stmt in
    record {
      whole = (λ j. capped_sum (c.saturating_add-sum.ensures j) (list_amount c.args.weights c.args.above.now (drop (l.stmt-index + 1) c.args.list.now) c.is_simple-run.result)) ∙ one_more c.args.weights c.args.above.now c.args.list.now l.stmt-index c.stmt-item.result l.run c.is_simple-run.result l.sum c.stmt_amount.result c.loop-stmt-test.true c.stmt-item.is c.stmt_amount.ensures c.is_simple-run.ensures ∙ l.invariant.whole;
      fits = c.saturating_add-sum.type_inv;
    }

pub list_amount-returns : goal.list_amount-returns
list_amount-returns t c =
    let l = c.loop-stmt in
    at_end c.args.weights c.args.above.now c.args.list.now l.stmt-index l.sum _ l.run c.loop-stmt-test.false l.invariant.fits l.invariant.whole
