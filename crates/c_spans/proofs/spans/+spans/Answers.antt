use Rattle.std.proofs.Common.{◌+◌, ◌*◌, false, drop, sym, ap, ◌∙◌}
use Rattle.c_tree.specs.Meaning.Blocks.{is_simple}
use Rattle.c_tree.specs.Meaning.Spans.{span, list_span}
use Rattle.c_tree.proofs.Layers.SpanLayers.{span-For}
use Rattle.c_spans.specs.Capped.{capped_span}
use Rattle.c_spans.proofs.CappedSpans.{capped_span-twice, capped_span-step, for_capped}
use Rattle.c_spans.proofs.spans.+spans.Goals as goal
use Rattle.plain_laws.proofs.Lists.{drop-read}

pub list_span-loop-stmt-preserved : goal.list_span-loop-stmt-preserved
list_span-loop-stmt-preserved t c =
    let ss = c.args.above.now in
    let k = c.args.k in
    let s = c.stmt-item.result in
    let rest = drop (c.loop-stmt.stmt-index + 1) c.args.stmts.now in
    let at = drop-read c.args.stmts.now c.loop-stmt.stmt-index s c.loop-stmt-test.true c.stmt-item.is in
    let e = c.sum-total.ensures in
    let sums = e ∙ ap (λ n. capped_span (c.loop-stmt.total + n)) c.span.ensures in
    record {
      cut = ap capped_span e ∙ capped_span-twice (c.loop-stmt.total + c.span.result) ∙ sym e;
      whole = (λ i. capped_span (sums i + list_span ss k rest (c.is_simple-run.ensures i)))
          ∙ capped_span-step c.loop-stmt.total (span ss k s c.loop-stmt.run) (list_span ss k rest (is_simple s))
          ∙ ap (λ xs. capped_span (c.loop-stmt.total + list_span ss k xs c.loop-stmt.run)) (sym at) ∙ c.loop-stmt.invariant.whole;
    }

pub span-returns-in-For : goal.span-returns-in-For
span-returns-in-For t c =
    let ss = c.args.above.now in
    let k = c.args.k in
    let f = c.in-For in
    let inside = c.product-inside-in-For.ensures ∙ ap (λ n. capped_span (k * n)) c.from-in-For.ensures in
    let condition = c.product-condition.ensures ∙ ap (λ n. capped_span (k * (n + 1))) c.from-in-For-2.ensures in
    let body = c.list_span-body-in-For.ensures ∙ ap (λ xs. capped_span (list_span ss c.product-inside-in-For.result xs false)) c.as_slice-in-For.ensures in
    for_capped ss k f.bound f.initial f.step f.body _ _ _ _ _ _ _ _ inside c.held_span-initial.ensures condition c.held_span-step.ensures body c.sum-in-For.ensures c.sum-in-For-2.ensures c.sum-in-For-3.ensures
    ∙ ap capped_span (sym (span-For ss k f.bound f.initial f.step f.field-2 f.body c.args.run))
    ∙ ap (λ s. capped_span (span ss k s c.args.run)) (sym f.is)
