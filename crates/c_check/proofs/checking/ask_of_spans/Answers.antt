use Rattle.std.proofs.Common.{◌∷◌, ◌+◌, ◌^◌, drop, sym, ap, ◌∙◌}
use Rattle.std.specs.Prelude.{nat_lt}
use Rattle.c_tree.specs.declared.unit.RawTop.TheVariants as top
use Rattle.c_tree.specs.Checking.Refusals.{Span, where_true, wide_func_faults}
use Rattle.c_faults.specs.Verdicts.{after_all}
use Rattle.c_faults.proofs.FirstFault.{after_all-append}
use Rattle.c_check.proofs.checking.ask_of_spans.Goals as goal
use Rattle.c_check.proofs.checking.ask_of_spans.Goals.{in-Outer, in-Global, in-Func+in-Some}
use Rattle.plain_laws.proofs.Lists.{drop-read}
use Rattle.c_tree.proofs.FunctionSpans.{wide_func_faults-Outer, wide_func_faults-Global}

pub loop-top-preserved : goal.loop-top-preserved
loop-top-preserved c =
    let ss = c.args.spans.now in
    let n = c.loop-top.number in
    let v = c.loop-top.verdict in
    let rest = drop (c.loop-top.top-index + 1) c.args.tops.now in
    let at = drop-read c.args.tops.now c.loop-top.top-index c.top-item.result c.loop-top-test.true c.top-item.is in
    let back = ap (λ ts. after_all v (wide_func_faults (drop n ss) ts)) (sym at) ∙ c.loop-top.invariant in
    elim c.match-top.branch [
      | in-Outer w ↦
          (λ i. after_all ((w.verdict-is i)) (wide_func_faults (drop (w.number-is i) ss) rest))
          ∙ ap (after_all v) (sym (wide_func_faults-Outer (drop n ss) w.in-Outer.field-0 w.in-Outer.field-1 w.in-Outer.field-2 w.in-Outer.field-3 rest))
          ∙ ap (λ t. after_all v (wide_func_faults (drop n ss) (t ∷ rest))) (sym w.in-Outer.is) ∙ back
      | in-Global w ↦
          (λ i. after_all ((w.verdict-is i)) (wide_func_faults (drop (w.number-is i) ss) rest))
          ∙ ap (after_all v) (sym (wide_func_faults-Global (drop n ss) w.in-Global.field-0 w.in-Global.field-1 w.in-Global.field-2 w.in-Global.field-3 w.in-Global.field-4 rest))
          ∙ ap (λ t. after_all v (wide_func_faults (drop n ss) (t ∷ rest))) (sym w.in-Global.is) ∙ back
      | in-Func+in-Some w ↦
          (λ i. after_all ((w.verdict-is i)) (wide_func_faults (drop (w.number-is i) ss) rest))
          ∙ ap (λ o. after_all o (wide_func_faults (drop (n + 1) ss) rest)) w.refuse_if.ensures
          ∙ sym (after_all-append v (where_true (nat_lt (2 ^ 64) w.in-Some.span.now) Span w.in-Func.func.spot.at) (wide_func_faults (drop (n + 1) ss) rest))
          ∙ ap (λ l. after_all v (wide_func_faults l (top.Func w.in-Func.func ∷ rest))) (sym (drop-read ss n w.in-Some.span.now w.in-Some.ensures.lookup.3.0 w.in-Some.ensures.lookup.1))
          ∙ ap (λ t. after_all v (wide_func_faults (drop n ss) (t ∷ rest))) (sym w.in-Func.is) ∙ back
    ]
