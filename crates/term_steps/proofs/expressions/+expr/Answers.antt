use Rattle.std.proofs.Common.{rules, arith}
use Rattle.c_tree.specs.declared.tree.Expr.{the_lemmas}
use Rattle.term_steps.proofs.Growing.{judged_stays, store_stays, held_read}
use Rattle.term_steps.proofs.ExpressionRuns.{mapped, num_runs, name_runs, elem_runs, un_runs, cast_runs, bin_runs, cond_runs}
use Rattle.term_steps.proofs.expressions.+expr.Goals as goal

pub returns-in_ok-term-in-Num : goal.returns-in_ok-term-in-Num
returns-in_ok-term-in-Num t c = num_runs c.args.store.now c.in-Num.ty c.in-Num.n c.in-Num.is c.in_ok-term-in-Num.ensures c.sure.ensures

pub named-requires : goal.named-requires
named-requires t c = held_read c.in-Name.x c.held.ensures c.requires (omega arith)

pub element-requires-clause-slot_in : goal.element-requires-clause-slot_in
element-requires-clause-slot_in t c = held_read c.in-Elem.x c.held-in-Elem.ensures c.requires c.in_ok-at-in-Elem.ensures.grows

pub returns-in_ok-at-in-Elem : goal.returns-in_ok-at-in-Elem
returns-in_ok-at-in-Elem t c = mapped _ c.element.result c.element.ensures (λ j h. elem_runs c.args.store.now c.in-Elem.x _ c.held-in-Elem.ensures c.in-Elem.is c.get.ensures c.in_ok-at-in-Elem.ensures h)

pub returns-in_ok-a-in-Un : goal.returns-in_ok-a-in-Un
returns-in_ok-a-in-Un t c = mapped _ c.with_unary.result c.with_unary.ensures (λ j h. un_runs c.args.store.now c.in-Un.op c.in-Un.is c.get-in-Un.ensures c.in_ok-a-in-Un.ensures h)

pub returns-in_ok-a-in-Cast : goal.returns-in_ok-a-in-Cast
returns-in_ok-a-in-Cast t c = cast_runs c.args.store.now c.in-Cast.ty c.in-Cast.is c.get-in-Cast.ensures c.in_ok-a-in-Cast.ensures c.cast.ensures

pub expr-requires-in-Bin-2 : goal.expr-requires-in-Bin-2
expr-requires-in-Bin-2 t c = (search (rules, the_lemmas), store_stays c.requires c.in_ok-a-in-Bin.ensures.grows)

pub operated-requires-clause-p_in : goal.operated-requires-clause-p_in
operated-requires-clause-p_in t c = judged_stays c.in_ok-a-in-Bin.ensures.fits c.in_ok-b-in-Bin.ensures.grows

pub returns-in_ok-b-in-Bin : goal.returns-in_ok-b-in-Bin
returns-in_ok-b-in-Bin t c = mapped _ c.operated.result c.operated.ensures (λ j h. bin_runs c.args.store.now c.in-Bin.op c.in-Bin.is c.get-in-Bin.ensures c.get-in-Bin-2.ensures c.in_ok-a-in-Bin.ensures c.in_ok-b-in-Bin.ensures h)

pub expr-requires-in-Cond-2 : goal.expr-requires-in-Cond-2
expr-requires-in-Cond-2 t c = (search (rules, the_lemmas), store_stays c.requires c.in_ok-c-in-Cond.ensures.grows)

pub expr-requires-in-Cond-3 : goal.expr-requires-in-Cond-3
expr-requires-in-Cond-3 t c = (search (rules, the_lemmas), store_stays c.requires (omega (arith, c.in_ok-c-in-Cond.ensures.grows, c.in_ok-a-in-Cond.ensures.grows)))

pub chosen-requires-clause-c_in : goal.chosen-requires-clause-c_in
chosen-requires-clause-c_in t c = judged_stays c.in_ok-c-in-Cond.ensures.fits (omega (arith, c.in_ok-a-in-Cond.ensures.grows, c.in_ok-b-in-Cond.ensures.grows))

pub chosen-requires-clause-p_in : goal.chosen-requires-clause-p_in
chosen-requires-clause-p_in t c = judged_stays c.in_ok-a-in-Cond.ensures.fits c.in_ok-b-in-Cond.ensures.grows

pub returns-in_ok-b-in-Cond : goal.returns-in_ok-b-in-Cond
returns-in_ok-b-in-Cond t c = mapped _ c.chosen.result c.chosen.ensures (λ j h. cond_runs c.args.store.now c.in-Cond.is c.get-in-Cond.ensures c.get-in-Cond-2.ensures c.get-in-Cond-3.ensures c.in_ok-c-in-Cond.ensures c.in_ok-a-in-Cond.ensures c.in_ok-b-in-Cond.ensures h)

pub returns-in-Name : goal.returns-in-Name
returns-in-Name t c = mapped _ c.named.result c.named.ensures (λ j h. name_runs c.args.store.now c.in-Name.x _ c.held.ensures c.in-Name.is h)
