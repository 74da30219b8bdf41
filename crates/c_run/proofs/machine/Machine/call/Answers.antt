use Rattle.std.proofs.Common.{◌≡◌, ◌<◌, ◌+◌, List, [], ◌∷◌, Option, Some, None, sym, ap, ◌∙◌, arith, IfOk, subst}
use Rattle.std.specs.Prelude.{slice_get}
use Rattle.c_tree.specs.declared.value.Store.{Store}
use Rattle.c_tree.specs.Meaning.Expressions.{all_values}
use Rattle.c_tree.specs.Meaning.Statements.{Undefined, after, block, unset_target, come_back, call}
use Rattle.c_tree.specs.Meaning.Runs.{callee}
use Rattle.c_run.specs.Machine.{functions, over, task_outcome, ends_as, remains}
use Rattle.c_run.specs.Work.{task_work, machine_work, work_left}
use Rattle.c_run.proofs.Steps.{entered_as}
use Rattle.std.specs.Prelude.{unwrap_or}
use Rattle.c_tree.specs.Meaning.Statements.{Callee}
use Rattle.c_tree.specs.declared.value.Value.{Value}
use Rattle.c_run.proofs.Above.{over_at, over_none, works_at}
use Rattle.c_run.proofs.machine.Machine.call.Goals as goal

pub returns-in_default-clause-same : goal.returns-in_default-clause-same
unfolding task_outcome
returns-in_default-clause-same c =
    let g = c.args.given in let m = c.args.self.now in let fs = g.program.now.funcs in let cs = functions g m in let b = block m.func c.args.at in let s = unset_target c.args.target m.memory in let whole = λ (o : Option Callee) (vs : Option (List Value)). ends_as g m (after (b ∷ []) (call o c.args.target vs s)) in let vs = all_values c.args.arguments.now s in entered_as g m c.with_block-self.result c.args.at Undefined c.with_block-self.ensures ∙ ap (λ o. whole o vs) (sym (over_none fs m.func c.args.func (sym c.in_default.ensures)))

pub returns-in_default-clause-less : goal.returns-in_default-clause-less
unfolding task_work
returns-in_default-clause-less c =
    omega arith

pub returns-in_default-2-clause-same : goal.returns-in_default-2-clause-same
unfolding task_outcome
returns-in_default-2-clause-same c =
    let g = c.args.given in let m = c.args.self.now in let fs = g.program.now.funcs in let cs = functions g m in let b = block m.func c.args.at in let s = unset_target c.args.target m.memory in let whole = λ (o : Option Callee) (vs : Option (List Value)). ends_as g m (after (b ∷ []) (call o c.args.target vs s)) in let vs = all_values c.args.arguments.now s in let none = sym c.in_default-2.is ∙ c.in_ok-values.ensures ∙ ap (all_values c.args.arguments.now) c.unset_target.ensures in entered_as g m c.with_block-self.result c.args.at Undefined c.with_block-self.ensures ∙ ap (λ o. whole o None) (sym (over_at fs m.func c.args.func c.in-Some.callee.now (sym c.in-Some.ensures))) ∙ ap (whole (slice_get cs c.args.func)) none

pub returns-in_default-2-clause-less : goal.returns-in_default-2-clause-less
unfolding task_work
returns-in_default-2-clause-less c =
    omega arith

pub returns-clause-same : goal.returns-clause-same
unfolding task_outcome
returns-clause-same c =
    let g = c.args.given in let m = c.args.self.now in let fs = g.program.now.funcs in let cs = functions g m in let b = block m.func c.args.at in let s = unset_target c.args.target m.memory in let whole = λ (o : Option Callee) (vs : Option (List Value)). ends_as g m (after (b ∷ []) (call o c.args.target vs s)) in let vs = all_values c.args.arguments.now s in let f = c.args.func in let t = c.args.target in let h = c.in-Some.callee.now in let u = c.unset_target.new.memory in let values = c.in-Some-2.values in let some = sym c.in-Some-2.is ∙ c.in_ok-values.ensures ∙ ap (all_values c.args.arguments.now) c.unset_target.ensures in let enters = λ (u : Store) (vs : List Value). come_back t u (callee f h (over fs f) vs u.globals) in subst (λ e. IfOk c.enter.result (λ r. remains g c.enter.new.self r ≡ e)) (entered_as g m c.with_block-self.result c.args.at (enters u c.as_slice.result.now) c.with_block-self.ensures ∙ ap (λ u. ends_as g m (after (b ∷ []) (enters u c.as_slice.result.now))) c.unset_target.ensures ∙ ap (λ vs. ends_as g m (after (b ∷ []) (enters s vs))) c.as_slice.ensures ∙ ap (λ o. whole o (Some values)) (sym (over_at fs m.func f h (sym c.in-Some.ensures))) ∙ ap (whole (slice_get cs f)) some) c.enter.ensures.same

pub returns-clause-less : goal.returns-clause-less
unfolding task_work
returns-clause-less c =
    let g = c.args.given in let m = c.args.self.now in let fs = g.program.now.funcs in let is = ap (λ o. unwrap_or o 0) (works_at fs m.func c.args.func c.in-Some.callee.now (sym c.in-Some.ensures)) in subst (λ n. IfOk c.enter.result (λ t. work_left g c.enter.new.self t < 2 + n + machine_work g m)) (sym is) c.enter.ensures.less
