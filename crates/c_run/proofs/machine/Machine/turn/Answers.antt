use Rattle.std.proofs.Common.{◌≡◌, true, false, [], ◌∷◌, Some, sym, ap, ◌∙◌, arith, IfOk, subst}
use Rattle.c_tree.specs.declared.value.Way.TheVariants as way
use Rattle.c_tree.specs.Meaning.Expressions.{val}
use Rattle.c_tree.specs.Meaning.Statements.{Ends, Undefined, after, block}
use Rattle.c_run.specs.Machine.{functions, body_turns, task_outcome, ends_as, remains}
use Rattle.c_run.specs.Work.{turn_work, task_work}
use Rattle.c_run.proofs.Remains.{turns_test, tested_none, tested_some}
use Rattle.c_run.proofs.Steps.{entered_as}
use Rattle.c_run.proofs.machine.Machine.turn.Goals as goal

pub returns-in-None-clause-same : goal.returns-in-None-clause-same
unfolding task_outcome
returns-in-None-clause-same c =
    let g = c.args.given in let m = c.args.self.now in let l = c.args.turns in let b = block m.func l.at in let x = body_turns (functions g m) m.func l l.left m.memory in let y = Ends [] m.memory way.Next in let v = val l.condition.now m.memory in let test = ap (ends_as g m) (sym (turns_test (functions g m) m.func l l.left m.memory)) in entered_as g m c.with_block-self.result l.at Undefined c.with_block-self.ensures ∙ ap (λ o. ends_as g m (after (b ∷ []) o)) (sym (tested_none v x y c.in-None.ensures)) ∙ test

pub returns-in-None-clause-less : goal.returns-in-None-clause-less
unfolding task_work turn_work
returns-in-None-clause-less c =
    omega arith

pub returns-in-Some-false-clause-same : goal.returns-in-Some-false-clause-same
unfolding task_outcome
returns-in-Some-false-clause-same c =
    let g = c.args.given in let m = c.args.self.now in let l = c.args.turns in let b = block m.func l.at in let x = body_turns (functions g m) m.func l l.left m.memory in let y = Ends [] m.memory way.Next in let v = val l.condition.now m.memory in let test = ap (ends_as g m) (sym (turns_test (functions g m) m.func l l.left m.memory)) in let some = ap Some (sym c.in-Some-false.field-0-test) ∙ c.in-Some-false.ensures in entered_as g m c.with_block-self.result l.at y c.with_block-self.ensures ∙ ap (λ o. ends_as g m (after (b ∷ []) o)) (sym (tested_some v false x y some)) ∙ test

pub returns-in-Some-false-clause-less : goal.returns-in-Some-false-clause-less
unfolding task_work turn_work
returns-in-Some-false-clause-less c =
    omega arith

pub returns-in-Some-true-clause-same : goal.returns-in-Some-true-clause-same
unfolding task_outcome
returns-in-Some-true-clause-same c =
    let g = c.args.given in let m = c.args.self.now in let l = c.args.turns in let b = block m.func l.at in let x = body_turns (functions g m) m.func l l.left m.memory in let y = Ends [] m.memory way.Next in let v = val l.condition.now m.memory in let test = ap (ends_as g m) (sym (turns_test (functions g m) m.func l l.left m.memory)) in let some = ap Some (sym c.in-Some-true.field-0-test) ∙ c.in-Some-true.ensures in subst (λ e. IfOk c.enter_body.result (λ t. remains g c.enter_body.new.self t ≡ e)) (entered_as g m c.with_block-self.result l.at x c.with_block-self.ensures ∙ ap (λ o. ends_as g m (after (b ∷ []) o)) (sym (tested_some v true x y some)) ∙ test) (c.enter_body.ensures.same g)
