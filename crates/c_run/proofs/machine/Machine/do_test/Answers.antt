use Rattle.std.proofs.Common.{true, false, [], ◌∷◌, Some, sym, ap, ◌∙◌, arith}
use Rattle.c_tree.specs.declared.value.Way.TheVariants as way
use Rattle.c_tree.specs.Meaning.Expressions.{val}
use Rattle.c_tree.specs.Meaning.Statements.{Ends, Undefined, after, block}
use Rattle.c_run.specs.Machine.{functions, again, do_test, task_outcome, pending_outcome, ends_as}
use Rattle.c_run.specs.Work.{task_work, pending_work}
use Rattle.c_run.proofs.Remains.{tested_none, tested_some}
use Rattle.c_run.proofs.Steps.{entered_as, turn_on, turn_past}
use Rattle.c_run.proofs.machine.Machine.do_test.Goals as goal

pub returns-then-not-goes_on-clause-same : goal.returns-then-not-goes_on-clause-same
unfolding task_outcome pending_outcome
returns-then-not-goes_on-clause-same c =
    let g = c.args.given in let m = c.args.self.now in ap (λ w. ends_as g m (Ends [] m.memory w)) c.past.ensures ∙ ap (ends_as g m) (sym (turn_past c.args.way m.memory (do_test (functions g m) m.func c.args.turns) (sym c.goes_on.ensures ∙ c.if-not-goes_on.true)))

pub returns-then-not-goes_on-clause-less : goal.returns-then-not-goes_on-clause-less
unfolding task_work pending_work
returns-then-not-goes_on-clause-less c =
    omega arith

pub returns-in-None-clause-same : goal.returns-in-None-clause-same
unfolding task_outcome pending_outcome
returns-in-None-clause-same c =
    let g = c.args.given in let m = c.args.self.now in let l = c.args.turns in let b = block m.func l.at in let x = again (functions g m) m.func l m.memory in let y = Ends [] m.memory way.Next in let v = val l.condition.now m.memory in let go = do_test (functions g m) m.func l in let on = sym c.goes_on.ensures ∙ c.if-not-goes_on.false in let test = ap (ends_as g m) (sym (turn_on c.args.way m.memory go on)) in entered_as g m c.with_block-self.result l.at Undefined c.with_block-self.ensures ∙ ap (λ o. ends_as g m (after (b ∷ []) o)) (sym (tested_none v x y c.in-None.ensures)) ∙ test

pub returns-in-None-clause-less : goal.returns-in-None-clause-less
unfolding task_work pending_work
returns-in-None-clause-less c =
    omega arith

pub returns-in-Some-false-clause-same : goal.returns-in-Some-false-clause-same
unfolding task_outcome pending_outcome
returns-in-Some-false-clause-same c =
    let g = c.args.given in let m = c.args.self.now in let l = c.args.turns in let b = block m.func l.at in let x = again (functions g m) m.func l m.memory in let y = Ends [] m.memory way.Next in let v = val l.condition.now m.memory in let go = do_test (functions g m) m.func l in let on = sym c.goes_on.ensures ∙ c.if-not-goes_on.false in let test = ap (ends_as g m) (sym (turn_on c.args.way m.memory go on)) in let some = ap Some (sym c.in-Some-false.field-0-test) ∙ c.in-Some-false.ensures in entered_as g m c.with_block-self.result l.at y c.with_block-self.ensures ∙ ap (λ o. ends_as g m (after (b ∷ []) o)) (sym (tested_some v false x y some)) ∙ test

pub returns-in-Some-false-clause-less : goal.returns-in-Some-false-clause-less
unfolding task_work pending_work
returns-in-Some-false-clause-less c =
    omega arith

pub returns-in-Some-true-clause-same : goal.returns-in-Some-true-clause-same
unfolding task_outcome pending_outcome
returns-in-Some-true-clause-same c =
    let g = c.args.given in let m = c.args.self.now in let l = c.args.turns in let b = block m.func l.at in let x = again (functions g m) m.func l m.memory in let y = Ends [] m.memory way.Next in let v = val l.condition.now m.memory in let go = do_test (functions g m) m.func l in let on = sym c.goes_on.ensures ∙ c.if-not-goes_on.false in let test = ap (ends_as g m) (sym (turn_on c.args.way m.memory go on)) in let some = ap Some (sym c.in-Some-true.field-0-test) ∙ c.in-Some-true.ensures in entered_as g m c.with_block-self.result l.at x c.with_block-self.ensures ∙ ap (λ o. ends_as g m (after (b ∷ []) o)) (sym (tested_some v true x y some)) ∙ test

pub returns-in-Some-true-clause-less : goal.returns-in-Some-true-clause-less
unfolding task_work pending_work
returns-in-Some-true-clause-less c =
    omega arith
