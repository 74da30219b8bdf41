use Rattle.std.proofs.Common.{◌≡◌, ap, ◌∙◌, subst, IfOk}
use Rattle.c_tree.specs.Keeping.Programs.{Program}
use Rattle.c_tree.specs.Meaning.Runs.{entry_slots}
use Rattle.c_run.specs.Machine.{task_outcome}
use Rattle.c_run.proofs.Exact.{begins}
use Rattle.c_run.proofs.runs.run_entry.Goals as goal

pub returns : goal.returns
unfolding task_outcome
returns c =
    let g = c.args.given in
    let h = c.args.entry.now in
    let vs = c.args.start.arguments in
    let gs = c.args.start.globals.items in
    let m = c.new-machine.result in
    let made = c.new-machine.ensures in
    let locals = c.in_ok-locals.ensures ∙ ap (λ ls. entry_slots ls c.as_slice-2.result.now) c.as_slice.ensures ∙ ap (entry_slots h.locals) c.as_slice-2.ensures in
    let memory = made.memory ∙ c.new-memory.ensures ∙ ap (λ ls. record { locals = ls; globals = gs }) locals in
    subst (λ x. IfOk c.finish.result (λ e. e ≡ x)) (begins g m h vs gs c.as_slice-3.result.now (made.func ∙ ap (λ (p : Program). p.entry) c.program.view_is) memory made.pending made.cost c.as_slice-3.ensures) c.finish.ensures
