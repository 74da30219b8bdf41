use Rattle.std.proofs.Common.{◌≡◌, Some, sym, ap, ◌∙◌, subst, IfOk}
use Rattle.std.specs.Prelude.{slice_get}
use Rattle.c_tree.specs.Keeping.Programs.{Program}
use Rattle.c_tree.specs.Meaning.Runs.{param_types, arguments}
use Rattle.c_run.specs.Ends.{end_of_run}
use Rattle.c_run.specs.Machine.{entry_run_end}
use Rattle.c_run.specs.declared.machine.Given.{Given}
use Rattle.c_run.proofs.Exact.{ended_is, run_none, run_some}
use Rattle.c_run.proofs.runs.run.Goals as goal

pub returns-in-None : goal.returns-in-None
returns-in-None c =
    let entry = c.in-None.ensures.value ∙ ap (λ (p : Program). slice_get p.funcs p.entry) c.program.view_is in
    record { end = sym (ap (end_of_run c.args.costs.now) (run_none c.args.program.now c.args.input.now (sym entry))) }

pub start_of-requires : goal.start_of-requires
start_of-requires c =
    let entry = c.in-Some.ensures.value ∙ ap (λ (p : Program). slice_get p.funcs p.entry) c.program.view_is in
    record { formed = c.program_is_well_formed.ensures.globals; entry = sym entry; fits = c.requires.fits }

pub returns-in_ok-start_of-in-Some : goal.returns-in_ok-start_of-in-Some
returns-in_ok-start_of-in-Some c =
    let p = c.args.program.now in
    let t = c.args.costs.now in
    let i = c.args.input.now in
    let h = c.in-Some.entry.now in
    let g : Given = record { alloc = c.args.alloc; program = c.args.program; costs = c.args.costs } in
    let entry = c.in-Some.ensures.value ∙ ap (λ (p : Program). slice_get p.funcs p.entry) c.program.view_is in
    let there : slice_get p.funcs p.entry ≡ Some h = sym entry in
    let is = run_some p i h there in
    let s = c.in_ok-start_of-in-Some.ensures in
    let begins = ap (λ vs. entry_run_end g h vs c.in_ok-start_of-in-Some.field-0.globals.items) s.arguments ∙ ap (entry_run_end g h (arguments (param_types h.params h.locals) i.values)) s.globals in
    record { end = subst (λ x. IfOk c.run_entry.result (λ e. e ≡ x)) (begins ∙ ended_is t h.result _ (λ u e. c.costs_of_runs_fit.ensures i u (is ∙ e)) ∙ ap (end_of_run t) (sym is)) c.run_entry.ensures }
