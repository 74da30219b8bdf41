use Rattle.std.proofs.Common.{length, List, None, refl, sym, subst, ap, ◌∙◌}
use Rattle.c_tree.specs.Keeping.Programs.{Program}
use Rattle.cond_laws.specs.declared.store.TermSlot.{TermSlot}
use Rattle.cond_laws.specs.Sizes.{AreSmallLocals}
use Rattle.cond_laws.proofs.Paths.PlainGraphs.{entry_is_small}
use Rattle.path_cond.proofs.DeclaredInputs.{read_func, entry_params, params_declared, globals_declared, few_inputs}
use Rattle.path_cond.proofs.StartRuns.{entry_locals, started}
use Rattle.path_cond.proofs.starts.start.Goals as goal

pub inputs-requires-clause-declared : goal.inputs-requires-clause-declared
inputs-requires-clause-declared c =
    let f = c.index-as_slice-program.result in
    let is = read_func c.args.program.now _ _ f c.program.view_is c.as_slice.ensures c.requires.formed.entry c.index-as_slice-program.is in
    params_declared c.args.program.now f _ c.requires.formed is c.requires.declared

pub inputs-requires-clause-few : goal.inputs-requires-clause-few
inputs-requires-clause-few c =
    let f = c.index-as_slice-program.result in
    let is = read_func c.args.program.now _ _ f c.program.view_is c.as_slice.ensures c.requires.formed.entry c.index-as_slice-program.is in
    few_inputs _ _ (params_declared c.args.program.now f _ c.requires.formed is refl) c.requires.formed.inputs

pub entry_slots-requires-clause-small : goal.entry_slots-requires-clause-small
entry_slots-requires-clause-small c =
    let f = c.index-as_slice-program.result in
    let is = read_func c.args.program.now _ _ f c.program.view_is c.as_slice.ensures c.requires.formed.entry c.index-as_slice-program.is in
    subst AreSmallLocals (sym c.as_slice-2.ensures) (entry_locals c.args.program.now f is (entry_is_small c.args.program.now c.requires.formed))

pub global_slots-requires-clause-declared : goal.global_slots-requires-clause-declared
global_slots-requires-clause-declared c =
    let f = c.index-as_slice-program.result in
    let is = read_func c.args.program.now _ _ f c.program.view_is c.as_slice.ensures c.requires.formed.entry c.index-as_slice-program.is in
    globals_declared c.args.program.now f _ _ c.requires.formed is (c.as_slice-4.ensures ∙ ap (λ (p : Program). p.globals) c.program.view_is) (ap length (c.in_ok-locals.ensures.inputs ∙ c.in_ok-given.ensures.inputs) ∙ c.requires.declared)

pub global_slots-requires-clause-few : goal.global_slots-requires-clause-few
global_slots-requires-clause-few c =
    let f = c.index-as_slice-program.result in
    let is = read_func c.args.program.now _ _ f c.program.view_is c.as_slice.ensures c.requires.formed.entry c.index-as_slice-program.is in
    few_inputs _ _ (globals_declared c.args.program.now f _ _ c.requires.formed is (c.as_slice-4.ensures ∙ ap (λ (p : Program). p.globals) c.program.view_is) refl) c.requires.formed.inputs

pub returns : goal.returns
returns c =
    let f = c.index-as_slice-program.result in
    let is = read_func c.args.program.now _ _ f c.program.view_is c.as_slice.ensures c.requires.formed.entry c.index-as_slice-program.is in
    let made = ap (λ (fs : List (List TermSlot)). record { store = record { locals = c.in_ok-locals.locals; globals = c.in_ok-globals.globals }; frames = fs; result = None }) c.new.ensures in
    started c.args.program.now f _ is (entry_params c.args.program.now f c.requires.formed is) c.as_slice-3.ensures c.as_slice-2.ensures (c.as_slice-4.ensures ∙ ap (λ (p : Program). p.globals) c.program.view_is) c.in_ok-given.ensures c.in_ok-locals.ensures c.in_ok-globals.ensures made
