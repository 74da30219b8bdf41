use Rattle.std.proofs.Common.{ap, ◌∙◌}
use Rattle.std.proofs.lemmas.Result.{on_ok_weaker}
use Rattle.c_tree.specs.Keeping.Programs.{Program}
use Rattle.path_cond.proofs.DeclaredInputs.{read_func, params_taken, params_first, globals_then, all_declared}
use Rattle.path_cond.proofs.inputs.declare_inputs.Goals as goal

pub slice_bounds-declare_params-end : goal.slice_bounds-declare_params-end
slice_bounds-declare_params-end c =
    let f = c.index-as_slice-program.result in
    let is = read_func c.args.program.now _ _ f c.program.view_is c.as_slice.ensures c.requires.formed.entry c.index-as_slice-program.is in
    params_taken c.args.program.now f _ c.requires.formed is c.as_slice-2.ensures

pub declare_params-requires : goal.declare_params-requires
declare_params-requires c =
    let f = c.index-as_slice-program.result in
    let is = read_func c.args.program.now _ _ f c.program.view_is c.as_slice.ensures c.requires.formed.entry c.index-as_slice-program.is in
    params_first c.args.program.now f _ _ c.requires.formed is c.as_slice-2.ensures c.requires.none

pub declare_globals-requires : goal.declare_globals-requires
declare_globals-requires c =
    let f = c.index-as_slice-program.result in
    let is = read_func c.args.program.now _ _ f c.program.view_is c.as_slice.ensures c.requires.formed.entry c.index-as_slice-program.is in
    globals_then c.args.program.now f _ _ _ _ c.requires.formed is c.as_slice-2.ensures (c.as_slice-3.ensures ∙ ap (λ (p : Program). p.globals) c.program.view_is) c.requires.none c.in_ok-declare_params.ensures.inputs

pub returns-clause-inputs : goal.returns-clause-inputs
returns-clause-inputs c =
    let f = c.index-as_slice-program.result in
    let is = read_func c.args.program.now _ _ f c.program.view_is c.as_slice.ensures c.requires.formed.entry c.index-as_slice-program.is in
    on_ok_weaker c.declare_globals.result (λ e. all_declared c.args.program.now f _ _ _ _ _ is c.as_slice-2.ensures (c.as_slice-3.ensures ∙ ap (λ (p : Program). p.globals) c.program.view_is) c.requires.none c.in_ok-declare_params.ensures.inputs e) c.declare_globals.ensures.inputs
