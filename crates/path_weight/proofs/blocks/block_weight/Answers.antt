use Rattle.std.proofs.Common.{◌≡◌, ◌∙◌, Some, rules, sym, ap}
use Rattle.std.specs.Prelude.{slice_get}
use Rattle.c_tree.specs.Keeping.Programs.{Program}
use Rattle.path_weight.proofs.Copies.{copy_found_in, copy_passed_in}
use Rattle.path_weight.proofs.blocks.block_weight.Goals as goal

pub returns-in-Err : goal.returns-in-Err
returns-in-Err c =
    let func : slice_get c.args.program.now.funcs c.args.name.func ≡ Some c.in-Some.func.now = search rules in
    copy_found_in c.args.program.now c.args.name.func c.args.name.number c.in-Some.func.now c.as_slice.result.now c.as_slice-2.result.now c.as_slice-3.result.now c.in-Err.found func c.as_slice.ensures (c.as_slice-2.ensures ∙ ap (λ (y : Program). y.globals) c.program.view_is) c.as_slice-3.ensures (sym c.seek_list.ensures ∙ c.in-Err.is)

pub returns-in-Ok : goal.returns-in-Ok
returns-in-Ok c =
    let func : slice_get c.args.program.now.funcs c.args.name.func ≡ Some c.in-Some.func.now = search rules in
    copy_passed_in c.args.program.now c.args.name.func c.args.name.number c.in-Ok.field-0 c.in-Some.func.now c.as_slice.result.now c.as_slice-2.result.now c.as_slice-3.result.now func c.as_slice.ensures (c.as_slice-2.ensures ∙ ap (λ (y : Program). y.globals) c.program.view_is) c.as_slice-3.ensures (sym c.seek_list.ensures ∙ c.in-Ok.is)
