use Rattle.std.proofs.Common.{Some, sym, ap, ◌∙◌}
use Rattle.c_tree.specs.Meaning.Stores.{slot_ty, slot_length}
use Rattle.c_steps.proofs.Declared.{array_declared}
use Rattle.c_steps.proofs.simple_statements.declare_array.Goals as goal

pub returns-in_ok-list-in-Some : goal.returns-in_ok-list-in-Some
returns-in_ok-list-in-Some c =
    let values = sym c.in_ok-all_values.ensures ∙ c.in-Some.is ∙ ap Some (sym c.as_slice.ensures) in
    array_declared c.args.memory.now c.unset.new.self c.put_array.new.self c.args.local _ _ c.args.exprs.now _ _ c.unset.ensures (c.slot_ty-ty.ensures ∙ ap slot_ty c.slot-slot.ensures) (c.array_length-length.ensures ∙ ap slot_length c.slot-slot.ensures) values c.in_ok-list-in-Some.ensures c.put_array.ensures
