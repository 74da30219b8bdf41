use Rattle.std.proofs.Common.{sym, ap, ◌∙◌, subst}
use Rattle.c_input.proofs.InputParts.{numbers_at}
use Rattle.std.proofs.Common.{take}
use Rattle.c_tree.specs.Keeping.WellFormed.{AreNumbersOf}
use Rattle.c_input.proofs.inputs.next_slot.Goals as goal

pub global_slot-requires : goal.global_slot-requires
global_slot-requires c =
    let g = c.args.global.now in
    numbers_at g.ty c.as_slice.result.now (subst (AreNumbersOf g.ty) (sym c.as_slice.ensures) c.requires.global.numbers)

pub global_slot-requires-2 : goal.global_slot-requires-2
global_slot-requires-2 c =
    let g = c.args.global.now in
    let zs = c.args.rest.now in
    let own = c.split_at.ensures.front ∙ ap (λ n. take n zs) c.width.ensures in
    numbers_at g.ty c.split_at.result.0.now (subst (AreNumbersOf g.ty) (sym own) (c.requires.own c.if-not-global.false).numbers)
