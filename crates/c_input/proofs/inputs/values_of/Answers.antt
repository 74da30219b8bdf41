use Rattle.std.proofs.Common.{Some, pos, subst}
use Rattle.std.proofs.lemmas.Option.{slice_get-get_or}
use Rattle.c_input.specs.Starts.{NumberAt}
use Rattle.c_input.proofs.inputs.values_of.Goals as goal

pub of_number-requires : goal.of_number-requires
of_number-requires c =
    let i = c.loop-z.z-index in
    subst (λ o. NumberAt (Some c.args.ty) o) (slice_get-get_or c.args.from.now i (pos 0) c.loop-z-test.true) (c.requires i)
