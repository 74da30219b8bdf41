use Rattle.std.proofs.Common.{◌++◌, drop, get_or, Some, sym, ap, ◌∙◌, subst, arith, append-nil}
use Rattle.std.specs.Prelude.{slice_get}
use Rattle.std.proofs.lemmas.Option.{slice_get-get_or}
use Rattle.c_tree.specs.declared.tree.Ty.TheVariants as ty
use Rattle.c_tree.specs.Meaning.Runs.{arguments}
use Rattle.c_input.specs.Starts.{NumberAt}
use Rattle.c_input.proofs.InputParts.{drop_none, arguments_none, args_step}
use Rattle.c_input.proofs.inputs.arguments.Goals as goal

pub returns-in_default : goal.returns-in_default
returns-in_default c =
    let ts = c.args.types.now in
    let zs = c.args.values.now in
    let i = c.loop-i.i in
    let none = drop_none zs i (sym c.in_default.ensures) in
    sym (append-nil c.loop-i.list) ∙ ap (λ vs. c.loop-i.list ++ vs) (sym (arguments_none (drop i ts))) ∙ ap (λ zs. c.loop-i.list ++ arguments (drop i ts) zs) (sym none) ∙ c.loop-i.invariant

pub of_number-requires : goal.of_number-requires
of_number-requires c =
    let ts = c.args.types.now in
    let i = c.loop-i.i in
    let there = slice_get-get_or ts i ty.Int (omega arith) in
    subst (λ o. NumberAt (Some (get_or ts i ty.Int)) o) (sym c.in-Some.ensures) (subst (λ o. NumberAt o (slice_get c.args.values.now i)) there (c.requires i))

pub loop-i-preserved : goal.loop-i-preserved
loop-i-preserved c =
    let ts = c.args.types.now in
    let i = c.loop-i.i in
    let there = slice_get-get_or ts i ty.Int (omega arith) in
    args_step ts c.args.values.now i (get_or ts i ty.Int) c.in-Some.z.now c.of_number.result c.loop-i.list _ _ there (sym c.in-Some.ensures) c.of_number.ensures c.in_ok-push.ensures.ok c.loop-i.invariant
