use Rattle.std.proofs.Common.{◌<◌, ◌^◌, get_or, subst, arith}
use Rattle.std.proofs.lemmas.List.{get_or_default}
use Rattle.cnf_form.proofs.write.push_hints.Goals as goal

pub returns-clause-small : goal.returns-clause-small
returns-clause-small c = λ k d less.
    let here : get_or c.args.hints.now k 0 < 2 ^ 32 = omega (arith, c.type_inv.hints k) in
    subst (λ h. h < 2 ^ 32) (get_or_default c.args.hints.now k 0 d less) here
