-- Bytes are below 2^8.
use Rattle.std.proofs.Common.{◌<◌, ◌^◌, get_or, subst, arith}
use Rattle.std.proofs.lemmas.List.{get_or_default}
use Rattle.squeeze_race.proofs.ending.numbers_fit.Goals as goal

pub returns-clause-bytes : goal.returns-clause-bytes
returns-clause-bytes c =
    λ k d less.
    let here : get_or c.args.text.now k 0 < 2 ^ 8 = omega (arith, c.type_inv.text k) in
    subst (λ h. h < 2 ^ 8) (get_or_default c.args.text.now k 0 d less) here
