use Rattle.std.proofs.Common.{◌≡◌, ◌+◌, ◌-◌, ◌++◌, ◌∷◌, suc, length, drop, refl, sym, ap, ◌∙◌, arith, append-nil}
use Rattle.std.proofs.Math.ListN.{drop_of_length-le}
use Rattle.std.proofs.lemmas.Option.{slice_get_read}
use Rattle.c_input.specs.InputTexts.{param_leads}
use Rattle.c_input.proofs.InputParts.{drop_is}
use Rattle.c_input.proofs.InputSteps.{params_lead, no_params}
use Rattle.c_input.proofs.leads.push_params.Goals as goal

pub loop-local-preserved : goal.loop-local-preserved
loop-local-preserved c =
    let ls = c.args.locals.now in
    let i = c.loop-local.local-index in
    let l = c.local-item.result in
    let k = c.loop-local.left - 1 in
    let some : suc k ≡ c.loop-local.left = omega arith in
    let here = drop_is ls i l (slice_get_read ls (length ls) i l refl c.loop-local-test.true c.local-item.is) in
    let so_far = ap (λ k. c.loop-local.leads ++ param_leads k (l ∷ drop (i + 1) ls)) some ∙ ap (λ ls. c.loop-local.leads ++ param_leads c.loop-local.left ls) (sym here) ∙ c.loop-local.invariant in
    params_lead k l (drop (i + 1) ls) c.loop-local.leads c.push_leads.new.leads _ c.in_ok-push_leads.ensures so_far

pub returns : goal.returns
returns c =
    let ls = c.args.locals.now in
    let left = c.loop-local.left in
    let leads = c.loop-local.leads in
    let none = drop_of_length-le ls c.loop-local-test.false in
    sym (append-nil leads) ∙ ap (λ ls. leads ++ ls) (sym (no_params left)) ∙ ap (λ ls. leads ++ param_leads left ls) (sym none) ∙ c.loop-local.invariant
