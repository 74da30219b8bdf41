use Rattle.std.proofs.Common.{◌≡◌, suc, ◌+◌, ◌-◌, ◌∷◌, drop, length, refl, sym, ap, ◌∙◌, arith}
use Rattle.std.proofs.Math.ListN.{drop_of_length-le}
use Rattle.std.proofs.lemmas.Option.{slice_get_read}
use Rattle.c_tree.specs.Meaning.Runs.{param_types}
use Rattle.c_input.specs.Starts.{rest_of}
use Rattle.c_input.proofs.InputParts.{drop_is, params_none, next_some, next_none}
use Rattle.c_input.proofs.fitting.behind_params.Goals as goal

pub returns-in-None : goal.returns-in-None
returns-in-None c =
    let ls = c.args.locals.now in
    let i = c.loop-local.local-index in
    let l = c.local-item.result in
    let left = c.loop-local.left in
    let k = left - 1 in
    let zs = c.loop-local.rest.now in
    let some : suc k ≡ left = omega arith in
    let here = drop_is ls i l (slice_get_read ls (length ls) i l refl c.loop-local-test.true c.local-item.is) in
    let so_far = ap (λ k. rest_of (param_types k (l ∷ drop (i + 1) ls)) zs) some ∙ ap (λ ls. rest_of (param_types left ls) zs) (sym here) ∙ c.loop-local.invariant in
    sym (next_none l.ty (param_types k (drop (i + 1) ls)) zs c.in-None.ensures) ∙ so_far

pub loop-local-preserved : goal.loop-local-preserved
loop-local-preserved c =
    let ls = c.args.locals.now in
    let i = c.loop-local.local-index in
    let l = c.local-item.result in
    let left = c.loop-local.left in
    let k = left - 1 in
    let zs = c.loop-local.rest.now in
    let some : suc k ≡ left = omega arith in
    let here = drop_is ls i l (slice_get_read ls (length ls) i l refl c.loop-local-test.true c.local-item.is) in
    let so_far = ap (λ k. rest_of (param_types k (l ∷ drop (i + 1) ls)) zs) some ∙ ap (λ ls. rest_of (param_types left ls) zs) (sym here) ∙ c.loop-local.invariant in
    sym (next_some l.ty (param_types k (drop (i + 1) ls)) zs c.in-Some.more.now c.in-Some.ensures) ∙ so_far

pub returns : goal.returns
returns c =
    let ls = c.args.locals.now in
    let left = c.loop-local.left in
    let zs = c.loop-local.rest.now in
    let none = drop_of_length-le ls c.loop-local-test.false in
    ap (λ ts. rest_of ts zs) (sym (params_none left)) ∙ ap (λ ls. rest_of (param_types left ls) zs) (sym none) ∙ c.loop-local.invariant
