use Rattle.std.proofs.Common.{◌<◌, ◌+◌, ◌-◌, ◌++◌, drop, length, refl, sym, ap, ◌∙◌, arith, append-nil}
use Rattle.std.proofs.Math.ListN.{drop_of_length-le}
use Rattle.std.proofs.lemmas.Option.{slice_get_read}
use Rattle.c_tree.specs.Meaning.Runs.{param_types}
use Rattle.c_input.proofs.InputParts.{drop_is, params_none, params_step}
use Rattle.c_input.proofs.inputs.entry_types.Goals as goal

pub loop-local-preserved : goal.loop-local-preserved
loop-local-preserved c =
    let n = c.args.func.now.params in
    let ls = c.as_slice-locals.result.now in
    let i = c.loop-local.local-index in
    let l = c.local-item.result in
    let types = c.loop-local.types in
    let here = drop_is ls i l (slice_get_read ls (length ls) i l refl c.loop-local-test.true c.local-item.is) in
    let fewer : length types < n = omega (arith, c.len.ensures) in
    ap (λ types. types ++ param_types (n - length types) (drop (i + 1) ls)) c.in_ok-push.ensures.ok ∙ sym (params_step n types l (drop (i + 1) ls) fewer) ∙ ap (λ ls. types ++ param_types (n - length types) ls) (sym here) ∙ c.loop-local.invariant

pub returns : goal.returns
returns c =
    let ls = c.as_slice-locals.result.now in
    let types = c.loop-local.types in
    let k = c.args.func.now.params - length types in
    let none = drop_of_length-le ls c.loop-local-test.false in
    sym (append-nil types) ∙ ap (λ ts. types ++ ts) (sym (params_none k)) ∙ ap (λ ls. types ++ param_types k ls) (sym none) ∙ c.loop-local.invariant
