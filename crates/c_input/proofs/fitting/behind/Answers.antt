use Rattle.std.proofs.Common.{◌≡◌, suc, ◌+◌, ◌-◌, replicate, sym, ap, ◌∙◌, arith}
use Rattle.c_input.specs.Starts.{rest_of}
use Rattle.c_input.proofs.InputParts.{next_some, next_none}
use Rattle.c_input.proofs.fitting.behind.Goals as goal

pub returns-in-None : goal.returns-in-None
returns-in-None c =
    let n = c.args.count - (c.loop-at._at + 1) in
    let ty = c.args.ty in
    let zs = c.loop-at.rest.now in
    let more : suc n ≡ c.args.count - c.loop-at._at = omega (arith, c.loop-at-test.true) in
    let so_far = ap (λ k. rest_of (replicate k ty) zs) more ∙ c.loop-at.invariant in
    sym (next_none ty (replicate n ty) zs c.in-None.ensures) ∙ so_far

pub loop-at-preserved : goal.loop-at-preserved
loop-at-preserved c =
    let n = c.args.count - (c.loop-at._at + 1) in
    let ty = c.args.ty in
    let zs = c.loop-at.rest.now in
    let more : suc n ≡ c.args.count - c.loop-at._at = omega (arith, c.loop-at-test.true) in
    let so_far = ap (λ k. rest_of (replicate k ty) zs) more ∙ c.loop-at.invariant in
    sym (next_some ty (replicate n ty) zs c.in-Some.more.now c.in-Some.ensures) ∙ so_far
