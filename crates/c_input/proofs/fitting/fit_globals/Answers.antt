use Rattle.std.proofs.Common.{◌+◌, drop, length, refl, sym, ap, ◌∙◌}
use Rattle.std.proofs.lemmas.Option.{slice_get_read}
use Rattle.c_tree.specs.Meaning.Runs.{are_of, outer_types}
use Rattle.c_input.proofs.InputParts.{drop_is, global_some, global_none}
use Rattle.c_input.proofs.fitting.fit_globals.Goals as goal

pub returns-in-None : goal.returns-in-None
returns-in-None c =
    let gs = c.args.globals.now in
    let i = c.loop-global.global-index in
    let g = c.global-item.result in
    let zs = c.loop-global.rest.now in
    let here = drop_is gs i g (slice_get_read gs (length gs) i g refl c.loop-global-test.true c.global-item.is) in
    let so_far = ap (λ gs. are_of (outer_types gs) zs) (sym here) ∙ c.loop-global.invariant in
    sym (global_none g (drop (i + 1) gs) zs c.in-None.ensures) ∙ so_far

pub loop-global-preserved : goal.loop-global-preserved
loop-global-preserved c =
    let gs = c.args.globals.now in
    let i = c.loop-global.global-index in
    let g = c.global-item.result in
    let zs = c.loop-global.rest.now in
    let here = drop_is gs i g (slice_get_read gs (length gs) i g refl c.loop-global-test.true c.global-item.is) in
    let so_far = ap (λ gs. are_of (outer_types gs) zs) (sym here) ∙ c.loop-global.invariant in
    sym (global_some g (drop (i + 1) gs) zs c.in-Some.more.now c.in-Some.ensures) ∙ so_far
