use Rattle.std.proofs.Common.{◌≤◌, ◌++◌, drop, length, sym, ap, ◌∙◌, subst}
use Rattle.std.specs.Prelude.{IsTrue, slice_get}
use Rattle.c_tree.specs.Keeping.Programs.{Program}
use Rattle.c_tree.specs.Meaning.Runs.{are_of, outer_types, entry_types, param_types, arguments, global_slots}
use Rattle.c_input.specs.Starts.{NumberAt}
use Rattle.c_input.proofs.InputParts.{number_at, rest_fits}
use Rattle.c_input.proofs.start.start_of.Goals as goal

pub arguments-requires : goal.arguments-requires
arguments-requires c =
    let p = c.args.program.now in
    let h = c.args.entry.now in
    let zs = c.args.input.now.values in
    let fit = subst (λ o. IsTrue (are_of (entry_types o ++ outer_types p.globals) zs)) c.requires.entry c.requires.fits in
    let types = c.as_slice.ensures ∙ c.in_ok-types.ensures in
    λ k. subst (λ zs. NumberAt (slice_get c.as_slice.result.now k) (slice_get zs k)) (sym c.as_slice-values.ensures) (subst (λ ts. NumberAt (slice_get ts k) (slice_get zs k)) (sym types) (number_at (param_types h.params h.locals) (outer_types p.globals) zs k fit))

pub split_at-requires : goal.split_at-requires
split_at-requires c =
    let p = c.args.program.now in
    let h = c.args.entry.now in
    let zs = c.args.input.now.values in
    let fit = subst (λ o. IsTrue (are_of (entry_types o ++ outer_types p.globals) zs)) c.requires.entry c.requires.fits in
    let enough = (rest_fits (param_types h.params h.locals) (outer_types p.globals) zs fit).0 in
    let many = c.len.ensures ∙ ap length c.in_ok-types.ensures in
    subst (λ n. n ≤ length c.as_slice-values.result.now) (sym many) (subst (λ zs. length (param_types h.params h.locals) ≤ length zs) (sym c.as_slice-values.ensures) enough)

pub global_slots-requires-clause-fits : goal.global_slots-requires-clause-fits
global_slots-requires-clause-fits c =
    let p = c.args.program.now in
    let h = c.args.entry.now in
    let zs = c.args.input.now.values in
    let fit = subst (λ o. IsTrue (are_of (entry_types o ++ outer_types p.globals) zs)) c.requires.entry c.requires.fits in
    let rest = c.split_at.ensures.back ∙ ap (λ n. drop n c.as_slice-values.result.now) (c.len.ensures ∙ ap length c.in_ok-types.ensures) ∙ ap (λ zs. drop (length (param_types h.params h.locals)) zs) c.as_slice-values.ensures in
    let left = subst (λ zs. IsTrue (are_of (outer_types p.globals) zs)) (sym rest) (rest_fits (param_types h.params h.locals) (outer_types p.globals) zs fit).1 in
    let globals = c.as_slice-2.ensures ∙ ap (λ (p : Program). p.globals) c.program.view_is in
    subst (λ gs. IsTrue (are_of (outer_types gs) c.split_at.result.1.now)) (sym globals) left

pub returns-clause-arguments : goal.returns-clause-arguments
returns-clause-arguments c =
    let h = c.args.entry.now in
    let ts = param_types h.params h.locals in
    let types = c.as_slice.ensures ∙ c.in_ok-types.ensures in
    c.in_ok-arguments.ensures ∙ ap (λ ts. arguments ts c.as_slice-values.result.now) types ∙ ap (arguments ts) c.as_slice-values.ensures

pub returns-clause-globals : goal.returns-clause-globals
returns-clause-globals c =
    let p = c.args.program.now in
    let h = c.args.entry.now in
    let ts = param_types h.params h.locals in
    let globals = c.as_slice-2.ensures ∙ ap (λ (p : Program). p.globals) c.program.view_is in
    let rest = c.split_at.ensures.back ∙ ap (λ n. drop n c.as_slice-values.result.now) (c.len.ensures ∙ ap length c.in_ok-types.ensures) ∙ ap (λ zs. drop (length ts) zs) c.as_slice-values.ensures in
    c.in_ok-globals.ensures ∙ ap (λ gs. global_slots gs c.split_at.result.1.now) globals ∙ ap (global_slots p.globals) rest
