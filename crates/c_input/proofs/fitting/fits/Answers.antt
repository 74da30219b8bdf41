use Rattle.std.proofs.Common.{◌++◌, ap, ◌∙◌}
use Rattle.std.specs.Prelude.{slice_get, option_copied}
use Rattle.c_tree.specs.Keeping.Programs.{Program}
use Rattle.c_tree.specs.Meaning.Runs.{are_of, outer_types, entry_types}
use Rattle.c_input.proofs.InputParts.{entry_some, entry_none}
use Rattle.c_input.proofs.fitting.fits.Goals as goal

pub returns-in-None : goal.returns-in-None
returns-in-None c =
    let p = c.args.program.now in
    let us = outer_types p.globals in
    let o = option_copied c.get-entry.result in
    let zs = c.as_slice.result.now in
    let entry = c.get-entry.ensures.value ∙ ap (λ (p : Program). slice_get p.funcs p.entry) c.program.view_is in
    let whole = ap (λ o. are_of (entry_types o ++ us) zs) entry ∙ ap (λ zs. are_of (entry_types (slice_get p.funcs p.entry) ++ us) zs) c.as_slice.ensures in
    record { fits = entry_none (entry_types o) us zs c.in-None.ensures ∙ whole }

pub returns-in-Some : goal.returns-in-Some
returns-in-Some c =
    let p = c.args.program.now in
    let us = outer_types p.globals in
    let o = option_copied c.get-entry.result in
    let zs = c.as_slice.result.now in
    let entry = c.get-entry.ensures.value ∙ ap (λ (p : Program). slice_get p.funcs p.entry) c.program.view_is in
    let whole = ap (λ o. are_of (entry_types o ++ us) zs) entry ∙ ap (λ zs. are_of (entry_types (slice_get p.funcs p.entry) ++ us) zs) c.as_slice.ensures in
    let globals = c.as_slice-in-Some.ensures ∙ ap (λ (p : Program). p.globals) c.program.view_is in
    record { fits = c.fit_globals.ensures ∙ ap (λ gs. are_of (outer_types gs) c.in-Some.rest.now) globals ∙ entry_some (entry_types o) us zs c.in-Some.rest.now c.in-Some.ensures ∙ whole }
