-- The entry's copy is the program's part.
use Rattle.std.proofs.Common.{◌≤◌, ◌^◌, ◌∙◌, ap, sym, subst}
use Rattle.std.specs.Prelude.{IfOk}
use Rattle.c_tree.specs.declared.program.Program.{Program}
use Rattle.peak_laws.specs.Parts as spec
use Rattle.peak_laws.specs.Magnitudes.{cap_cost}
use Rattle.ipet_peak.specs.Pieces.{part_at, parts_made, parts_above}
use Rattle.ipet_peak.specs.Trees.{IsTreeOf}
use Rattle.ipet_peak.proofs.Grown.{entry_is}
use Rattle.ipet_peak.proofs.growing.program_tree.Goals as goal

pub call-requires-clause-room : goal.call-requires-clause-room
call-requires-clause-room c =
    let p = c.args.program.now in
    let made = ap parts_made c.as_slice-2.ensures ∙ c.in_ok-funcs.ensures.parts ∙ ap (parts_above c.args.costs.now) c.as_slice.ensures ∙ ap (λ (y : Program). parts_above c.args.costs.now y.funcs) c.program.view_is in
    let same = ap (λ (y : Program). part_at (parts_made c.as_slice-2.result.now) y.entry) c.program.view_is ∙ entry_is p c.args.costs.now c.as_slice-2.result.now made in
    subst (λ q. cap_cost q ≤ 2 ^ 126) (sym same) c.requires

pub returns : goal.returns
returns c =
    let p = c.args.program.now in
    let made = ap parts_made c.as_slice-2.ensures ∙ c.in_ok-funcs.ensures.parts ∙ ap (parts_above c.args.costs.now) c.as_slice.ensures ∙ ap (λ (y : Program). parts_above c.args.costs.now y.funcs) c.program.view_is in
    let same = ap (λ (y : Program). part_at (parts_made c.as_slice-2.result.now) y.entry) c.program.view_is ∙ entry_is p c.args.costs.now c.as_slice-2.result.now made in
    subst (λ q. IfOk c.call.result (λ t. IsTreeOf t (spec.Body q))) same c.call.ensures
