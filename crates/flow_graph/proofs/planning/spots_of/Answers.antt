use Rattle.std.proofs.Common.{◌∙◌, ap, sym, subst, []}
use Rattle.std.specs.Prelude.{slice_get}
use Rattle.c_tree.specs.Keeping.Programs.{Program}
use Rattle.flow_laws.specs.Graphs.{copies}
use Rattle.flow_graph.specs.Layout.{HasRoom}
use Rattle.flow_graph.proofs.Measured.{entered, entry_room, spots_are}
use Rattle.flow_graph.proofs.planning.spots_of.Goals as goal
use Rattle.std.proofs.result.Match.{if_ok_then}

pub lay_out-requires-clause-room : goal.lay_out-requires-clause-room
lay_out-requires-clause-room c =
    let p = c.args.program.now in
    let funcs_is = c.as_slice-funcs.ensures ∙ ap (λ (q : Program). q.funcs) c.program.view_is in
    let entry_is = ap (λ (q : Program). q.entry) c.program.view_is in
    subst (λ n. HasRoom (slice_get (copies [] c.as_slice-funcs.result.now) n) 2) (sym entry_is)
    (subst (λ fs. HasRoom (slice_get (copies [] fs) p.entry) 2) (sym funcs_is) (entry_room p (entered p c.requires.formed.entry) c.requires.few))

pub returns : goal.returns
returns c = rw (← c.program.view_is) (if_ok_then c.lay_out.result _ _ (λ s h. h ∙ spots_are _ _ c.as_slice-funcs.ensures) c.lay_out.ensures)
