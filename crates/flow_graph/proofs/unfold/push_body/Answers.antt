use Rattle.std.proofs.Common.{◌∙◌, ap, sym}
use Rattle.c_tree.specs.declared.program.Func.{Func}
use Rattle.flow_graph.proofs.Layouts.Unfolded.{cut, above, body_room, pushed}
use Rattle.flow_graph.proofs.unfold.push_body.Goals as goal
use Rattle.std.proofs.result.Match.{if_ok_then}
use Rattle.plain_laws.proofs.Lists.{get-read}

pub slice_bounds-scope-end : goal.slice_bounds-scope-end
slice_bounds-scope-end c = cut c.args.funcs.now c.args.sizes.now c.requires.sizes c.args.func c.requires.func

pub emit_list-requires-clause-known : goal.emit_list-requires-clause-known
emit_list-requires-clause-known c = above c.args.funcs.now c.args.sizes.now c.requires.sizes c.args.func c.requires.func

pub emit_list-requires-clause-room : goal.emit_list-requires-clause-room
emit_list-requires-clause-room c =
    body_room c.args.funcs.now c.args.func c.args.first c.index-funcs-func.result _ (get-read c.args.funcs.now c.args.func c.index-funcs-func.result c.requires.func c.index-funcs-func.is) (c.as_slice-body.ensures ∙ ap (λ (f : Func). f.body) (sym c.index-funcs-func.is)) c.requires.room

pub returns : goal.returns
returns c =
    if_ok_then c.push_back.result _ _ (λ u h. pushed c.args.funcs.now c.args.func c.index-funcs-func.result _ c.args.chain.now c.args.scale c.args.first c.args.landing c.new-items.result c.emit_list.new.out c.push_back.new.todo c.args.todo.now (get-read c.args.funcs.now c.args.func c.index-funcs-func.result c.requires.func c.index-funcs-func.is) (c.as_slice-body.ensures ∙ ap (λ (f : Func). f.body) (sym c.index-funcs-func.is)) c.new-items.ensures c.in_ok-emit_list.ensures.items h) c.push_back.ensures
