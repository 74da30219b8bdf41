use Rattle.std.proofs.Common.{◌∙◌, ◌<◌, [], ap, length, subst, sym}
use Rattle.c_tree.specs.Keeping.Programs.{Program}
use Rattle.graph_lists.specs.Amounts.{amounts}
use Rattle.flow_graph.proofs.Measured.{amount_at, read_at}
use Rattle.flow_graph.proofs.planning.counted.Goals as goal

pub bounds-as_slice-program-inside : goal.bounds-as_slice-program-inside
bounds-as_slice-program-inside c =
    let p = c.program.inside in
    let lt : p.entry < length p.funcs = subst (λ (q : Program). q.entry < length q.funcs) (sym c.program.view_is) c.requires.entry in
    amount_at c.args.weights p.funcs _ p.entry (c.as_slice-2.ensures ∙ c.in_ok-sums.ensures ∙ ap (amounts c.args.weights []) c.as_slice.ensures) lt

pub returns : goal.returns
returns c =
    let p = c.program.inside in
    let lt : p.entry < length p.funcs = subst (λ (q : Program). q.entry < length q.funcs) (sym c.program.view_is) c.requires.entry in
    let is = c.in_ok-sums.ensures ∙ ap (amounts c.args.weights []) c.as_slice.ensures in
    rw (← c.program.view_is) (read_at _ _ _ p.entry c.as_slice-2.ensures is (amount_at c.args.weights p.funcs _ p.entry (c.as_slice-2.ensures ∙ is) lt))
