use Rattle.std.proofs.Common.{◌∙◌, ap, sym, arith, length}
use Rattle.flow_laws.specs.Graphs.{graph}
use Rattle.flow_laws.proofs.Loops.LoopConditions.{graph_turned}
use Rattle.graph_lists.specs.Joints.{spot_edges, spot_loops}
use Rattle.graph_lists.specs.Leaving.{all_outs}
use Rattle.graph_lists.specs.Spans.{spot_spans}
use Rattle.graph_lists.specs.Touches.{all_touches}
use Rattle.flow_graph.proofs.Leaving.{spans_are}
use Rattle.flow_graph.proofs.Drawn.{edges_are, loops_are}
use Rattle.flow_graph.proofs.Measured.{entered, short}
use Rattle.graph_lists.proofs.Touched.{few_loops}
use Rattle.flow_graph.proofs.planning.plan.Goals as goal

pub edges_of-requires : goal.edges_of-requires
edges_of-requires c =
    let p = c.args.program in
    let s = short p (entered p c.program_is_well_formed.ensures.entry) c.in_ok-copies.ensures.fewer in
    let l = ap length (c.as_slice-2.ensures ∙ c.in_ok-spots.ensures) in
    omega (arith, s, l)

pub loops_of-requires-clause-few : goal.loops_of-requires-clause-few
loops_of-requires-clause-few c =
    let p = c.args.program in
    let l = ap length (c.as_slice-4.ensures ∙ c.in_ok-edges.ensures ∙ ap (spot_edges 0) (c.as_slice-2.ensures ∙ c.in_ok-spots.ensures) ∙ sym (edges_are (graph p))) in
    omega (arith, l, c.in_ok-copies.ensures.fewer)

pub outs_by_node-requires : goal.outs_by_node-requires
outs_by_node-requires c =
    let p = c.args.program in
    let l = ap (λ y. length (spot_edges 0 y)) (c.as_slice-5.ensures ∙ c.in_ok-spots.ensures) ∙ ap length (sym (edges_are (graph p))) in
    omega (arith, l, c.in_ok-copies.ensures.fewer)

pub spans_of-requires : goal.spans_of-requires
spans_of-requires c =
    let p = c.args.program in
    let s = short p (entered p c.program_is_well_formed.ensures.entry) c.in_ok-copies.ensures.fewer in
    let l = ap length (c.as_slice-6.ensures ∙ c.in_ok-spots.ensures) in
    omega (arith, s, l)

pub touches_by_edge-requires-clause-edges : goal.touches_by_edge-requires-clause-edges
touches_by_edge-requires-clause-edges c =
    let p = c.args.program in
    let l = ap length (c.as_slice-7.ensures ∙ c.in_ok-edges.ensures ∙ ap (spot_edges 0) (c.as_slice-2.ensures ∙ c.in_ok-spots.ensures) ∙ sym (edges_are (graph p))) in
    omega (arith, l, c.in_ok-copies.ensures.fewer)

pub touches_by_edge-requires-clause-loops : goal.touches_by_edge-requires-clause-loops
touches_by_edge-requires-clause-loops c =
    let p = c.args.program in
    let s = c.in_ok-spots.ensures in
    let e = c.in_ok-edges.ensures ∙ ap (spot_edges 0) (c.as_slice-2.ensures ∙ s) ∙ sym (edges_are (graph p)) in
    let edges_is = c.as_slice-4.ensures ∙ e in
    let spots_is = c.as_slice-3.ensures ∙ s in
    let l = c.as_slice-8.ensures ∙ c.in_ok-loops.ensures ∙ (λ i. spot_loops (edges_is i) 0 (spots_is i)) ∙ sym (loops_are (graph p) (graph_turned p)) in
    omega (arith, ap length l, few_loops (graph p) c.in_ok-copies.ensures.fewer)

pub of_graph-requires : goal.of_graph-requires
of_graph-requires c =
    let p = c.args.program in
    let s = c.in_ok-spots.ensures in
    let e = c.in_ok-edges.ensures ∙ ap (spot_edges 0) (c.as_slice-2.ensures ∙ s) ∙ sym (edges_are (graph p)) in
    let edges_is = c.as_slice-4.ensures ∙ e in
    let spots_is = c.as_slice-3.ensures ∙ s in
    let l = c.in_ok-loops.ensures ∙ (λ i. spot_loops (edges_is i) 0 (spots_is i)) ∙ sym (loops_are (graph p) (graph_turned p)) in
    record {
      formed = c.program_is_well_formed.ensures;
      costed = c.requires.costed;
      allowed = c.in_ok-check_caps.ensures.whole;
      nodes_are = s;
      edges_are = e;
      outs_are = c.in_ok-outs.ensures ∙ ap (all_outs 0) (c.as_slice-5.ensures ∙ s);
      loops_are = l;
      spans_are = c.in_ok-spans.ensures ∙ ap (spot_spans 0) (c.as_slice-6.ensures ∙ s) ∙ sym (spans_are 0 (graph p) (graph_turned p));
      touches_are = c.in_ok-touches.ensures ∙ (λ i. all_touches ((c.as_slice-8.ensures ∙ l) i) 0 ((c.as_slice-7.ensures ∙ e) i));
      copies_are = c.in_ok-copies.ensures.copies;
    }
