use Rattle.std.proofs.lemmas.List.{drop_more}
use Rattle.flow_laws.specs.Graphs.{graph, edges}
use Rattle.term_steps.proofs.Growing.{below_grown}
use Rattle.path_cond.specs.Memories.{memory_of}
use Rattle.path_cond.proofs.EdgeRuns.{walked_on}
use Rattle.path_cond.proofs.edges.walk.Goals as goal
use Rattle.flow_laws.proofs.NamedEdges.{edge_at}

pub pass-requires-clause-edge : goal.pass-requires-clause-edge
pass-requires-clause-edge c = edge_at (edges (graph c.args.plan.now.program)) c.args.list.now c.loop-edge.edge-index c.requires.contiguous c.loop-edge-test.true

pub loop-edge-preserved : goal.loop-edge-preserved
loop-edge-preserved c =
    let l = c.loop-edge in
    let q = c.args.list.now in
    let at = drop_more q l.edge-index 0 c.loop-edge-test.true in
    record {
      rest = walked_on (memory_of l.memory) _ (graph c.args.plan.now.program) q l.edge-index _ l.conditions _ at l.invariant.rest c.in_ok-more.ensures c.in_ok-append.ensures;
      there = c.in_ok-more.ensures.fits.now;
      conditions_in = below_grown l.conditions c.in_ok-more.more _ l.invariant.conditions_in c.in_ok-more.ensures.grows c.in_ok-more.ensures.fits.conditions c.in_ok-append.ensures;
    }
