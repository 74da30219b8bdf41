use Rattle.flow_laws.specs.Graphs.{graph}
use Rattle.flow_graph.proofs.Measured.{entered, copies_kept, edges_kept, too_many, few_copies, too_many_edges, few_edges}
use Rattle.flow_graph.proofs.planning.check_size.Goals as goal

pub returns-then-copies-gt1024-clause-refused : goal.returns-then-copies-gt1024-clause-refused
returns-then-copies-gt1024-clause-refused c _ =
    let p = c.args.program.now in
    too_many (graph p) c.in_ok-copies.copies (copies_kept p c.in_ok-copies.copies (entered p c.requires.entry) c.in_ok-copies.ensures) c.if-copies-gt1024.true

pub returns-then-edges-gt2047-clause-refused : goal.returns-then-edges-gt2047-clause-refused
returns-then-edges-gt2047-clause-refused c _ =
    let p = c.args.program.now in
    let few = few_copies (graph p) c.in_ok-copies.copies (copies_kept p c.in_ok-copies.copies (entered p c.requires.entry) c.in_ok-copies.ensures) c.if-copies-gt1024.false in
    too_many_edges (graph p) c.in_ok-edges.edges few.1 (edges_kept p c.in_ok-edges.edges (entered p c.requires.entry) c.in_ok-edges.ensures) c.if-edges-gt2047.true

pub returns-clause-copies : goal.returns-clause-copies
returns-clause-copies c =
    let p = c.args.program.now in
    (few_copies (graph p) c.in_ok-copies.copies (copies_kept p c.in_ok-copies.copies (entered p c.requires.entry) c.in_ok-copies.ensures) c.if-copies-gt1024.false).0

pub returns-clause-few : goal.returns-clause-few
returns-clause-few c =
    let p = c.args.program.now in
    (few_copies (graph p) c.in_ok-copies.copies (copies_kept p c.in_ok-copies.copies (entered p c.requires.entry) c.in_ok-copies.ensures) c.if-copies-gt1024.false).1

pub returns-clause-fewer : goal.returns-clause-fewer
returns-clause-fewer c =
    let p = c.args.program.now in
    few_edges (graph p) c.in_ok-edges.edges (edges_kept p c.in_ok-edges.edges (entered p c.requires.entry) c.in_ok-edges.ensures) c.if-edges-gt2047.false
