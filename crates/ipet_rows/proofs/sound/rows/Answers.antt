use Rattle.std.proofs.Common.{subst, sym, length, All}
use Rattle.flow_laws.specs.Graphs.{graph, edges}
use Rattle.lin_rows.specs.declared.row.Row.{Row}
use Rattle.lin_rows.specs.Names.{NamesBelow, NamesOnce}
use Rattle.ipet_rows.specs.Counts.{HoldOnPaths}
use Rattle.ipet_rows.proofs.PathCounts.{rows_hold}
use Rattle.ipet_rows.proofs.Named.{rows_below, rows_once}
use Rattle.ipet_rows.proofs.sound.rows.Goals as goal

pub invariant_of-result : goal.invariant_of-result
invariant_of-result c =
    let p = c.args.plan.now.program in
    let is = sym c.in_ok-list.ensures in
    record {
      below = subst (λ n. All (λ (row : Row). NamesBelow n row.terms) c.in_ok-list.list) (sym c.edges.ensures.count) (subst (λ rows. All (λ (row : Row). NamesBelow (length (edges (graph p))) row.terms) rows) is (rows_below p));
      once = subst (λ rows. All (λ (row : Row). NamesOnce row.terms) rows) is (rows_once p);
    }

pub invariant_of-result-2 : goal.invariant_of-result-2
invariant_of-result-2 c =
    let p = c.args.plan.now.program in
    record {
      edges_are = c.edges.ensures.count;
      hold = subst (HoldOnPaths p) (sym c.in_ok-list.ensures) (rows_hold p c.program-program.ensures.formed);
      costs_are = c.in_ok-costs.ensures;
    }
