-- Worked graphs and limits, computed.
use Rattle.std.proofs.Common.{◌≡◌, length, Some, None, refl}
use Rattle.c_tree.specs.Meaning.Statements.{block}
use Rattle.c_tree.specs.Meaning.Worked.{two_thresholds, clamp_filter}
use Rattle.c_tree.specs.Meaning.Blocks as blocks
use Rattle.c_tree.specs.declared.tree.Expr.TheBlock as eb
use Rattle.c_tree.specs.declared.tree.Stmt.TheBlock as sb
use denote.Hole.Carrier as carrier
use Rattle.flow_laws.specs.Graphs.{graph, edges}
use Rattle.flow_laws.specs.Graphs as graphs
use Rattle.flow_laws.specs.Sites as sites
use Rattle.flow_graph.specs.declared.fault.PlanFault.TheVariants.{Cap}
use Rattle.flow_graph.specs.Limits.{block_copies, size_fault}
use Rattle.flow_graph.specs.Limits as limits
use Rattle.flow_graph.specs.Worked.{nested_counts}

pub worked-nodes : length (graph two_thresholds) ≡ 8
unfolding two_thresholds clamp_filter nested_counts limits.size_fault graphs.graph graphs.edges sites.flow sites.row_flow sites.held_flow sites.site_count sites.row_size sites.held_size blocks.blocks blocks.row_blocks blocks.held_blocks eb.shape-the_row-Expr-0 eb.hidden-the_row-Expr-0 sb.shape-the_row-Stmt-0 sb.hidden-the_row-Stmt-0 sb.shape-the_row-Stmt-1 sb.hidden-the_row-Stmt-1 carrier.hidden
worked-nodes = refl

pub worked-edges : length (edges (graph two_thresholds)) ≡ 9
unfolding two_thresholds clamp_filter nested_counts limits.size_fault graphs.graph graphs.edges sites.flow sites.row_flow sites.held_flow sites.site_count sites.row_size sites.held_size blocks.blocks blocks.row_blocks blocks.held_blocks eb.shape-the_row-Expr-0 eb.hidden-the_row-Expr-0 sb.shape-the_row-Stmt-0 sb.hidden-the_row-Stmt-0 sb.shape-the_row-Stmt-1 sb.hidden-the_row-Stmt-1 carrier.hidden
worked-edges = refl

pub worked-copies : block_copies (graph two_thresholds) ≡ 6
unfolding two_thresholds clamp_filter nested_counts limits.size_fault graphs.graph graphs.edges sites.flow sites.row_flow sites.held_flow sites.site_count sites.row_size sites.held_size blocks.blocks blocks.row_blocks blocks.held_blocks eb.shape-the_row-Expr-0 eb.hidden-the_row-Expr-0 sb.shape-the_row-Stmt-0 sb.hidden-the_row-Stmt-0 sb.shape-the_row-Stmt-1 sb.hidden-the_row-Stmt-1 carrier.hidden
worked-copies = refl

pub worked-filter : block_copies (graph clamp_filter) ≡ 15
unfolding two_thresholds clamp_filter nested_counts limits.size_fault graphs.graph graphs.edges sites.flow sites.row_flow sites.held_flow sites.site_count sites.row_size sites.held_size blocks.blocks blocks.row_blocks blocks.held_blocks eb.shape-the_row-Expr-0 eb.hidden-the_row-Expr-0 sb.shape-the_row-Stmt-0 sb.hidden-the_row-Stmt-0 sb.shape-the_row-Stmt-1 sb.hidden-the_row-Stmt-1 carrier.hidden
worked-filter = refl

pub worked-at_the_cap : size_fault (graph (nested_counts 1048575)) ≡ None
unfolding two_thresholds clamp_filter nested_counts limits.size_fault graphs.graph graphs.edges sites.flow sites.row_flow sites.held_flow sites.site_count sites.row_size sites.held_size blocks.blocks blocks.row_blocks blocks.held_blocks eb.shape-the_row-Expr-0 eb.hidden-the_row-Expr-0 sb.shape-the_row-Stmt-0 sb.hidden-the_row-Stmt-0 sb.shape-the_row-Stmt-1 sb.hidden-the_row-Stmt-1 carrier.hidden
worked-at_the_cap = refl

pub worked-past_the_cap : size_fault (graph (nested_counts 1048576)) ≡ Some (Cap (block 0 3))
unfolding two_thresholds clamp_filter nested_counts limits.size_fault graphs.graph graphs.edges sites.flow sites.row_flow sites.held_flow sites.site_count sites.row_size sites.held_size blocks.blocks blocks.row_blocks blocks.held_blocks eb.shape-the_row-Expr-0 eb.hidden-the_row-Expr-0 sb.shape-the_row-Stmt-0 sb.hidden-the_row-Stmt-0 sb.shape-the_row-Stmt-1 sb.hidden-the_row-Stmt-1 carrier.hidden
worked-past_the_cap = refl
