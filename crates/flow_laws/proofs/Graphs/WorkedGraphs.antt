-- Worked graphs, computed.
use Rattle.std.proofs.Common.{◌≡◌, Some, None, [], ◌∷◌, true, false, refl}
use Rattle.c_tree.specs.declared.tree.Ty.TheVariants as ty
use Rattle.c_tree.specs.declared.tree.Target.TheVariants as target
use Rattle.c_tree.specs.declared.tree.Stmt.TheVariants.{Call}
use Rattle.c_tree.specs.Meaning.Statements.{block}
use Rattle.c_tree.specs.Meaning.Worked.{two_thresholds, two_thresholds_costs, overflow_guard, triangular_loops, local, initialised_by_call, missing_result}
use Rattle.flow_laws.specs.Graphs.{graph, edges, loops}
use Rattle.flow_laws.specs.Paths.{end_node, follows, price, edge_cost, keeps}
use Rattle.flow_laws.specs.WorkedGraphs.{leaves_next, leaves_true, leaves_false, loop, do_loop, blocks_of, chains_of, caps_of}
use Rattle.flow_laws.specs.WorkedGraphs.{empty_main, groups_and_rest, empty_for, empty_while, empty_do, nested_do}
use Rattle.flow_laws.specs.WorkedGraphs.{jumps_in_while, jumps_in_do, jumps_in_for, jumps_without_step, end_is_reached, nested_calls}
use Rattle.c_tree.specs.declared.tree.Expr.TheBlock as eb
use Rattle.c_tree.specs.declared.tree.Stmt.TheBlock as sb
use denote.Hole.Carrier as carrier
use Rattle.c_tree.specs.Meaning.Blocks as blocks
use Rattle.flow_laws.specs.Sites as sites
use Rattle.flow_laws.specs.Graphs as graphs

pub two_choices-edges : edges (graph two_thresholds) ≡ leaves_next 0 2 ∷ leaves_next 2 3 ∷ leaves_true 3 4 ∷ leaves_false 3 5 ∷ leaves_next 4 5 ∷ leaves_true 5 6 ∷ leaves_false 5 7 ∷ leaves_next 6 7 ∷ leaves_next 7 1 ∷ []
unfolding two_thresholds overflow_guard triangular_loops initialised_by_call missing_result empty_main groups_and_rest empty_for empty_while empty_do nested_do jumps_in_while jumps_in_do jumps_in_for jumps_without_step end_is_reached nested_calls graphs.graph graphs.edges sites.flow sites.row_flow sites.held_flow sites.site_count sites.row_size sites.held_size blocks.blocks blocks.row_blocks blocks.held_blocks eb.shape-the_row-Expr-0 eb.hidden-the_row-Expr-0 sb.shape-the_row-Stmt-0 sb.hidden-the_row-Stmt-0 sb.shape-the_row-Stmt-1 sb.hidden-the_row-Stmt-1 carrier.hidden
two_choices-edges = refl

pub two_choices-blocks : blocks_of two_thresholds ≡ None ∷ None ∷ Some (block 0 0) ∷ Some (block 0 1) ∷ Some (block 0 2) ∷ Some (block 0 3) ∷ Some (block 0 4) ∷ Some (block 0 5) ∷ []
unfolding two_thresholds overflow_guard triangular_loops initialised_by_call missing_result empty_main groups_and_rest empty_for empty_while empty_do nested_do jumps_in_while jumps_in_do jumps_in_for jumps_without_step end_is_reached nested_calls graphs.graph graphs.edges sites.flow sites.row_flow sites.held_flow sites.site_count sites.row_size sites.held_size blocks.blocks blocks.row_blocks blocks.held_blocks eb.shape-the_row-Expr-0 eb.hidden-the_row-Expr-0 sb.shape-the_row-Stmt-0 sb.hidden-the_row-Stmt-0 sb.shape-the_row-Stmt-1 sb.hidden-the_row-Stmt-1 carrier.hidden
two_choices-blocks = refl

pub two_choices-caps : caps_of two_thresholds ≡ 1 ∷ 1 ∷ 1 ∷ 1 ∷ 1 ∷ 1 ∷ 1 ∷ 1 ∷ []
unfolding two_thresholds overflow_guard triangular_loops initialised_by_call missing_result empty_main groups_and_rest empty_for empty_while empty_do nested_do jumps_in_while jumps_in_do jumps_in_for jumps_without_step end_is_reached nested_calls graphs.graph graphs.edges sites.flow sites.row_flow sites.held_flow sites.site_count sites.row_size sites.held_size blocks.blocks blocks.row_blocks blocks.held_blocks eb.shape-the_row-Expr-0 eb.hidden-the_row-Expr-0 sb.shape-the_row-Stmt-0 sb.hidden-the_row-Stmt-0 sb.shape-the_row-Stmt-1 sb.hidden-the_row-Stmt-1 carrier.hidden
two_choices-caps = refl

pub two_choices-path : end_node (edges (graph two_thresholds)) 0 (0 ∷ 1 ∷ 2 ∷ 4 ∷ 6 ∷ 8 ∷ []) ≡ Some 1
unfolding two_thresholds overflow_guard triangular_loops initialised_by_call missing_result empty_main groups_and_rest empty_for empty_while empty_do nested_do jumps_in_while jumps_in_do jumps_in_for jumps_without_step end_is_reached nested_calls graphs.graph graphs.edges sites.flow sites.row_flow sites.held_flow sites.site_count sites.row_size sites.held_size blocks.blocks blocks.row_blocks blocks.held_blocks eb.shape-the_row-Expr-0 eb.hidden-the_row-Expr-0 sb.shape-the_row-Stmt-0 sb.hidden-the_row-Stmt-0 sb.shape-the_row-Stmt-1 sb.hidden-the_row-Stmt-1 carrier.hidden
two_choices-path = refl

pub two_choices-price : price two_thresholds_costs (graph two_thresholds) (0 ∷ 1 ∷ 2 ∷ 4 ∷ 6 ∷ 8 ∷ []) ≡ 54
unfolding two_thresholds overflow_guard triangular_loops initialised_by_call missing_result empty_main groups_and_rest empty_for empty_while empty_do nested_do jumps_in_while jumps_in_do jumps_in_for jumps_without_step end_is_reached nested_calls graphs.graph graphs.edges sites.flow sites.row_flow sites.held_flow sites.site_count sites.row_size sites.held_size blocks.blocks blocks.row_blocks blocks.held_blocks eb.shape-the_row-Expr-0 eb.hidden-the_row-Expr-0 sb.shape-the_row-Stmt-0 sb.hidden-the_row-Stmt-0 sb.shape-the_row-Stmt-1 sb.hidden-the_row-Stmt-1 carrier.hidden
two_choices-price = refl

pub two_choices-broken : follows (edges (graph two_thresholds)) (0 ∷ 1 ∷ 2 ∷ 5 ∷ []) ≡ false
unfolding two_thresholds overflow_guard triangular_loops initialised_by_call missing_result empty_main groups_and_rest empty_for empty_while empty_do nested_do jumps_in_while jumps_in_do jumps_in_for jumps_without_step end_is_reached nested_calls graphs.graph graphs.edges sites.flow sites.row_flow sites.held_flow sites.site_count sites.row_size sites.held_size blocks.blocks blocks.row_blocks blocks.held_blocks eb.shape-the_row-Expr-0 eb.hidden-the_row-Expr-0 sb.shape-the_row-Stmt-0 sb.hidden-the_row-Stmt-0 sb.shape-the_row-Stmt-1 sb.hidden-the_row-Stmt-1 carrier.hidden
two_choices-broken = refl

pub two_choices-entry_costs_nothing : edge_cost two_thresholds_costs (graph two_thresholds) 0 ≡ 0
unfolding two_thresholds overflow_guard triangular_loops initialised_by_call missing_result empty_main groups_and_rest empty_for empty_while empty_do nested_do jumps_in_while jumps_in_do jumps_in_for jumps_without_step end_is_reached nested_calls graphs.graph graphs.edges sites.flow sites.row_flow sites.held_flow sites.site_count sites.row_size sites.held_size blocks.blocks blocks.row_blocks blocks.held_blocks eb.shape-the_row-Expr-0 eb.hidden-the_row-Expr-0 sb.shape-the_row-Stmt-0 sb.hidden-the_row-Stmt-0 sb.shape-the_row-Stmt-1 sb.hidden-the_row-Stmt-1 carrier.hidden
two_choices-entry_costs_nothing = refl

pub two_choices-guard : edges (graph (overflow_guard ty.Int)) ≡ leaves_next 0 2 ∷ leaves_next 2 3 ∷ leaves_true 3 4 ∷ leaves_false 3 5 ∷ leaves_next 4 5 ∷ leaves_next 5 1 ∷ []
unfolding two_thresholds overflow_guard triangular_loops initialised_by_call missing_result empty_main groups_and_rest empty_for empty_while empty_do nested_do jumps_in_while jumps_in_do jumps_in_for jumps_without_step end_is_reached nested_calls graphs.graph graphs.edges sites.flow sites.row_flow sites.held_flow sites.site_count sites.row_size sites.held_size blocks.blocks blocks.row_blocks blocks.held_blocks eb.shape-the_row-Expr-0 eb.hidden-the_row-Expr-0 sb.shape-the_row-Stmt-0 sb.hidden-the_row-Stmt-0 sb.shape-the_row-Stmt-1 sb.hidden-the_row-Stmt-1 carrier.hidden
two_choices-guard = refl

pub straight_graphs-none : edges (graph empty_main) ≡ leaves_next 0 1 ∷ []
unfolding two_thresholds overflow_guard triangular_loops initialised_by_call missing_result empty_main groups_and_rest empty_for empty_while empty_do nested_do jumps_in_while jumps_in_do jumps_in_for jumps_without_step end_is_reached nested_calls graphs.graph graphs.edges sites.flow sites.row_flow sites.held_flow sites.site_count sites.row_size sites.held_size blocks.blocks blocks.row_blocks blocks.held_blocks eb.shape-the_row-Expr-0 eb.hidden-the_row-Expr-0 sb.shape-the_row-Stmt-0 sb.hidden-the_row-Stmt-0 sb.shape-the_row-Stmt-1 sb.hidden-the_row-Stmt-1 carrier.hidden
straight_graphs-none = refl

pub straight_graphs-groups : edges (graph groups_and_rest) ≡ leaves_next 0 2 ∷ leaves_true 2 3 ∷ leaves_false 2 3 ∷ leaves_next 3 4 ∷ leaves_next 4 5 ∷ leaves_next 5 6 ∷ leaves_next 6 1 ∷ leaves_next 7 1 ∷ []
unfolding two_thresholds overflow_guard triangular_loops initialised_by_call missing_result empty_main groups_and_rest empty_for empty_while empty_do nested_do jumps_in_while jumps_in_do jumps_in_for jumps_without_step end_is_reached nested_calls graphs.graph graphs.edges sites.flow sites.row_flow sites.held_flow sites.site_count sites.row_size sites.held_size blocks.blocks blocks.row_blocks blocks.held_blocks eb.shape-the_row-Expr-0 eb.hidden-the_row-Expr-0 sb.shape-the_row-Stmt-0 sb.hidden-the_row-Stmt-0 sb.shape-the_row-Stmt-1 sb.hidden-the_row-Stmt-1 carrier.hidden
straight_graphs-groups = refl

pub empty_loops-for_edges : edges (graph empty_for) ≡ leaves_next 0 2 ∷ leaves_next 2 3 ∷ leaves_true 3 3 ∷ leaves_false 3 4 ∷ leaves_next 4 1 ∷ []
unfolding two_thresholds overflow_guard triangular_loops initialised_by_call missing_result empty_main groups_and_rest empty_for empty_while empty_do nested_do jumps_in_while jumps_in_do jumps_in_for jumps_without_step end_is_reached nested_calls graphs.graph graphs.edges sites.flow sites.row_flow sites.held_flow sites.site_count sites.row_size sites.held_size blocks.blocks blocks.row_blocks blocks.held_blocks eb.shape-the_row-Expr-0 eb.hidden-the_row-Expr-0 sb.shape-the_row-Stmt-0 sb.hidden-the_row-Stmt-0 sb.shape-the_row-Stmt-1 sb.hidden-the_row-Stmt-1 carrier.hidden
empty_loops-for_edges = refl

pub empty_loops-for_loops : loops (graph empty_for) ≡ loop 3 (1 ∷ []) 2 ∷ []
unfolding two_thresholds overflow_guard triangular_loops initialised_by_call missing_result empty_main groups_and_rest empty_for empty_while empty_do nested_do jumps_in_while jumps_in_do jumps_in_for jumps_without_step end_is_reached nested_calls graphs.graph graphs.edges sites.flow sites.row_flow sites.held_flow sites.site_count sites.row_size sites.held_size blocks.blocks blocks.row_blocks blocks.held_blocks eb.shape-the_row-Expr-0 eb.hidden-the_row-Expr-0 sb.shape-the_row-Stmt-0 sb.hidden-the_row-Stmt-0 sb.shape-the_row-Stmt-1 sb.hidden-the_row-Stmt-1 carrier.hidden
empty_loops-for_loops = refl

pub empty_loops-for_caps : caps_of empty_for ≡ 1 ∷ 1 ∷ 1 ∷ 4 ∷ 1 ∷ []
unfolding two_thresholds overflow_guard triangular_loops initialised_by_call missing_result empty_main groups_and_rest empty_for empty_while empty_do nested_do jumps_in_while jumps_in_do jumps_in_for jumps_without_step end_is_reached nested_calls graphs.graph graphs.edges sites.flow sites.row_flow sites.held_flow sites.site_count sites.row_size sites.held_size blocks.blocks blocks.row_blocks blocks.held_blocks eb.shape-the_row-Expr-0 eb.hidden-the_row-Expr-0 sb.shape-the_row-Stmt-0 sb.hidden-the_row-Stmt-0 sb.shape-the_row-Stmt-1 sb.hidden-the_row-Stmt-1 carrier.hidden
empty_loops-for_caps = refl

pub empty_loops-while_edges : edges (graph empty_while) ≡ leaves_next 0 2 ∷ leaves_true 2 2 ∷ leaves_false 2 3 ∷ leaves_next 3 1 ∷ []
unfolding two_thresholds overflow_guard triangular_loops initialised_by_call missing_result empty_main groups_and_rest empty_for empty_while empty_do nested_do jumps_in_while jumps_in_do jumps_in_for jumps_without_step end_is_reached nested_calls graphs.graph graphs.edges sites.flow sites.row_flow sites.held_flow sites.site_count sites.row_size sites.held_size blocks.blocks blocks.row_blocks blocks.held_blocks eb.shape-the_row-Expr-0 eb.hidden-the_row-Expr-0 sb.shape-the_row-Stmt-0 sb.hidden-the_row-Stmt-0 sb.shape-the_row-Stmt-1 sb.hidden-the_row-Stmt-1 carrier.hidden
empty_loops-while_edges = refl

pub empty_loops-while_loops : loops (graph empty_while) ≡ loop 3 (0 ∷ []) 1 ∷ []
unfolding two_thresholds overflow_guard triangular_loops initialised_by_call missing_result empty_main groups_and_rest empty_for empty_while empty_do nested_do jumps_in_while jumps_in_do jumps_in_for jumps_without_step end_is_reached nested_calls graphs.graph graphs.edges sites.flow sites.row_flow sites.held_flow sites.site_count sites.row_size sites.held_size blocks.blocks blocks.row_blocks blocks.held_blocks eb.shape-the_row-Expr-0 eb.hidden-the_row-Expr-0 sb.shape-the_row-Stmt-0 sb.hidden-the_row-Stmt-0 sb.shape-the_row-Stmt-1 sb.hidden-the_row-Stmt-1 carrier.hidden
empty_loops-while_loops = refl

pub empty_loops-do_edges : edges (graph empty_do) ≡ leaves_next 0 2 ∷ leaves_true 2 2 ∷ leaves_false 2 3 ∷ leaves_next 3 1 ∷ []
unfolding two_thresholds overflow_guard triangular_loops initialised_by_call missing_result empty_main groups_and_rest empty_for empty_while empty_do nested_do jumps_in_while jumps_in_do jumps_in_for jumps_without_step end_is_reached nested_calls graphs.graph graphs.edges sites.flow sites.row_flow sites.held_flow sites.site_count sites.row_size sites.held_size blocks.blocks blocks.row_blocks blocks.held_blocks eb.shape-the_row-Expr-0 eb.hidden-the_row-Expr-0 sb.shape-the_row-Stmt-0 sb.hidden-the_row-Stmt-0 sb.shape-the_row-Stmt-1 sb.hidden-the_row-Stmt-1 carrier.hidden
empty_loops-do_edges = refl

pub empty_loops-do_loops : loops (graph empty_do) ≡ do_loop 3 (0 ∷ []) 1 ∷ []
unfolding two_thresholds overflow_guard triangular_loops initialised_by_call missing_result empty_main groups_and_rest empty_for empty_while empty_do nested_do jumps_in_while jumps_in_do jumps_in_for jumps_without_step end_is_reached nested_calls graphs.graph graphs.edges sites.flow sites.row_flow sites.held_flow sites.site_count sites.row_size sites.held_size blocks.blocks blocks.row_blocks blocks.held_blocks eb.shape-the_row-Expr-0 eb.hidden-the_row-Expr-0 sb.shape-the_row-Stmt-0 sb.hidden-the_row-Stmt-0 sb.shape-the_row-Stmt-1 sb.hidden-the_row-Stmt-1 carrier.hidden
empty_loops-do_loops = refl

pub empty_loops-do_caps : caps_of empty_do ≡ 1 ∷ 1 ∷ 3 ∷ 1 ∷ []
unfolding two_thresholds overflow_guard triangular_loops initialised_by_call missing_result empty_main groups_and_rest empty_for empty_while empty_do nested_do jumps_in_while jumps_in_do jumps_in_for jumps_without_step end_is_reached nested_calls graphs.graph graphs.edges sites.flow sites.row_flow sites.held_flow sites.site_count sites.row_size sites.held_size blocks.blocks blocks.row_blocks blocks.held_blocks eb.shape-the_row-Expr-0 eb.hidden-the_row-Expr-0 sb.shape-the_row-Stmt-0 sb.hidden-the_row-Stmt-0 sb.shape-the_row-Stmt-1 sb.hidden-the_row-Stmt-1 carrier.hidden
empty_loops-do_caps = refl

pub empty_loops-for_keeps : keeps (loop 3 (1 ∷ []) 2) (0 ∷ 1 ∷ 2 ∷ 2 ∷ 2 ∷ 3 ∷ 4 ∷ []) ≡ true
unfolding two_thresholds overflow_guard triangular_loops initialised_by_call missing_result empty_main groups_and_rest empty_for empty_while empty_do nested_do jumps_in_while jumps_in_do jumps_in_for jumps_without_step end_is_reached nested_calls graphs.graph graphs.edges sites.flow sites.row_flow sites.held_flow sites.site_count sites.row_size sites.held_size blocks.blocks blocks.row_blocks blocks.held_blocks eb.shape-the_row-Expr-0 eb.hidden-the_row-Expr-0 sb.shape-the_row-Stmt-0 sb.hidden-the_row-Stmt-0 sb.shape-the_row-Stmt-1 sb.hidden-the_row-Stmt-1 carrier.hidden
empty_loops-for_keeps = refl

pub empty_loops-for_breaks : keeps (loop 3 (1 ∷ []) 2) (0 ∷ 1 ∷ 2 ∷ 2 ∷ 2 ∷ 2 ∷ []) ≡ false
unfolding two_thresholds overflow_guard triangular_loops initialised_by_call missing_result empty_main groups_and_rest empty_for empty_while empty_do nested_do jumps_in_while jumps_in_do jumps_in_for jumps_without_step end_is_reached nested_calls graphs.graph graphs.edges sites.flow sites.row_flow sites.held_flow sites.site_count sites.row_size sites.held_size blocks.blocks blocks.row_blocks blocks.held_blocks eb.shape-the_row-Expr-0 eb.hidden-the_row-Expr-0 sb.shape-the_row-Stmt-0 sb.hidden-the_row-Stmt-0 sb.shape-the_row-Stmt-1 sb.hidden-the_row-Stmt-1 carrier.hidden
empty_loops-for_breaks = refl

pub empty_loops-do_keeps : keeps (do_loop 3 (0 ∷ []) 1) (0 ∷ 1 ∷ 1 ∷ 2 ∷ 3 ∷ []) ≡ true
unfolding two_thresholds overflow_guard triangular_loops initialised_by_call missing_result empty_main groups_and_rest empty_for empty_while empty_do nested_do jumps_in_while jumps_in_do jumps_in_for jumps_without_step end_is_reached nested_calls graphs.graph graphs.edges sites.flow sites.row_flow sites.held_flow sites.site_count sites.row_size sites.held_size blocks.blocks blocks.row_blocks blocks.held_blocks eb.shape-the_row-Expr-0 eb.hidden-the_row-Expr-0 sb.shape-the_row-Stmt-0 sb.hidden-the_row-Stmt-0 sb.shape-the_row-Stmt-1 sb.hidden-the_row-Stmt-1 carrier.hidden
empty_loops-do_keeps = refl

pub empty_loops-do_breaks : keeps (do_loop 3 (0 ∷ []) 1) (0 ∷ 1 ∷ 1 ∷ 1 ∷ []) ≡ false
unfolding two_thresholds overflow_guard triangular_loops initialised_by_call missing_result empty_main groups_and_rest empty_for empty_while empty_do nested_do jumps_in_while jumps_in_do jumps_in_for jumps_without_step end_is_reached nested_calls graphs.graph graphs.edges sites.flow sites.row_flow sites.held_flow sites.site_count sites.row_size sites.held_size blocks.blocks blocks.row_blocks blocks.held_blocks eb.shape-the_row-Expr-0 eb.hidden-the_row-Expr-0 sb.shape-the_row-Stmt-0 sb.hidden-the_row-Stmt-0 sb.shape-the_row-Stmt-1 sb.hidden-the_row-Stmt-1 carrier.hidden
empty_loops-do_breaks = refl

pub empty_loops-enters_again : keeps (loop 1 (1 ∷ []) 2) (2 ∷ 2 ∷ 1 ∷ 2 ∷ 1 ∷ 2 ∷ []) ≡ true
unfolding two_thresholds overflow_guard triangular_loops initialised_by_call missing_result empty_main groups_and_rest empty_for empty_while empty_do nested_do jumps_in_while jumps_in_do jumps_in_for jumps_without_step end_is_reached nested_calls graphs.graph graphs.edges sites.flow sites.row_flow sites.held_flow sites.site_count sites.row_size sites.held_size blocks.blocks blocks.row_blocks blocks.held_blocks eb.shape-the_row-Expr-0 eb.hidden-the_row-Expr-0 sb.shape-the_row-Stmt-0 sb.hidden-the_row-Stmt-0 sb.shape-the_row-Stmt-1 sb.hidden-the_row-Stmt-1 carrier.hidden
empty_loops-enters_again = refl

pub nested_loops-for_edges : edges (graph triangular_loops) ≡ leaves_next 0 2 ∷ leaves_next 2 3 ∷ leaves_next 3 4 ∷ leaves_true 4 6 ∷ leaves_false 4 10 ∷ leaves_next 5 4 ∷ leaves_next 6 7 ∷ leaves_true 7 9 ∷ leaves_false 7 5 ∷ leaves_next 8 7 ∷ leaves_next 9 8 ∷ leaves_next 10 1 ∷ []
unfolding two_thresholds overflow_guard triangular_loops initialised_by_call missing_result empty_main groups_and_rest empty_for empty_while empty_do nested_do jumps_in_while jumps_in_do jumps_in_for jumps_without_step end_is_reached nested_calls graphs.graph graphs.edges sites.flow sites.row_flow sites.held_flow sites.site_count sites.row_size sites.held_size blocks.blocks blocks.row_blocks blocks.held_blocks eb.shape-the_row-Expr-0 eb.hidden-the_row-Expr-0 sb.shape-the_row-Stmt-0 sb.hidden-the_row-Stmt-0 sb.shape-the_row-Stmt-1 sb.hidden-the_row-Stmt-1 carrier.hidden
nested_loops-for_edges = refl

pub nested_loops-for_loops : loops (graph triangular_loops) ≡ loop 4 (2 ∷ []) 3 ∷ loop 3 (6 ∷ []) 7 ∷ []
unfolding two_thresholds overflow_guard triangular_loops initialised_by_call missing_result empty_main groups_and_rest empty_for empty_while empty_do nested_do jumps_in_while jumps_in_do jumps_in_for jumps_without_step end_is_reached nested_calls graphs.graph graphs.edges sites.flow sites.row_flow sites.held_flow sites.site_count sites.row_size sites.held_size blocks.blocks blocks.row_blocks blocks.held_blocks eb.shape-the_row-Expr-0 eb.hidden-the_row-Expr-0 sb.shape-the_row-Stmt-0 sb.hidden-the_row-Stmt-0 sb.shape-the_row-Stmt-1 sb.hidden-the_row-Stmt-1 carrier.hidden
nested_loops-for_loops = refl

pub nested_loops-for_caps : caps_of triangular_loops ≡ 1 ∷ 1 ∷ 1 ∷ 1 ∷ 5 ∷ 4 ∷ 4 ∷ 16 ∷ 12 ∷ 12 ∷ 1 ∷ []
unfolding two_thresholds overflow_guard triangular_loops initialised_by_call missing_result empty_main groups_and_rest empty_for empty_while empty_do nested_do jumps_in_while jumps_in_do jumps_in_for jumps_without_step end_is_reached nested_calls graphs.graph graphs.edges sites.flow sites.row_flow sites.held_flow sites.site_count sites.row_size sites.held_size blocks.blocks blocks.row_blocks blocks.held_blocks eb.shape-the_row-Expr-0 eb.hidden-the_row-Expr-0 sb.shape-the_row-Stmt-0 sb.hidden-the_row-Stmt-0 sb.shape-the_row-Stmt-1 sb.hidden-the_row-Stmt-1 carrier.hidden
nested_loops-for_caps = refl

pub nested_loops-do_edges : edges (graph nested_do) ≡ leaves_next 0 2 ∷ leaves_next 2 3 ∷ leaves_true 3 2 ∷ leaves_false 3 4 ∷ leaves_true 4 2 ∷ leaves_false 4 5 ∷ leaves_next 5 1 ∷ []
unfolding two_thresholds overflow_guard triangular_loops initialised_by_call missing_result empty_main groups_and_rest empty_for empty_while empty_do nested_do jumps_in_while jumps_in_do jumps_in_for jumps_without_step end_is_reached nested_calls graphs.graph graphs.edges sites.flow sites.row_flow sites.held_flow sites.site_count sites.row_size sites.held_size blocks.blocks blocks.row_blocks blocks.held_blocks eb.shape-the_row-Expr-0 eb.hidden-the_row-Expr-0 sb.shape-the_row-Stmt-0 sb.hidden-the_row-Stmt-0 sb.shape-the_row-Stmt-1 sb.hidden-the_row-Stmt-1 carrier.hidden
nested_loops-do_edges = refl

pub nested_loops-do_loops : loops (graph nested_do) ≡ do_loop 2 (0 ∷ 4 ∷ []) 2 ∷ do_loop 3 (0 ∷ []) 4 ∷ []
unfolding two_thresholds overflow_guard triangular_loops initialised_by_call missing_result empty_main groups_and_rest empty_for empty_while empty_do nested_do jumps_in_while jumps_in_do jumps_in_for jumps_without_step end_is_reached nested_calls graphs.graph graphs.edges sites.flow sites.row_flow sites.held_flow sites.site_count sites.row_size sites.held_size blocks.blocks blocks.row_blocks blocks.held_blocks eb.shape-the_row-Expr-0 eb.hidden-the_row-Expr-0 sb.shape-the_row-Stmt-0 sb.hidden-the_row-Stmt-0 sb.shape-the_row-Stmt-1 sb.hidden-the_row-Stmt-1 carrier.hidden
nested_loops-do_loops = refl

pub nested_loops-do_caps : caps_of nested_do ≡ 1 ∷ 1 ∷ 6 ∷ 6 ∷ 3 ∷ 1 ∷ []
unfolding two_thresholds overflow_guard triangular_loops initialised_by_call missing_result empty_main groups_and_rest empty_for empty_while empty_do nested_do jumps_in_while jumps_in_do jumps_in_for jumps_without_step end_is_reached nested_calls graphs.graph graphs.edges sites.flow sites.row_flow sites.held_flow sites.site_count sites.row_size sites.held_size blocks.blocks blocks.row_blocks blocks.held_blocks eb.shape-the_row-Expr-0 eb.hidden-the_row-Expr-0 sb.shape-the_row-Stmt-0 sb.hidden-the_row-Stmt-0 sb.shape-the_row-Stmt-1 sb.hidden-the_row-Stmt-1 carrier.hidden
nested_loops-do_caps = refl

pub jumps-in_while : edges (graph jumps_in_while) ≡ leaves_next 0 2 ∷ leaves_true 2 3 ∷ leaves_false 2 8 ∷ leaves_true 3 4 ∷ leaves_false 3 5 ∷ leaves_next 4 8 ∷ leaves_true 5 6 ∷ leaves_false 5 7 ∷ leaves_next 6 2 ∷ leaves_next 7 2 ∷ leaves_next 8 1 ∷ []
unfolding two_thresholds overflow_guard triangular_loops initialised_by_call missing_result empty_main groups_and_rest empty_for empty_while empty_do nested_do jumps_in_while jumps_in_do jumps_in_for jumps_without_step end_is_reached nested_calls graphs.graph graphs.edges sites.flow sites.row_flow sites.held_flow sites.site_count sites.row_size sites.held_size blocks.blocks blocks.row_blocks blocks.held_blocks eb.shape-the_row-Expr-0 eb.hidden-the_row-Expr-0 sb.shape-the_row-Stmt-0 sb.hidden-the_row-Stmt-0 sb.shape-the_row-Stmt-1 sb.hidden-the_row-Stmt-1 carrier.hidden
jumps-in_while = refl

pub jumps-in_do : edges (graph jumps_in_do) ≡ leaves_next 0 2 ∷ leaves_true 2 3 ∷ leaves_false 2 4 ∷ leaves_next 3 8 ∷ leaves_true 4 5 ∷ leaves_false 4 6 ∷ leaves_next 5 7 ∷ leaves_next 6 7 ∷ leaves_true 7 2 ∷ leaves_false 7 8 ∷ leaves_next 8 1 ∷ []
unfolding two_thresholds overflow_guard triangular_loops initialised_by_call missing_result empty_main groups_and_rest empty_for empty_while empty_do nested_do jumps_in_while jumps_in_do jumps_in_for jumps_without_step end_is_reached nested_calls graphs.graph graphs.edges sites.flow sites.row_flow sites.held_flow sites.site_count sites.row_size sites.held_size blocks.blocks blocks.row_blocks blocks.held_blocks eb.shape-the_row-Expr-0 eb.hidden-the_row-Expr-0 sb.shape-the_row-Stmt-0 sb.hidden-the_row-Stmt-0 sb.shape-the_row-Stmt-1 sb.hidden-the_row-Stmt-1 carrier.hidden
jumps-in_do = refl

pub jumps-in_for : edges (graph jumps_in_for) ≡ leaves_next 0 2 ∷ leaves_next 2 3 ∷ leaves_true 3 5 ∷ leaves_false 3 10 ∷ leaves_next 4 3 ∷ leaves_true 5 6 ∷ leaves_false 5 7 ∷ leaves_next 6 10 ∷ leaves_true 7 8 ∷ leaves_false 7 9 ∷ leaves_next 8 4 ∷ leaves_next 9 4 ∷ leaves_next 10 1 ∷ []
unfolding two_thresholds overflow_guard triangular_loops initialised_by_call missing_result empty_main groups_and_rest empty_for empty_while empty_do nested_do jumps_in_while jumps_in_do jumps_in_for jumps_without_step end_is_reached nested_calls graphs.graph graphs.edges sites.flow sites.row_flow sites.held_flow sites.site_count sites.row_size sites.held_size blocks.blocks blocks.row_blocks blocks.held_blocks eb.shape-the_row-Expr-0 eb.hidden-the_row-Expr-0 sb.shape-the_row-Stmt-0 sb.hidden-the_row-Stmt-0 sb.shape-the_row-Stmt-1 sb.hidden-the_row-Stmt-1 carrier.hidden
jumps-in_for = refl

pub jumps-without_step : edges (graph jumps_without_step) ≡ leaves_next 0 2 ∷ leaves_true 2 3 ∷ leaves_false 2 8 ∷ leaves_true 3 4 ∷ leaves_false 3 5 ∷ leaves_next 4 8 ∷ leaves_true 5 6 ∷ leaves_false 5 7 ∷ leaves_next 6 2 ∷ leaves_next 7 2 ∷ leaves_next 8 1 ∷ []
unfolding two_thresholds overflow_guard triangular_loops initialised_by_call missing_result empty_main groups_and_rest empty_for empty_while empty_do nested_do jumps_in_while jumps_in_do jumps_in_for jumps_without_step end_is_reached nested_calls graphs.graph graphs.edges sites.flow sites.row_flow sites.held_flow sites.site_count sites.row_size sites.held_size blocks.blocks blocks.row_blocks blocks.held_blocks eb.shape-the_row-Expr-0 eb.hidden-the_row-Expr-0 sb.shape-the_row-Stmt-0 sb.hidden-the_row-Stmt-0 sb.shape-the_row-Stmt-1 sb.hidden-the_row-Stmt-1 carrier.hidden
jumps-without_step = refl

pub jumps-while_loops : loops (graph jumps_in_while) ≡ loop 3 (0 ∷ []) 1 ∷ []
unfolding two_thresholds overflow_guard triangular_loops initialised_by_call missing_result empty_main groups_and_rest empty_for empty_while empty_do nested_do jumps_in_while jumps_in_do jumps_in_for jumps_without_step end_is_reached nested_calls graphs.graph graphs.edges sites.flow sites.row_flow sites.held_flow sites.site_count sites.row_size sites.held_size blocks.blocks blocks.row_blocks blocks.held_blocks eb.shape-the_row-Expr-0 eb.hidden-the_row-Expr-0 sb.shape-the_row-Stmt-0 sb.hidden-the_row-Stmt-0 sb.shape-the_row-Stmt-1 sb.hidden-the_row-Stmt-1 carrier.hidden
jumps-while_loops = refl

pub jumps-do_loops : loops (graph jumps_in_do) ≡ do_loop 3 (0 ∷ []) 8 ∷ []
unfolding two_thresholds overflow_guard triangular_loops initialised_by_call missing_result empty_main groups_and_rest empty_for empty_while empty_do nested_do jumps_in_while jumps_in_do jumps_in_for jumps_without_step end_is_reached nested_calls graphs.graph graphs.edges sites.flow sites.row_flow sites.held_flow sites.site_count sites.row_size sites.held_size blocks.blocks blocks.row_blocks blocks.held_blocks eb.shape-the_row-Expr-0 eb.hidden-the_row-Expr-0 sb.shape-the_row-Stmt-0 sb.hidden-the_row-Stmt-0 sb.shape-the_row-Stmt-1 sb.hidden-the_row-Stmt-1 carrier.hidden
jumps-do_loops = refl

pub jumps-for_loops : loops (graph jumps_in_for) ≡ loop 3 (1 ∷ []) 2 ∷ []
unfolding two_thresholds overflow_guard triangular_loops initialised_by_call missing_result empty_main groups_and_rest empty_for empty_while empty_do nested_do jumps_in_while jumps_in_do jumps_in_for jumps_without_step end_is_reached nested_calls graphs.graph graphs.edges sites.flow sites.row_flow sites.held_flow sites.site_count sites.row_size sites.held_size blocks.blocks blocks.row_blocks blocks.held_blocks eb.shape-the_row-Expr-0 eb.hidden-the_row-Expr-0 sb.shape-the_row-Stmt-0 sb.hidden-the_row-Stmt-0 sb.shape-the_row-Stmt-1 sb.hidden-the_row-Stmt-1 carrier.hidden
jumps-for_loops = refl

pub calls-edges : edges (graph (initialised_by_call (local 0))) ≡ leaves_next 0 2 ∷ leaves_true 2 3 ∷ leaves_false 2 7 ∷ leaves_next 3 4 ∷ leaves_next 4 5 ∷ leaves_next 5 6 ∷ leaves_next 6 2 ∷ leaves_next 7 1 ∷ []
unfolding two_thresholds overflow_guard triangular_loops initialised_by_call missing_result empty_main groups_and_rest empty_for empty_while empty_do nested_do jumps_in_while jumps_in_do jumps_in_for jumps_without_step end_is_reached nested_calls graphs.graph graphs.edges sites.flow sites.row_flow sites.held_flow sites.site_count sites.row_size sites.held_size blocks.blocks blocks.row_blocks blocks.held_blocks eb.shape-the_row-Expr-0 eb.hidden-the_row-Expr-0 sb.shape-the_row-Stmt-0 sb.hidden-the_row-Stmt-0 sb.shape-the_row-Stmt-1 sb.hidden-the_row-Stmt-1 carrier.hidden
calls-edges = refl

pub calls-blocks : blocks_of (initialised_by_call (local 0)) ≡ None ∷ None ∷ Some (block 1 0) ∷ Some (block 1 1) ∷ Some (block 0 0) ∷ None ∷ Some (block 1 2) ∷ Some (block 1 3) ∷ []
unfolding two_thresholds overflow_guard triangular_loops initialised_by_call missing_result empty_main groups_and_rest empty_for empty_while empty_do nested_do jumps_in_while jumps_in_do jumps_in_for jumps_without_step end_is_reached nested_calls graphs.graph graphs.edges sites.flow sites.row_flow sites.held_flow sites.site_count sites.row_size sites.held_size blocks.blocks blocks.row_blocks blocks.held_blocks eb.shape-the_row-Expr-0 eb.hidden-the_row-Expr-0 sb.shape-the_row-Stmt-0 sb.hidden-the_row-Stmt-0 sb.shape-the_row-Stmt-1 sb.hidden-the_row-Stmt-1 carrier.hidden
calls-blocks = refl

pub calls-chains : chains_of (initialised_by_call (local 0)) ≡ [] ∷ [] ∷ [] ∷ [] ∷ (block 1 1 ∷ []) ∷ [] ∷ [] ∷ [] ∷ []
unfolding two_thresholds overflow_guard triangular_loops initialised_by_call missing_result empty_main groups_and_rest empty_for empty_while empty_do nested_do jumps_in_while jumps_in_do jumps_in_for jumps_without_step end_is_reached nested_calls graphs.graph graphs.edges sites.flow sites.row_flow sites.held_flow sites.site_count sites.row_size sites.held_size blocks.blocks blocks.row_blocks blocks.held_blocks eb.shape-the_row-Expr-0 eb.hidden-the_row-Expr-0 sb.shape-the_row-Stmt-0 sb.hidden-the_row-Stmt-0 sb.shape-the_row-Stmt-1 sb.hidden-the_row-Stmt-1 carrier.hidden
calls-chains = refl

pub calls-caps : caps_of (initialised_by_call (local 0)) ≡ 1 ∷ 1 ∷ 3 ∷ 2 ∷ 2 ∷ 2 ∷ 2 ∷ 1 ∷ []
unfolding two_thresholds overflow_guard triangular_loops initialised_by_call missing_result empty_main groups_and_rest empty_for empty_while empty_do nested_do jumps_in_while jumps_in_do jumps_in_for jumps_without_step end_is_reached nested_calls graphs.graph graphs.edges sites.flow sites.row_flow sites.held_flow sites.site_count sites.row_size sites.held_size blocks.blocks blocks.row_blocks blocks.held_blocks eb.shape-the_row-Expr-0 eb.hidden-the_row-Expr-0 sb.shape-the_row-Stmt-0 sb.hidden-the_row-Stmt-0 sb.shape-the_row-Stmt-1 sb.hidden-the_row-Stmt-1 carrier.hidden
calls-caps = refl

pub calls-end : edges (graph end_is_reached) ≡ leaves_next 0 2 ∷ leaves_next 2 3 ∷ leaves_next 3 4 ∷ leaves_true 4 5 ∷ leaves_false 4 6 ∷ leaves_next 5 6 ∷ leaves_next 6 7 ∷ leaves_next 7 1 ∷ []
unfolding two_thresholds overflow_guard triangular_loops initialised_by_call missing_result empty_main groups_and_rest empty_for empty_while empty_do nested_do jumps_in_while jumps_in_do jumps_in_for jumps_without_step end_is_reached nested_calls graphs.graph graphs.edges sites.flow sites.row_flow sites.held_flow sites.site_count sites.row_size sites.held_size blocks.blocks blocks.row_blocks blocks.held_blocks eb.shape-the_row-Expr-0 eb.hidden-the_row-Expr-0 sb.shape-the_row-Stmt-0 sb.hidden-the_row-Stmt-0 sb.shape-the_row-Stmt-1 sb.hidden-the_row-Stmt-1 carrier.hidden
calls-end = refl

pub calls-none : edges (graph (missing_result (Call target.Nothing 0 []))) ≡ leaves_next 0 2 ∷ leaves_next 2 3 ∷ leaves_next 3 4 ∷ leaves_next 4 5 ∷ leaves_next 5 1 ∷ []
unfolding two_thresholds overflow_guard triangular_loops initialised_by_call missing_result empty_main groups_and_rest empty_for empty_while empty_do nested_do jumps_in_while jumps_in_do jumps_in_for jumps_without_step end_is_reached nested_calls graphs.graph graphs.edges sites.flow sites.row_flow sites.held_flow sites.site_count sites.row_size sites.held_size blocks.blocks blocks.row_blocks blocks.held_blocks eb.shape-the_row-Expr-0 eb.hidden-the_row-Expr-0 sb.shape-the_row-Stmt-0 sb.hidden-the_row-Stmt-0 sb.shape-the_row-Stmt-1 sb.hidden-the_row-Stmt-1 carrier.hidden
calls-none = refl

pub calls-nested : edges (graph nested_calls) ≡ leaves_next 0 2 ∷ leaves_true 2 3 ∷ leaves_false 2 9 ∷ leaves_next 3 4 ∷ leaves_next 4 5 ∷ leaves_next 5 6 ∷ leaves_next 6 7 ∷ leaves_next 7 8 ∷ leaves_next 8 2 ∷ leaves_next 9 1 ∷ []
unfolding two_thresholds overflow_guard triangular_loops initialised_by_call missing_result empty_main groups_and_rest empty_for empty_while empty_do nested_do jumps_in_while jumps_in_do jumps_in_for jumps_without_step end_is_reached nested_calls graphs.graph graphs.edges sites.flow sites.row_flow sites.held_flow sites.site_count sites.row_size sites.held_size blocks.blocks blocks.row_blocks blocks.held_blocks eb.shape-the_row-Expr-0 eb.hidden-the_row-Expr-0 sb.shape-the_row-Stmt-0 sb.hidden-the_row-Stmt-0 sb.shape-the_row-Stmt-1 sb.hidden-the_row-Stmt-1 carrier.hidden
calls-nested = refl

pub calls-nested_chains : chains_of nested_calls ≡ [] ∷ [] ∷ [] ∷ [] ∷ (block 2 1 ∷ []) ∷ (block 2 1 ∷ block 1 0 ∷ []) ∷ (block 2 1 ∷ []) ∷ (block 2 1 ∷ []) ∷ [] ∷ [] ∷ []
unfolding two_thresholds overflow_guard triangular_loops initialised_by_call missing_result empty_main groups_and_rest empty_for empty_while empty_do nested_do jumps_in_while jumps_in_do jumps_in_for jumps_without_step end_is_reached nested_calls graphs.graph graphs.edges sites.flow sites.row_flow sites.held_flow sites.site_count sites.row_size sites.held_size blocks.blocks blocks.row_blocks blocks.held_blocks eb.shape-the_row-Expr-0 eb.hidden-the_row-Expr-0 sb.shape-the_row-Stmt-0 sb.hidden-the_row-Stmt-0 sb.shape-the_row-Stmt-1 sb.hidden-the_row-Stmt-1 carrier.hidden
calls-nested_chains = refl

pub calls-nested_caps : caps_of nested_calls ≡ 1 ∷ 1 ∷ 5 ∷ 4 ∷ 4 ∷ 4 ∷ 4 ∷ 4 ∷ 4 ∷ 1 ∷ []
unfolding two_thresholds overflow_guard triangular_loops initialised_by_call missing_result empty_main groups_and_rest empty_for empty_while empty_do nested_do jumps_in_while jumps_in_do jumps_in_for jumps_without_step end_is_reached nested_calls graphs.graph graphs.edges sites.flow sites.row_flow sites.held_flow sites.site_count sites.row_size sites.held_size blocks.blocks blocks.row_blocks blocks.held_blocks eb.shape-the_row-Expr-0 eb.hidden-the_row-Expr-0 sb.shape-the_row-Stmt-0 sb.hidden-the_row-Stmt-0 sb.shape-the_row-Stmt-1 sb.hidden-the_row-Stmt-1 carrier.hidden
calls-nested_caps = refl
