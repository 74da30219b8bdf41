-- Worked graphs of the filter, and what inputs drive, computed.
use Rattle.std.proofs.Common.{◌≡◌, Some, None, [], ◌∷◌, ◌++◌, true, false, length, refl, pos}
use Rattle.std.specs.Prelude.{slice_get}
use Rattle.c_tree.specs.Meaning.Statements.{block}
use Rattle.c_tree.specs.Meaning.Worked.{num, sets, triangular_loops, two_thresholds, local, initialised_by_call, clamp_filter, samples, input}
use Rattle.flow_laws.specs.Graphs.{graph, edges, loop_copies, loops}
use Rattle.flow_laws.specs.Paths.{leaving_count, arriving_count, edge_count, turns_left, allows, each_allows}
use Rattle.flow_laws.specs.Driving.{drives}
use Rattle.flow_laws.specs.Claims.{IsDrivenList}
use Rattle.flow_laws.specs.WorkedGraphs.{nested_do, loop_copy, leaves_next, leaves_true, leaves_false, loop, caps_of, calls_of, to_the_loop, low_turn, three_low_turns, four_low_turns}
use Rattle.flow_laws.proofs.Driving.DrivingComputed.{same_driving}
use Rattle.c_tree.specs.declared.tree.Target.TheVariants as target
use Rattle.c_tree.specs.declared.tree.BinOp.TheVariants as bin
use Rattle.c_tree.specs.declared.tree.Var.TheVariants.{Local, Global}
use Rattle.c_tree.specs.declared.tree.Expr.TheVariants.{Bin, Elem}
use Rattle.flow_laws.specs.BlockLists.{blocks_of_func, Run, Asks, Gives, Calls}
use Rattle.flow_laws.specs.BlockLists as lists
use Rattle.c_tree.specs.declared.tree.Expr.TheBlock as eb
use Rattle.c_tree.specs.declared.tree.Stmt.TheBlock as sb
use denote.Hole.Carrier as carrier
use Rattle.c_tree.specs.Meaning.Blocks as blocks
use Rattle.c_tree.specs.Meaning.Expressions as expressions
use Rattle.flow_laws.specs.Sites as sites
use Rattle.flow_laws.specs.Graphs as graphs
use Rattle.flow_laws.specs.Driving as driving

pub calls-landing : calls_of (initialised_by_call (local 0)) ≡ None ∷ None ∷ None ∷ None ∷ None ∷ Some (block 1 1) ∷ None ∷ None ∷ []
unfolding two_thresholds clamp_filter initialised_by_call graphs.graph graphs.edges sites.flow sites.row_flow sites.held_flow sites.site_count sites.row_size sites.held_size blocks.blocks blocks.row_blocks blocks.held_blocks eb.shape-the_row-Expr-0 eb.hidden-the_row-Expr-0 sb.shape-the_row-Stmt-0 sb.hidden-the_row-Stmt-0 sb.shape-the_row-Stmt-1 sb.hidden-the_row-Stmt-1 carrier.hidden
calls-landing = refl

pub filter-edges : edges (graph clamp_filter) ≡ leaves_next 0 2 ∷ leaves_next 2 3 ∷ leaves_next 3 4 ∷ leaves_true 4 6 ∷ leaves_false 4 17 ∷ leaves_next 5 4 ∷ leaves_next 6 7 ∷ leaves_true 7 8 ∷ leaves_false 7 9 ∷ leaves_next 8 12 ∷ leaves_true 9 10 ∷ leaves_false 9 11 ∷ leaves_next 10 12 ∷ leaves_next 11 12 ∷ leaves_next 12 13 ∷ leaves_true 13 14 ∷ leaves_false 13 15 ∷ leaves_next 14 15 ∷ leaves_true 15 16 ∷ leaves_false 15 5 ∷ leaves_next 16 5 ∷ leaves_next 17 1 ∷ []
unfolding two_thresholds clamp_filter initialised_by_call graphs.graph graphs.edges sites.flow sites.row_flow sites.held_flow sites.site_count sites.row_size sites.held_size blocks.blocks blocks.row_blocks blocks.held_blocks eb.shape-the_row-Expr-0 eb.hidden-the_row-Expr-0 sb.shape-the_row-Stmt-0 sb.hidden-the_row-Stmt-0 sb.shape-the_row-Stmt-1 sb.hidden-the_row-Stmt-1 carrier.hidden
filter-edges = refl

pub filter-loops : loops (graph clamp_filter) ≡ loop 4 (2 ∷ []) 3 ∷ []
unfolding two_thresholds clamp_filter initialised_by_call graphs.graph graphs.edges sites.flow sites.row_flow sites.held_flow sites.site_count sites.row_size sites.held_size blocks.blocks blocks.row_blocks blocks.held_blocks eb.shape-the_row-Expr-0 eb.hidden-the_row-Expr-0 sb.shape-the_row-Stmt-0 sb.hidden-the_row-Stmt-0 sb.shape-the_row-Stmt-1 sb.hidden-the_row-Stmt-1 carrier.hidden
filter-loops = refl

pub filter-copies : loop_copies (graph clamp_filter) ≡ loop_copy 4 17 4 4 false ∷ []
unfolding two_thresholds clamp_filter initialised_by_call graphs.graph graphs.edges sites.flow sites.row_flow sites.held_flow sites.site_count sites.row_size sites.held_size blocks.blocks blocks.row_blocks blocks.held_blocks eb.shape-the_row-Expr-0 eb.hidden-the_row-Expr-0 sb.shape-the_row-Stmt-0 sb.hidden-the_row-Stmt-0 sb.shape-the_row-Stmt-1 sb.hidden-the_row-Stmt-1 carrier.hidden
filter-copies = refl

pub filter-landing : slice_get (calls_of clamp_filter) 12 ≡ Some (Some (block 1 4))
unfolding two_thresholds clamp_filter initialised_by_call graphs.graph graphs.edges sites.flow sites.row_flow sites.held_flow sites.site_count sites.row_size sites.held_size blocks.blocks blocks.row_blocks blocks.held_blocks eb.shape-the_row-Expr-0 eb.hidden-the_row-Expr-0 sb.shape-the_row-Stmt-0 sb.hidden-the_row-Stmt-0 sb.shape-the_row-Stmt-1 sb.hidden-the_row-Stmt-1 carrier.hidden
filter-landing = refl

pub filter-caps : caps_of clamp_filter ≡ 1 ∷ 1 ∷ 1 ∷ 1 ∷ 5 ∷ 4 ∷ 4 ∷ 4 ∷ 4 ∷ 4 ∷ 4 ∷ 4 ∷ 4 ∷ 4 ∷ 4 ∷ 4 ∷ 4 ∷ 1 ∷ []
unfolding two_thresholds clamp_filter initialised_by_call graphs.graph graphs.edges sites.flow sites.row_flow sites.held_flow sites.site_count sites.row_size sites.held_size blocks.blocks blocks.row_blocks blocks.held_blocks eb.shape-the_row-Expr-0 eb.hidden-the_row-Expr-0 sb.shape-the_row-Stmt-0 sb.hidden-the_row-Stmt-0 sb.shape-the_row-Stmt-1 sb.hidden-the_row-Stmt-1 carrier.hidden
filter-caps = refl

pub filter-none_left : turns_left (loop 4 (2 ∷ []) 3) (0 ∷ 1 ∷ []) ≡ None
unfolding two_thresholds clamp_filter initialised_by_call graphs.graph graphs.edges sites.flow sites.row_flow sites.held_flow sites.site_count sites.row_size sites.held_size blocks.blocks blocks.row_blocks blocks.held_blocks eb.shape-the_row-Expr-0 eb.hidden-the_row-Expr-0 sb.shape-the_row-Stmt-0 sb.hidden-the_row-Stmt-0 sb.shape-the_row-Stmt-1 sb.hidden-the_row-Stmt-1 carrier.hidden
filter-none_left = refl

pub filter-all_left : turns_left (loop 4 (2 ∷ []) 3) to_the_loop ≡ Some 4
unfolding two_thresholds clamp_filter initialised_by_call graphs.graph graphs.edges sites.flow sites.row_flow sites.held_flow sites.site_count sites.row_size sites.held_size blocks.blocks blocks.row_blocks blocks.held_blocks eb.shape-the_row-Expr-0 eb.hidden-the_row-Expr-0 sb.shape-the_row-Stmt-0 sb.hidden-the_row-Stmt-0 sb.shape-the_row-Stmt-1 sb.hidden-the_row-Stmt-1 carrier.hidden
filter-all_left = refl

pub filter-three_left : turns_left (loop 4 (2 ∷ []) 3) (to_the_loop ++ low_turn) ≡ Some 3
unfolding two_thresholds clamp_filter initialised_by_call graphs.graph graphs.edges sites.flow sites.row_flow sites.held_flow sites.site_count sites.row_size sites.held_size blocks.blocks blocks.row_blocks blocks.held_blocks eb.shape-the_row-Expr-0 eb.hidden-the_row-Expr-0 sb.shape-the_row-Stmt-0 sb.hidden-the_row-Stmt-0 sb.shape-the_row-Stmt-1 sb.hidden-the_row-Stmt-1 carrier.hidden
filter-three_left = refl

pub filter-no_more : turns_left (loop 4 (2 ∷ []) 3) four_low_turns ≡ Some 0
unfolding two_thresholds clamp_filter initialised_by_call graphs.graph graphs.edges sites.flow sites.row_flow sites.held_flow sites.site_count sites.row_size sites.held_size blocks.blocks blocks.row_blocks blocks.held_blocks eb.shape-the_row-Expr-0 eb.hidden-the_row-Expr-0 sb.shape-the_row-Stmt-0 sb.hidden-the_row-Stmt-0 sb.shape-the_row-Stmt-1 sb.hidden-the_row-Stmt-1 carrier.hidden
filter-no_more = refl

pub filter-fourth : each_allows (loops (graph clamp_filter)) three_low_turns 3 ≡ true
unfolding two_thresholds clamp_filter initialised_by_call graphs.graph graphs.edges sites.flow sites.row_flow sites.held_flow sites.site_count sites.row_size sites.held_size blocks.blocks blocks.row_blocks blocks.held_blocks eb.shape-the_row-Expr-0 eb.hidden-the_row-Expr-0 sb.shape-the_row-Stmt-0 sb.hidden-the_row-Stmt-0 sb.shape-the_row-Stmt-1 sb.hidden-the_row-Stmt-1 carrier.hidden
filter-fourth = refl

pub filter-fifth : each_allows (loops (graph clamp_filter)) four_low_turns 3 ≡ false
unfolding two_thresholds clamp_filter initialised_by_call graphs.graph graphs.edges sites.flow sites.row_flow sites.held_flow sites.site_count sites.row_size sites.held_size blocks.blocks blocks.row_blocks blocks.held_blocks eb.shape-the_row-Expr-0 eb.hidden-the_row-Expr-0 sb.shape-the_row-Stmt-0 sb.hidden-the_row-Stmt-0 sb.shape-the_row-Stmt-1 sb.hidden-the_row-Stmt-1 carrier.hidden
filter-fifth = refl

pub filter-leaves : each_allows (loops (graph clamp_filter)) four_low_turns 4 ≡ true
unfolding two_thresholds clamp_filter initialised_by_call graphs.graph graphs.edges sites.flow sites.row_flow sites.held_flow sites.site_count sites.row_size sites.held_size blocks.blocks blocks.row_blocks blocks.held_blocks eb.shape-the_row-Expr-0 eb.hidden-the_row-Expr-0 sb.shape-the_row-Stmt-0 sb.hidden-the_row-Stmt-0 sb.shape-the_row-Stmt-1 sb.hidden-the_row-Stmt-1 carrier.hidden
filter-leaves = refl

pub filter-enters_again : allows (loop 4 (2 ∷ []) 3) 2 (Some 0) ≡ true
unfolding two_thresholds clamp_filter initialised_by_call graphs.graph graphs.edges sites.flow sites.row_flow sites.held_flow sites.site_count sites.row_size sites.held_size blocks.blocks blocks.row_blocks blocks.held_blocks eb.shape-the_row-Expr-0 eb.hidden-the_row-Expr-0 sb.shape-the_row-Stmt-0 sb.hidden-the_row-Stmt-0 sb.shape-the_row-Stmt-1 sb.hidden-the_row-Stmt-1 carrier.hidden
filter-enters_again = refl

pub filter-counted : edge_count four_low_turns 3 ≡ 4
unfolding two_thresholds clamp_filter initialised_by_call graphs.graph graphs.edges sites.flow sites.row_flow sites.held_flow sites.site_count sites.row_size sites.held_size blocks.blocks blocks.row_blocks blocks.held_blocks eb.shape-the_row-Expr-0 eb.hidden-the_row-Expr-0 sb.shape-the_row-Stmt-0 sb.hidden-the_row-Stmt-0 sb.shape-the_row-Stmt-1 sb.hidden-the_row-Stmt-1 carrier.hidden
filter-counted = refl

pub driven_by_inputs-path : drives two_thresholds (input (pos 11 ∷ [])) (0 ∷ 1 ∷ 2 ∷ 4 ∷ 6 ∷ 8 ∷ []) ≡ true
unfolding two_thresholds clamp_filter initialised_by_call graphs.graph graphs.edges sites.flow sites.row_flow sites.held_flow sites.site_count sites.row_size sites.held_size blocks.blocks blocks.row_blocks blocks.held_blocks eb.shape-the_row-Expr-0 eb.hidden-the_row-Expr-0 sb.shape-the_row-Stmt-0 sb.hidden-the_row-Stmt-0 sb.shape-the_row-Stmt-1 sb.hidden-the_row-Stmt-1 carrier.hidden driving.start_memory expressions.val expressions.row_val expressions.type_of expressions.row_type
driven_by_inputs-path = refl

pub driven_by_inputs-none : drives two_thresholds (input (pos 11 ∷ [])) [] ≡ true
unfolding two_thresholds clamp_filter initialised_by_call graphs.graph graphs.edges sites.flow sites.row_flow sites.held_flow sites.site_count sites.row_size sites.held_size blocks.blocks blocks.row_blocks blocks.held_blocks eb.shape-the_row-Expr-0 eb.hidden-the_row-Expr-0 sb.shape-the_row-Stmt-0 sb.hidden-the_row-Stmt-0 sb.shape-the_row-Stmt-1 sb.hidden-the_row-Stmt-1 carrier.hidden driving.start_memory expressions.val expressions.row_val expressions.type_of expressions.row_type
driven_by_inputs-none = refl

pub driven_by_inputs-begin : drives two_thresholds (input (pos 11 ∷ [])) (0 ∷ 1 ∷ 2 ∷ []) ≡ true
unfolding two_thresholds clamp_filter initialised_by_call graphs.graph graphs.edges sites.flow sites.row_flow sites.held_flow sites.site_count sites.row_size sites.held_size blocks.blocks blocks.row_blocks blocks.held_blocks eb.shape-the_row-Expr-0 eb.hidden-the_row-Expr-0 sb.shape-the_row-Stmt-0 sb.hidden-the_row-Stmt-0 sb.shape-the_row-Stmt-1 sb.hidden-the_row-Stmt-1 carrier.hidden driving.start_memory expressions.val expressions.row_val expressions.type_of expressions.row_type
driven_by_inputs-begin = refl

pub driven_by_inputs-guard : drives two_thresholds (input (pos 11 ∷ [])) (0 ∷ 1 ∷ 3 ∷ []) ≡ false
unfolding two_thresholds clamp_filter initialised_by_call graphs.graph graphs.edges sites.flow sites.row_flow sites.held_flow sites.site_count sites.row_size sites.held_size blocks.blocks blocks.row_blocks blocks.held_blocks eb.shape-the_row-Expr-0 eb.hidden-the_row-Expr-0 sb.shape-the_row-Stmt-0 sb.hidden-the_row-Stmt-0 sb.shape-the_row-Stmt-1 sb.hidden-the_row-Stmt-1 carrier.hidden driving.start_memory expressions.val expressions.row_val expressions.type_of expressions.row_type
driven_by_inputs-guard = refl

pub driven_by_inputs-not_contiguous : drives two_thresholds (input (pos 11 ∷ [])) (0 ∷ 2 ∷ []) ≡ false
unfolding two_thresholds clamp_filter initialised_by_call graphs.graph graphs.edges sites.flow sites.row_flow sites.held_flow sites.site_count sites.row_size sites.held_size blocks.blocks blocks.row_blocks blocks.held_blocks eb.shape-the_row-Expr-0 eb.hidden-the_row-Expr-0 sb.shape-the_row-Stmt-0 sb.hidden-the_row-Stmt-0 sb.shape-the_row-Stmt-1 sb.hidden-the_row-Stmt-1 carrier.hidden driving.start_memory expressions.val expressions.row_val expressions.type_of expressions.row_type
driven_by_inputs-not_contiguous = refl

pub driven_by_inputs-both : IsDrivenList two_thresholds (0 ∷ 1 ∷ 2 ∷ [])
unfolding two_thresholds clamp_filter initialised_by_call graphs.graph graphs.edges sites.flow sites.row_flow sites.held_flow sites.site_count sites.row_size sites.held_size blocks.blocks blocks.row_blocks blocks.held_blocks eb.shape-the_row-Expr-0 eb.hidden-the_row-Expr-0 sb.shape-the_row-Stmt-0 sb.hidden-the_row-Stmt-0 sb.shape-the_row-Stmt-1 sb.hidden-the_row-Stmt-1 carrier.hidden driving.start_memory expressions.val expressions.row_val expressions.type_of expressions.row_type
driven_by_inputs-both = (input (pos 11 ∷ []), refl, (same_driving two_thresholds (input (pos 11 ∷ [])) (0 ∷ 1 ∷ 2 ∷ [])).1 driven_by_inputs-begin)

pub driven_by_inputs-filter : drives clamp_filter (input (samples 200 2)) (four_low_turns ++ (4 ∷ 21 ∷ [])) ≡ true
unfolding two_thresholds clamp_filter initialised_by_call graphs.graph graphs.edges sites.flow sites.row_flow sites.held_flow sites.site_count sites.row_size sites.held_size blocks.blocks blocks.row_blocks blocks.held_blocks eb.shape-the_row-Expr-0 eb.hidden-the_row-Expr-0 sb.shape-the_row-Stmt-0 sb.hidden-the_row-Stmt-0 sb.shape-the_row-Stmt-1 sb.hidden-the_row-Stmt-1 carrier.hidden driving.start_memory expressions.val expressions.row_val expressions.type_of expressions.row_type
driven_by_inputs-filter = refl

pub driven_by_inputs-too_few : drives clamp_filter (input (samples 200 2)) (to_the_loop ++ (low_turn ++ (4 ∷ 21 ∷ []))) ≡ false
unfolding two_thresholds clamp_filter initialised_by_call graphs.graph graphs.edges sites.flow sites.row_flow sites.held_flow sites.site_count sites.row_size sites.held_size blocks.blocks blocks.row_blocks blocks.held_blocks eb.shape-the_row-Expr-0 eb.hidden-the_row-Expr-0 sb.shape-the_row-Stmt-0 sb.hidden-the_row-Stmt-0 sb.shape-the_row-Stmt-1 sb.hidden-the_row-Stmt-1 carrier.hidden driving.start_memory expressions.val expressions.row_val expressions.type_of expressions.row_type
driven_by_inputs-too_few = refl

pub driven_by_inputs-other_mode : drives clamp_filter (input (samples 200 1)) (to_the_loop ++ low_turn) ≡ false
unfolding two_thresholds clamp_filter initialised_by_call graphs.graph graphs.edges sites.flow sites.row_flow sites.held_flow sites.site_count sites.row_size sites.held_size blocks.blocks blocks.row_blocks blocks.held_blocks eb.shape-the_row-Expr-0 eb.hidden-the_row-Expr-0 sb.shape-the_row-Stmt-0 sb.hidden-the_row-Stmt-0 sb.shape-the_row-Stmt-1 sb.hidden-the_row-Stmt-1 carrier.hidden driving.start_memory expressions.val expressions.row_val expressions.type_of expressions.row_type
driven_by_inputs-other_mode = refl

pub two_choices-leaving : leaving_count (edges (graph two_thresholds)) (0 ∷ 1 ∷ 2 ∷ 4 ∷ 6 ∷ 8 ∷ []) 5 ≡ 1
unfolding two_thresholds clamp_filter triangular_loops nested_do graphs.graph graphs.edges sites.flow sites.row_flow sites.held_flow sites.site_count sites.row_size sites.held_size blocks.blocks blocks.row_blocks blocks.held_blocks eb.shape-the_row-Expr-0 eb.hidden-the_row-Expr-0 sb.shape-the_row-Stmt-0 sb.hidden-the_row-Stmt-0 sb.shape-the_row-Stmt-1 sb.hidden-the_row-Stmt-1 carrier.hidden
two_choices-leaving = refl

pub two_choices-arriving : arriving_count (edges (graph two_thresholds)) (0 ∷ 1 ∷ 2 ∷ 4 ∷ 6 ∷ 8 ∷ []) 5 ≡ 1
unfolding two_thresholds clamp_filter triangular_loops nested_do graphs.graph graphs.edges sites.flow sites.row_flow sites.held_flow sites.site_count sites.row_size sites.held_size blocks.blocks blocks.row_blocks blocks.held_blocks eb.shape-the_row-Expr-0 eb.hidden-the_row-Expr-0 sb.shape-the_row-Stmt-0 sb.hidden-the_row-Stmt-0 sb.shape-the_row-Stmt-1 sb.hidden-the_row-Stmt-1 carrier.hidden
two_choices-arriving = refl

pub two_choices-into_exit : arriving_count (edges (graph two_thresholds)) (0 ∷ 1 ∷ 2 ∷ 4 ∷ 6 ∷ 8 ∷ []) 1 ≡ 1
unfolding two_thresholds clamp_filter triangular_loops nested_do graphs.graph graphs.edges sites.flow sites.row_flow sites.held_flow sites.site_count sites.row_size sites.held_size blocks.blocks blocks.row_blocks blocks.held_blocks eb.shape-the_row-Expr-0 eb.hidden-the_row-Expr-0 sb.shape-the_row-Stmt-0 sb.hidden-the_row-Stmt-0 sb.shape-the_row-Stmt-1 sb.hidden-the_row-Stmt-1 carrier.hidden
two_choices-into_exit = refl

pub two_choices-statements : slice_get (blocks_of_func two_thresholds 0) 2 ≡ Some (Run (sets 1 None (num 1) ∷ []))
unfolding two_thresholds clamp_filter lists.blocks_of_stmt lists.blocks_of_row lists.blocks_of_held eb.shape-the_row-Expr-0 eb.hidden-the_row-Expr-0 sb.shape-the_row-Stmt-0 sb.hidden-the_row-Stmt-0 sb.shape-the_row-Stmt-1 sb.hidden-the_row-Stmt-1 carrier.hidden
two_choices-statements = refl

pub two_choices-many : length (blocks_of_func two_thresholds 0) ≡ 6
unfolding two_thresholds clamp_filter lists.blocks_of_stmt lists.blocks_of_row lists.blocks_of_held eb.shape-the_row-Expr-0 eb.hidden-the_row-Expr-0 sb.shape-the_row-Stmt-0 sb.hidden-the_row-Stmt-0 sb.shape-the_row-Stmt-1 sb.hidden-the_row-Stmt-1 carrier.hidden
two_choices-many = refl

pub nested_loops-for_copies : loop_copies (graph triangular_loops) ≡ loop_copy 4 10 4 4 false ∷ loop_copy 7 10 7 3 false ∷ []
unfolding two_thresholds clamp_filter triangular_loops nested_do graphs.graph graphs.edges sites.flow sites.row_flow sites.held_flow sites.site_count sites.row_size sites.held_size blocks.blocks blocks.row_blocks blocks.held_blocks eb.shape-the_row-Expr-0 eb.hidden-the_row-Expr-0 sb.shape-the_row-Stmt-0 sb.hidden-the_row-Stmt-0 sb.shape-the_row-Stmt-1 sb.hidden-the_row-Stmt-1 carrier.hidden
nested_loops-for_copies = refl

pub nested_loops-do_copies : loop_copies (graph nested_do) ≡ loop_copy 2 4 3 2 true ∷ loop_copy 2 5 4 3 true ∷ []
unfolding two_thresholds clamp_filter triangular_loops nested_do graphs.graph graphs.edges sites.flow sites.row_flow sites.held_flow sites.site_count sites.row_size sites.held_size blocks.blocks blocks.row_blocks blocks.held_blocks eb.shape-the_row-Expr-0 eb.hidden-the_row-Expr-0 sb.shape-the_row-Stmt-0 sb.hidden-the_row-Stmt-0 sb.shape-the_row-Stmt-1 sb.hidden-the_row-Stmt-1 carrier.hidden
nested_loops-do_copies = refl

pub filter-call : slice_get (blocks_of_func clamp_filter 1) 4 ≡ Some (Calls (target.Assign (Local 2)) 0 (Elem (Global 0) (local 1) ∷ []))
unfolding two_thresholds clamp_filter lists.blocks_of_stmt lists.blocks_of_row lists.blocks_of_held eb.shape-the_row-Expr-0 eb.hidden-the_row-Expr-0 sb.shape-the_row-Stmt-0 sb.hidden-the_row-Stmt-0 sb.shape-the_row-Stmt-1 sb.hidden-the_row-Stmt-1 carrier.hidden
filter-call = refl

pub filter-condition : slice_get (blocks_of_func clamp_filter 0) 0 ≡ Some (Asks (Bin bin.Gt (local 0) (num 100)))
unfolding two_thresholds clamp_filter lists.blocks_of_stmt lists.blocks_of_row lists.blocks_of_held eb.shape-the_row-Expr-0 eb.hidden-the_row-Expr-0 sb.shape-the_row-Stmt-0 sb.hidden-the_row-Stmt-0 sb.shape-the_row-Stmt-1 sb.hidden-the_row-Stmt-1 carrier.hidden
filter-condition = refl

pub filter-returned : slice_get (blocks_of_func clamp_filter 0) 4 ≡ Some (Gives (Some (local 0)))
unfolding two_thresholds clamp_filter lists.blocks_of_stmt lists.blocks_of_row lists.blocks_of_held eb.shape-the_row-Expr-0 eb.hidden-the_row-Expr-0 sb.shape-the_row-Stmt-0 sb.hidden-the_row-Stmt-0 sb.shape-the_row-Stmt-1 sb.hidden-the_row-Stmt-1 carrier.hidden
filter-returned = refl
