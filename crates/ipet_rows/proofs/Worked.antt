-- Worked rows, computed.
use Rattle.std.proofs.Common.{◌≡◌, ◌∷◌, [], length, refl}
use Rattle.c_tree.specs.Meaning.Worked.{two_thresholds, counted_while, counted_do, local, initialised_by_call}
use Rattle.c_tree.specs.Meaning.Blocks as blocks
use Rattle.c_tree.specs.declared.tree.Expr.TheBlock as eb
use Rattle.c_tree.specs.declared.tree.Stmt.TheBlock as sb
use denote.Hole.Carrier as carrier
use Rattle.flow_laws.specs.Graphs.{graph}
use Rattle.flow_laws.specs.Graphs as graphs
use Rattle.flow_laws.specs.Sites as sites
use Rattle.flow_laws.specs.WorkedGraphs.{empty_do}
use Rattle.ipet_rows.specs.FlowRows.{flow_rows}
use Rattle.ipet_rows.specs.Worked.{plus_term, minus_term, equal, at_most, once_do}

pub worked-two_choices : length (flow_rows (graph two_thresholds)) ≡ 7
unfolding two_thresholds counted_while counted_do initialised_by_call empty_do once_do graphs.graph graphs.edges sites.flow sites.row_flow sites.held_flow sites.site_count sites.row_size sites.held_size blocks.blocks blocks.row_blocks blocks.held_blocks eb.shape-the_row-Expr-0 eb.hidden-the_row-Expr-0 sb.shape-the_row-Stmt-0 sb.hidden-the_row-Stmt-0 sb.shape-the_row-Stmt-1 sb.hidden-the_row-Stmt-1 carrier.hidden
worked-two_choices = refl

pub worked-call : length (flow_rows (graph (initialised_by_call (local 0)))) ≡ 8
unfolding two_thresholds counted_while counted_do initialised_by_call empty_do once_do graphs.graph graphs.edges sites.flow sites.row_flow sites.held_flow sites.site_count sites.row_size sites.held_size blocks.blocks blocks.row_blocks blocks.held_blocks eb.shape-the_row-Expr-0 eb.hidden-the_row-Expr-0 sb.shape-the_row-Stmt-0 sb.hidden-the_row-Stmt-0 sb.shape-the_row-Stmt-1 sb.hidden-the_row-Stmt-1 carrier.hidden
worked-call = refl

pub worked-whiles : flow_rows (graph counted_while) ≡ equal (plus_term 0 1 ∷ []) 1 ∷ equal (minus_term 0 1 ∷ plus_term 1 1 ∷ []) 0 ∷ equal (minus_term 1 1 ∷ plus_term 2 1 ∷ plus_term 3 1 ∷ minus_term 4 1 ∷ []) 0 ∷ equal (minus_term 2 1 ∷ plus_term 4 1 ∷ []) 0 ∷ equal (minus_term 3 1 ∷ plus_term 5 1 ∷ []) 0 ∷ at_most (minus_term 1 10 ∷ plus_term 2 1 ∷ []) 0 ∷ []
unfolding two_thresholds counted_while counted_do initialised_by_call empty_do once_do graphs.graph graphs.edges sites.flow sites.row_flow sites.held_flow sites.site_count sites.row_size sites.held_size blocks.blocks blocks.row_blocks blocks.held_blocks eb.shape-the_row-Expr-0 eb.hidden-the_row-Expr-0 sb.shape-the_row-Stmt-0 sb.hidden-the_row-Stmt-0 sb.shape-the_row-Stmt-1 sb.hidden-the_row-Stmt-1 carrier.hidden
worked-whiles = refl

pub worked-dos : flow_rows (graph counted_do) ≡ equal (plus_term 0 1 ∷ []) 1 ∷ equal (minus_term 0 1 ∷ plus_term 1 1 ∷ []) 0 ∷ equal (minus_term 1 1 ∷ plus_term 2 1 ∷ minus_term 3 1 ∷ []) 0 ∷ equal (minus_term 2 1 ∷ plus_term 3 1 ∷ plus_term 4 1 ∷ []) 0 ∷ equal (minus_term 4 1 ∷ plus_term 5 1 ∷ []) 0 ∷ at_most (minus_term 1 2 ∷ plus_term 3 1 ∷ []) 0 ∷ []
unfolding two_thresholds counted_while counted_do initialised_by_call empty_do once_do graphs.graph graphs.edges sites.flow sites.row_flow sites.held_flow sites.site_count sites.row_size sites.held_size blocks.blocks blocks.row_blocks blocks.held_blocks eb.shape-the_row-Expr-0 eb.hidden-the_row-Expr-0 sb.shape-the_row-Stmt-0 sb.hidden-the_row-Stmt-0 sb.shape-the_row-Stmt-1 sb.hidden-the_row-Stmt-1 carrier.hidden
worked-dos = refl

pub worked-itself : flow_rows (graph empty_do) ≡ equal (plus_term 0 1 ∷ []) 1 ∷ equal (minus_term 0 1 ∷ plus_term 2 1 ∷ []) 0 ∷ equal (minus_term 2 1 ∷ plus_term 3 1 ∷ []) 0 ∷ at_most (minus_term 0 2 ∷ plus_term 1 1 ∷ []) 0 ∷ []
unfolding two_thresholds counted_while counted_do initialised_by_call empty_do once_do graphs.graph graphs.edges sites.flow sites.row_flow sites.held_flow sites.site_count sites.row_size sites.held_size blocks.blocks blocks.row_blocks blocks.held_blocks eb.shape-the_row-Expr-0 eb.hidden-the_row-Expr-0 sb.shape-the_row-Stmt-0 sb.hidden-the_row-Stmt-0 sb.shape-the_row-Stmt-1 sb.hidden-the_row-Stmt-1 carrier.hidden
worked-itself = refl

pub worked-once : flow_rows (graph once_do) ≡ equal (plus_term 0 1 ∷ []) 1 ∷ equal (minus_term 0 1 ∷ plus_term 2 1 ∷ []) 0 ∷ equal (minus_term 2 1 ∷ plus_term 3 1 ∷ []) 0 ∷ at_most (plus_term 1 1 ∷ []) 0 ∷ []
unfolding two_thresholds counted_while counted_do initialised_by_call empty_do once_do graphs.graph graphs.edges sites.flow sites.row_flow sites.held_flow sites.site_count sites.row_size sites.held_size blocks.blocks blocks.row_blocks blocks.held_blocks eb.shape-the_row-Expr-0 eb.hidden-the_row-Expr-0 sb.shape-the_row-Stmt-0 sb.hidden-the_row-Stmt-0 sb.shape-the_row-Stmt-1 sb.hidden-the_row-Stmt-1 carrier.hidden
worked-once = refl
