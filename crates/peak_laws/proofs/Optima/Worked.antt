-- Worked optima, computed.
use Rattle.std.proofs.Common.{◌≡◌, ◌∷◌, [], refl}
use Rattle.c_tree.specs.Meaning.Worked.{ones, two_thresholds, two_thresholds_costs, counted_while, counted_do, triangular_loops, triangular_loops_costs}
use Rattle.c_tree.specs.Meaning.Blocks as blocks
use Rattle.c_tree.specs.declared.tree.Expr.TheBlock as eb
use Rattle.c_tree.specs.declared.tree.Stmt.TheBlock as sb
use denote.Hole.Carrier as carrier
use Rattle.flow_laws.specs.WorkedGraphs.{nested_calls}
use Rattle.flow_graph.specs.Worked.{nested_counts}
use Rattle.ipet_rows.specs.Worked.{once_do}
use Rattle.peak_laws.specs.Answers.{peak_value, peak_counts}
use Rattle.peak_laws.specs.ProgramParts as programs
use Rattle.peak_laws.specs.ProgramParts.{entry_part, program_part}

pub worked-two_choices : peak_value (program_part two_thresholds two_thresholds_costs) ≡ 94
unfolding two_thresholds counted_while counted_do triangular_loops nested_counts nested_calls once_do entry_part programs.part programs.row_part programs.held_part blocks.blocks blocks.row_blocks blocks.held_blocks eb.shape-the_row-Expr-0 eb.hidden-the_row-Expr-0 sb.shape-the_row-Stmt-0 sb.hidden-the_row-Stmt-0 sb.shape-the_row-Stmt-1 sb.hidden-the_row-Stmt-1 carrier.hidden
worked-two_choices = refl

pub worked-two_choices_counts : peak_counts (program_part two_thresholds two_thresholds_costs) ≡ 1 ∷ 1 ∷ 1 ∷ 0 ∷ 1 ∷ 1 ∷ 0 ∷ 1 ∷ 1 ∷ []
unfolding two_thresholds counted_while counted_do triangular_loops nested_counts nested_calls once_do entry_part programs.part programs.row_part programs.held_part blocks.blocks blocks.row_blocks blocks.held_blocks eb.shape-the_row-Expr-0 eb.hidden-the_row-Expr-0 sb.shape-the_row-Stmt-0 sb.hidden-the_row-Stmt-0 sb.shape-the_row-Stmt-1 sb.hidden-the_row-Stmt-1 carrier.hidden
worked-two_choices_counts = refl

pub worked-while : peak_value (program_part counted_while ones) ≡ 23
unfolding two_thresholds counted_while counted_do triangular_loops nested_counts nested_calls once_do entry_part programs.part programs.row_part programs.held_part blocks.blocks blocks.row_blocks blocks.held_blocks eb.shape-the_row-Expr-0 eb.hidden-the_row-Expr-0 sb.shape-the_row-Stmt-0 sb.hidden-the_row-Stmt-0 sb.shape-the_row-Stmt-1 sb.hidden-the_row-Stmt-1 carrier.hidden
worked-while = refl

pub worked-while_counts : peak_counts (program_part counted_while ones) ≡ 1 ∷ 1 ∷ 10 ∷ 1 ∷ 10 ∷ 1 ∷ []
unfolding two_thresholds counted_while counted_do triangular_loops nested_counts nested_calls once_do entry_part programs.part programs.row_part programs.held_part blocks.blocks blocks.row_blocks blocks.held_blocks eb.shape-the_row-Expr-0 eb.hidden-the_row-Expr-0 sb.shape-the_row-Stmt-0 sb.hidden-the_row-Stmt-0 sb.shape-the_row-Stmt-1 sb.hidden-the_row-Stmt-1 carrier.hidden
worked-while_counts = refl

pub worked-do : peak_value (program_part counted_do ones) ≡ 8
unfolding two_thresholds counted_while counted_do triangular_loops nested_counts nested_calls once_do entry_part programs.part programs.row_part programs.held_part blocks.blocks blocks.row_blocks blocks.held_blocks eb.shape-the_row-Expr-0 eb.hidden-the_row-Expr-0 sb.shape-the_row-Stmt-0 sb.hidden-the_row-Stmt-0 sb.shape-the_row-Stmt-1 sb.hidden-the_row-Stmt-1 carrier.hidden
worked-do = refl

pub worked-triangular : peak_value (program_part triangular_loops triangular_loops_costs) ≡ 120
unfolding two_thresholds counted_while counted_do triangular_loops nested_counts nested_calls once_do entry_part programs.part programs.row_part programs.held_part blocks.blocks blocks.row_blocks blocks.held_blocks eb.shape-the_row-Expr-0 eb.hidden-the_row-Expr-0 sb.shape-the_row-Stmt-0 sb.hidden-the_row-Stmt-0 sb.shape-the_row-Stmt-1 sb.hidden-the_row-Stmt-1 carrier.hidden
worked-triangular = refl

pub worked-nested : peak_value (program_part (nested_counts 1048575) ones) ≡ 2199025352707
unfolding two_thresholds counted_while counted_do triangular_loops nested_counts nested_calls once_do entry_part programs.part programs.row_part programs.held_part blocks.blocks blocks.row_blocks blocks.held_blocks eb.shape-the_row-Expr-0 eb.hidden-the_row-Expr-0 sb.shape-the_row-Stmt-0 sb.hidden-the_row-Stmt-0 sb.shape-the_row-Stmt-1 sb.hidden-the_row-Stmt-1 carrier.hidden
worked-nested = refl

pub worked-once : peak_value (program_part once_do ones) ≡ 2
unfolding two_thresholds counted_while counted_do triangular_loops nested_counts nested_calls once_do entry_part programs.part programs.row_part programs.held_part blocks.blocks blocks.row_blocks blocks.held_blocks eb.shape-the_row-Expr-0 eb.hidden-the_row-Expr-0 sb.shape-the_row-Stmt-0 sb.hidden-the_row-Stmt-0 sb.shape-the_row-Stmt-1 sb.hidden-the_row-Stmt-1 carrier.hidden
worked-once = refl
