-- What the nodes of a worked graph do.
use Rattle.std.proofs.Common.{◌≡◌, [], ◌∷◌, None, Some, refl}
use Rattle.c_tree.specs.declared.tree.BinOp.TheVariants as bin
use Rattle.c_tree.specs.declared.tree.Expr.TheVariants.{Bin}
use Rattle.c_tree.specs.Meaning.Worked.{two_thresholds, declares, sets, num, local}
use Rattle.flow_laws.specs.Sites.{Entry, Exit, Simple, Test, Give}
use Rattle.flow_laws.specs.Graphs.{graph}
use Rattle.node_contents.specs.Contents.{contents}
use Rattle.c_tree.specs.declared.tree.Expr.TheBlock as eb
use Rattle.c_tree.specs.declared.tree.Stmt.TheBlock as sb
use denote.Hole.Carrier as carrier
use Rattle.c_tree.specs.Meaning.Blocks as blocks
use Rattle.flow_laws.specs.Sites as sites
use Rattle.flow_laws.specs.Graphs as graphs

pub two_choices : contents (graph two_thresholds) ≡ Entry ∷ Exit ∷ Simple (declares 1 (num 0) ∷ []) ∷ Test None (Bin bin.Gt (local 0) (num 10)) ∷ Simple (sets 1 None (num 1) ∷ []) ∷ Test None (Bin bin.Lt (local 0) (num 5)) ∷ Simple (sets 1 None (num 2) ∷ []) ∷ Give (Some (local 1)) ∷ []
unfolding two_thresholds graphs.graph sites.flow sites.row_flow sites.held_flow sites.site_count sites.row_size sites.held_size blocks.blocks blocks.row_blocks blocks.held_blocks eb.shape-the_row-Expr-0 eb.hidden-the_row-Expr-0 sb.shape-the_row-Stmt-0 sb.hidden-the_row-Stmt-0 sb.shape-the_row-Stmt-1 sb.hidden-the_row-Stmt-1 carrier.hidden
two_choices = refl
