-- Small units: the faults that they have, and the programs that they are.
use Rattle.std.proofs.Common.{◌≡◌, ℕ, false, List, [], ◌∷◌, Some, None, refl}
use Rattle.std.specs.Prelude.{codes}
use Rattle.c_tree.specs.declared.tree.Ty.TheVariants as ty
use Rattle.c_tree.specs.declared.unit.Spot.{Spot}
use Rattle.c_tree.specs.declared.unit.RawShape.TheVariants as shape
use Rattle.c_tree.specs.declared.unit.RawStmt.{RawStmt}
use Rattle.c_tree.specs.declared.unit.RawStmt.TheVariants.{Declare, Group}
use Rattle.c_tree.specs.declared.unit.RawStmt.TheBlock as in_stmt
use Rattle.c_tree.specs.declared.unit.RawFunc.{RawFunc}
use Rattle.c_tree.specs.declared.unit.RawTop.TheVariants.{Func}
use Rattle.c_tree.specs.declared.unit.Unit.{Unit as Tree}
use Rattle.c_tree.specs.Meaning.Spans as spans
use Rattle.c_tree.specs.Checking.Naming as naming
use Rattle.c_tree.specs.Checking.Uses as uses
use Rattle.c_tree.specs.Checking.Refusals.{placed_fault, Twice, NoEntry, faults}
use denote.Hole.Carrier.{hidden}

spot : List ℕ → ℕ → Spot
spot name at = record { name = name; at = at }

abbrev main_of : List RawStmt → Tree
main_of body =
    let f : RawFunc = record { kept = false; result = Some ty.Int; spot = record { name = codes "main"; at = 4 }; params = []; body = body } in
    record { tops = Func f ∷ []; end = 99 }

-- `int main(void) { }`
nothing_is_wrong : faults (main_of []) (codes "main") ≡ []
unfolding faults uses.uses naming.program_of uses.stmt_uses
nothing_is_wrong = refl

-- the same, where `f` is asked for
no_entry : faults (main_of []) (codes "f") ≡ placed_fault NoEntry 99 ∷ []
unfolding faults uses.uses naming.program_of uses.stmt_uses
no_entry = refl

-- `{ int x; { int x; } int x; }`
abbrev declares : ℕ → RawStmt
declares at = Declare false ty.Int (record { name = codes "x"; at = at }) (shape.Scalar None)

again : faults (main_of (declares 10 ∷ Group (declares 20 ∷ []) ∷ declares 30 ∷ [])) (codes "main") ≡ placed_fault Twice 30 ∷ []
unfolding faults uses.uses naming.program_of uses.stmt_uses uses.row_stmt_uses naming.scope_behind naming.stmt_locals naming.row_locals naming.stmt_of naming.row_stmts spans.span spans.row_span in_stmt.shape-the_row-RawStmt-0 in_stmt.hidden-the_row-RawStmt-0 hidden Rattle.c_tree.specs.declared.tree.Stmt.TheBlock.hidden-the_row-Stmt-0
again = refl
