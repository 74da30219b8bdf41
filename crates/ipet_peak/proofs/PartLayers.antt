-- The part of a statement, one layer at a time, as code opens it.
use Rattle.std.proofs.Common.{◌≡◌, ℕ, ◌+◌, ◌-◌, Bool, false, List, [], ◌∷◌, ◌++◌, Option, Some, None, refl, ap}
use Rattle.std.specs.Prelude.{slice_get}
use Rattle.c_tree.specs.declared.tree.Expr.{Expr}
use Rattle.c_tree.specs.declared.tree.Target.{Target}
use Rattle.c_tree.specs.declared.tree.Stmt.{Stmt}
use Rattle.c_tree.specs.declared.tree.Stmt.TheVariants.{Call, Break, Continue, Return, If, While, Do, For, Group}
use Rattle.c_tree.specs.declared.tree.Stmt.TheBlock.{shape-the_row-Stmt-0, hidden-the_row-Stmt-0, shape-the_row-Stmt-1, hidden-the_row-Stmt-1, back-Stmt-For-1}
use denote.Hole.Carrier.{hidden}
use Rattle.c_tree.specs.Meaning.Blocks.{is_simple, blocks, row_blocks, held_blocks, list_blocks}
use Rattle.c_tree.specs.Meaning.Statements.{held_stmts}
use Rattle.peak_laws.specs.declared.ways.Leaving.TheVariants as leaving
use Rattle.peak_laws.specs.Parts as spec
use Rattle.peak_laws.specs.ProgramParts.{sequence, call_part, held_step, step_part, part, row_part, held_part, list_part}
use Rattle.ipet_peak.specs.Pieces.{stack_after_piece, stack_after}
use Rattle.ipet_peak.specs.declared.pieces.Piece.{Piece}
use Rattle.peak_laws.proofs.GraphParts.Programs.{row_parts}
use Rattle.c_tree.proofs.Layers.ExecLayers.{row_is, held_is}

held_parts : (qs : List spec.Part) (cost : ℕ → ℕ) (o : Option Stmt) (b : ℕ) → held_part qs cost (back-Stmt-For-1 o) b ≡ list_part qs cost (held_stmts o) b false
unfolding part row_part held_part blocks row_blocks shape-the_row-Stmt-1 hidden-the_row-Stmt-1 hidden
held_parts qs cost None b = refl
held_parts qs cost (Some a) b = refl

steps_are : (o : Option Stmt) (c : ℕ) → held_step (back-Stmt-For-1 o) c ≡ step_part o c
unfolding shape-the_row-Stmt-1 hidden-the_row-Stmt-1 hidden
steps_are None c = refl
steps_are (Some a) c = refl

pub part-Call : (qs : List spec.Part) (cost : ℕ → ℕ) (t : Target) (g : ℕ) (es : List Expr) (b : ℕ) → part qs cost (Call t g es) b ≡ call_part (slice_get qs g) (cost b)
unfolding part
part-Call qs cost t g es b = refl

pub part-Break : (qs : List spec.Part) (cost : ℕ → ℕ) (b : ℕ) → part qs cost Break b ≡ spec.Block (cost b) leaving.ByBreak
unfolding part
part-Break qs cost b = refl

pub part-Continue : (qs : List spec.Part) (cost : ℕ → ℕ) (b : ℕ) → part qs cost Continue b ≡ spec.Block (cost b) leaving.ByContinue
unfolding part
part-Continue qs cost b = refl

pub part-Return : (qs : List spec.Part) (cost : ℕ → ℕ) (e : Option Expr) (b : ℕ) → part qs cost (Return e) b ≡ spec.Block (cost b) leaving.ByReturn
unfolding part
part-Return qs cost e b = refl

pub part-If : (qs : List spec.Part) (cost : ℕ → ℕ) (e : Expr) (xs ys : List Stmt) (b : ℕ) → part qs cost (If e xs ys) b ≡ spec.Choice (cost b) (list_part qs cost xs (b + 1) false) (list_part qs cost ys (b + 1 + list_blocks xs false) false)
unfolding part
part-If qs cost e xs ys b =
    λ i. spec.Choice (cost b) (row_parts qs cost xs (b + 1) false i) (row_parts qs cost ys (b + 1 + row_is xs false i) false i)

pub part-While : (qs : List spec.Part) (cost : ℕ → ℕ) (l : ℕ) (e : Expr) (xs : List Stmt) (b : ℕ) → part qs cost (While l e xs) b ≡ spec.While (cost b) (l - 1) None (list_part qs cost xs (b + 1) false)
unfolding part
part-While qs cost l e xs b = λ i. spec.While (cost b) (l - 1) None (row_parts qs cost xs (b + 1) false i)

pub part-Do : (qs : List spec.Part) (cost : ℕ → ℕ) (l : ℕ) (xs : List Stmt) (e : Expr) (b : ℕ) → part qs cost (Do l xs e) b ≡ spec.Do (cost (b + list_blocks xs false)) (l - 1) (list_part qs cost xs b false)
unfolding part
part-Do qs cost l xs e b = λ i. spec.Do (cost (b + row_is xs false i)) (l - 1) (row_parts qs cost xs b false i)

pub part-For : (qs : List spec.Part) (cost : ℕ → ℕ) (l : ℕ) (a c : Option Stmt) (e : Expr) (xs : List Stmt) (b : ℕ) → part qs cost (For l a e c xs) b ≡ let bc = b + list_blocks (held_stmts a) false in sequence (list_part qs cost (held_stmts a) b false) (spec.While (cost bc) (l - 1) (step_part c (cost (bc + 1))) (list_part qs cost xs (bc + 1 + list_blocks (held_stmts c) false) false))
unfolding part
part-For qs cost l a c e xs b =
    λ i. let bc = b + held_is a i in sequence (held_parts qs cost a b i) (spec.While (cost bc) (l - 1) (steps_are c (cost (bc + 1)) i) (row_parts qs cost xs (bc + 1 + held_is c i) false i))

pub part-Group : (qs : List spec.Part) (cost : ℕ → ℕ) (xs : List Stmt) (b : ℕ) → part qs cost (Group xs) b ≡ list_part qs cost xs b false
unfolding part
part-Group qs cost xs b = row_parts qs cost xs b false

pub ruleset part_layers = (part-Call, part-Break, part-Continue, part-Return, part-If, part-While, part-Do, part-For, part-Group)

-- ---- pieces

pub stack_after_append : (qs : List spec.Part) (xs ys : List Piece) (ps : List spec.Part) → stack_after qs (xs ++ ys) ps ≡ stack_after qs xs (stack_after qs ys ps)
stack_after_append qs [] ys ps = refl
stack_after_append qs (x ∷ xs) ys ps = ap (stack_after_piece qs x) (stack_after_append qs xs ys ps)
