-- The pieces of a statement spell it.
use Rattle.std.proofs.Common.{◌≡◌, ℕ, ◌+◌, true, false, List, [], ◌∷◌, refl}
use Rattle.std.specs.Prelude.{codes, Option}
use Rattle.c_tree.specs.declared.tree.BinOp.{BinOp}
use Rattle.c_tree.specs.declared.tree.Expr.{Expr}
use Rattle.c_tree.specs.declared.tree.Place.{Place}
use Rattle.c_tree.specs.declared.tree.Stmt.{Stmt, Row_of-Stmt, end_of-Stmt, more_of-Stmt}
use Rattle.c_tree.specs.declared.tree.Stmt.TheVariants.{Empty, Scalar, Array, Assign, Call, Break, Continue, Return, If', While', Do', For', Group'}
use Rattle.c_tree.specs.declared.program.Func.{Func}
use Rattle.c_tree.specs.declared.program.Program.{Program}
use Rattle.c_tree.specs.declared.unit.RawExpr.{RawExpr}
use Rattle.c_tree.specs.declared.unit.RawStmt.{RawStmt}
use Rattle.c_tree.specs.declared.unit.RawStmt.TheVariants as raw
use Rattle.c_tree.specs.Grammar.SpelledStatements as g
use Rattle.print_laws.specs.Shown.{Shows, ShowsStmt, ShowsRow, ShowsStmts}
use Rattle.print_laws.proofs.Composing.Composed.{Piece, Gap}
use Rattle.print_laws.proofs.Composing.ComposedExpressions.{IsShowable, mark, word, pieces}
use Rattle.print_laws.proofs.Named.Showable.{IsShowableStmt, IsShowableRow, AreShowableStmts}
use Rattle.print_laws.proofs.Composing.ComposedStatements.{margin_pieces, simple_pieces, opening_pieces, closing_pieces, stmt_pieces, row_pieces, else_pieces, stmts_pieces}
use Rattle.print_laws.proofs.Spelled.SpelledParts.{IsPart, AreInner, behind_margin, braced, expr_part}
use Rattle.print_laws.proofs.Spelled.SpelledLines.{IsItem, ended, assign_part, called_part, scalar_part, array_part, empty_part, break_part, continue_part, return_part}
use Rattle.print_laws.proofs.Spelled.SpelledLoops.{while_part, do_part, for_part}

-- an assignment with its semicolon
assigned_part : (p : Program) (f : Func) (v : Place) (o : Option BinOp) (b : Expr) (d : IsShowableStmt p f (Assign v o b)) (at : ℕ) (rest : List Piece)
    → IsPart IsItem (λ r. ShowsStmt p f r (Assign v o b)) at (simple_pieces p f (Assign v o b) d (ended rest)) rest
unfolding IsShowableStmt simple_pieces
assigned_part p f v o b d at rest =
    let x = assign_part p f v o d.0 d.1 d.2 at (ended rest) in
    record { to = _; raw = x.raw; spells = (false, g.item (g.assign x.spells refl)); shows = x.shows }

-- an `if` that shows its expression and its lists
abbrev ShowsIf : Program → Func → Expr → (List RawStmt → Type 0) → (List RawStmt → Type 0) → RawStmt → Type 0
ShowsIf p f b Shown Other r = (a : RawExpr) × (xs : List RawStmt) × (ys : List RawStmt) × (r ≡ raw.If a xs ys) × Shows p f a b × Shown xs × Other ys

-- an `if`, whose second list, where it is empty, has no `else`
if_part : {m : _} (p : Program) (f : Func) (k : ℕ) {b : Expr} {Shown : List RawStmt → Type 0} (inner : List Piece → List Piece) (d : IsShowable p f b) (ys : Row_of-Stmt m) (h : IsShowableRow p f ys)
    → AreInner Shown inner → AreInner (λ rs. ShowsRow p f rs ys) (row_pieces p f (k + 1) ys h) → (at : ℕ) (rest : List Piece)
    → IsPart IsItem (ShowsIf p f b Shown (λ rs. ShowsRow p f rs ys)) at (word (codes "if") ∷ Gap 32 ∷ mark (codes "(") ∷ pieces d (opening_pieces (inner (else_pieces p f k ys h rest)))) rest
unfolding ShowsStmt IsShowableStmt stmt_pieces
if_part p f k inner d end_of-Stmt h list others at rest =
    let x = expr_part d _ (opening_pieces (inner (closing_pieces k rest))) in
    let y = braced k _ (Gap 10 ∷ rest) list in
    record { to = _; raw = _; spells = (true, g.item (g.if_alone refl refl x.spells refl y.spells.body)); shows = (x.raw, y.raw, [], refl, x.shows, y.shows, refl) }
if_part p f k inner d (more_of-Stmt s ys) h list others at rest =
    let other : List Piece = Gap 32 ∷ word (codes "else") ∷ Gap 32 ∷ mark (codes "{") ∷ Gap 10 ∷ row_pieces p f (k + 1) (more_of-Stmt s ys) h (closing_pieces k rest) in
    let x = expr_part d _ (opening_pieces (inner (margin_pieces k (mark (codes "}") ∷ other)))) in
    let y = braced k _ other list in
    let z = braced k _ (Gap 10 ∷ rest) others in
    record { to = _; raw = _; spells = (false, g.item (g.if_else refl refl x.spells refl y.spells.body refl z.spells.body)); shows = (x.raw, y.raw, z.raw, refl, x.shows, y.shows, z.shows) }

-- a list in braces that is a statement
group_part : (k : ℕ) {Shown : List RawStmt → Type 0} (inner : List Piece → List Piece) → AreInner Shown inner → (at : ℕ) (rest : List Piece)
    → IsPart IsItem (λ r. (xs : List RawStmt) × (r ≡ raw.Group xs) × Shown xs) at (mark (codes "{") ∷ Gap 10 ∷ inner (closing_pieces k rest)) rest
group_part k inner list at rest =
    let y = braced k at (Gap 10 ∷ rest) list in
    record { to = _; raw = _; spells = (false, y.spells.group); shows = (y.raw, refl, y.shows) }

-- ---- statements

mutual
  unfolding IsShowableStmt ShowsStmt stmt_pieces simple_pieces

  pub stmt_spelled : (p : Program) (f : Func) (s : Stmt) (d : IsShowableStmt p f s) (k at : ℕ) (rest : List Piece) → IsPart IsItem (λ r. ShowsStmt p f r s) at (stmt_pieces p f k s d rest) rest
  stmt_spelled p f Empty d k at rest = behind_margin k at (ended rest) rest (λ from. empty_part p f from rest)
  stmt_spelled p f (Scalar n b) d k at rest = behind_margin k at _ rest (λ from. scalar_part p f d.0 b d.1 from rest)
  stmt_spelled p f (Array n bs) d k at rest = behind_margin k at _ rest (λ from. array_part p f d.0 bs d.1 from rest)
  stmt_spelled p f (Assign v o b) d k at rest = behind_margin k at _ rest (λ from. assigned_part p f v o b d from rest)
  stmt_spelled p f (Call t n bs) d k at rest = behind_margin k at _ rest (λ from. called_part p f t bs d.0 d.1 d.2 from rest)
  stmt_spelled p f Break d k at rest = behind_margin k at (word (codes "break") ∷ ended rest) rest (λ from. break_part p f from rest)
  stmt_spelled p f Continue d k at rest = behind_margin k at (word (codes "continue") ∷ ended rest) rest (λ from. continue_part p f from rest)
  stmt_spelled p f (Return b) d k at rest = behind_margin k at _ rest (λ from. return_part p f b d from rest)
  stmt_spelled p f (If' b m xs n ys) d k at rest =
      behind_margin k at _ rest (λ from. if_part p f k (row_pieces p f (k + 1) xs d.1) d.0 ys d.2 (row_spelled p f xs d.1 (k + 1)) (row_spelled p f ys d.2 (k + 1)) from rest)
  stmt_spelled p f (While' n b m xs) d k at rest = while_part p f n k (row_pieces p f (k + 1) xs d.2) d.1 (row_spelled p f xs d.2 (k + 1)) at rest
  stmt_spelled p f (Do' n m xs b) d k at rest = do_part p f n k (row_pieces p f (k + 1) xs d.1) d.2 (row_spelled p f xs d.1 (k + 1)) at rest
  stmt_spelled p f (For' n i b j m xs) d k at rest = for_part p f n k (row_pieces p f (k + 1) xs d.4) i d.1 d.2 j d.3 (row_spelled p f xs d.4 (k + 1)) at rest
  stmt_spelled p f (Group' m xs) d k at rest = behind_margin k at _ rest (λ from. group_part k (row_pieces p f (k + 1) xs d) (row_spelled p f xs d (k + 1)) from rest)

  row_spelled : {m : _} (p : Program) (f : Func) (xs : Row_of-Stmt m) (d : IsShowableRow p f xs) (k : ℕ) → AreInner (λ rs. ShowsRow p f rs xs) (row_pieces p f k xs d)
  row_spelled p f end_of-Stmt d k at rest = record { to = at; raw = []; spells = g.none; shows = refl }
  row_spelled p f (more_of-Stmt s xs) d k at rest =
      let x = stmt_spelled p f s d.0 k at (row_pieces p f k xs d.1 rest) in
      let y = row_spelled p f xs d.1 k x.to rest in
      record { to = y.to; raw = x.raw ∷ y.raw; spells = g.more x.spells.1 y.spells; shows = (x.raw, y.raw, refl, x.shows, y.shows) }

pub stmts_spelled : (p : Program) (f : Func) (ss : List Stmt) (d : AreShowableStmts p f ss) (k : ℕ) → AreInner (λ rs. ShowsStmts p f rs ss) (stmts_pieces p f k ss d)
stmts_spelled p f [] d k at rest = record { to = at; raw = []; spells = g.none; shows = refl }
stmts_spelled p f (s ∷ ss) d k at rest =
    let x = stmt_spelled p f s d.0 k at (stmts_pieces p f k ss d.1 rest) in
    let y = stmts_spelled p f ss d.1 k x.to rest in
    record { to = y.to; raw = x.raw ∷ y.raw; spells = g.more x.spells.1 y.spells; shows = (x.raw, y.raw, refl, x.shows, y.shows) }
