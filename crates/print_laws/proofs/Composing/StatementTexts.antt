-- The text of a statement in pieces.
use Rattle.std.proofs.Common.{ℕ, ◌+◌, Bool, List, [], ◌∷◌, ◌++◌}
use Rattle.std.specs.Prelude.{codes}
use Rattle.c_tree.specs.declared.tree.Stmt.{Stmt, Row_of-Stmt, end_of-Stmt, more_of-Stmt, Held-Stmt-For-1, None', Some'}
use Rattle.c_tree.specs.declared.tree.Stmt.TheVariants.{Empty, Scalar, Array, Assign, Call, Break, Continue, Return, If', While', Do', For', Group'}
use Rattle.c_tree.specs.declared.program.Func.{Func}
use Rattle.c_tree.specs.declared.program.Program.{Program}
use Rattle.c_tree.specs.Keeping.WellFormed.{is_initialiser, is_step}
use Rattle.print_laws.specs.PrintedStatements.{line, bound_text, for_text, stmt_text, row_lines, else_text, held_text, sole_text, stmts_text}
use Rattle.print_laws.proofs.Composing.Composed.{Piece, Gap, Pragma}
use Rattle.print_laws.proofs.Composing.ComposedExpressions.{mark, word}
use Rattle.print_laws.proofs.Named.Showable.{IsShowableStmt, IsShowableRow, IsShowableHeld, IsShowableSole, AreShowableStmts}
use Rattle.print_laws.proofs.Composing.ComposedStatements.{margin_pieces, bound_pieces, opening_pieces, closing_pieces, stmt_pieces, row_pieces, else_pieces, held_pieces, sole_pieces, stmts_pieces}
use Rattle.print_laws.proofs.Composing.PieceTexts.{Puts, puts_nothing, puts_piece, both, line_text}
use Rattle.print_laws.proofs.Composing.SimpleTexts.{expression_text, simple_is}

-- ---- lines

bound_is : (n : ℕ) → Puts (bound_pieces n) (bound_text n)
unfolding bound_text
bound_is n = both (puts_piece (Pragma n)) (puts_piece (Gap 10))

simple_line : (k : ℕ) {inner : List Piece → List Piece} {t : List ℕ} → Puts inner t → Puts (λ rest. margin_pieces k (inner (mark (codes ";") ∷ Gap 10 ∷ rest))) (line k (t ++ codes ";"))
simple_line k is = line_text k (both is (puts_piece (mark (codes ";"))))

closing_line : (k : ℕ) → Puts (closing_pieces k) (line k (codes "}"))
closing_line k = line_text k (puts_piece (mark (codes "}")))

opening_is : Puts (λ rest. mark (codes ")") ∷ Gap 32 ∷ mark (codes "{") ∷ rest) (codes ") {")
opening_is = both (puts_piece (mark (codes ")"))) (both (puts_piece (Gap 32)) (puts_piece (mark (codes "{"))))

-- ---- statements with lists

if_is : (k : ℕ) {e xs ys : List Piece → List Piece} {a b c : List ℕ} → Puts e a → Puts xs b → Puts ys c
    → Puts (λ rest. margin_pieces k (word (codes "if") ∷ Gap 32 ∷ mark (codes "(") ∷ e (opening_pieces (xs (ys rest))))) (line k (codes "if (" ++ a ++ codes ") {") ++ b ++ c)
if_is k e xs ys = both (both (line_text k (both (both begins e) opening_is)) xs) ys
  where
    begins : Puts (λ rest. word (codes "if") ∷ Gap 32 ∷ mark (codes "(") ∷ rest) (codes "if (")
    begins = both (puts_piece (word (codes "if"))) (both (puts_piece (Gap 32)) (puts_piece (mark (codes "("))))

while_is : (n k : ℕ) {e xs : List Piece → List Piece} {a b : List ℕ} → Puts e a → Puts xs b
    → Puts (λ rest. bound_pieces n (margin_pieces k (word (codes "while") ∷ Gap 32 ∷ mark (codes "(") ∷ e (opening_pieces (xs (closing_pieces k rest))))))
    (bound_text n ++ line k (codes "while (" ++ a ++ codes ") {") ++ b ++ line k (codes "}"))
while_is n k e xs = both (both (both (bound_is n) (line_text k (both (both begins e) opening_is))) xs) (closing_line k)
  where
    begins : Puts (λ rest. word (codes "while") ∷ Gap 32 ∷ mark (codes "(") ∷ rest) (codes "while (")
    begins = both (puts_piece (word (codes "while"))) (both (puts_piece (Gap 32)) (puts_piece (mark (codes "("))))

do_is : (n k : ℕ) {e xs : List Piece → List Piece} {a b : List ℕ} → Puts e a → Puts xs b
    → Puts (λ rest. bound_pieces n (margin_pieces k (word (codes "do") ∷ Gap 32 ∷ mark (codes "{") ∷ Gap 10 ∷ xs (margin_pieces k (mark (codes "}") ∷ Gap 32 ∷ word (codes "while") ∷ Gap 32 ∷ mark (codes "(") ∷ e (mark (codes ")") ∷ mark (codes ";") ∷ Gap 10 ∷ rest))))))
    (bound_text n ++ line k (codes "do {") ++ b ++ line k (codes "} while (" ++ a ++ codes ");"))
do_is n k e xs = both (both (both (bound_is n) (line_text k begins)) xs) (line_text k (both (both turns e) ends))
  where
    begins : Puts (λ rest. word (codes "do") ∷ Gap 32 ∷ mark (codes "{") ∷ rest) (codes "do {")
    begins = both (puts_piece (word (codes "do"))) (both (puts_piece (Gap 32)) (puts_piece (mark (codes "{"))))

    turns : Puts (λ rest. mark (codes "}") ∷ Gap 32 ∷ word (codes "while") ∷ Gap 32 ∷ mark (codes "(") ∷ rest) (codes "} while (")
    turns = both (puts_piece (mark (codes "}"))) (both (puts_piece (Gap 32)) (both (puts_piece (word (codes "while"))) (both (puts_piece (Gap 32)) (puts_piece (mark (codes "("))))))

    ends : Puts (λ rest. mark (codes ")") ∷ mark (codes ";") ∷ rest) (codes ");")
    ends = both (puts_piece (mark (codes ")"))) (puts_piece (mark (codes ";")))

for_is : (n k : ℕ) {i e j xs : List Piece → List Piece} {a b c t : List ℕ} → Puts i a → Puts e b → Puts j c → Puts xs t
    → Puts (λ rest. bound_pieces n (margin_pieces k (word (codes "for") ∷ Gap 32 ∷ mark (codes "(") ∷ i (mark (codes ";") ∷ Gap 32 ∷ e (mark (codes ";") ∷ Gap 32 ∷ j (opening_pieces (xs (closing_pieces k rest))))))))
    (bound_text n ++ line k (for_text a b c) ++ t ++ line k (codes "}"))
unfolding for_text
for_is n k i e j xs = both (both (both (bound_is n) (line_text k (both (both (both (both (both (both begins i) stop) e) stop) j) opening_is))) xs) (closing_line k)
  where
    begins : Puts (λ rest. word (codes "for") ∷ Gap 32 ∷ mark (codes "(") ∷ rest) (codes "for (")
    begins = both (puts_piece (word (codes "for"))) (both (puts_piece (Gap 32)) (puts_piece (mark (codes "("))))

    stop : Puts (λ rest. mark (codes ";") ∷ Gap 32 ∷ rest) (codes "; ")
    stop = both (puts_piece (mark (codes ";"))) (puts_piece (Gap 32))

group_is : (k : ℕ) {xs : List Piece → List Piece} {a : List ℕ} → Puts xs a
    → Puts (λ rest. margin_pieces k (mark (codes "{") ∷ Gap 10 ∷ xs (closing_pieces k rest))) (line k (codes "{") ++ a ++ line k (codes "}"))
group_is k xs = both (both (line_text k (puts_piece (mark (codes "{")))) xs) (closing_line k)

-- the second list of an `if`
otherwise_is : (k : ℕ) {xs : List Piece → List Piece} {a : List ℕ} → Puts xs a
    → Puts (λ rest. margin_pieces k (mark (codes "}") ∷ Gap 32 ∷ word (codes "else") ∷ Gap 32 ∷ mark (codes "{") ∷ Gap 10 ∷ xs (closing_pieces k rest))) (line k (codes "} else {") ++ a ++ line k (codes "}"))
otherwise_is k xs = both (both (line_text k turns) xs) (closing_line k)
  where
    turns : Puts (λ rest. mark (codes "}") ∷ Gap 32 ∷ word (codes "else") ∷ Gap 32 ∷ mark (codes "{") ∷ rest) (codes "} else {")
    turns = both (puts_piece (mark (codes "}"))) (both (puts_piece (Gap 32)) (both (puts_piece (word (codes "else"))) (both (puts_piece (Gap 32)) (puts_piece (mark (codes "{"))))))

-- ---- parts of a `for`

sole_is : {m : _} (p : Program) (f : Func) (sort : Stmt → Bool) (x : Row_of-Stmt m) (d : IsShowableSole p f sort x) → Puts (sole_pieces p f sort x d) (sole_text p f x)
unfolding IsShowableSole sole_pieces sole_text
sole_is p f sort end_of-Stmt d = absurd d
sole_is p f sort (more_of-Stmt s more) d = simple_is p f s d.1

held_is : (p : Program) (f : Func) (sort : Stmt → Bool) (h : Held-Stmt-For-1) (d : IsShowableHeld p f sort h) → Puts (held_pieces p f sort h d) (held_text p f h)
unfolding IsShowableHeld held_pieces held_text
held_is p f sort None' d = puts_nothing
held_is p f sort (Some' m x) d = sole_is p f sort x d

-- ---- statements

mutual
  unfolding IsShowableStmt IsShowableRow stmt_pieces row_pieces else_pieces stmt_text row_lines else_text

  pub stmt_is : (p : Program) (f : Func) (k : ℕ) (s : Stmt) (d : IsShowableStmt p f s) → Puts (stmt_pieces p f k s d) (stmt_text p f k s)
  stmt_is p f k (If' e m xs n ys) d = if_is k (expression_text d.0) (row_is p f (k + 1) xs d.1) (else_is p f k ys d.2)
  stmt_is p f k (While' n e m xs) d = while_is n k (expression_text d.1) (row_is p f (k + 1) xs d.2)
  stmt_is p f k (Do' n m xs e) d = do_is n k (expression_text d.2) (row_is p f (k + 1) xs d.1)
  stmt_is p f k (For' n i e j m xs) d = for_is n k (held_is p f is_initialiser i d.1) (expression_text d.2) (held_is p f is_step j d.3) (row_is p f (k + 1) xs d.4)
  stmt_is p f k (Group' m xs) d = group_is k (row_is p f (k + 1) xs d)
  stmt_is p f k Empty d = simple_line k (simple_is p f Empty d)
  stmt_is p f k (Scalar n e) d = simple_line k (simple_is p f (Scalar n e) d)
  stmt_is p f k (Array n es) d = simple_line k (simple_is p f (Array n es) d)
  stmt_is p f k (Assign v o e) d = simple_line k (simple_is p f (Assign v o e) d)
  stmt_is p f k (Call t g es) d = simple_line k (simple_is p f (Call t g es) d)
  stmt_is p f k Break d = simple_line k (simple_is p f Break d)
  stmt_is p f k Continue d = simple_line k (simple_is p f Continue d)
  stmt_is p f k (Return e) d = simple_line k (simple_is p f (Return e) d)

  row_is : {m : _} (p : Program) (f : Func) (k : ℕ) (xs : Row_of-Stmt m) (d : IsShowableRow p f xs) → Puts (row_pieces p f k xs d) (row_lines p f k xs)
  row_is p f k end_of-Stmt d = puts_nothing
  row_is p f k (more_of-Stmt s xs) d = both (stmt_is p f k s d.0) (row_is p f k xs d.1)

  else_is : {m : _} (p : Program) (f : Func) (k : ℕ) (xs : Row_of-Stmt m) (d : IsShowableRow p f xs) → Puts (else_pieces p f k xs d) (else_text p f k xs)
  else_is p f k end_of-Stmt d = closing_line k
  else_is p f k (more_of-Stmt s xs) d = otherwise_is k (both (stmt_is p f (k + 1) s d.0) (row_is p f (k + 1) xs d.1))

pub stmts_are : (p : Program) (f : Func) (k : ℕ) (ss : List Stmt) (d : AreShowableStmts p f ss) → Puts (stmts_pieces p f k ss d) (stmts_text p f k ss)
stmts_are p f k [] d = puts_nothing
stmts_are p f k (s ∷ ss) d = both (stmt_is p f k s d.0) (stmts_are p f k ss d.1)
