-- The pieces of a statement stand apart.
use Rattle.std.proofs.Common.{ℕ, ◌+◌, ◌≤◌, Bool, List, [], ◌∷◌}
use Rattle.std.specs.Prelude.{codes}
use Rattle.c_tree.specs.declared.tree.Stmt.{Stmt, Row_of-Stmt, end_of-Stmt, more_of-Stmt, Held-Stmt-For-1, None', Some'}
use Rattle.c_tree.specs.declared.tree.Stmt.TheVariants.{Empty, Scalar, Array, Assign, Call, Break, Continue, Return, If', While', Do', For', Group'}
use Rattle.c_tree.specs.declared.program.Func.{Func}
use Rattle.c_tree.specs.declared.program.Program.{Program}
use Rattle.c_tree.specs.Keeping.WellFormed.{is_initialiser, is_step}
use Rattle.print_laws.proofs.Composing.Composed.{Piece, Gap}
use Rattle.print_laws.proofs.Composing.ComposedExpressions.{IsShowable, mark, word, pieces}
use Rattle.print_laws.proofs.Named.Showable.{IsShowableStmt, IsShowableRow, IsShowableHeld, IsShowableSole, AreShowableStmts}
use Rattle.print_laws.proofs.Composing.ComposedStatements.{margin_pieces, simple_pieces, bound_pieces, opening_pieces, closing_pieces, stmt_pieces, row_pieces, else_pieces, held_pieces, sole_pieces, stmts_pieces}
use Rattle.print_laws.proofs.Apart.StandingWords.{IsKeyword, if_word, else_word, while_word, do_word, for_word, left_paren, right_paren, left_brace, right_brace, semicolon}
use Rattle.print_laws.proofs.Apart.ApartPieces.{AtLine, BehindMark, BehindWord, behind_mark, with_blank, with_feed, with_margin, with_bound, with_mark, with_keyword, with_expression}
use Rattle.print_laws.proofs.Apart.ApartSimple.{simple_apart}

-- pieces of a part of a line, which stand apart before what ends a word
pub record IsPart (inner : List Piece → List Piece) : Type 0 where
  pub part : (rest : List Piece) → BehindWord rest → BehindMark (inner rest)

-- pieces of whole lines, which stand apart before other lines
pub record AreLines (inner : List Piece → List Piece) : Type 0 where
  pub lines : (rest : List Piece) → AtLine rest → AtLine (inner rest)

pub no_lines : AreLines (λ rest. rest)
no_lines = record { lines = λ rest h. h }

pub both_lines : {xs ys : List Piece → List Piece} → AreLines xs → AreLines ys → AreLines (λ rest. xs (ys rest))
both_lines xs ys = record { lines = λ rest h. xs.lines _ (ys.lines rest h) }

expression_part : {p : Program} {f : Func} {e : _} (d : IsShowable p f e) → IsPart (pieces d)
expression_part d = record { part = λ rest h. with_expression d h }

-- ---- lines

pub opening_apart : {rest : List Piece} → AtLine rest → BehindWord (opening_pieces rest)
opening_apart h = with_mark right_paren (behind_mark (with_blank (behind_mark (with_mark left_brace (behind_mark (with_feed h))))))

pub closing_apart : (k : ℕ) {rest : List Piece} → AtLine rest → AtLine (closing_pieces k rest)
closing_apart k h = with_margin k (behind_mark (with_mark right_brace (behind_mark (with_feed h))))

-- a keyword, and what stands behind it in parentheses
with_head : {w : List ℕ} {rest : List Piece} → IsKeyword w → BehindMark rest → BehindMark (word w ∷ Gap 32 ∷ mark (codes "(") ∷ rest)
with_head k h = with_keyword k (with_blank (behind_mark (with_mark left_paren h)))

simple_line : (k : ℕ) {inner : List Piece → List Piece} → IsPart inner → AreLines (λ rest. margin_pieces k (inner (mark (codes ";") ∷ Gap 10 ∷ rest)))
simple_line k one = record { lines = λ rest h. with_margin k (one.part _ (with_mark semicolon (behind_mark (with_feed h)))) }

-- ---- statements with lists

if_apart : (k : ℕ) {e xs ys : List Piece → List Piece} → IsPart e → AreLines xs → AreLines ys
    → AreLines (λ rest. margin_pieces k (word (codes "if") ∷ Gap 32 ∷ mark (codes "(") ∷ e (opening_pieces (xs (ys rest)))))
if_apart k e xs ys = record { lines = λ rest h. with_margin k (with_head if_word (e.part _ (opening_apart (xs.lines _ (ys.lines rest h))))) }

while_apart : (n k : ℕ) {e xs : List Piece → List Piece} → n ≤ 1048576 → IsPart e → AreLines xs
    → AreLines (λ rest. bound_pieces n (margin_pieces k (word (codes "while") ∷ Gap 32 ∷ mark (codes "(") ∷ e (opening_pieces (xs (closing_pieces k rest))))))
while_apart n k few e xs = record { lines = λ rest h. with_bound n few (with_margin k (with_head while_word (e.part _ (opening_apart (xs.lines _ (closing_apart k h)))))) }

do_apart : (n k : ℕ) {e xs : List Piece → List Piece} → n ≤ 1048576 → IsPart e → AreLines xs
    → AreLines (λ rest. bound_pieces n (margin_pieces k (word (codes "do") ∷ Gap 32 ∷ mark (codes "{") ∷ Gap 10 ∷ xs (margin_pieces k (mark (codes "}") ∷ Gap 32 ∷ word (codes "while") ∷ Gap 32 ∷ mark (codes "(") ∷ e (mark (codes ")") ∷ mark (codes ";") ∷ Gap 10 ∷ rest))))))
do_apart n k {e} {xs} few condition list = record { lines = λ rest h. with_bound n few (with_margin k (begins _ (list.lines _ (ends rest h)))) }
  where
    ends : (rest : List Piece) → AtLine rest → AtLine (margin_pieces k (mark (codes "}") ∷ Gap 32 ∷ word (codes "while") ∷ Gap 32 ∷ mark (codes "(") ∷ e (mark (codes ")") ∷ mark (codes ";") ∷ Gap 10 ∷ rest)))
    ends rest h =
        let head = with_head while_word (condition.part _ (with_mark right_paren (behind_mark (with_mark semicolon (behind_mark (with_feed h)))))) in
        with_margin k (behind_mark (with_mark right_brace (behind_mark (with_blank head))))

    begins : (rest : List Piece) → AtLine rest → BehindMark (word (codes "do") ∷ Gap 32 ∷ mark (codes "{") ∷ Gap 10 ∷ rest)
    begins rest h = with_keyword do_word (with_blank (behind_mark (with_mark left_brace (behind_mark (with_feed h)))))

for_apart : (n k : ℕ) {i e j xs : List Piece → List Piece} → n ≤ 1048576 → IsPart i → IsPart e → IsPart j → AreLines xs
    → AreLines (λ rest. bound_pieces n (margin_pieces k (word (codes "for") ∷ Gap 32 ∷ mark (codes "(") ∷ i (mark (codes ";") ∷ Gap 32 ∷ e (mark (codes ";") ∷ Gap 32 ∷ j (opening_pieces (xs (closing_pieces k rest))))))))
for_apart n k few i e j xs = record {
  lines = λ rest h. with_bound n few (with_margin k (with_head for_word (i.part _ (stop (e.part _ (stop (j.part _ (opening_apart (xs.lines _ (closing_apart k h))))))))));
}
  where
    stop : {rest : List Piece} → BehindMark rest → BehindWord (mark (codes ";") ∷ Gap 32 ∷ rest)
    stop h = with_mark semicolon (behind_mark (with_blank h))

group_apart : (k : ℕ) {xs : List Piece → List Piece} → AreLines xs → AreLines (λ rest. margin_pieces k (mark (codes "{") ∷ Gap 10 ∷ xs (closing_pieces k rest)))
group_apart k xs = record { lines = λ rest h. with_margin k (behind_mark (with_mark left_brace (behind_mark (with_feed (xs.lines _ (closing_apart k h)))))) }

-- the second list of an `if`
otherwise_apart : (k : ℕ) {xs : List Piece → List Piece} → AreLines xs
    → AreLines (λ rest. margin_pieces k (mark (codes "}") ∷ Gap 32 ∷ word (codes "else") ∷ Gap 32 ∷ mark (codes "{") ∷ Gap 10 ∷ xs (closing_pieces k rest)))
otherwise_apart k xs = record { lines = λ rest h. turns _ (xs.lines _ (closing_apart k h)) }
  where
    turns : (rest : List Piece) → AtLine rest → AtLine (margin_pieces k (mark (codes "}") ∷ Gap 32 ∷ word (codes "else") ∷ Gap 32 ∷ mark (codes "{") ∷ Gap 10 ∷ rest))
    turns rest h =
        let other = with_keyword else_word (with_blank (behind_mark (with_mark left_brace (behind_mark (with_feed h))))) in
        with_margin k (behind_mark (with_mark right_brace (behind_mark (with_blank other))))

-- ---- parts of a `for`

sole_part : {m : _} (p : Program) (f : Func) (sort : Stmt → Bool) (x : Row_of-Stmt m) (d : IsShowableSole p f sort x) → IsPart (sole_pieces p f sort x d)
unfolding IsShowableSole sole_pieces
sole_part p f sort end_of-Stmt d = absurd d
sole_part p f sort (more_of-Stmt s more) d = record { part = λ rest h. simple_apart p f s d.1 h }

held_part : (p : Program) (f : Func) (sort : Stmt → Bool) (h : Held-Stmt-For-1) (d : IsShowableHeld p f sort h) → IsPart (held_pieces p f sort h d)
unfolding IsShowableHeld held_pieces
held_part p f sort None' d = record { part = λ rest h. behind_mark h }
held_part p f sort (Some' m x) d = sole_part p f sort x d

-- ---- statements

simple_stmt : (p : Program) (f : Func) (k : ℕ) (s : Stmt) (d : IsShowableStmt p f s) → AreLines (λ rest. margin_pieces k (simple_pieces p f s d (mark (codes ";") ∷ Gap 10 ∷ rest)))
simple_stmt p f k s d = simple_line k {inner = simple_pieces p f s d} (record { part = λ rest h. simple_apart p f s d h })

mutual
  unfolding IsShowableStmt IsShowableRow stmt_pieces row_pieces else_pieces

  pub stmt_apart : (p : Program) (f : Func) (k : ℕ) (s : Stmt) (d : IsShowableStmt p f s) → AreLines (stmt_pieces p f k s d)
  stmt_apart p f k (If' e m xs n ys) d = if_apart k (expression_part d.0) (row_apart p f (k + 1) xs d.1) (else_apart p f k ys d.2)
  stmt_apart p f k (While' n e m xs) d = while_apart n k d.0 (expression_part d.1) (row_apart p f (k + 1) xs d.2)
  stmt_apart p f k (Do' n m xs e) d = do_apart n k d.0 (expression_part d.2) (row_apart p f (k + 1) xs d.1)
  stmt_apart p f k (For' n i e j m xs) d = for_apart n k d.0 (held_part p f is_initialiser i d.1) (expression_part d.2) (held_part p f is_step j d.3) (row_apart p f (k + 1) xs d.4)
  stmt_apart p f k (Group' m xs) d = group_apart k (row_apart p f (k + 1) xs d)
  stmt_apart p f k Empty d = simple_stmt p f k Empty d
  stmt_apart p f k (Scalar n e) d = simple_stmt p f k (Scalar n e) d
  stmt_apart p f k (Array n es) d = simple_stmt p f k (Array n es) d
  stmt_apart p f k (Assign v o e) d = simple_stmt p f k (Assign v o e) d
  stmt_apart p f k (Call t g es) d = simple_stmt p f k (Call t g es) d
  stmt_apart p f k Break d = simple_stmt p f k Break d
  stmt_apart p f k Continue d = simple_stmt p f k Continue d
  stmt_apart p f k (Return e) d = simple_stmt p f k (Return e) d

  row_apart : {m : _} (p : Program) (f : Func) (k : ℕ) (xs : Row_of-Stmt m) (d : IsShowableRow p f xs) → AreLines (row_pieces p f k xs d)
  row_apart p f k end_of-Stmt d = no_lines
  row_apart p f k (more_of-Stmt s xs) d = both_lines (stmt_apart p f k s d.0) (row_apart p f k xs d.1)

  else_apart : {m : _} (p : Program) (f : Func) (k : ℕ) (xs : Row_of-Stmt m) (d : IsShowableRow p f xs) → AreLines (else_pieces p f k xs d)
  else_apart p f k end_of-Stmt d = record { lines = λ rest h. closing_apart k h }
  else_apart p f k (more_of-Stmt s xs) d = otherwise_apart k (both_lines (stmt_apart p f (k + 1) s d.0) (row_apart p f (k + 1) xs d.1))

pub stmts_apart : (p : Program) (f : Func) (k : ℕ) (ss : List Stmt) (d : AreShowableStmts p f ss) → AreLines (stmts_pieces p f k ss d)
stmts_apart p f k [] d = no_lines
stmts_apart p f k (s ∷ ss) d = both_lines (stmt_apart p f k s d.0) (stmts_apart p f k ss d.1)
