-- The text of a program in pieces.
use Rattle.std.proofs.Common.{ℕ, zero, suc, ◌+◌, ◌-◌, ◌^◌, Bool, true, false, List, [], ◌∷◌, ◌++◌}
use Rattle.std.specs.Prelude.{codes, take, slice_get, if◌then◌else◌, ◌==◌, Option, Some, None, ℤ, pos, negsuc}
use Rattle.c_tree.specs.declared.tree.Ty.{Ty}
use Rattle.c_tree.specs.declared.tree.Ty.TheVariants as ty
use Rattle.c_tree.specs.declared.tree.BinOp.{BinOp}
use Rattle.c_tree.specs.declared.tree.Expr.{Expr}
use Rattle.c_tree.specs.declared.tree.Place.{Place}
use Rattle.c_tree.specs.declared.tree.Place.TheVariants as place
use Rattle.c_tree.specs.declared.tree.Target.{Target}
use Rattle.c_tree.specs.declared.tree.Target.TheVariants as target
use Rattle.c_tree.specs.declared.tree.Stmt.{Stmt, Row_of-Stmt, end_of-Stmt, more_of-Stmt, Held-Stmt-For-1, None', Some'}
use Rattle.c_tree.specs.declared.tree.Stmt.TheVariants.{Empty, Scalar, Array, Assign, Call, Break, Continue, Return, If', While', Do', For', Group'}
use Rattle.c_tree.specs.declared.token.Kind.TheVariants as kind
use Rattle.c_tree.specs.declared.program.Local.{Local as Declared}
use Rattle.c_tree.specs.declared.program.Global.{Global as Outside}
use Rattle.c_tree.specs.declared.program.Func.{Func}
use Rattle.c_tree.specs.declared.program.Program.{Program}
use Rattle.c_tree.specs.Keeping.WellFormed.{is_initialiser, is_step}
use Rattle.print_laws.specs.PrintedExpressions.{name_text, type_text, bin_text, number_text}
use Rattle.print_laws.specs.PrintedStatements.{func_name}
use Rattle.print_laws.proofs.Composing.Composed.{Piece, Gap, Lexeme, Pragma}
use Rattle.print_laws.proofs.Composing.ComposedExpressions.{mark, word, is_unsigned, pieces}
use Rattle.print_laws.proofs.Composing.ExpressionLists.{list_pieces}
use Rattle.print_laws.proofs.Named.Showable.{IsShowableOptional, AreShowableArguments, IsShowablePlace, IsShowableStmt, IsShowableRow, IsShowableHeld, IsShowableSole, AreShowableStmts, IsShowableFunc, AreShowableFuncs, IsShowableProgram}

-- ---- lines

unfoldable pub margin_pieces : ℕ → List Piece → List Piece
margin_pieces zero rest = rest
margin_pieces (suc k) rest = margin_pieces k (Gap 32 ∷ Gap 32 ∷ Gap 32 ∷ Gap 32 ∷ rest)

-- ---- declarations

abbrev pub name_piece : List ℕ → Piece
name_piece name = Lexeme kind.Name name

abbrev pub number_piece : Ty → ℕ → Piece
number_piece t n = Lexeme (kind.Number (is_unsigned t) n) (number_text t n)

unfoldable pub length_pieces : Option ℕ → List Piece → List Piece
length_pieces None rest = rest
length_pieces (Some n) rest = mark (codes "[") ∷ number_piece ty.Int n ∷ mark (codes "]") ∷ rest

unfoldable pub declared_pieces : Ty → List ℕ → Option ℕ → List Piece → List Piece
declared_pieces t name n rest = word (type_text t) ∷ Gap 32 ∷ name_piece name ∷ length_pieces n rest

unfoldable pub local_pieces : Option Declared → List Piece → List Piece
local_pieces None rest = rest
local_pieces (Some l) rest = declared_pieces l.ty l.name l.length rest

-- the declaration of the local n
unfoldable pub declaration_pieces : Func → ℕ → List Piece → List Piece
declaration_pieces f n rest = local_pieces (slice_get f.locals n) rest

-- a mark with a blank on each side
abbrev pub between : List ℕ → List Piece → List Piece
between bytes rest = Gap 32 ∷ mark bytes ∷ Gap 32 ∷ rest

-- ---- statements of one line

unfoldable pub optional_pieces : (p : Program) (f : Func) (e : Option Expr) → IsShowableOptional p f e → List Piece → List Piece
optional_pieces p f None d rest = rest
optional_pieces p f (Some e) d rest = pieces d rest

unfoldable pub value_pieces : (p : Program) (f : Func) (e : Option Expr) → IsShowableOptional p f e → List Piece → List Piece
value_pieces p f None d rest = rest
value_pieces p f (Some e) d rest = between (codes "=") (pieces d rest)

unfoldable pub place_pieces : (p : Program) (f : Func) (v : Place) → IsShowablePlace p f v → List Piece → List Piece
place_pieces p f (place.Scalar v) d rest = name_piece (name_text p f v) ∷ rest
place_pieces p f (place.Elem v i) d rest = name_piece (name_text p f v) ∷ mark (codes "[") ∷ pieces d.1 (mark (codes "]") ∷ rest)

unfoldable pub assign_pieces : Option BinOp → List Piece → List Piece
assign_pieces None rest = between (codes "=") rest
assign_pieces (Some o) rest = between (bin_text o ++ codes "=") rest

unfoldable pub target_pieces : Program → Func → Target → List Piece → List Piece
target_pieces p f target.Nothing rest = rest
target_pieces p f (target.Assign v) rest = name_piece (name_text p f v) ∷ between (codes "=") rest
target_pieces p f (target.Declare n) rest = declaration_pieces f n (between (codes "=") rest)

unfoldable pub argument_pieces : (p : Program) (f : Func) (es : List Expr) → AreShowableArguments p f es → List Piece → List Piece
argument_pieces p f [] d rest = rest
argument_pieces p f (e ∷ es) d rest = list_pieces d rest

unfoldable pub called_pieces : (p : Program) (f : Func) (g : ℕ) (es : List Expr) → AreShowableArguments p f es → List Piece → List Piece
called_pieces p f g es d rest =
    name_piece (func_name (slice_get p.funcs g)) ∷ mark (codes "(") ∷ argument_pieces p f es d (mark (codes ")") ∷ rest)

unfoldable pub return_pieces : (p : Program) (f : Func) (e : Option Expr) → IsShowableOptional p f e → List Piece → List Piece
return_pieces p f None d rest = word (codes "return") ∷ rest
return_pieces p f (Some e) d rest = word (codes "return") ∷ Gap 32 ∷ pieces d rest

-- a statement of one line, without its semicolon; the others have none of this
unfoldable pub simple_pieces : (p : Program) (f : Func) (s : Stmt) → IsShowableStmt p f s → List Piece → List Piece
unfolding IsShowableStmt
simple_pieces p f Empty d rest = rest
simple_pieces p f (Scalar n e) d rest = declaration_pieces f n (value_pieces p f e d.1 rest)
simple_pieces p f (Array n es) d rest =
    declaration_pieces f n (between (codes "=") (mark (codes "{") ∷ list_pieces d.1 (mark (codes "}") ∷ rest)))
simple_pieces p f (Assign v o e) d rest = place_pieces p f v d.0 (assign_pieces o (pieces d.2 rest))
simple_pieces p f (Call t g es) d rest = target_pieces p f t (called_pieces p f g es d.2 rest)
simple_pieces p f Break d rest = word (codes "break") ∷ rest
simple_pieces p f Continue d rest = word (codes "continue") ∷ rest
simple_pieces p f (Return e) d rest = return_pieces p f e d rest
simple_pieces p f (If' e m xs n ys) d rest = rest
simple_pieces p f (While' k e m xs) d rest = rest
simple_pieces p f (Do' k m xs e) d rest = rest
simple_pieces p f (For' k i e j m xs) d rest = rest
simple_pieces p f (Group' m xs) d rest = rest

-- ---- statements

-- the line of a loop's bound
abbrev pub bound_pieces : ℕ → List Piece → List Piece
bound_pieces n rest = Pragma n ∷ Gap 10 ∷ rest

-- behind an expression in parentheses, the brace of a list and the line's end
abbrev pub opening_pieces : List Piece → List Piece
opening_pieces rest = mark (codes ")") ∷ Gap 32 ∷ mark (codes "{") ∷ Gap 10 ∷ rest

-- the line of the brace behind a list
abbrev pub closing_pieces : ℕ → List Piece → List Piece
closing_pieces k rest = margin_pieces k (mark (codes "}") ∷ Gap 10 ∷ rest)

unfoldable mutual
  unfolding IsShowableStmt

  pub stmt_pieces : (p : Program) (f : Func) (k : ℕ) (s : Stmt) → IsShowableStmt p f s → List Piece → List Piece
  stmt_pieces p f k (If' e m xs n ys) d rest =
      margin_pieces k (word (codes "if") ∷ Gap 32 ∷ mark (codes "(") ∷ pieces d.0 (opening_pieces (row_pieces p f (k + 1) xs d.1 (else_pieces p f k ys d.2 rest))))
  stmt_pieces p f k (While' n e m xs) d rest =
      bound_pieces n (margin_pieces k (word (codes "while") ∷ Gap 32 ∷ mark (codes "(") ∷ pieces d.1 (opening_pieces (row_pieces p f (k + 1) xs d.2 (closing_pieces k rest)))))
  stmt_pieces p f k (Do' n m xs e) d rest =
      bound_pieces n (margin_pieces k (word (codes "do") ∷ Gap 32 ∷ mark (codes "{") ∷ Gap 10 ∷ row_pieces p f (k + 1) xs d.1 (margin_pieces k (mark (codes "}") ∷ Gap 32 ∷ word (codes "while") ∷ Gap 32 ∷ mark (codes "(") ∷ pieces d.2 (mark (codes ")") ∷ mark (codes ";") ∷ Gap 10 ∷ rest)))))
  stmt_pieces p f k (For' n i e j m xs) d rest =
      bound_pieces n (margin_pieces k (word (codes "for") ∷ Gap 32 ∷ mark (codes "(") ∷ held_pieces p f is_initialiser i d.1 (mark (codes ";") ∷ Gap 32 ∷ pieces d.2 (mark (codes ";") ∷ Gap 32 ∷ held_pieces p f is_step j d.3 (opening_pieces (row_pieces p f (k + 1) xs d.4 (closing_pieces k rest)))))))
  stmt_pieces p f k (Group' m xs) d rest = margin_pieces k (mark (codes "{") ∷ Gap 10 ∷ row_pieces p f (k + 1) xs d (closing_pieces k rest))
  stmt_pieces p f k s d rest = margin_pieces k (simple_pieces p f s d (mark (codes ";") ∷ Gap 10 ∷ rest))

  pub row_pieces : {m : _} (p : Program) (f : Func) (k : ℕ) (xs : Row_of-Stmt m) → IsShowableRow p f xs → List Piece → List Piece
  row_pieces p f k end_of-Stmt d rest = rest
  row_pieces p f k (more_of-Stmt s xs) d rest = stmt_pieces p f k s d.0 (row_pieces p f k xs d.1 rest)

  -- behind the first list of an `if`
  pub else_pieces : {m : _} (p : Program) (f : Func) (k : ℕ) (xs : Row_of-Stmt m) → IsShowableRow p f xs → List Piece → List Piece
  else_pieces p f k end_of-Stmt d rest = closing_pieces k rest
  else_pieces p f k (more_of-Stmt s xs) d rest =
      margin_pieces k (mark (codes "}") ∷ Gap 32 ∷ word (codes "else") ∷ Gap 32 ∷ mark (codes "{") ∷ Gap 10 ∷ stmt_pieces p f (k + 1) s d.0 (row_pieces p f (k + 1) xs d.1 (closing_pieces k rest)))

  -- the initialiser or the step of a `for`
  pub held_pieces : (p : Program) (f : Func) (sort : Stmt → Bool) (h : Held-Stmt-For-1) → IsShowableHeld p f sort h → List Piece → List Piece
  held_pieces p f sort None' d rest = rest
  held_pieces p f sort (Some' m x) d rest = sole_pieces p f sort x d rest

  pub sole_pieces : {m : _} (p : Program) (f : Func) (sort : Stmt → Bool) (x : Row_of-Stmt m) → IsShowableSole p f sort x → List Piece → List Piece
  sole_pieces p f sort end_of-Stmt d rest = rest
  sole_pieces p f sort (more_of-Stmt s more) d rest = simple_pieces p f s d.1 rest

abbrev pub stmts_pieces : (p : Program) (f : Func) (k : ℕ) (ss : List Stmt) → AreShowableStmts p f ss → List Piece → List Piece
stmts_pieces p f k [] d rest = rest
stmts_pieces p f k (s ∷ ss) d rest = stmt_pieces p f k s d.0 (stmts_pieces p f k ss d.1 rest)

-- ---- functions

unfoldable pub result_pieces : Option Ty → List Piece → List Piece
result_pieces None rest = word (codes "void") ∷ rest
result_pieces (Some t) rest = word (type_text t) ∷ rest

unfoldable pub more_param_pieces : List Declared → List Piece → List Piece
more_param_pieces [] rest = rest
more_param_pieces (l ∷ ls) rest = mark (codes ",") ∷ Gap 32 ∷ declared_pieces l.ty l.name l.length (more_param_pieces ls rest)

unfoldable pub params_pieces : List Declared → List Piece → List Piece
params_pieces [] rest = word (codes "void") ∷ rest
params_pieces (l ∷ ls) rest = declared_pieces l.ty l.name l.length (more_param_pieces ls rest)

unfoldable pub func_pieces : (p : Program) (f : Func) → IsShowableFunc p f → List Piece → List Piece
func_pieces p f d rest =
    result_pieces f.result (Gap 32 ∷ name_piece f.name ∷ mark (codes "(") ∷ params_pieces (take f.params f.locals) (opening_pieces (stmts_pieces p f 1 f.body d.body (mark (codes "}") ∷ Gap 10 ∷ rest))))

abbrev pub funcs_pieces : (p : Program) (fs : List Func) → AreShowableFuncs p fs → List Piece → List Piece
funcs_pieces p [] d rest = rest
funcs_pieces p (f ∷ fs) d rest = func_pieces p f d.0 (funcs_pieces p fs d.1 rest)

-- ---- globals

unfoldable pub kept_pieces : Ty → ℤ → List Piece → List Piece
kept_pieces t (pos n) rest = number_piece t n ∷ rest
kept_pieces t (negsuc n) rest =
    if n == 2 ^ 31 - 1
    then mark (codes "(") ∷ word (codes "int") ∷ mark (codes ")") ∷ number_piece ty.Unsigned 2147483648 ∷ rest
    else mark (codes "-") ∷ number_piece t (suc n) ∷ rest

unfoldable pub more_kept_pieces : Ty → List ℤ → List Piece → List Piece
more_kept_pieces t [] rest = rest
more_kept_pieces t (z ∷ zs) rest = mark (codes ",") ∷ Gap 32 ∷ kept_pieces t z (more_kept_pieces t zs rest)

unfoldable pub initial_pieces : Ty → Option ℕ → List ℤ → List Piece → List Piece
initial_pieces t n [] rest = rest
initial_pieces t None (z ∷ zs) rest = between (codes "=") (kept_pieces t z rest)
initial_pieces t (Some n) (z ∷ zs) rest =
    between (codes "=") (mark (codes "{") ∷ kept_pieces t z (more_kept_pieces t zs (mark (codes "}") ∷ rest)))

unfoldable pub outer_pieces : Bool → List Piece → List Piece
outer_pieces true rest = word (codes "extern") ∷ Gap 32 ∷ rest
outer_pieces false rest = rest

unfoldable pub global_pieces : Outside → List Piece → List Piece
global_pieces g rest =
    outer_pieces g.outer (declared_pieces g.ty g.name g.length (initial_pieces g.ty g.length g.values (mark (codes ";") ∷ Gap 10 ∷ rest)))

unfoldable pub globals_pieces : List Outside → List Piece → List Piece
globals_pieces [] rest = rest
globals_pieces (g ∷ gs) rest = global_pieces g (globals_pieces gs rest)

-- ---- programs

unfoldable pub program_pieces : (p : Program) → IsShowableProgram p → List Piece
program_pieces p d = globals_pieces p.globals (funcs_pieces p p.funcs d.funcs [])
