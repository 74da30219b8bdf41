-- The text of a statement of one line in pieces.
use Rattle.std.proofs.Common.{◌≡◌, ℕ, List, [], ◌∷◌, ◌++◌, append_assoc, append-nil}
use Rattle.std.specs.Prelude.{codes, decimal, slice_get, Option, Some, None}
use Rattle.c_tree.specs.declared.tree.Ty.{Ty}
use Rattle.c_tree.specs.declared.tree.Ty.TheVariants as ty
use Rattle.c_tree.specs.declared.tree.BinOp.{BinOp}
use Rattle.c_tree.specs.declared.tree.Expr.{Expr}
use Rattle.c_tree.specs.declared.tree.Place.{Place}
use Rattle.c_tree.specs.declared.tree.Place.TheVariants as place
use Rattle.c_tree.specs.declared.tree.Target.{Target}
use Rattle.c_tree.specs.declared.tree.Target.TheVariants as target
use Rattle.c_tree.specs.declared.tree.Stmt.{Stmt}
use Rattle.c_tree.specs.declared.tree.Stmt.TheVariants.{Empty, Scalar, Array, Assign, Call, Break, Continue, Return, If', While', Do', For', Group'}
use Rattle.c_tree.specs.declared.program.Local.{Local as Declared}
use Rattle.c_tree.specs.declared.program.Func.{Func}
use Rattle.c_tree.specs.declared.program.Program.{Program}
use Rattle.print_laws.specs.PrintedExpressions.{name_text, type_text, bin_text, number_text, comma_list, expr_text}
use Rattle.print_laws.specs.PrintedStatements as spec
use Rattle.print_laws.specs.PrintedStatements.{length_text, declared_text, local_text, declaration_text, value_part, place_text, assign_text, target_text, func_name, called_text, return_text, simple_text}
use Rattle.print_laws.proofs.Composing.Composed.{Gap}
use Rattle.print_laws.proofs.Composing.ComposedExpressions.{IsShowable, mark, word, pieces, pieces_text}
use Rattle.print_laws.proofs.Composing.ExpressionLists.{AreShowable, list_pieces, list_text}
use Rattle.print_laws.proofs.Named.Showable.{IsShowableOptional, AreShowableArguments, IsShowablePlace, IsShowableStmt}
use Rattle.print_laws.proofs.Composing.ComposedStatements.{name_piece, number_piece, length_pieces, declared_pieces, local_pieces, declaration_pieces, value_pieces, place_pieces, assign_pieces, target_pieces, argument_pieces, called_pieces, return_pieces, simple_pieces}
use Rattle.print_laws.proofs.Composing.PieceTexts.{Puts, puts_nothing, puts_piece, both, puts_as, between_text}

pub number_is_decimal : (n : ℕ) → number_text ty.Int n ≡ decimal n
unfolding number_text
number_is_decimal n = append-nil (decimal n)

pub expression_text : {p : Program} {f : Func} {e : Expr} (d : IsShowable p f e) → Puts (pieces d) (expr_text p f e)
expression_text d = record { before = pieces_text d }

pub expressions_text : {p : Program} {f : Func} {es : List Expr} (ds : AreShowable p f es) → Puts (list_pieces ds) (comma_list (expr_text p f) es)
expressions_text ds = record { before = list_text ds }

-- ---- declarations

pub size_text : (n : Option ℕ) → Puts (length_pieces n) (length_text n)
unfolding length_pieces length_text
size_text None = puts_nothing
size_text (Some n) = both (both (puts_piece (mark (codes "["))) (puts_as (number_is_decimal n) (puts_piece (number_piece ty.Int n)))) (puts_piece (mark (codes "]")))

pub declares_text : (t : Ty) (name : List ℕ) (n : Option ℕ) → Puts (declared_pieces t name n) (declared_text t name n)
unfolding declared_pieces declared_text
declares_text t name n = both (both (both (puts_piece (word (type_text t))) (puts_piece (Gap 32))) (puts_piece (name_piece name))) (size_text n)

local_is : (l : Option Declared) → Puts (local_pieces l) (local_text l)
unfolding local_pieces local_text
local_is None = puts_nothing
local_is (Some l) = declares_text l.ty l.name l.length

declaration_is : (f : Func) (n : ℕ) → Puts (declaration_pieces f n) (declaration_text f n)
unfolding declaration_pieces declaration_text
declaration_is f n = local_is (slice_get f.locals n)

-- ---- parts of statements

value_is : (p : Program) (f : Func) (e : Option Expr) (d : IsShowableOptional p f e) → Puts (value_pieces p f e d) (value_part p f e)
unfolding value_pieces value_part
value_is p f None d = puts_nothing
value_is p f (Some e) d = both (between_text (codes "=")) (expression_text d)

place_is : (p : Program) (f : Func) (v : Place) (d : IsShowablePlace p f v) → Puts (place_pieces p f v d) (place_text p f v)
unfolding place_pieces place_text
place_is p f (place.Scalar v) d = puts_piece (name_piece (name_text p f v))
place_is p f (place.Elem v i) d = both (both (both (puts_piece (name_piece (name_text p f v))) (puts_piece (mark (codes "[")))) (expression_text d.1)) (puts_piece (mark (codes "]")))

assign_is : (o : Option BinOp) → Puts (assign_pieces o) (assign_text o)
unfolding assign_pieces assign_text
assign_is None = between_text (codes "=")
assign_is (Some o) = puts_as (append_assoc (codes " ") (bin_text o) (codes "= ")) (puts_as (append_assoc (codes " " ++ bin_text o) (codes "=") (codes " ")) (between_text (bin_text o ++ codes "=")))

target_is : (p : Program) (f : Func) (t : Target) → Puts (target_pieces p f t) (target_text p f t)
unfolding target_pieces target_text
target_is p f target.Nothing = puts_nothing
target_is p f (target.Assign v) = both (puts_piece (name_piece (name_text p f v))) (between_text (codes "="))
target_is p f (target.Declare n) = both (declaration_is f n) (between_text (codes "="))

arguments_are : (p : Program) (f : Func) (es : List Expr) (d : AreShowableArguments p f es) → Puts (argument_pieces p f es d) (comma_list (expr_text p f) es)
unfolding argument_pieces comma_list
arguments_are p f [] d = puts_nothing
arguments_are p f (e ∷ es) d = expressions_text d

called_is : (p : Program) (f : Func) (g : ℕ) (es : List Expr) (d : AreShowableArguments p f es) → Puts (called_pieces p f g es d) (called_text p f g es)
unfolding called_pieces called_text
called_is p f g es d = both (both (both (puts_piece (name_piece (func_name (slice_get p.funcs g)))) (puts_piece (mark (codes "(")))) (arguments_are p f es d)) (puts_piece (mark (codes ")")))

return_is : (p : Program) (f : Func) (e : Option Expr) (d : IsShowableOptional p f e) → Puts (return_pieces p f e d) (return_text p f e)
unfolding return_pieces return_text
return_is p f None d = puts_piece (word (codes "return"))
return_is p f (Some e) d = both (both (puts_piece (word (codes "return"))) (puts_piece (Gap 32))) (expression_text d)

array_list_is : {p : Program} {f : Func} {es : List Expr} (ds : AreShowable p f es) → Puts (λ rest. mark (codes "{") ∷ list_pieces ds (mark (codes "}") ∷ rest)) (spec.list_text (expr_text p f) es)
unfolding spec.list_text
array_list_is ds = both (both (puts_piece (mark (codes "{"))) (expressions_text ds)) (puts_piece (mark (codes "}")))

-- ---- statements of one line

pub simple_is : (p : Program) (f : Func) (s : Stmt) (d : IsShowableStmt p f s) → Puts (simple_pieces p f s d) (simple_text p f s)
unfolding IsShowableStmt simple_pieces simple_text
simple_is p f Empty d = puts_nothing
simple_is p f (Scalar n e) d = both (declaration_is f n) (value_is p f e d.1)
simple_is p f (Array n es) d = both (both (declaration_is f n) (between_text (codes "="))) (array_list_is d.1)
simple_is p f (Assign v o e) d = both (both (place_is p f v d.0) (assign_is o)) (expression_text d.2)
simple_is p f (Call t g es) d = both (target_is p f t) (called_is p f g es d.2)
simple_is p f Break d = puts_piece (word (codes "break"))
simple_is p f Continue d = puts_piece (word (codes "continue"))
simple_is p f (Return e) d = return_is p f e d
simple_is p f (If' e m xs n ys) d = puts_nothing
simple_is p f (While' k e m xs) d = puts_nothing
simple_is p f (Do' k m xs e) d = puts_nothing
simple_is p f (For' k i e j m xs) d = puts_nothing
simple_is p f (Group' m xs) d = puts_nothing
