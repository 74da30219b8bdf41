-- The pieces of a statement of one line stand apart.
use Rattle.std.proofs.Common.{◌≡◌, ℕ, ◌≤◌, true, List, [], ◌∷◌, sym, subst, arith}
use Rattle.std.specs.Prelude.{slice_get, Option, Some, None}
use Rattle.c_tree.specs.declared.tree.Ty.{Ty}
use Rattle.c_tree.specs.declared.tree.Ty.TheVariants as ty
use Rattle.c_tree.specs.declared.tree.BinOp.{BinOp}
use Rattle.c_tree.specs.declared.tree.Expr.{Expr}
use Rattle.c_tree.specs.declared.tree.Place.{Place}
use Rattle.c_tree.specs.declared.tree.Place.TheVariants as place
use Rattle.c_tree.specs.declared.tree.Target.{Target}
use Rattle.c_tree.specs.declared.tree.Target.TheVariants as target
use Rattle.c_tree.specs.declared.tree.Stmt.{Stmt}
use Rattle.c_tree.specs.declared.tree.Stmt.TheVariants.{Empty, Scalar, Array, Assign, Call, Break, Continue, Return, If', While', Do', For', Group'}
use Rattle.c_tree.specs.declared.program.Func.{Func}
use Rattle.c_tree.specs.declared.program.Program.{Program}
use Rattle.c_tree.specs.Keeping.WellFormed.{is_assigning}
use Rattle.print_laws.specs.PrintedStatements.{func_name}
use Rattle.print_laws.proofs.Composing.Composed.{Piece}
use Rattle.print_laws.proofs.Composing.ComposedExpressions.{IsIdentifier}
use Rattle.print_laws.proofs.Named.Showable.{IsShowableOptional, AreShowableArguments, HasLocal, IsShowablePlace, IsShowableTarget, HasFunc, IsShowableStmt}
use Rattle.print_laws.proofs.Composing.ComposedStatements.{length_pieces, declared_pieces, local_pieces, declaration_pieces, value_pieces, place_pieces, assign_pieces, target_pieces, argument_pieces, called_pieces, return_pieces, simple_pieces}
use Rattle.print_laws.proofs.Apart.StandingWords.{type_word, return_word, break_word, continue_word, left_paren, right_paren, left_bracket, right_bracket, left_brace, right_brace}
use Rattle.print_laws.proofs.Apart.ApartPieces.{BehindMark, BehindWord, behind_mark, with_blank, with_mark, with_equals, with_compound, with_keyword, with_name, with_number, with_expression, with_list}

-- ---- declarations

-- the length of an array is at most 64
abbrev pub IsShort : Option ℕ → Type 0
IsShort None = Unit {0}
IsShort (Some n) = n ≤ 64

size_apart : (n : Option ℕ) {rest : List Piece} → IsShort n → BehindWord rest → BehindWord (length_pieces n rest)
unfolding length_pieces
size_apart None short h = h
size_apart (Some n) short h = with_mark left_bracket (with_number ty.Int n (omega (arith, short)) (with_mark right_bracket (behind_mark h)))

pub declared_apart : (t : Ty) (name : List ℕ) (n : Option ℕ) {rest : List Piece} → IsIdentifier name → IsShort n → BehindWord rest → BehindMark (declared_pieces t name n rest)
unfolding declared_pieces
declared_apart t name n named short h = with_keyword (type_word t) (with_blank (with_name named (size_apart n short h)))

declaration_apart : (f : Func) (n : ℕ) (m : Option ℕ) {rest : List Piece} → HasLocal f n m → IsShort m → BehindWord rest → BehindMark (declaration_pieces f n rest)
unfolding declaration_pieces local_pieces
declaration_apart f n m {rest} has short h =
    subst (λ o. BehindMark (local_pieces o rest)) (sym has.there) (declared_apart has.local.ty has.local.name has.local.length has.named (subst IsShort (sym has.length) short) h)

-- ---- parts of statements

value_apart : (p : Program) (f : Func) (e : Option Expr) (d : IsShowableOptional p f e) {rest : List Piece} → BehindWord rest → BehindWord (value_pieces p f e d rest)
unfolding value_pieces
value_apart p f None d h = h
value_apart p f (Some e) d h = with_equals (with_expression d h)

place_apart : (p : Program) (f : Func) (v : Place) (d : IsShowablePlace p f v) {rest : List Piece} → BehindWord rest → BehindMark (place_pieces p f v d rest)
unfolding place_pieces
place_apart p f (place.Scalar v) d h = with_name d h
place_apart p f (place.Elem v i) d h = with_name d.0 (with_mark left_bracket (with_expression d.1 (with_mark right_bracket (behind_mark h))))

assign_apart : (o : Option BinOp) {rest : List Piece} → is_assigning o ≡ true → BehindMark rest → BehindWord (assign_pieces o rest)
unfolding assign_pieces
assign_apart None is h = with_equals h
assign_apart (Some o) is h = with_compound o is h

target_apart : (p : Program) (f : Func) (t : Target) {rest : List Piece} → IsShowableTarget p f t → BehindMark rest → BehindMark (target_pieces p f t rest)
unfolding target_pieces
target_apart p f target.Nothing d h = h
target_apart p f (target.Assign v) d h = with_name d (with_equals h)
target_apart p f (target.Declare n) d h = declaration_apart f n None d tt (with_equals h)

arguments_apart : (p : Program) (f : Func) (es : List Expr) (d : AreShowableArguments p f es) {rest : List Piece} → BehindWord rest → BehindMark (argument_pieces p f es d rest)
unfolding argument_pieces
arguments_apart p f [] d h = behind_mark h
arguments_apart p f (e ∷ es) d h = with_list d h

callee_named : (p : Program) (g : ℕ) → HasFunc p g → IsIdentifier (func_name (slice_get p.funcs g))
unfolding func_name
callee_named p g has = subst (λ o. IsIdentifier (func_name o)) (sym has.there) has.named

called_apart : (p : Program) (f : Func) (g : ℕ) (es : List Expr) (d : AreShowableArguments p f es) {rest : List Piece} → HasFunc p g → BehindWord rest → BehindMark (called_pieces p f g es d rest)
unfolding called_pieces
called_apart p f g es d has h = with_name (callee_named p g has) (with_mark left_paren (arguments_apart p f es d (with_mark right_paren (behind_mark h))))

return_apart : (p : Program) (f : Func) (e : Option Expr) (d : IsShowableOptional p f e) {rest : List Piece} → BehindWord rest → BehindMark (return_pieces p f e d rest)
unfolding return_pieces
return_apart p f None d h = with_keyword return_word h
return_apart p f (Some e) d h = with_keyword return_word (with_blank (with_expression d h))

-- ---- statements of one line

pub simple_apart : (p : Program) (f : Func) (s : Stmt) (d : IsShowableStmt p f s) {rest : List Piece} → BehindWord rest → BehindMark (simple_pieces p f s d rest)
unfolding IsShowableStmt simple_pieces
simple_apart p f Empty d h = behind_mark h
simple_apart p f (Scalar n e) d h = declaration_apart f n None d.0 tt (value_apart p f e d.1 h)
simple_apart p f (Array n es) d h =
    declaration_apart f n (Some d.0.size) d.0.local d.0.short (with_equals (behind_mark (with_mark left_brace (with_list d.1 (with_mark right_brace (behind_mark h))))))
simple_apart p f (Assign v o e) d h = place_apart p f v d.0 (assign_apart o d.1 (with_expression d.2 h))
simple_apart p f (Call t g es) d h = target_apart p f t d.0 (called_apart p f g es d.2 d.1 h)
simple_apart p f Break d h = with_keyword break_word h
simple_apart p f Continue d h = with_keyword continue_word h
simple_apart p f (Return e) d h = return_apart p f e d h
simple_apart p f (If' e m xs n ys) d h = behind_mark h
simple_apart p f (While' k e m xs) d h = behind_mark h
simple_apart p f (Do' k m xs e) d h = behind_mark h
simple_apart p f (For' k i e j m xs) d h = behind_mark h
simple_apart p f (Group' m xs) d h = behind_mark h
