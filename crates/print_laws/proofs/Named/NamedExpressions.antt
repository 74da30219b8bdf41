-- What is left of the tokens behind an expression has identifiers for its names, as the tokens have.
use Rattle.std.proofs.Common.{ℕ, List, [], ◌∷◌, Option}
use Rattle.c_tree.specs.declared.tree.Ty.{Ty}
use Rattle.c_tree.specs.declared.unit.RawBound.{RawBound}
use Rattle.c_tree.specs.declared.unit.RawExpr.{RawExpr}
use Rattle.c_tree.specs.declared.unit.RawPlace.{RawPlace}
use Rattle.c_tree.specs.declared.unit.Spot.{Spot}
use Rattle.c_tree.specs.declared.symbol.Symbol.{Symbol}
use Rattle.c_tree.specs.Grammar.SpelledExpressions.{Separated, last, comma, TypeName, int, signed, signed_int, unsigned, unsigned_int, Expression, tighter, conditional, binary, unary, cast, number, name, element, paren}
use Rattle.c_tree.specs.Grammar.SpelledStatements.{Optional, absent, present, Size, implied, sized, Values, values, trailing, Assigned, scalar_place, element_place, Called, without_arguments, with_arguments, LoopBound, unbounded, bounded, Condition, no_condition, condition}
use Rattle.c_tree.specs.Tokens.Symbols.{Lexeme}
use Rattle.print_laws.proofs.Named.NamedTexts.{AllNamed}

pub type_rest : {ts rest : List Lexeme} {to : Ty} → TypeName ts to rest → AllNamed ts → AllNamed rest
type_rest (int i) h = h.1
type_rest (signed i) h = h.1
type_rest (signed_int i j) h = h.1.1
type_rest (unsigned i) h = h.1
type_rest (unsigned_int i j) h = h.1.1

pub expression_rest : {n : ℕ} {ts rest : List Lexeme} {a : RawExpr} → Expression n ts a rest → AllNamed ts → AllNamed rest
expression_rest (tighter d) h = expression_rest d h
expression_rest (conditional d i e j f) h = expression_rest f (expression_rest e (expression_rest d h).1).1
expression_rest (binary d i e) h = expression_rest e (expression_rest d h).1
expression_rest (unary i d) h = expression_rest d h.1
expression_rest (cast i y k d) h = expression_rest d (type_rest y h.1).1
expression_rest (number i) h = h.1
expression_rest (name i) h = h.1
expression_rest (element i b d k) h = (expression_rest d h.1.1).1
expression_rest (paren i d k) h = (expression_rest d h.1).1

-- ---- lists

-- what holds of nothing, and of one more phrase, holds of phrases with a comma between any two
module _ {A : Type 0} (Phrase : List Lexeme → A → List Lexeme → Type 0) (One : A → Type 0) (Many : List A → Type 0)
    (nil : Many []) (cons : (a : A) (more : List A) → One a → Many more → Many (a ∷ more))
    (phrase : (ts : List Lexeme) (a : A) (rest : List Lexeme) → Phrase ts a rest → AllNamed ts → One a × AllNamed rest) where
  pub separated_named : {ts rest : List Lexeme} {list : List A} → Separated Phrase ts list rest → AllNamed ts → Many list × AllNamed rest
  separated_named (last {a = a} d) h = let x = phrase _ a _ d h in (cons a [] x.0 nil, x.1)
  separated_named (comma {a = a} {more = more} d i ds) h =
      let x = phrase _ a _ d h in
      let xs = separated_named ds x.1.1 in
      (cons a more x.0 xs.0, xs.1)

pub expressions_rest : {ts rest : List Lexeme} {list : List RawExpr} → Separated (Expression 0) ts list rest → AllNamed ts → AllNamed rest
expressions_rest (last d) h = expression_rest d h
expressions_rest (comma d i ds) h = expressions_rest ds (expression_rest d h).1

-- ---- parts of declarations and statements

pub optional_rest : {word : Symbol} {b : _} {ts rest : List Lexeme} → Optional word ts b rest → AllNamed ts → AllNamed rest
optional_rest absent h = h
optional_rest (present i) h = h.1

pub size_rest : {size : Option RawExpr} {ts rest : List Lexeme} → Size ts size rest → AllNamed ts → AllNamed rest
size_rest (implied i j) h = h.1.1
size_rest (sized i d k) h = (expression_rest d h.1).1

pub values_rest : {list : List RawExpr} {ts rest : List Lexeme} → Values ts list rest → AllNamed ts → AllNamed rest
values_rest (values i d k) h = (expressions_rest d h.1).1
values_rest (trailing i d j k) h = (expressions_rest d h.1).1.1

pub place_rest : {p : RawPlace} {ts rest : List Lexeme} → Assigned ts p rest → AllNamed ts → AllNamed rest
place_rest (scalar_place i) h = h.1
place_rest (element_place i j d k) h = (expression_rest d h.1.1).1

pub called_rest : {f : Spot} {list : List RawExpr} {ts rest : List Lexeme} → Called ts f list rest → AllNamed ts → AllNamed rest
called_rest (without_arguments i j k) h = h.1.1.1
called_rest (with_arguments i j d k) h = (expressions_rest d h.1.1).1

pub bound_rest : {b : Option RawBound} {ts rest : List Lexeme} → LoopBound ts b rest → AllNamed ts → AllNamed rest
bound_rest unbounded h = h
bound_rest (bounded i) h = h.1

pub condition_rest : {a : RawExpr} {ts rest : List Lexeme} → Condition ts a rest → AllNamed ts → AllNamed rest
condition_rest (no_condition i) h = h
condition_rest (condition d) h = expression_rest d h
