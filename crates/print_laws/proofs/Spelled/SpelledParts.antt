-- The pieces of what stands in statements spell it: margins, lists in braces, expressions, and what a declaration declares.
use Rattle.std.proofs.Common.{◌≡◌, ℕ, zero, suc, ◌+◌, false, List, [], ◌∷◌, refl, sym, ◌∙◌, ap, subst, arith}
use Rattle.std.specs.Prelude.{codes, Option, Some}
use Rattle.c_tree.specs.declared.tree.Expr.{Expr}
use Rattle.c_tree.specs.declared.program.Func.{Func}
use Rattle.c_tree.specs.declared.program.Program.{Program}
use Rattle.c_tree.specs.declared.unit.RawStmt.{RawStmt}
use Rattle.c_tree.specs.declared.unit.RawStmt.TheVariants as stmt
use Rattle.c_tree.specs.Checking.Naming.{local_of}
use Rattle.c_tree.specs.Tokens.Symbols.{Lexeme}
use Rattle.c_tree.specs.Grammar.SpelledExpressions.{Expression, number}
use Rattle.c_tree.specs.Grammar.SpelledStatements.{Size, sized, Values, values, Body, Item, Statement, compound, group, Statements}
use Rattle.print_laws.specs.Shown.{Shows, ShowAll, ShowsLength, DeclaresLocal}
use Rattle.print_laws.proofs.Composing.Composed.{Piece, Gap}
use Rattle.print_laws.proofs.Composing.ComposedExpressions.{IsShowable, mark, pieces}
use Rattle.print_laws.proofs.Composing.ExpressionLists.{AreShowable, list_pieces, list_spelled}
use Rattle.print_laws.proofs.Spelled.SpelledAgain.{lexemes_of, level_of, looser, spelled}
use Rattle.print_laws.proofs.Named.Showable.{HasLocal}
use Rattle.print_laws.proofs.Composing.ComposedStatements.{margin_pieces, length_pieces, declared_pieces, local_pieces, declaration_pieces}

-- the pieces from a place on are a phrase that is read as what is shown, and then the rest
pub record IsPart {A : Type 0} (Phrase : List Lexeme → A → List Lexeme → Type 0) (Shown : A → Type 0) (at : ℕ) (ps rest : List Piece) : Type 0 where
  pub to : ℕ
  pub raw : A
  pub spells : Phrase (lexemes_of at ps) raw (lexemes_of to rest)
  pub shows : Shown raw

-- ---- margins

-- the place behind a margin
record IsPassed (k at : ℕ) (ps : List Piece) : Type 0 where
  to : ℕ
  is : lexemes_of at (margin_pieces k ps) ≡ lexemes_of to ps

margin_passed : (k at : ℕ) (ps : List Piece) → IsPassed k at ps
unfolding margin_pieces
margin_passed zero at ps = record { to = at; is = refl }
margin_passed (suc k) at ps =
    let m = margin_passed k at (Gap 32 ∷ Gap 32 ∷ Gap 32 ∷ Gap 32 ∷ ps) in
    record { to = _; is = m.is }

-- what is spelled from each place is spelled behind a margin
pub behind_margin : {A : Type 0} {Phrase : List Lexeme → A → List Lexeme → Type 0} {Shown : A → Type 0} (k at : ℕ) (ps rest : List Piece)
    → ((from : ℕ) → IsPart Phrase Shown from ps rest) → IsPart Phrase Shown at (margin_pieces k ps) rest
behind_margin {Phrase = Phrase} k at ps rest h =
    let m = margin_passed k at ps in
    let x = h m.to in
    record { to = x.to; raw = x.raw; spells = subst (λ ts. Phrase ts x.raw (lexemes_of x.to rest)) (sym m.is) x.spells; shows = x.shows }

-- the pieces of a list of statements spell it, wherever they stand
abbrev pub AreInner : (List RawStmt → Type 0) → (List Piece → List Piece) → Type 0
AreInner Shown inner = (at : ℕ) (rest : List Piece) → IsPart Statements Shown at (inner rest) rest

-- a list in braces as a body and as a statement
pub record IsBraced (ts : List Lexeme) (xs : List RawStmt) (rest : List Lexeme) : Type 0 where
  pub body : Statement Body false ts xs rest
  pub group : Statement Item false ts (stmt.Group xs ∷ []) rest

-- a list is spelled in braces, of which the second stands behind a margin
pub braced : {Shown : List RawStmt → Type 0} {inner : List Piece → List Piece} (k at : ℕ) (rest : List Piece) → AreInner Shown inner
    → IsPart IsBraced Shown at (mark (codes "{") ∷ Gap 10 ∷ inner (margin_pieces k (mark (codes "}") ∷ rest))) rest
braced {inner = inner} k at rest h =
    let from : ℕ = at + 1 + 1 in
    let ps : List Piece = inner (margin_pieces k (mark (codes "}") ∷ rest)) in
    let x = h from (margin_pieces k (mark (codes "}") ∷ rest)) in
    let m = margin_passed k x.to (mark (codes "}") ∷ rest) in
    let list = subst (λ ts. Statements (lexemes_of from ps) x.raw ts) m.is x.spells in
    record { to = _; raw = x.raw; spells = record { body = compound refl list refl; group = group refl list refl }; shows = x.shows }

-- ---- expressions

pub expr_part : {p : Program} {f : Func} {a : Expr} (d : IsShowable p f a) (at : ℕ) (rest : List Piece) → IsPart (Expression 0) (λ r. Shows p f r a) at (pieces d rest) rest
expr_part {a = a} d at rest =
    let x = spelled d at rest in
    record { to = x.to; raw = x.raw; spells = looser (level_of a) 0 (omega arith) x.spells; shows = x.shows }

pub values_part : {p : Program} {f : Func} {es : List Expr} (ds : AreShowable p f es) (at : ℕ) (rest : List Piece)
    → IsPart Values (λ rs. ShowAll p f rs es) at (mark (codes "{") ∷ list_pieces ds (mark (codes "}") ∷ rest)) rest
values_part ds at rest =
    let x = list_spelled ds _ (mark (codes "}") ∷ rest) in
    record { to = _; raw = x.raws; spells = values refl x.spells refl; shows = x.shows }

-- ---- declarations

pub size_part : (n at : ℕ) (rest : List Piece) → IsPart Size (λ r. ShowsLength r (Some n)) at (length_pieces (Some n) rest) rest
unfolding length_pieces
size_part n at rest = record { to = _; raw = _; spells = sized refl (looser 12 0 (omega arith) (number refl)) refl; shows = (_, refl) }

pub declaration_is : {f : Func} {n : ℕ} {m : Option ℕ} (h : HasLocal f n m) (rest : List Piece) → declaration_pieces f n rest ≡ declared_pieces h.local.ty h.local.name m rest
unfolding declaration_pieces local_pieces
declaration_is h rest = ap (λ l. local_pieces l rest) h.there ∙ ap (λ m. declared_pieces h.local.ty h.local.name m rest) h.length

pub declares : {f : Func} {n : ℕ} {m : Option ℕ} (h : HasLocal f n m) (at : ℕ) → DeclaresLocal f n h.local.ty (record { name = h.local.name; at = at }) m
declares h at = record { local = h.there ∙ ap (λ m. Some (local_of h.local.ty h.local.name m)) h.length }
