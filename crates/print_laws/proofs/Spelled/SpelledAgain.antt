-- The pieces of an expression spell it.
use Rattle.std.proofs.Common.{◌≡◌, ℕ, zero, suc, ◌+◌, ◌<◌, ◌≤◌, Bool, true, false, List, [], ◌∷◌, length, Some, refl, sym, subst, arith}
use Rattle.std.proofs.Common.{◌⊎◌, inl, inr}
use Rattle.std.proofs.lemmas.Bool.{cases_lt, ltb-false}
use Rattle.std.specs.Prelude.{nat_lt, codes}
use Rattle.c_tree.specs.declared.tree.Ty.{Ty}
use Rattle.c_tree.specs.declared.tree.Ty.TheVariants as ty
use Rattle.c_tree.specs.declared.tree.UnOp.{UnOp}
use Rattle.c_tree.specs.declared.tree.UnOp.TheVariants as uo
use Rattle.c_tree.specs.declared.tree.BinOp.{BinOp}
use Rattle.c_tree.specs.declared.tree.BinOp.TheVariants as op
use Rattle.c_tree.specs.declared.tree.Expr.{Expr}
use Rattle.c_tree.specs.declared.tree.Expr.TheVariants as x
use Rattle.c_tree.specs.declared.token.Kind.{Kind}
use Rattle.c_tree.specs.declared.token.Kind.TheVariants as kind
use Rattle.c_tree.specs.declared.unit.RawExpr.{RawExpr}
use Rattle.c_tree.specs.declared.unit.RawExpr.TheVariants as e
use Rattle.c_tree.specs.declared.symbol.Symbol.TheVariants as s
use Rattle.c_tree.specs.declared.program.Func.{Func}
use Rattle.c_tree.specs.declared.program.Program.{Program}
use Rattle.c_tree.specs.Tokens.Symbols.{symbol_of, constant_type, value_of}
use Rattle.c_tree.specs.Tokens.Symbols as symbols
use Rattle.c_tree.specs.Grammar.SpelledExpressions as g
use Rattle.c_tree.specs.Grammar.SpelledExpressions.{level, unary_operator, TypeName, Expression}
use Rattle.print_laws.specs.Shown.{Shows, shows_num, shows_name, shows_elem, shows_un, shows_cast, shows_bin, shows_cond, shows_paren}
use Rattle.print_laws.specs.PrintedExpressions.{name_text, type_text, un_text, bin_text, strength}
use Rattle.print_laws.proofs.Composing.Composed.{Piece, Gap, Lexeme, Pragma, piece_text}
use Rattle.print_laws.proofs.Composing.ComposedExpressions.{IsShowable, num, name, elem, un, cast, bin, cond, mark, enclosed_pieces, is_unsigned, pieces}

-- ---- lexemes of pieces

-- a piece at a place as a token that is read together with its text
abbrev pub lexeme_at : ℕ → Kind → List ℕ → symbols.Lexeme
lexeme_at at k bytes = record { symbol = symbol_of k bytes; bytes = bytes; ty = constant_type k; value = value_of k; at = at }

abbrev pub lexemes_of : ℕ → List Piece → List symbols.Lexeme
lexemes_of at [] = []
lexemes_of at (Gap c ∷ ps) = lexemes_of (at + length (piece_text (Gap c))) ps
lexemes_of at (Lexeme k bytes ∷ ps) = lexeme_at at k bytes ∷ lexemes_of (at + length bytes) ps
lexemes_of at (Pragma n ∷ ps) = lexeme_at at (kind.Bound n) (piece_text (Pragma n)) ∷ lexemes_of (at + length (piece_text (Pragma n))) ps

-- the pieces from a place on are an expression of a level that shows this one, and then the rest
pub record IsSpelled (p : Program) (f : Func) (n at : ℕ) (ps rest : List Piece) (a : Expr) : Type 0 where
  pub to : ℕ
  pub raw : RawExpr
  pub spells : Expression n (lexemes_of at ps) raw (lexemes_of to rest)
  pub shows : Shows p f raw a

-- ---- levels

-- the level of the grammar that an expression is of
abbrev pub level_of : Expr → ℕ
level_of (x.Cond' c j a k b l) = 0
level_of (x.Bin' o a j b k) = level o
level_of (x.Un' o a j) = 11
level_of (x.Cast' t a j) = 11
level_of (x.Elem' v i j) = 12
level_of (x.Name v) = 12
level_of (x.Num t n) = 12

holds_level : (a : Expr) (n : ℕ) → n ≤ 11 → n ≤ strength a → n ≤ level_of a
holds_level (x.Cond' c j a k b l) n few h = h
holds_level (x.Bin' o a j b k) n few h = h
holds_level (x.Un' o a j) n few h = h
holds_level (x.Cast' t a j) n few h = few
holds_level (x.Elem' v i j) n few h = omega (arith, few)
holds_level (x.Name v) n few h = omega (arith, few)
holds_level (x.Num t n) m few h = omega (arith, few)

pub level-le : (o : BinOp) → level o ≤ 10
level-le op.Either = omega arith
level-le op.Both = omega arith
level-le op.Or = omega arith
level-le op.Xor = omega arith
level-le op.And = omega arith
level-le op.Eq = omega arith
level-le op.Ne = omega arith
level-le op.Lt = omega arith
level-le op.Gt = omega arith
level-le op.Le = omega arith
level-le op.Ge = omega arith
level-le op.Shl = omega arith
level-le op.Shr = omega arith
level-le op.Add = omega arith
level-le op.Sub = omega arith
level-le op.Mul = omega arith
level-le op.Div = omega arith
level-le op.Rem = omega arith

-- an expression of a level is one of each looser level
pub looser : (m n : ℕ) {ts rest : List symbols.Lexeme} {a : RawExpr} → n ≤ m → Expression m ts a rest → Expression n ts a rest
looser zero n {ts} {rest} {a} le d = subst (λ j. Expression j ts a rest) (omega (arith, le)) d
looser (suc m) n {ts} {rest} {a} le d = by_order (λ less. looser m n less (g.tighter d)) (cases_lt n (suc m))
  where
    by_order : (n ≤ m → Expression n ts a rest) → (n < suc m) ⊎ (suc m ≤ n) → Expression n ts a rest
    by_order down (inl less) = down (omega (arith, less))
    by_order down (inr more) = subst (λ j. Expression j ts a rest) (omega (arith, le, more)) d

-- ---- symbols

unary_symbol : (o : UnOp) → unary_operator (symbol_of kind.Mark (un_text o)) ≡ Some o
unfolding un_text
unary_symbol uo.Plus = refl
unary_symbol uo.Minus = refl
unary_symbol uo.Flip = refl
unary_symbol uo.Not = refl

binary_symbol : (o : BinOp) → symbol_of kind.Mark (bin_text o) ≡ s.Operator o
unfolding bin_text
binary_symbol op.Mul = refl
binary_symbol op.Div = refl
binary_symbol op.Rem = refl
binary_symbol op.Add = refl
binary_symbol op.Sub = refl
binary_symbol op.Shl = refl
binary_symbol op.Shr = refl
binary_symbol op.Lt = refl
binary_symbol op.Gt = refl
binary_symbol op.Le = refl
binary_symbol op.Ge = refl
binary_symbol op.Eq = refl
binary_symbol op.Ne = refl
binary_symbol op.And = refl
binary_symbol op.Xor = refl
binary_symbol op.Or = refl
binary_symbol op.Both = refl
binary_symbol op.Either = refl

pub type_name : (t : Ty) (at : ℕ) (rest : List symbols.Lexeme) → TypeName (lexeme_at at kind.Word (type_text t) ∷ rest) t rest
unfolding type_text
type_name ty.Int at rest = g.int refl
type_name ty.Unsigned at rest = g.unsigned refl

pub number_type : (t : Ty) (n : ℕ) → constant_type (kind.Number (is_unsigned t) n) ≡ t
number_type ty.Int n = refl
number_type ty.Unsigned n = refl

-- ---- operands

-- an operand that stands in parentheses where it holds less tightly than asked is of the level that is wanted
operand : (p : Program) (f : Func) (a : Expr) (inner : List Piece → List Piece) (least n : ℕ) → n ≤ 11 → n ≤ least
    → ((at : ℕ) (rest : List Piece) → IsSpelled p f (level_of a) at (inner rest) rest a)
    → (at : ℕ) (rest : List Piece) → IsSpelled p f n at (enclosed_pieces (nat_lt (strength a) least) inner rest) rest a
operand p f a inner least n few asked own at rest = by_test (nat_lt (strength a) least) refl
  where
    by_test : (b : Bool) → nat_lt (strength a) least ≡ b → IsSpelled p f n at (enclosed_pieces b inner rest) rest a
    by_test true h =
        let y = own (at + length (codes "(")) (mark (codes ")") ∷ rest) in
        record {
          to = y.to + length (codes ")");
          raw = e.Paren at y.raw;
          spells = looser 12 n (omega (arith, few)) (g.paren refl (looser (level_of a) 0 (omega arith) y.spells) refl);
          shows = shows_paren y.shows;
        }
    by_test false h =
        let y = own at rest in
        let tight : least ≤ strength a = ltb-false (strength a) least h in
        record {
          to = y.to;
          raw = y.raw;
          spells = looser (level_of a) n (holds_level a n few (omega (arith, asked, tight))) y.spells;
          shows = y.shows;
        }

-- ---- expressions

pub spelled : {p : Program} {f : Func} {a : Expr} (d : IsShowable p f a) (at : ℕ) (rest : List Piece) → IsSpelled p f (level_of a) at (pieces d rest) rest a
unfolding pieces
spelled {p} {f} (num {t = t} {n = n} h) at rest = record {
  to = _;
  raw = e.Num at (constant_type (kind.Number (is_unsigned t) n)) n;
  spells = g.number refl;
  shows = subst (λ u. Shows p f (e.Num at u n) (x.Num t n)) (sym (number_type t n)) shows_num;
}
spelled {p} {f} (name {v = v} h) at rest = record { to = _; raw = e.Name (record { name = name_text p f v; at = at }); spells = g.name refl; shows = shows_name refl }
spelled {p} {f} (elem {v = v} {i = i} h d) at rest =
    let y = operand p f i (pieces d) 0 0 (omega arith) (omega arith) (spelled d) _ (mark (codes "]") ∷ rest) in
    record { to = _; raw = e.Elem (record { name = name_text p f v; at = at }) y.raw; spells = g.element refl refl y.spells refl; shows = shows_elem refl y.shows }
spelled {p} {f} (un {o = o} {a = a} d) at rest =
    let y = operand p f a (pieces d) 12 11 (omega arith) (omega arith) (spelled d) _ rest in
    record { to = y.to; raw = e.Un at o y.raw; spells = g.unary (unary_symbol o) y.spells; shows = shows_un y.shows }
spelled {p} {f} (cast {t = t} {a = a} d) at rest =
    let y = operand p f a (pieces d) 11 11 (omega arith) (omega arith) (spelled d) _ rest in
    record { to = y.to; raw = e.Cast at t y.raw; spells = g.cast refl (type_name t _ _) refl y.spells; shows = shows_cast y.shows }
spelled {p} {f} (bin {o = o} {a = a} {b = b} d h) at rest =
    let few = level-le o in
    let y = operand p f a (pieces d) (level o) (level o) (omega (arith, few)) (omega arith) (spelled d) at (Gap 32 ∷ mark (bin_text o) ∷ Gap 32 ∷ enclosed_pieces (nat_lt (strength b) (level o + 1)) (pieces h) rest) in
    let z = operand p f b (pieces h) (level o + 1) (suc (level o)) (omega (arith, few)) (omega arith) (spelled h) _ rest in
    record { to = z.to; raw = e.Bin o y.raw z.raw; spells = g.binary y.spells (binary_symbol o) z.spells; shows = shows_bin y.shows z.shows }
spelled {p} {f} (cond {c = c} {a = a} {b = b} d h k) at rest =
    let last : List Piece = Gap 32 ∷ mark (codes ":") ∷ Gap 32 ∷ enclosed_pieces (nat_lt (strength b) 0) (pieces k) rest in
    let none : 0 ≤ 0 = omega arith in
    let low : 0 ≤ 11 = omega arith in
    let y = operand p f c (pieces d) 1 1 (omega arith) (omega arith) (spelled d) at (Gap 32 ∷ mark (codes "?") ∷ Gap 32 ∷ enclosed_pieces (nat_lt (strength a) 0) (pieces h) last) in
    let z = operand p f a (pieces h) 0 0 low none (spelled h) _ last in
    let w = operand p f b (pieces k) 0 0 low none (spelled k) _ rest in
    record { to = w.to; raw = e.Cond y.raw z.raw w.raw; spells = g.conditional y.spells refl z.spells refl w.spells; shows = shows_cond y.shows z.shows w.shows }
