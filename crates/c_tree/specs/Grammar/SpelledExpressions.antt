-- The grammar of expressions (C11 6.5): each rule is a constructor. `Expression n ts a rest` says that the tokens ts
-- are an expression of level n, read as a, and then rest.
use Rattle.std.specs.Prelude.{◌≡◌, ℕ, suc, List, [], ◌∷◌, Option, Some, None}
use Rattle.c_tree.specs.declared.tree.Ty.{Ty}
use Rattle.c_tree.specs.declared.tree.Ty.TheVariants as ty
use Rattle.c_tree.specs.declared.tree.UnOp.{UnOp}
use Rattle.c_tree.specs.declared.tree.UnOp.TheVariants as un
use Rattle.c_tree.specs.declared.tree.BinOp.{BinOp}
use Rattle.c_tree.specs.declared.tree.BinOp.TheVariants as op
use Rattle.c_tree.specs.declared.unit.RawExpr.{RawExpr}
use Rattle.c_tree.specs.declared.unit.RawExpr.TheVariants as e
use Rattle.c_tree.specs.declared.symbol.Symbol.{Symbol}
use Rattle.c_tree.specs.declared.symbol.Symbol.TheVariants as s
use Rattle.c_tree.specs.Tokens.Symbols.{Lexeme, spot}

-- the level of a binary operator (C11 6.5.5 to 6.5.14): 0 is that of `?:`, 11 that of the unary operators and casts, 12
-- that of what they stand before
abbrev pub level : BinOp → ℕ
level op.Either = 1
level op.Both = 2
level op.Or = 3
level op.Xor = 4
level op.And = 5
level op.Eq = 6
level op.Ne = 6
level op.Lt = 7
level op.Gt = 7
level op.Le = 7
level op.Ge = 7
level op.Shl = 8
level op.Shr = 8
level op.Add = 9
level op.Sub = 9
level op.Mul = 10
level op.Div = 10
level op.Rem = 10

-- the unary operator that a symbol is (6.5.3.3)
abbrev pub unary_operator : Symbol → Option UnOp
unary_operator (s.Operator op.Add) = Some un.Plus
unary_operator (s.Operator op.Sub) = Some un.Minus
unary_operator s.Tilde = Some un.Flip
unary_operator s.Exclamation = Some un.Not
unary_operator _ = None

-- one or more phrases with a comma between any two
pub data Separated {A : Type 0} (Phrase : List Lexeme → A → List Lexeme → Type 0) : List Lexeme → List A → List Lexeme
    → Type 0 where
  last : {ts rest : List Lexeme} {a : A} → Phrase ts a rest → Separated Phrase ts (a ∷ []) rest
  comma : {c : Lexeme} {ts u rest : List Lexeme} {a : A} {more : List A}
      → Phrase ts a (c ∷ u) → c.symbol ≡ s.Comma → Separated Phrase u more rest → Separated Phrase ts (a ∷ more) rest

-- the name of a type (6.7.2)
pub data TypeName : List Lexeme → Ty → List Lexeme → Type 0 where
  int : {t : Lexeme} {rest : List Lexeme} → t.symbol ≡ s.Int → TypeName (t ∷ rest) ty.Int rest
  signed : {t : Lexeme} {rest : List Lexeme} → t.symbol ≡ s.Signed → TypeName (t ∷ rest) ty.Int rest
  signed_int : {t i : Lexeme} {rest : List Lexeme} → t.symbol ≡ s.Signed → i.symbol ≡ s.Int → TypeName (t ∷ i ∷ rest)
      ty.Int rest
  unsigned : {t : Lexeme} {rest : List Lexeme} → t.symbol ≡ s.Unsigned → TypeName (t ∷ rest) ty.Unsigned rest
  unsigned_int : {t i : Lexeme} {rest : List Lexeme} → t.symbol ≡ s.Unsigned → i.symbol ≡ s.Int
      → TypeName (t ∷ i ∷ rest) ty.Unsigned rest

pub data Expression : ℕ → List Lexeme → RawExpr → List Lexeme → Type 0 where
  -- an expression of the next tighter level
  tighter : {n : ℕ} {ts rest : List Lexeme} {a : RawExpr} → Expression (suc n) ts a rest → Expression n ts a rest
  -- level 0 (6.5.15), from right to left
  conditional : {q d : Lexeme} {ts u v rest : List Lexeme} {a b c : RawExpr}
      → Expression 1 ts a (q ∷ u) → q.symbol ≡ s.Question → Expression 0 u b (d ∷ v) → d.symbol ≡ s.Colon
      → Expression 0 v c rest
      → Expression 0 ts (e.Cond a b c) rest
  -- levels 1 to 10, from left to right
  binary : {o : BinOp} {t : Lexeme} {ts u rest : List Lexeme} {a b : RawExpr}
      → Expression (level o) ts a (t ∷ u) → t.symbol ≡ s.Operator o → Expression (suc (level o)) u b rest
      → Expression (level o) ts (e.Bin o a b) rest
  -- level 11, from right to left
  unary : {o : UnOp} {t : Lexeme} {ts rest : List Lexeme} {a : RawExpr}
      → unary_operator t.symbol ≡ Some o → Expression 11 ts a rest → Expression 11 (t ∷ ts) (e.Un t.at o a) rest
  cast : {t c : Lexeme} {to : Ty} {ts u rest : List Lexeme} {a : RawExpr}
      → t.symbol ≡ s.LeftParen → TypeName ts to (c ∷ u) → c.symbol ≡ s.RightParen → Expression 11 u a rest
      → Expression 11 (t ∷ ts) (e.Cast t.at to a) rest
  -- level 12
  number : {t : Lexeme} {rest : List Lexeme} → t.symbol ≡ s.Number → Expression 12 (t ∷ rest) (e.Num t.at t.ty t.value)
      rest
  name : {x : Lexeme} {rest : List Lexeme} → x.symbol ≡ s.Name → Expression 12 (x ∷ rest) (e.Name (spot x)) rest
  element : {x b c : Lexeme} {ts rest : List Lexeme} {a : RawExpr}
      → x.symbol ≡ s.Name → b.symbol ≡ s.LeftBracket → Expression 0 ts a (c ∷ rest) → c.symbol ≡ s.RightBracket
      → Expression 12 (x ∷ b ∷ ts) (e.Elem (spot x) a) rest
  paren : {t c : Lexeme} {ts rest : List Lexeme} {a : RawExpr}
      → t.symbol ≡ s.LeftParen → Expression 0 ts a (c ∷ rest) → c.symbol ≡ s.RightParen
      → Expression 12 (t ∷ ts) (e.Paren t.at a) rest
