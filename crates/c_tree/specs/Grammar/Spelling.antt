-- The grammar of file scope (C11 6.9): each rule is a constructor; and what a text with its tokens spells.
use Rattle.std.specs.Prelude.{◌≡◌, ℕ, Bool, List, [], ◌∷◌, ◌++◌, length, Option, Some, None}
use Rattle.c_tree.specs.declared.token.Token.{Token}
use Rattle.c_tree.specs.declared.tree.Ty.{Ty}
use Rattle.c_tree.specs.declared.unit.RawExpr.{RawExpr}
use Rattle.c_tree.specs.declared.unit.RawParam.{RawParam}
use Rattle.c_tree.specs.declared.unit.RawStmt.{RawStmt}
use Rattle.c_tree.specs.declared.unit.RawTop.{RawTop}
use Rattle.c_tree.specs.declared.unit.RawTop.TheVariants as top
use Rattle.c_tree.specs.declared.unit.Unit.{Unit as Tree}
use Rattle.c_tree.specs.declared.symbol.Symbol.TheVariants as s
use Rattle.c_tree.specs.Tokens.Symbols.{Lexeme, spot, lexemes}
use Rattle.c_tree.specs.Grammar.SpelledExpressions.{Separated, TypeName, Expression}
use Rattle.c_tree.specs.Grammar.SpelledStatements.{Optional, Declarator, Statements}

-- an extern variable, which may be an array and has no initialiser
pub data OuterDeclarator (constant : Bool) (to : Ty) : List Lexeme → RawTop → List Lexeme → Type 0 where
  outer_scalar : {x : Lexeme} {rest : List Lexeme} → x.symbol ≡ s.Name → OuterDeclarator constant to (x ∷ rest)
      (top.Outer constant to (spot x) None) rest
  outer_array : {x b c : Lexeme} {ts rest : List Lexeme} {a : RawExpr}
      → x.symbol ≡ s.Name → b.symbol ≡ s.LeftBracket → Expression 0 ts a (c ∷ rest) → c.symbol ≡ s.RightBracket
      → OuterDeclarator constant to (x ∷ b ∷ ts) (top.Outer constant to (spot x) (Some a)) rest

-- what a function gives back: a type, or nothing
pub data Result : List Lexeme → Option Ty → List Lexeme → Type 0 where
  typed : {to : Ty} {ts rest : List Lexeme} → TypeName ts to rest → Result ts (Some to) rest
  nothing : {t : Lexeme} {rest : List Lexeme} → t.symbol ≡ s.Void → Result (t ∷ rest) None rest

pub data Param : List Lexeme → RawParam → List Lexeme → Type 0 where
  param : {x : Lexeme} {to : Ty} {ts rest : List Lexeme} → TypeName ts to (x ∷ rest) → x.symbol ≡ s.Name
      → Param ts (record { ty = to; spot = spot x }) rest

pub data Params : List Lexeme → List RawParam → List Lexeme → Type 0 where
  no_params : {rest : List Lexeme} → Params rest [] rest
  void : {t : Lexeme} {rest : List Lexeme} → t.symbol ≡ s.Void → Params (t ∷ rest) [] rest
  params : {ts rest : List Lexeme} {list : List RawParam} → Separated Param ts list rest → Params ts list rest

-- a declaration or a function at file scope; a declaration gives one for each of its declarators
pub data Top : List Lexeme → List RawTop → List Lexeme → Type 0 where
  outer : {t c : Lexeme} {constant : Bool} {to : Ty} {ts u v rest : List Lexeme} {xs : List RawTop}
      → t.symbol ≡ s.Extern → Optional s.Const ts constant u → TypeName u to v
      → Separated (OuterDeclarator constant to) v xs (c ∷ rest) → c.symbol ≡ s.Semicolon
      → Top (t ∷ ts) xs rest
  global : {c : Lexeme} {kept constant : Bool} {to : Ty} {ts u v w rest : List Lexeme} {xs : List RawTop}
      → Optional s.Static ts kept u → Optional s.Const u constant v → TypeName v to w
      → Separated (Declarator (top.Global kept constant to)) w xs (c ∷ rest)
      → c.symbol ≡ s.Semicolon → Top ts xs rest
  function : {x p c b d : Lexeme} {kept : Bool} {result : Option Ty} {ts u v w rest : List Lexeme}
      {list : List RawParam} {xs : List RawStmt}
      → Optional s.Static ts kept u → Result u result (x ∷ p ∷ v) → x.symbol ≡ s.Name → p.symbol ≡ s.LeftParen
      → Params v list (c ∷ b ∷ w)
      → c.symbol ≡ s.RightParen → b.symbol ≡ s.LeftBrace → Statements w xs (d ∷ rest) → d.symbol ≡ s.RightBrace
      → Top ts (top.Func (record { kept = kept; result = result; spot = spot x; params = list; body = xs }) ∷ []) rest

pub data Tops : List Lexeme → List RawTop → List Lexeme → Type 0 where
  none : {rest : List Lexeme} → Tops rest [] rest
  more : {ts u rest : List Lexeme} {xs ys : List RawTop} → Top ts xs u → Tops u ys rest → Tops ts (xs ++ ys) rest

-- the tokens, read together with their text, spell the tree
pub record Spells (text : List ℕ) (tokens : List Token) (unit : Tree) : Type 0 where
  pub tops : Tops (lexemes text tokens) unit.tops []
  pub ends : unit.end ≡ length text
