-- Reading declarations and functions at file scope from the left, and a whole text. `room` is the greatest height of an
-- expression of a declaration, and of a statement of a function's list.
use Rattle.std.specs.Prelude.{ℕ, Bool, true, false, if◌then◌else◌, List, [], ◌∷◌, length, Option, Some, None, Ok}
use Rattle.c_tree.specs.declared.tree.Ty.{Ty}
use Rattle.c_tree.specs.declared.unit.RawParam.{RawParam}
use Rattle.c_tree.specs.declared.unit.RawTop.{RawTop}
use Rattle.c_tree.specs.declared.unit.RawTop.TheVariants as top
use Rattle.c_tree.specs.declared.symbol.Symbol.TheVariants as s
use Rattle.c_tree.specs.Grammar.SpelledStatements.{Item}
use Rattle.c_tree.specs.Tokens.Symbols.{Lexeme}
use Rattle.parse_laws.specs.Parser.{
  Parser,
  ◌>>=◌,
  ◌>>◌,
  pure,
  refuse,
  sees,
  expect,
  name,
  optional_word,
  type_name,
  another,
  phrases,
}
use Rattle.parse_laws.specs.ReadExpr.{index_phrase, expr_phrase}
use Rattle.parse_laws.specs.ReadDecl.{declarator}
use Rattle.parse_laws.specs.ReadSimple.{begins_call}
use Rattle.parse_laws.specs.ReadStmt.{until, compound_phrase, statement}

unfoldable pub param : Parser RawParam
param = do
  to ← type_name
  x ← name
  pure (record { ty = to; spot = x })

unfoldable pub params : Parser (List RawParam)
params = λ ts. if sees s.RightParen ts then Ok ([], ts)
    else (if sees s.Void ts then (do expect s.Void; pure []) ts else phrases another param ts)

module _ (room : ℕ) where
  -- an extern variable, which may be an array
  unfoldable pub outer_declarator : Bool → Ty → Parser RawTop
  outer_declarator constant to = name >>= (λ x ts. if sees s.LeftBracket ts
      then (do a ← index_phrase (expr_phrase room); pure (top.Outer constant to x (Some a))) ts
      else Ok (top.Outer constant to x None, ts))

  unfoldable pub outers : Parser (List RawTop)
  outers = do
    expect s.Extern
    constant ← optional_word s.Const
    to ← type_name
    xs ← phrases another (outer_declarator constant to)
    expect s.Semicolon
    pure xs

  -- a declarator of a variable
  unfoldable pub global : Bool → Bool → Ty → Parser RawTop
  global kept constant to = declarator room (top.Global kept constant to)

  unfoldable pub globals : Bool → Bool → Ty → Parser (List RawTop)
  globals kept constant to = do
    xs ← phrases another (global kept constant to)
    expect s.Semicolon
    pure xs

  -- a function from its name on
  unfoldable pub function : Bool → Option Ty → Parser (List RawTop)
  function kept result = do
    x ← name
    expect s.LeftParen
    ps ← params
    expect s.RightParen
    xs ← compound_phrase (statement room Item)
    pure (top.Func (record { kept = kept; result = result; spot = x; params = ps; body = xs }) ∷ [])

  -- variables or a function that gives a value
  unfoldable pub variables_or_function : Bool → Parser (List RawTop)
  variables_or_function kept = type_name >>= (λ to ts. if begins_call ts then function kept (Some to) ts
      else globals kept false to ts)

  -- what may stand after `static`
  unfoldable pub after_static : Bool → Parser (List RawTop)
  after_static kept = λ ts. if sees s.Const ts then (do expect s.Const; to ← type_name; globals kept true to) ts
      else (if sees s.Void ts then (do expect s.Void; function kept None) ts else variables_or_function kept ts)

  -- a declaration or a function
  unfoldable pub top_of : Parser (List RawTop)
  top_of = λ ts. if sees s.Extern ts then outers ts else (optional_word s.Static >>= after_static) ts

-- no token is left
unfoldable pub is_end : List Lexeme → Bool
is_end [] = true
is_end (t ∷ ts) = false

unfoldable pub unit_end : List RawTop → Parser (List RawTop)
unit_end xs = λ ts. if is_end ts then Ok (xs, ts) else refuse ts

-- all tokens
unfoldable pub whole_unit : ℕ → Parser (List RawTop)
whole_unit room = (λ ts. until is_end (top_of room) (length ts) ts) >>= unit_end
