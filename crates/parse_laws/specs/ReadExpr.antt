-- Reading an expression from the left.
use Rattle.std.specs.Prelude.{ℕ, zero, suc, nat_le, if◌then◌else◌, Option, Some, None, Ok}
use Rattle.c_tree.specs.declared.tree.UnOp.{UnOp}
use Rattle.c_tree.specs.declared.tree.BinOp.{BinOp}
use Rattle.c_tree.specs.declared.unit.Spot.{Spot}
use Rattle.c_tree.specs.declared.unit.RawExpr.{RawExpr}
use Rattle.c_tree.specs.declared.unit.RawExpr.TheVariants as e
use Rattle.c_tree.specs.declared.symbol.Symbol.{Symbol}
use Rattle.c_tree.specs.declared.symbol.Symbol.TheVariants as s
use Rattle.c_tree.specs.Grammar.Heights.{height}
use Rattle.c_tree.specs.Grammar.SpelledExpressions.{unary_operator, level}
use Rattle.parse_laws.specs.declared.going.Next.{Next}
use Rattle.parse_laws.specs.declared.going.Next.TheVariants.{Stop, Ask, By}
use Rattle.parse_laws.specs.Going.{next_seen, binds}
use Rattle.parse_laws.specs.Parser.{
  Parser,
  ◌>>=◌,
  ◌>>◌,
  pure,
  refuse,
  too_deep,
  first,
  head_lexeme,
  tail,
  sees,
  expect,
  name,
  number_phrase,
  begins_type,
  type_name,
}

-- `inner n` reads an expression of level n that is less high by one
module _ (inner : ℕ → Parser RawExpr) where
  -- an expression, and the symbol after it
  unfoldable pub expr_before : Symbol → Parser RawExpr
  expr_before mark = do
    a ← inner 0
    expect mark
    pure a

  -- what stands after a name
  unfoldable pub index_phrase : Parser RawExpr
  index_phrase = do
    expect s.LeftBracket
    expr_before s.RightBracket

  unfoldable pub element_or_name : Spot → Parser RawExpr
  element_or_name x = λ ts. if sees s.LeftBracket ts then (do i ← index_phrase; pure (e.Elem x i)) ts
      else Ok (e.Name x, ts)

  unfoldable pub variable_phrase : Parser RawExpr
  variable_phrase = name >>= element_or_name

  -- what stands after a `(`, whose place is `at`
  unfoldable pub cast : ℕ → Parser RawExpr
  cast at = do
    to ← type_name
    expect s.RightParen
    a ← inner 11
    pure (e.Cast at to a)

  unfoldable pub expr_in_parentheses : ℕ → Parser RawExpr
  expr_in_parentheses at = do
    a ← expr_before s.RightParen
    pure (e.Paren at a)

  unfoldable pub cast_or_parentheses : ℕ → Parser RawExpr
  cast_or_parentheses at = λ ts. if begins_type ts then cast at ts else expr_in_parentheses at ts

  unfoldable pub parenthesis_phrase : Parser RawExpr
  parenthesis_phrase = expect s.LeftParen >>= cast_or_parentheses

  -- the next token as a unary operator, and its operand
  unfoldable pub unary_phrase : UnOp → Parser RawExpr
  unary_phrase o = λ ts. (do a ← inner 11; pure (e.Un (head_lexeme ts).at o a)) (tail ts)

  abbrev pub unary_by : Option UnOp → Parser RawExpr
  unary_by None = refuse
  unary_by (Some o) = unary_phrase o

  abbrev pub operand_by : Option Symbol → Parser RawExpr
  operand_by None = refuse
  operand_by (Some s.Number) = number_phrase
  operand_by (Some s.Name) = variable_phrase
  operand_by (Some s.LeftParen) = parenthesis_phrase
  operand_by (Some found) = unary_by (unary_operator found)

  unfoldable pub operand : Parser RawExpr
  operand = λ ts. operand_by (first ts) ts

  -- the next token as a binary operator, and its right operand
  unfoldable pub operation : BinOp → RawExpr → Parser RawExpr
  operation o left = λ ts. (do b ← inner (suc (level o)); pure (e.Bin o left b)) (tail ts)

  -- what a `?` chooses from
  unfoldable pub choices : Parser (RawExpr × RawExpr)
  choices = do
    b ← expr_before s.Colon
    c ← inner 0
    pure (b, c)

  -- the next token as a `?`, and what it chooses from
  unfoldable pub conditional : RawExpr → Parser RawExpr
  conditional left = λ ts. (do
    p ← choices
    pure (e.Cond left p.0 p.1)) (tail ts)

  abbrev pub with_next_operator : (RawExpr → Parser RawExpr) → RawExpr → Next → Parser RawExpr
  with_next_operator go left Stop = pure left
  with_next_operator go left Ask = conditional left
  with_next_operator go left (By o) = operation o left >>= go

  abbrev pub climb_by : ℕ → (RawExpr → Parser RawExpr) → ℕ → RawExpr → Next → Parser RawExpr
  climb_by room go least left next_seen = if binds least next_seen then (if nat_le room (height left) then too_deep
      else with_next_operator go left next_seen) else pure left

  -- what `left` goes on with, in so many turns, at the level `least` or a tighter one and up to the height `room`
  unfoldable pub climb : ℕ → ℕ → ℕ → RawExpr → Parser RawExpr
  climb room zero least left = too_deep
  climb room (suc turns) least left = λ ts. climb_by room (climb room turns least) least left (next_seen ts) ts

-- an expression of the level `least` or a tighter one, up to the height `room`
unfoldable pub expr_phrase : ℕ → ℕ → Parser RawExpr
expr_phrase zero least = too_deep
expr_phrase (suc room) least = operand (expr_phrase room) >>= climb (expr_phrase room) (suc room) (suc room) least
