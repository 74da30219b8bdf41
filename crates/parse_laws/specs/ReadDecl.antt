-- Reading declarations from the left. `room` is the greatest height of an expression.
use Rattle.std.specs.Prelude.{ℕ, Bool, true, if◌then◌else◌, List, Option, Some, None, Ok}
use Rattle.c_tree.specs.declared.tree.Ty.{Ty}
use Rattle.c_tree.specs.declared.unit.Spot.{Spot}
use Rattle.c_tree.specs.declared.unit.RawExpr.{RawExpr}
use Rattle.c_tree.specs.declared.unit.RawShape.{RawShape}
use Rattle.c_tree.specs.declared.unit.RawShape.TheVariants as shape
use Rattle.c_tree.specs.declared.unit.RawTarget.TheVariants as target
use Rattle.c_tree.specs.declared.unit.RawStmt.{RawStmt}
use Rattle.c_tree.specs.declared.unit.RawStmt.TheVariants as stmt
use Rattle.c_tree.specs.declared.symbol.Symbol.TheVariants as s
use Rattle.c_tree.specs.Tokens.Symbols.{Lexeme}
use Rattle.parse_laws.specs.Parser.{
  Parser,
  ◌>>=◌,
  ◌>>◌,
  pure,
  sees,
  sees_second,
  expect,
  name,
  optional_word,
  begins_type,
  type_name,
  another,
  another_value,
  phrases,
}
use Rattle.parse_laws.specs.ReadExpr.{index_phrase, expr_phrase}
use Rattle.parse_laws.specs.ReadSimple.{begins_call_into, call_into}

unfoldable pub begins_declaration : List Lexeme → Bool
begins_declaration ts = if sees s.Const ts then true else begins_type ts

module _ (room : ℕ) where
  -- the length of an array, which may be missing
  unfoldable pub length_phrase : Parser (Option RawExpr)
  length_phrase = λ ts. if sees_second s.RightBracket ts
      then (do expect s.LeftBracket; expect s.RightBracket; pure None) ts
      else (do a ← index_phrase (expr_phrase room); pure (Some a)) ts

  -- the list of an array, which may end with a comma
  unfoldable pub values : Parser (List RawExpr)
  values = do
    expect s.LeftBrace
    list ← phrases another_value (expr_phrase room 0)
    optional_word s.Comma
    expect s.RightBrace
    pure list

  unfoldable pub initialiser_list : Parser (Option (List RawExpr))
  initialiser_list = λ ts. if sees s.Assign ts then (do expect s.Assign; list ← values; pure (Some list)) ts
      else Ok (None, ts)

  unfoldable pub initial_value : Parser (Option RawExpr)
  initial_value = λ ts. if sees s.Assign ts then (do expect s.Assign; a ← expr_phrase room 0; pure (Some a)) ts
      else Ok (None, ts)

  -- what follows the name of a declarator
  unfoldable pub shape_phrase : Parser RawShape
  shape_phrase = λ ts. if sees s.LeftBracket ts
      then (do n ← length_phrase; list ← initialiser_list; pure (shape.Array n list)) ts
      else (do a ← initial_value; pure (shape.Scalar a)) ts

  unfoldable pub declarator : {A : Type 0} → (Spot → RawShape → A) → Parser A
  declarator make = do
    x ← name
    form ← shape_phrase
    pure (make x form)

  -- a declarator of a local variable
  unfoldable pub local_declarator : Bool → Ty → Parser RawStmt
  local_declarator constant to = declarator (stmt.Declare constant to)

  unfoldable pub declarators : Bool → Ty → Parser (List RawStmt)
  declarators constant to = do
    xs ← phrases another (local_declarator constant to)
    expect s.Semicolon
    pure xs

  unfoldable pub declaration_phrase : Parser (List RawStmt)
  declaration_phrase = do
    constant ← optional_word s.Const
    to ← type_name
    (λ ts. if begins_call_into ts then call_into room (target.Declare constant to) ts else declarators constant to ts)
