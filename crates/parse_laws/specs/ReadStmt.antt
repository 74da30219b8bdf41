-- Reading statements from the left. `room` is the greatest height of an expression, or of a statement, where it says
-- so.
use Rattle.std.specs.Prelude.{
  ℕ,
  zero,
  suc,
  Bool,
  false,
  if◌then◌else◌,
  List,
  [],
  ◌∷◌,
  ◌++◌,
  length,
  Option,
  Some,
  None,
  Ok,
}
use Rattle.c_tree.specs.declared.unit.RawBound.{RawBound}
use Rattle.c_tree.specs.declared.unit.RawExpr.{RawExpr}
use Rattle.c_tree.specs.declared.unit.RawShape.TheVariants as shape
use Rattle.c_tree.specs.declared.unit.RawStmt.{RawStmt}
use Rattle.c_tree.specs.declared.unit.RawStmt.TheVariants as stmt
use Rattle.c_tree.specs.declared.symbol.Symbol.{Symbol}
use Rattle.c_tree.specs.declared.symbol.Symbol.TheVariants as s
use Rattle.c_tree.specs.Grammar.SpelledStatements.{Sort, Plain, Body, Item}
use Rattle.c_tree.specs.Tokens.Symbols.{Lexeme}
use Rattle.parse_laws.specs.declared.head.ForHead.{ForHead}
use Rattle.parse_laws.specs.Parser.{
  Parser,
  and_then,
  ◌>>=◌,
  ◌>>◌,
  pure,
  refuse,
  too_deep,
  first,
  head_lexeme,
  sees,
  expect,
  name,
  bound,
  begins_type,
  type_name,
}
use Rattle.parse_laws.specs.ReadDecl.{begins_declaration, declaration_phrase}
use Rattle.parse_laws.specs.ReadExpr.{expr_before, expr_phrase}
use Rattle.parse_laws.specs.ReadSimple.{
  one_at,
  assignment,
  assignment_statement,
  call_or_assignment,
  empty,
  break_statement,
  continue_statement,
  return_statement,
}

-- ---- lists

-- phrases, of which each gives a list, until `ends`, or so many
unfoldable pub until : {A : Type 0} → (List Lexeme → Bool) → Parser (List A) → ℕ → Parser (List A)
until ends phrase zero = λ ts. Ok ([], ts)
until ends phrase (suc n) = λ ts. if ends ts then Ok ([], ts)
    else (do xs ← phrase; more ← until ends phrase n; pure (xs ++ more)) ts

-- the rest of such phrases, after the list `front`, and what ends them
unfoldable pub until_on : {A B : Type 0} → (List Lexeme → Bool) → Parser (List A) → (List A → Parser B) → ℕ → List A
    → Parser B
until_on ends phrase last n front ts = and_then (until ends phrase n ts) (λ more. last (front ++ more))

-- ---- the parts of a statement with a body

module _ (room : ℕ) where
  -- `( expression )`
  unfoldable pub condition : Parser RawExpr
  condition = do
    expect s.LeftParen
    expr_before (expr_phrase room) s.RightParen

  -- the declaration that begins a `for`
  unfoldable pub for_declaration : Parser RawStmt
  for_declaration = do
    to ← type_name
    x ← name
    expect s.Assign
    a ← expr_phrase room 0
    pure (stmt.Declare false to x (shape.Scalar (Some a)))

  unfoldable pub for_setup : Parser RawStmt
  for_setup = λ ts. if begins_type ts then for_declaration ts else assignment room ts

-- ---- the parts of a `for`, up to the height

unfoldable pub initialiser : ℕ → Parser (Option RawStmt)
initialiser zero = λ ts. if sees s.Semicolon ts then Ok (None, ts) else too_deep ts
initialiser (suc r) = λ ts. if sees s.Semicolon ts then Ok (None, ts) else (do x ← for_setup r; pure (Some x)) ts

-- a missing condition is the number 1 at the semicolon
unfoldable pub test : ℕ → Parser RawExpr
test zero = too_deep
test (suc r) = λ ts. if sees s.Semicolon ts then Ok (one_at (head_lexeme ts).at, ts) else expr_phrase (suc r) 0 ts

unfoldable pub for_step : ℕ → Parser (Option RawStmt)
for_step zero = λ ts. if sees s.RightParen ts then Ok (None, ts) else too_deep ts
for_step (suc r) = λ ts. if sees s.RightParen ts then Ok (None, ts) else (do x ← assignment r; pure (Some x)) ts

-- what stands after the body of a `do`
unfoldable pub do_end : ℕ → Parser RawExpr
do_end room = do
  expect s.While
  a ← condition room
  expect s.Semicolon
  pure a

-- the head of a `for`
unfoldable pub for_head : ℕ → Parser ForHead
for_head room = do
  expect s.LeftParen
  i ← initialiser room
  expect s.Semicolon
  a ← test room
  expect s.Semicolon
  j ← for_step room
  expect s.RightParen
  pure (record { first = i; test = a; last = j })

unfoldable pub possible_bound : Parser (Option RawBound)
possible_bound = λ ts. if sees s.Bound ts then (do b ← bound; pure (Some b)) ts else Ok (None, ts)

-- ---- statements with bodies. `room` is for their expressions, and `body` reads a body that is as high

module _ (room : ℕ) (body : Parser (List RawStmt)) where
  -- the side after `else`, if it is there
  unfoldable pub other : Parser (List RawStmt)
  other = λ ts. if sees s.Else ts then (do expect s.Else; body) ts else Ok ([], ts)

  unfoldable pub if_statement : Parser (List RawStmt)
  if_statement = do
    expect s.If
    a ← condition room
    xs ← body
    ys ← other
    pure (stmt.If a xs ys ∷ [])

  unfoldable pub while_loop : Option RawBound → Parser (List RawStmt)
  while_loop b = do
    at ← expect s.While
    a ← condition room
    xs ← body
    pure (stmt.While at b a xs ∷ [])

  unfoldable pub do_phrase : Option RawBound → Parser (List RawStmt)
  do_phrase b = do
    at ← expect s.Do
    xs ← body
    a ← do_end room
    pure (stmt.Do at b xs a ∷ [])

  unfoldable pub for_loop : Option RawBound → Parser (List RawStmt)
  for_loop b = do
    at ← expect s.For
    head_lexeme ← for_head room
    xs ← body
    pure (stmt.For at b head_lexeme.first head_lexeme.test head_lexeme.last xs ∷ [])

  abbrev pub loop_by : Option RawBound → Option Symbol → Parser (List RawStmt)
  loop_by b (Some s.While) = while_loop b
  loop_by b (Some s.Do) = do_phrase b
  loop_by b (Some s.For) = for_loop b
  loop_by b _ = refuse

  unfoldable pub loop_phrase : Parser (List RawStmt)
  loop_phrase = possible_bound >>= (λ b ts. loop_by b (first ts) ts)

  abbrev pub plain_by : Option Symbol → Parser (List RawStmt)
  plain_by (Some s.Semicolon) = empty
  plain_by (Some s.Name) = call_or_assignment room
  plain_by (Some (s.Step o)) = assignment_statement room
  plain_by (Some s.Break) = break_statement
  plain_by (Some s.Continue) = continue_statement
  plain_by (Some s.Return) = return_statement room
  plain_by (Some s.If) = if_statement
  plain_by (Some s.Bound) = loop_phrase
  plain_by (Some s.While) = loop_phrase
  plain_by (Some s.Do) = loop_phrase
  plain_by (Some s.For) = loop_phrase
  plain_by _ = refuse

  unfoldable pub plain_phrase : Parser (List RawStmt)
  plain_phrase = λ ts. plain_by (first ts) ts

-- ---- all of it

-- the end of a compound statement
unfoldable pub compound_end : List RawStmt → Parser (List RawStmt)
compound_end xs = do
  expect s.RightBrace
  pure xs

-- a compound statement: its list
unfoldable pub compound_phrase : Parser (List RawStmt) → Parser (List RawStmt)
compound_phrase item = do
  expect s.LeftBrace
  xs ← (λ ts. until (sees s.RightBrace) item (length ts) ts)
  compound_end xs

unfoldable pub as_body : Parser (List RawStmt) → Parser (List RawStmt) → Parser (List RawStmt)
as_body item one = λ ts. if sees s.LeftBrace ts then compound_phrase item ts else one ts

unfoldable pub as_item : ℕ → Parser (List RawStmt) → Parser (List RawStmt) → Parser (List RawStmt)
as_item room item one = λ ts. if sees s.LeftBrace ts then (do xs ← compound_phrase item; pure (stmt.Group xs ∷ [])) ts
    else (if begins_declaration ts then declaration_phrase room ts else one ts)

-- a statement of the sort, up to the height
unfoldable pub statement : ℕ → Sort → Parser (List RawStmt)
statement zero Plain = too_deep
statement zero Item = too_deep
statement zero Body = as_body too_deep too_deep
statement (suc r) Plain = plain_phrase r (statement r Body)
statement (suc r) Item = as_item r (statement r Item) (plain_phrase r (statement r Body))
statement (suc r) Body = as_body (as_item r (statement r Item) (plain_phrase r (statement r Body)))
    (plain_phrase r (statement r Body))
