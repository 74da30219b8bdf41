-- Reading calls, assignments and jumps from the left. `room` is the greatest height of an expression.
use Rattle.std.specs.Prelude.{ℕ, zero, suc, Bool, false, if◌then◌else◌, List, [], ◌∷◌, Option, Some, None, Ok}
use Rattle.c_tree.specs.declared.tree.Ty.TheVariants as ty
use Rattle.c_tree.specs.declared.tree.BinOp.{BinOp}
use Rattle.c_tree.specs.declared.unit.Spot.{Spot}
use Rattle.c_tree.specs.declared.unit.RawExpr.{RawExpr}
use Rattle.c_tree.specs.declared.unit.RawExpr.TheVariants as e
use Rattle.c_tree.specs.declared.unit.RawPlace.{RawPlace}
use Rattle.c_tree.specs.declared.unit.RawPlace.TheVariants as place
use Rattle.c_tree.specs.declared.unit.RawTarget.{RawTarget}
use Rattle.c_tree.specs.declared.unit.RawTarget.TheVariants as target
use Rattle.c_tree.specs.declared.unit.RawStmt.{RawStmt}
use Rattle.c_tree.specs.declared.unit.RawStmt.TheVariants as stmt
use Rattle.c_tree.specs.declared.symbol.Symbol.{Symbol}
use Rattle.c_tree.specs.declared.symbol.Symbol.TheVariants as s
use Rattle.c_tree.specs.Tokens.Symbols.{Lexeme}
use Rattle.parse_laws.specs.Parser.{
  Parser,
  ◌>>=◌,
  ◌>>◌,
  pure,
  refuse,
  too_deep,
  first,
  head_lexeme,
  tail,
  sees,
  sees_second,
  expect,
  name,
  another,
  phrases,
}
use Rattle.parse_laws.specs.ReadExpr.{index_phrase, expr_phrase}

-- ---- what comes next

-- `name (`
unfoldable pub begins_call : List Lexeme → Bool
begins_call ts = if sees s.Name ts then sees_second s.LeftParen ts else false

-- `name = name (`
unfoldable pub begins_call_into : List Lexeme → Bool
begins_call_into ts = if sees s.Name ts then (if sees_second s.Assign ts then begins_call (tail (tail ts)) else false)
    else false

-- ---- calls

module _ (room : ℕ) where
  -- the arguments of a call
  unfoldable pub argument_list : Parser (List RawExpr)
  argument_list = λ ts. if sees s.RightParen ts then Ok ([], ts) else phrases another (expr_phrase room 0) ts

  -- a call whose result goes to `to`, with its semicolon
  unfoldable pub call_phrase : RawTarget → Parser (List RawStmt)
  call_phrase to = do
    f ← name
    expect s.LeftParen
    list ← argument_list
    expect s.RightParen
    expect s.Semicolon
    pure (stmt.Call to f list ∷ [])

  unfoldable pub call_into : (Spot → RawTarget) → Parser (List RawStmt)
  call_into to = do
    x ← name
    expect s.Assign
    call_phrase (to x)

-- ---- assignments

-- the 1 of `++` and `--`, and of a missing condition
abbrev pub one_at : ℕ → RawExpr
one_at at = e.Num at ty.Int 1

-- what is assigned to, up to the height
unfoldable pub assigned_place : ℕ → Parser RawPlace
assigned_place zero = too_deep
assigned_place (suc r) = name >>= (λ x ts. if sees s.LeftBracket ts
    then (do a ← index_phrase (expr_phrase r); pure (place.Elem x a)) ts else Ok (place.Scalar x, ts))

module _ (room : ℕ) where
  abbrev pub assignment_to_by : RawPlace → Option Symbol → Parser RawStmt
  assignment_to_by p (Some s.Assign) = λ ts. (do a ← expr_phrase room 0; pure (stmt.Assign p None a)) (tail ts)
  assignment_to_by p (Some (s.Compound o)) = λ ts. (do a ← expr_phrase room 0; pure (stmt.Assign p (Some o) a))
      (tail ts)
  assignment_to_by p (Some (s.Step o)) = λ ts. Ok (stmt.Assign p (Some o) (one_at (head_lexeme ts).at), tail ts)
  assignment_to_by p _ = refuse

  -- the rest of an assignment to a place
  unfoldable pub assignment_to : RawPlace → Parser RawStmt
  assignment_to p = λ ts. assignment_to_by p (first ts) ts

  -- `++` or `--`, and a place
  unfoldable pub step_before_place : BinOp → Parser RawStmt
  step_before_place o = λ ts. (do p ← assigned_place room; pure (stmt.Assign p (Some o) (one_at (head_lexeme ts).at)))
      (tail ts)

  abbrev pub assignment_by : Option Symbol → Parser RawStmt
  assignment_by (Some (s.Step o)) = step_before_place o
  assignment_by _ = assigned_place room >>= assignment_to

  -- an assignment, without its semicolon
  unfoldable pub assignment : Parser RawStmt
  assignment = λ ts. assignment_by (first ts) ts

  unfoldable pub assignment_statement : Parser (List RawStmt)
  assignment_statement = do
    x ← assignment
    expect s.Semicolon
    pure (x ∷ [])

  -- what begins with a name: a call or an assignment
  unfoldable pub call_or_assignment : Parser (List RawStmt)
  call_or_assignment = λ ts. if begins_call ts then call_phrase room target.Nothing ts
      else (if begins_call_into ts then call_into room target.Assign ts else assignment_statement ts)

-- ---- jumps, and the empty statement

unfoldable pub empty : Parser (List RawStmt)
empty = do
  expect s.Semicolon
  pure (stmt.Empty ∷ [])

unfoldable pub break_statement : Parser (List RawStmt)
break_statement = do
  at ← expect s.Break
  expect s.Semicolon
  pure (stmt.Break at ∷ [])

unfoldable pub continue_statement : Parser (List RawStmt)
continue_statement = do
  at ← expect s.Continue
  expect s.Semicolon
  pure (stmt.Continue at ∷ [])

module _ (room : ℕ) where
  unfoldable pub returned_value : Parser (Option RawExpr)
  returned_value = λ ts. if sees s.Semicolon ts then Ok (None, ts) else (do a ← expr_phrase room 0; pure (Some a)) ts

  unfoldable pub return_statement : Parser (List RawStmt)
  return_statement = do
    at ← expect s.Return
    value ← returned_value
    expect s.Semicolon
    pure (stmt.Return at value ∷ [])
