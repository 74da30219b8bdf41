-- The grammar of declarations (C11 6.7) and statements (6.8): each rule is a constructor.
use Rattle.std.specs.Prelude.{◌≡◌, Bool, true, false, List, [], ◌∷◌, ◌++◌, Option, Some, None}
use Rattle.c_tree.specs.declared.tree.Ty.{Ty}
use Rattle.c_tree.specs.declared.tree.Ty.TheVariants as ty
use Rattle.c_tree.specs.declared.tree.BinOp.{BinOp}
use Rattle.c_tree.specs.declared.unit.Spot.{Spot}
use Rattle.c_tree.specs.declared.unit.RawBound.{RawBound}
use Rattle.c_tree.specs.declared.unit.RawExpr.{RawExpr}
use Rattle.c_tree.specs.declared.unit.RawExpr.TheVariants as e
use Rattle.c_tree.specs.declared.unit.RawPlace.{RawPlace}
use Rattle.c_tree.specs.declared.unit.RawPlace.TheVariants as place
use Rattle.c_tree.specs.declared.unit.RawShape.{RawShape}
use Rattle.c_tree.specs.declared.unit.RawShape.TheVariants as shape
use Rattle.c_tree.specs.declared.unit.RawTarget.TheVariants as target
use Rattle.c_tree.specs.declared.unit.RawStmt.{RawStmt}
use Rattle.c_tree.specs.declared.unit.RawStmt.TheVariants as stmt
use Rattle.c_tree.specs.declared.symbol.Symbol.{Symbol}
use Rattle.c_tree.specs.declared.symbol.Symbol.TheVariants as s
use Rattle.c_tree.specs.Tokens.Symbols.{Lexeme, spot}
use Rattle.c_tree.specs.Grammar.SpelledExpressions.{Separated, TypeName, Expression}

-- ---- parts

-- a word that may be missing
pub data Optional (word : Symbol) : List Lexeme → Bool → List Lexeme → Type 0 where
  absent : {rest : List Lexeme} → Optional word rest false rest
  present : {t : Lexeme} {rest : List Lexeme} → t.symbol ≡ word → Optional word (t ∷ rest) true rest

-- the length of an array, which may be missing
pub data Size : List Lexeme → Option RawExpr → List Lexeme → Type 0 where
  implied : {b c : Lexeme} {rest : List Lexeme} → b.symbol ≡ s.LeftBracket → c.symbol ≡ s.RightBracket
      → Size (b ∷ c ∷ rest) None rest
  sized : {b c : Lexeme} {ts rest : List Lexeme} {a : RawExpr}
      → b.symbol ≡ s.LeftBracket → Expression 0 ts a (c ∷ rest) → c.symbol ≡ s.RightBracket
      → Size (b ∷ ts) (Some a) rest

-- the list of an array (6.7.9), which may end with a comma
pub data Values : List Lexeme → List RawExpr → List Lexeme → Type 0 where
  values : {b c : Lexeme} {ts rest : List Lexeme} {list : List RawExpr}
      → b.symbol ≡ s.LeftBrace → Separated (Expression 0) ts list (c ∷ rest) → c.symbol ≡ s.RightBrace
      → Values (b ∷ ts) list rest
  trailing : {b c d : Lexeme} {ts rest : List Lexeme} {list : List RawExpr}
      → b.symbol ≡ s.LeftBrace → Separated (Expression 0) ts list (c ∷ d ∷ rest) → c.symbol ≡ s.Comma → d.symbol
      ≡ s.RightBrace → Values (b ∷ ts) list rest

-- a declarator with its initialiser, if it has one; `make` is what the two declare
pub data Declarator {A : Type 0} (make : Spot → RawShape → A) : List Lexeme → A → List Lexeme → Type 0 where
  scalar : {x : Lexeme} {rest : List Lexeme} → x.symbol ≡ s.Name → Declarator make (x ∷ rest)
      (make (spot x) (shape.Scalar None)) rest
  initialised : {x q : Lexeme} {ts rest : List Lexeme} {a : RawExpr}
      → x.symbol ≡ s.Name → q.symbol ≡ s.Assign → Expression 0 ts a rest → Declarator make (x ∷ q ∷ ts)
      (make (spot x) (shape.Scalar (Some a))) rest
  array : {x : Lexeme} {ts rest : List Lexeme} {size : Option RawExpr}
      → x.symbol ≡ s.Name → Size ts size rest → Declarator make (x ∷ ts) (make (spot x) (shape.Array size None)) rest
  filled : {x q : Lexeme} {ts u rest : List Lexeme} {size : Option RawExpr} {list : List RawExpr}
      → x.symbol ≡ s.Name → Size ts size (q ∷ u) → q.symbol ≡ s.Assign → Values u list rest
      → Declarator make (x ∷ ts) (make (spot x) (shape.Array size (Some list))) rest

-- what is assigned to (6.5.16)
pub data Assigned : List Lexeme → RawPlace → List Lexeme → Type 0 where
  scalar_place : {x : Lexeme} {rest : List Lexeme} → x.symbol ≡ s.Name → Assigned (x ∷ rest) (place.Scalar (spot x))
      rest
  element_place : {x b c : Lexeme} {ts rest : List Lexeme} {a : RawExpr}
      → x.symbol ≡ s.Name → b.symbol ≡ s.LeftBracket → Expression 0 ts a (c ∷ rest) → c.symbol ≡ s.RightBracket
      → Assigned (x ∷ b ∷ ts) (place.Elem (spot x) a) rest

-- the 1 of `++` and `--` (6.5.2.4, 6.5.3.1)
abbrev pub one : Lexeme → RawExpr
one t = e.Num t.at ty.Int 1

-- an assignment, without its semicolon
pub data Assignment : List Lexeme → RawStmt → List Lexeme → Type 0 where
  plain_assignment : {q : Lexeme} {ts u rest : List Lexeme} {p : RawPlace} {a : RawExpr}
      → Assigned ts p (q ∷ u) → q.symbol ≡ s.Assign → Expression 0 u a rest → Assignment ts (stmt.Assign p None a) rest
  compound_assignment : {q : Lexeme} {o : BinOp} {ts u rest : List Lexeme} {p : RawPlace} {a : RawExpr}
      → Assigned ts p (q ∷ u) → q.symbol ≡ s.Compound o → Expression 0 u a rest
      → Assignment ts (stmt.Assign p (Some o) a) rest
  step_after : {q : Lexeme} {o : BinOp} {ts rest : List Lexeme} {p : RawPlace}
      → Assigned ts p (q ∷ rest) → q.symbol ≡ s.Step o → Assignment ts (stmt.Assign p (Some o) (one q)) rest
  step_before : {q : Lexeme} {o : BinOp} {ts rest : List Lexeme} {p : RawPlace}
      → q.symbol ≡ s.Step o → Assigned ts p rest → Assignment (q ∷ ts) (stmt.Assign p (Some o) (one q)) rest

-- the called name and the arguments (6.5.2.2)
pub data Called : List Lexeme → Spot → List RawExpr → List Lexeme → Type 0 where
  without_arguments : {f p c : Lexeme} {rest : List Lexeme}
      → f.symbol ≡ s.Name → p.symbol ≡ s.LeftParen → c.symbol ≡ s.RightParen → Called (f ∷ p ∷ c ∷ rest) (spot f) []
      rest
  with_arguments : {f p c : Lexeme} {ts rest : List Lexeme} {list : List RawExpr}
      → f.symbol ≡ s.Name → p.symbol ≡ s.LeftParen → Separated (Expression 0) ts list (c ∷ rest) → c.symbol
      ≡ s.RightParen
      → Called (f ∷ p ∷ ts) (spot f) list rest

-- the bound of a loop, if it has one
pub data LoopBound : List Lexeme → Option RawBound → List Lexeme → Type 0 where
  unbounded : {rest : List Lexeme} → LoopBound rest None rest
  bounded : {t : Lexeme} {rest : List Lexeme} → t.symbol ≡ s.Bound
      → LoopBound (t ∷ rest) (Some (record { at = t.at; value = t.value })) rest

-- the initialiser of a `for`, if it has one (6.8.5.3)
pub data Initialiser : List Lexeme → Option RawStmt → List Lexeme → Type 0 where
  no_initialiser : {rest : List Lexeme} → Initialiser rest None rest
  assigning : {ts rest : List Lexeme} {x : RawStmt} → Assignment ts x rest → Initialiser ts (Some x) rest
  declaring : {x q : Lexeme} {to : Ty} {ts u rest : List Lexeme} {a : RawExpr}
      → TypeName ts to (x ∷ q ∷ u) → x.symbol ≡ s.Name → q.symbol ≡ s.Assign → Expression 0 u a rest
      → Initialiser ts (Some (stmt.Declare false to (spot x) (shape.Scalar (Some a)))) rest

-- its condition; a missing one is the number 1 at the place of the semicolon
pub data Condition : List Lexeme → RawExpr → List Lexeme → Type 0 where
  no_condition : {c : Lexeme} {rest : List Lexeme} → c.symbol ≡ s.Semicolon → Condition (c ∷ rest) (one c) (c ∷ rest)
  condition : {ts rest : List Lexeme} {a : RawExpr} → Expression 0 ts a rest → Condition ts a rest

-- its step, if it has one
pub data Step : List Lexeme → Option RawStmt → List Lexeme → Type 0 where
  no_step : {rest : List Lexeme} → Step rest None rest
  step : {ts rest : List Lexeme} {x : RawStmt} → Assignment ts x rest → Step ts (Some x) rest

-- ---- statements

-- what is neither a declaration nor a compound statement; what a side of an `if` or a loop may have; what a list may
-- have
pub data Sort : Type 0 where
  Plain Body Item : Sort

mutual
  -- A statement gives a list: a declaration has several declarators. The truth value tells whether it ends in an `if`
  -- without `else`.
  pub data Statement : Sort → Bool → List Lexeme → List RawStmt → List Lexeme → Type 0 where
    empty : {t : Lexeme} {rest : List Lexeme} → t.symbol ≡ s.Semicolon → Statement Plain false (t ∷ rest) (stmt.Empty
        ∷ []) rest
    assign : {c : Lexeme} {ts rest : List Lexeme} {x : RawStmt} → Assignment ts x (c ∷ rest) → c.symbol ≡ s.Semicolon
        → Statement Plain false ts (x ∷ []) rest
    call : {c : Lexeme} {f : Spot} {ts rest : List Lexeme} {list : List RawExpr}
        → Called ts f list (c ∷ rest) → c.symbol ≡ s.Semicolon → Statement Plain false ts
        (stmt.Call target.Nothing f list ∷ []) rest
    call_into : {x q c : Lexeme} {f : Spot} {ts rest : List Lexeme} {list : List RawExpr}
        → x.symbol ≡ s.Name → q.symbol ≡ s.Assign → Called ts f list (c ∷ rest) → c.symbol ≡ s.Semicolon
        → Statement Plain false (x ∷ q ∷ ts) (stmt.Call (target.Assign (spot x)) f list ∷ []) rest
    break : {t c : Lexeme} {rest : List Lexeme} → t.symbol ≡ s.Break → c.symbol ≡ s.Semicolon
        → Statement Plain false (t ∷ c ∷ rest) (stmt.Break t.at ∷ []) rest
    continue : {t c : Lexeme} {rest : List Lexeme} → t.symbol ≡ s.Continue → c.symbol ≡ s.Semicolon
        → Statement Plain false (t ∷ c ∷ rest) (stmt.Continue t.at ∷ []) rest
    return_nothing : {t c : Lexeme} {rest : List Lexeme} → t.symbol ≡ s.Return → c.symbol ≡ s.Semicolon
        → Statement Plain false (t ∷ c ∷ rest) (stmt.Return t.at None ∷ []) rest
    return_value : {t c : Lexeme} {ts rest : List Lexeme} {a : RawExpr} → t.symbol ≡ s.Return
        → Expression 0 ts a (c ∷ rest) → c.symbol ≡ s.Semicolon
        → Statement Plain false (t ∷ ts) (stmt.Return t.at (Some a) ∷ []) rest
    if_alone : {t p c : Lexeme} {o : Bool} {ts u rest : List Lexeme} {a : RawExpr} {xs : List RawStmt}
        → t.symbol ≡ s.If → p.symbol ≡ s.LeftParen → Expression 0 ts a (c ∷ u) → c.symbol ≡ s.RightParen
        → Statement Body o u xs rest
        → Statement Plain true (t ∷ p ∷ ts) (stmt.If a xs [] ∷ []) rest
    -- an `else` belongs to the nearest `if`: what stands before it does not end in an `if` that could take it
    if_else : {t p c l : Lexeme} {o : Bool} {ts u v rest : List Lexeme} {a : RawExpr} {xs ys : List RawStmt}
        → t.symbol ≡ s.If → p.symbol ≡ s.LeftParen → Expression 0 ts a (c ∷ u) → c.symbol ≡ s.RightParen
        → Statement Body false u xs (l ∷ v)
        → l.symbol ≡ s.Else → Statement Body o v ys rest → Statement Plain o (t ∷ p ∷ ts) (stmt.If a xs ys ∷ []) rest
    while_loop : {w p c : Lexeme} {o : Bool} {bound : Option RawBound} {ts u v rest : List Lexeme} {a : RawExpr}
        {xs : List RawStmt}
        → LoopBound ts bound (w ∷ p ∷ u) → w.symbol ≡ s.While → p.symbol ≡ s.LeftParen → Expression 0 u a (c ∷ v)
        → c.symbol ≡ s.RightParen
        → Statement Body o v xs rest → Statement Plain o ts (stmt.While w.at bound a xs ∷ []) rest
    do_loop : {d w p c e : Lexeme} {o : Bool} {bound : Option RawBound} {ts u v rest : List Lexeme} {a : RawExpr}
        {xs : List RawStmt}
        → LoopBound ts bound (d ∷ u) → d.symbol ≡ s.Do → Statement Body o u xs (w ∷ p ∷ v) → w.symbol ≡ s.While
        → p.symbol ≡ s.LeftParen
        → Expression 0 v a (c ∷ e ∷ rest) → c.symbol ≡ s.RightParen → e.symbol ≡ s.Semicolon → Statement Plain false ts
        (stmt.Do d.at bound xs a ∷ []) rest
    for_loop : {f p c d e : Lexeme} {o : Bool} {bound : Option RawBound} {ts u v w z rest : List Lexeme}
        {i j : Option RawStmt} {a : RawExpr} {xs : List RawStmt}
        → LoopBound ts bound (f ∷ p ∷ u) → f.symbol ≡ s.For → p.symbol ≡ s.LeftParen → Initialiser u i (c ∷ v)
        → c.symbol ≡ s.Semicolon
        → Condition v a (d ∷ w) → d.symbol ≡ s.Semicolon → Step w j (e ∷ z) → e.symbol ≡ s.RightParen
        → Statement Body o z xs rest
        → Statement Plain o ts (stmt.For f.at bound i a j xs ∷ []) rest
    -- a compound statement that is a body gives its list
    compound : {t c : Lexeme} {ts rest : List Lexeme} {xs : List RawStmt}
        → t.symbol ≡ s.LeftBrace → Statements ts xs (c ∷ rest) → c.symbol ≡ s.RightBrace
        → Statement Body false (t ∷ ts) xs rest
    body : {o : Bool} {ts rest : List Lexeme} {xs : List RawStmt} → Statement Plain o ts xs rest
        → Statement Body o ts xs rest
    group : {t c : Lexeme} {ts rest : List Lexeme} {xs : List RawStmt}
        → t.symbol ≡ s.LeftBrace → Statements ts xs (c ∷ rest) → c.symbol ≡ s.RightBrace
        → Statement Item false (t ∷ ts) (stmt.Group xs ∷ []) rest
    declare : {c : Lexeme} {constant : Bool} {to : Ty} {ts u v rest : List Lexeme} {xs : List RawStmt}
        → Optional s.Const ts constant u → TypeName u to v → Separated (Declarator (stmt.Declare constant to)) v xs
        (c ∷ rest) → c.symbol ≡ s.Semicolon
        → Statement Item false ts xs rest
    declare_call : {x q c : Lexeme} {constant : Bool} {to : Ty} {f : Spot} {ts u v rest : List Lexeme}
        {list : List RawExpr}
        → Optional s.Const ts constant u → TypeName u to (x ∷ q ∷ v) → x.symbol ≡ s.Name → q.symbol ≡ s.Assign
        → Called v f list (c ∷ rest) → c.symbol ≡ s.Semicolon → Statement Item false ts
        (stmt.Call (target.Declare constant to (spot x)) f list ∷ []) rest
    item : {o : Bool} {ts rest : List Lexeme} {xs : List RawStmt} → Statement Plain o ts xs rest
        → Statement Item o ts xs rest

  pub data Statements : List Lexeme → List RawStmt → List Lexeme → Type 0 where
    none : {rest : List Lexeme} → Statements rest [] rest
    more : {o : Bool} {ts u rest : List Lexeme} {xs ys : List RawStmt} → Statement Item o ts xs u
        → Statements u ys rest → Statements ts (xs ++ ys) rest
