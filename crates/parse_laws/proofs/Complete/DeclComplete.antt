-- Declarators, places and assignments that are spelled are read.
use Rattle.std.proofs.Common.{◌≡◌, ℕ, max, ◌<◌, ◌≤◌, Bool, true, false, List, [], ◌∷◌, length, Option, Some, None, Ok, refl, ap, arith}
use Rattle.c_tree.specs.declared.unit.Spot.{Spot}
use Rattle.c_tree.specs.declared.unit.RawExpr.{RawExpr}
use Rattle.c_tree.specs.declared.unit.RawShape.{RawShape}
use Rattle.c_tree.specs.declared.unit.RawShape.TheVariants as shape
use Rattle.c_tree.specs.declared.symbol.Symbol.TheVariants as s
use Rattle.c_tree.specs.Grammar.Heights.{height, option_height, list_height, shape_height}
use Rattle.c_tree.specs.Grammar.SpelledExpressions.{Separated, Expression}
use Rattle.c_tree.specs.Grammar.SpelledStatements.{Size, implied, sized, Values, values, trailing, Declarator, scalar, initialised, array, filled}
use Rattle.c_tree.specs.Tokens.Symbols.{Lexeme, spot}
use Rattle.parse_laws.specs.Parser.{sees, optional_word, another, another_value, phrases}
use Rattle.parse_laws.specs.ReadExpr.{index_phrase, expr_phrase}
use Rattle.parse_laws.specs.ReadDecl.{length_phrase, values as read_values, initialiser_list as read_filled, initial_value as read_initialised, shape_phrase, declarator}
use Rattle.parse_laws.proofs.Tokens.Begins.{expr_no, expr_shorter}
use Rattle.parse_laws.proofs.Complete.ExprComplete.{index_phrase-yes}
use Rattle.parse_laws.proofs.Tokens.ExprClosed.{expr_closed}
use Rattle.parse_laws.proofs.Reading.Lists.{another-yes, value-yes, value-last, value-no}
use Rattle.parse_laws.proofs.Reading.Phrases.{most, complete_phrases}
use Rattle.parse_laws.proofs.Reading.Steps.{sees-yes, sees-no, symbol_phrase-yes, expect-yes, optional_word-yes, optional_word-no}
use Rattle.parse_laws.proofs.Tokens.StmtFollows.{Closes, closes-by, closes-no, second-yes, second-no}

-- ---- lists of expressions

pub most-list : (list : List RawExpr) → most height list ≡ list_height list
most-list [] = refl
most-list (a ∷ list) = ap (λ (n : ℕ). max (height a) n) (most-list list)

pub expression_shorter : (ts u : List Lexeme) (a : RawExpr) → Expression 0 ts a u → length u < length ts
expression_shorter ts u a d = expr_shorter d

pub another-stop : (ts : List Lexeme) → sees s.Comma ts ≡ false → another ts ≡ false
unfolding another
another-stop ts h = h

pub another_goes : {A : Type 0} (Phrase : List Lexeme → A → List Lexeme → Type 0) (c : Lexeme) (u v : List Lexeme) (a : A) → c.symbol ≡ s.Comma → Phrase u a v → another (c ∷ u) ≡ true
another_goes Phrase c u v a k d = another-yes c u k

value_goes : (c : Lexeme) (u v : List Lexeme) (a : RawExpr) → c.symbol ≡ s.Comma → Expression 0 u a v → another_value (c ∷ u) ≡ true
value_goes c u v a k d = value-yes c u k (expr_no s.RightBrace refl d)

module _ (room : ℕ) where
  expression_read : (ts u : List Lexeme) (a : RawExpr) → Expression 0 ts a u → height a ≤ room → Closes u → expr_phrase room 0 ts ≡ Ok (a, u)
  expression_read ts u a d low end = expr_closed room d end low

  pub complete_list : {ts rest : List Lexeme} {list : List RawExpr} → Separated (Expression 0) ts list rest → list_height list ≤ room → Closes rest → sees s.Comma rest ≡ false
      → phrases another (expr_phrase room 0) ts ≡ Ok (list, rest)
  complete_list {rest = rest} {list = list} m low end stop =
      complete_phrases (Expression 0) height room another (expr_phrase room 0) expression_shorter (another_goes (Expression 0)) expression_read m (omega (arith, most-list list)) end (another-stop rest stop)

  value_list : {ts rest : List Lexeme} {list : List RawExpr} → Separated (Expression 0) ts list rest → list_height list ≤ room → Closes rest → another_value rest ≡ false
      → phrases another_value (expr_phrase room 0) ts ≡ Ok (list, rest)
  value_list {list = list} m low end stop =
      complete_phrases (Expression 0) height room another_value (expr_phrase room 0) expression_shorter value_goes expression_read m (omega (arith, most-list list)) end stop

  -- ---- shapes

  pub complete_index : (b : Lexeme) {c : Lexeme} {ts rest : List Lexeme} {a : RawExpr} → b.symbol ≡ s.LeftBracket → Expression 0 ts a (c ∷ rest) → c.symbol ≡ s.RightBracket → height a ≤ room → index_phrase (expr_phrase room) (b ∷ ts) ≡ Ok (a, rest)
  complete_index b {c} {ts} {rest} {a} h d k low = index_phrase-yes room b c ts rest a h (expr_closed room d (closes-by s.RightBracket c rest k refl) low) k

  length_phrase-implied : (b c : Lexeme) (rest : List Lexeme) → b.symbol ≡ s.LeftBracket → c.symbol ≡ s.RightBracket → length_phrase room (b ∷ c ∷ rest) ≡ Ok (None, rest)
  unfolding length_phrase
  length_phrase-implied b c rest h k = rw (second-yes s.RightBracket b c rest k, expect-yes s.LeftBracket b (c ∷ rest) h, expect-yes s.RightBracket c rest k) refl

  length_phrase-sized : (b : Lexeme) (ts rest : List Lexeme) (a : RawExpr) → sees s.RightBracket ts ≡ false → index_phrase (expr_phrase room) (b ∷ ts) ≡ Ok (a, rest) → length_phrase room (b ∷ ts) ≡ Ok (Some a, rest)
  unfolding length_phrase
  length_phrase-sized b ts rest a h read = rw (second-no s.RightBracket b ts h, read) refl

  complete_size : {ts rest : List Lexeme} {n : Option RawExpr} → Size ts n rest → option_height n ≤ room → length_phrase room ts ≡ Ok (n, rest)
  complete_size (implied {b = b} {c = c} {rest = rest} h k) low = length_phrase-implied b c rest h k
  complete_size (sized {b = b} {ts = ts} {rest = rest} {a = a} h d k) low = length_phrase-sized b ts rest a (expr_no s.RightBracket refl d) (complete_index b h d k low)

  values-yes : (b d : Lexeme) (ts u rest : List Lexeme) (list : List RawExpr) (w : Bool) → b.symbol ≡ s.LeftBrace → phrases another_value (expr_phrase room 0) ts ≡ Ok (list, u) → optional_word s.Comma u ≡ Ok (w, d ∷ rest)
      → d.symbol ≡ s.RightBrace → read_values room (b ∷ ts) ≡ Ok (list, rest)
  unfolding read_values
  values-yes b d ts u rest list w h read o k = rw (expect-yes s.LeftBrace b ts h, read, o, expect-yes s.RightBrace d rest k) refl

  complete_values : {ts rest : List Lexeme} {list : List RawExpr} → Values ts list rest → list_height list ≤ room → read_values room ts ≡ Ok (list, rest)
  complete_values (values {b = b} {c = c} {ts = ts} {rest = rest} {list = list} h m k) low =
      let stop = sees-no s.Comma s.RightBrace c rest k refl in
      values-yes b c ts (c ∷ rest) rest list false h (value_list m low (closes-by s.RightBrace c rest k refl) (value-no s.RightBrace c rest k refl)) (optional_word-no s.Comma (c ∷ rest) stop) k
  complete_values (trailing {b = b} {c = c} {d = d} {ts = ts} {rest = rest} {list = list} h m k l) low =
      values-yes b d ts (c ∷ d ∷ rest) rest list true h (value_list m low (closes-by s.Comma c (d ∷ rest) k refl) (value-last c (d ∷ rest) k (sees-yes s.RightBrace d rest l))) (optional_word-yes s.Comma c (d ∷ rest) k) l

  initial_value-none : (ts : List Lexeme) → sees s.Assign ts ≡ false → read_initialised room ts ≡ Ok (None, ts)
  unfolding read_initialised
  initial_value-none ts h = rw h refl

  initial_value-some : (q : Lexeme) (ts rest : List Lexeme) (a : RawExpr) → q.symbol ≡ s.Assign → expr_phrase room 0 ts ≡ Ok (a, rest) → read_initialised room (q ∷ ts) ≡ Ok (Some a, rest)
  unfolding read_initialised
  initial_value-some q ts rest a h read = rw (sees-yes s.Assign q ts h, expect-yes s.Assign q ts h, read) refl

  initialiser_list-none : (ts : List Lexeme) → sees s.Assign ts ≡ false → read_filled room ts ≡ Ok (None, ts)
  unfolding read_filled
  initialiser_list-none ts h = rw h refl

  initialiser_list-some : (q : Lexeme) (ts rest : List Lexeme) (list : List RawExpr) → q.symbol ≡ s.Assign → read_values room ts ≡ Ok (list, rest) → read_filled room (q ∷ ts) ≡ Ok (Some list, rest)
  unfolding read_filled
  initialiser_list-some q ts rest list h read = rw (sees-yes s.Assign q ts h, expect-yes s.Assign q ts h, read) refl

  shape_phrase-scalar : (ts rest : List Lexeme) (a : Option RawExpr) → sees s.LeftBracket ts ≡ false → read_initialised room ts ≡ Ok (a, rest) → shape_phrase room ts ≡ Ok (shape.Scalar a, rest)
  unfolding shape_phrase
  shape_phrase-scalar ts rest a h read = rw (h, read) refl

  shape_phrase-array : (ts u rest : List Lexeme) (n : Option RawExpr) (list : Option (List RawExpr)) → sees s.LeftBracket ts ≡ true → length_phrase room ts ≡ Ok (n, u) → read_filled room u ≡ Ok (list, rest)
      → shape_phrase room ts ≡ Ok (shape.Array n list, rest)
  unfolding shape_phrase
  shape_phrase-array ts u rest n list h read more = rw (h, read, more) refl

  size_begins : {ts rest : List Lexeme} {n : Option RawExpr} → Size ts n rest → sees s.LeftBracket ts ≡ true
  size_begins (implied {b = b} {c = c} {rest = rest} h k) = sees-yes s.LeftBracket b (c ∷ rest) h
  size_begins (sized {b = b} {ts = ts} h d k) = sees-yes s.LeftBracket b ts h

  module _ {A : Type 0} (make : Spot → RawShape → A) where
    declarator-yes : (x : Lexeme) (ts rest : List Lexeme) (form : RawShape) → x.symbol ≡ s.Name → shape_phrase room ts ≡ Ok (form, rest) → declarator room make (x ∷ ts) ≡ Ok (make (spot x) form, rest)
    unfolding declarator
    declarator-yes x ts rest form h read = rw (symbol_phrase-yes s.Name spot x ts h, read) refl

    module _ (high : A → ℕ) (limit : ℕ) (inside : (x : Spot) (form : RawShape) → high (make x form) ≤ limit → shape_height form ≤ room) where
      pub complete_declarator : (ts u : List Lexeme) (a : A) → Declarator make ts a u → high a ≤ limit → Closes u → declarator room make ts ≡ Ok (a, u)
      complete_declarator _ _ _ (scalar {x = x} {rest = rest} h) low end =
          declarator-yes x rest rest (shape.Scalar None) h (shape_phrase-scalar rest rest None (closes-no s.LeftBracket refl end) (initial_value-none rest (closes-no s.Assign refl end)))
      complete_declarator _ _ _ (initialised {x = x} {q = q} {ts = ts} {rest = rest} {a = a} h i d) low end =
          let l = inside (spot x) (shape.Scalar (Some a)) low in
          declarator-yes x (q ∷ ts) rest (shape.Scalar (Some a)) h
          (shape_phrase-scalar (q ∷ ts) rest (Some a) (sees-no s.LeftBracket s.Assign q ts i refl) (initial_value-some q ts rest a i (expr_closed room d end (omega arith))))
      complete_declarator _ _ _ (array {x = x} {ts = ts} {rest = rest} {size = n} h z) low end =
          let l = inside (spot x) (shape.Array n None) low in
          declarator-yes x ts rest (shape.Array n None) h (shape_phrase-array ts rest rest n None (size_begins z) (complete_size z (omega arith)) (initialiser_list-none rest (closes-no s.Assign refl end)))
      complete_declarator _ _ _ (filled {x = x} {q = q} {ts = ts} {u = u} {rest = rest} {size = n} {list = list} h z i v) low end =
          let l = inside (spot x) (shape.Array n (Some list)) low in
          declarator-yes x ts rest (shape.Array n (Some list)) h
          (shape_phrase-array ts (q ∷ u) rest n (Some list) (size_begins z) (complete_size z (omega arith)) (initialiser_list-some q u rest list i (complete_values v (omega arith))))
