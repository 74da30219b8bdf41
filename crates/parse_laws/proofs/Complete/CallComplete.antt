-- Calls and declarations that are spelled are read.
use Rattle.std.proofs.Common.{◌≡◌, ℕ, suc, max, ◌<◌, ◌≤◌, Bool, true, false, List, [], ◌∷◌, length, Option, Some, Ok, refl, ap, ◌∙◌, arith}
use Rattle.std.specs.Prelude.{if◌then◌else◌}
use Rattle.parse_laws.specs.Same.{is_same_symbol}
use Rattle.c_tree.specs.declared.tree.Ty.{Ty}
use Rattle.c_tree.specs.declared.unit.Spot.{Spot}
use Rattle.c_tree.specs.declared.unit.RawExpr.{RawExpr}
use Rattle.c_tree.specs.declared.unit.RawShape.{RawShape}
use Rattle.c_tree.specs.declared.unit.RawTarget.{RawTarget}
use Rattle.c_tree.specs.declared.unit.RawTarget.TheVariants as target
use Rattle.c_tree.specs.declared.unit.RawStmt.{RawStmt}
use Rattle.c_tree.specs.declared.unit.RawStmt.TheVariants as stmt
use Rattle.c_tree.specs.declared.symbol.Symbol.{Symbol}
use Rattle.c_tree.specs.declared.symbol.Symbol.TheVariants as s
use Rattle.c_tree.specs.Grammar.Heights.{list_height, shape_height, stmt_height, body_height}
use Rattle.c_tree.specs.Grammar.SpelledExpressions.{Separated, last, comma, TypeName, Expression}
use Rattle.c_tree.specs.Grammar.SpelledStatements.{Optional, absent, present, Size, implied, sized, Values, values, trailing, Declarator, scalar, initialised, array, filled, Called, without_arguments, with_arguments}
use Rattle.c_tree.specs.Tokens.Symbols.{Lexeme, spot}
use Rattle.parse_laws.specs.Parser.{Parser, sees, optional_word, type_name, begins_type, another, phrases}
use Rattle.parse_laws.specs.ReadDecl.{begins_declaration, declarator, local_declarator, declarators, declaration_phrase}
use Rattle.parse_laws.specs.ReadSimple.{begins_call, begins_call_into, argument_list, call_phrase, call_into, call_or_assignment}
use Rattle.parse_laws.specs.ReadStmt.{plain_phrase}
use Rattle.parse_laws.proofs.Tokens.Begins.{begins_expr, expr_no, expr_shorter}
use Rattle.parse_laws.proofs.Complete.AssignComplete.{plain_phrase-is}
use Rattle.parse_laws.proofs.Complete.DeclComplete.{expression_shorter, another_goes, another-stop, complete_list, complete_declarator}
use Rattle.parse_laws.proofs.Reading.Layers.{height-Declare, stmt_height-pos}
use Rattle.parse_laws.proofs.Reading.Lists.{separated_shorter}
use Rattle.parse_laws.proofs.Reading.Phrases.{most, complete_phrases}
use Rattle.parse_laws.proofs.Reading.Steps.{sees-yes, sees-no, symbol_phrase-yes, expect-yes}
use Rattle.parse_laws.proofs.Tokens.StmtFollows.{Closes, closes-by, closes-no, expr_no_call, call-yes, call-no_paren, into-yes, into-no_assign, into-no_call}
use Rattle.parse_laws.proofs.Tokens.Types.{type_begins, type_no, type_yes, optional_yes}

-- ---- words that may be missing

pub optional_shorter : {m : Symbol} {ts rest : List Lexeme} {b : Bool} → Optional m ts b rest → length rest ≤ length ts
optional_shorter absent = omega arith
optional_shorter (present h) = omega arith

-- ---- calls

list_no : (m : Symbol) → begins_expr (Some m) ≡ false → {ts rest : List Lexeme} {list : List RawExpr} → Separated (Expression 0) ts list rest → sees m ts ≡ false
list_no m never (last d) = expr_no m never d
list_no m never (comma d k r) = expr_no m never d

called_begins : {ts rest : List Lexeme} {f : Spot} {list : List RawExpr} → Called ts f list rest → begins_call ts ≡ true
called_begins (without_arguments {f = f} {p = p} {c = c} {rest = rest} h i k) = call-yes f p (c ∷ rest) h i
called_begins (with_arguments {f = f} {p = p} {ts = ts} h i m k) = call-yes f p ts h i

pub called_shorter : {ts rest : List Lexeme} {f : Spot} {list : List RawExpr} → Called ts f list rest → length rest < length ts
called_shorter (without_arguments h i k) = omega arith
called_shorter (with_arguments h i m k) = omega (arith, separated_shorter expression_shorter m)

module _ (room : ℕ) where
  argument_list-none : (c : Lexeme) (rest : List Lexeme) → c.symbol ≡ s.RightParen → argument_list room (c ∷ rest) ≡ Ok ([], c ∷ rest)
  unfolding argument_list
  argument_list-none c rest k = rw (sees-yes s.RightParen c rest k) refl

  argument_list-some : {c : Lexeme} {ts rest : List Lexeme} {list : List RawExpr} → Separated (Expression 0) ts list (c ∷ rest) → c.symbol ≡ s.RightParen → list_height list ≤ room → argument_list room ts ≡ Ok (list, c ∷ rest)
  unfolding argument_list
  argument_list-some {c} {ts} {rest} m k low = rw (list_no s.RightParen refl m) (complete_list room m low (closes-by s.RightParen c rest k refl) (sees-no s.Comma s.RightParen c rest k refl))

  call_phrase-yes : (to : RawTarget) (f p c d : Lexeme) (ts rest : List Lexeme) (list : List RawExpr) → f.symbol ≡ s.Name → p.symbol ≡ s.LeftParen → argument_list room ts ≡ Ok (list, c ∷ d ∷ rest) → c.symbol ≡ s.RightParen → d.symbol ≡ s.Semicolon
      → call_phrase room to (f ∷ p ∷ ts) ≡ Ok (stmt.Call to (spot f) list ∷ [], rest)
  unfolding call_phrase
  call_phrase-yes to f p c d ts rest list h i read k l =
      rw (symbol_phrase-yes s.Name spot f (p ∷ ts) h, expect-yes s.LeftParen p ts i, read, expect-yes s.RightParen c (d ∷ rest) k, expect-yes s.Semicolon d rest l) refl

  complete_called : {ts rest : List Lexeme} {f : Spot} {list : List RawExpr} (d : Lexeme) (to : RawTarget) → Called ts f list (d ∷ rest) → d.symbol ≡ s.Semicolon → list_height list ≤ room → call_phrase room to ts ≡ Ok (stmt.Call to f list ∷ [], rest)
  complete_called {rest = rest} d to (without_arguments {f = f} {p = p} {c = c} h i k) l low = call_phrase-yes to f p c d (c ∷ d ∷ rest) rest [] h i (argument_list-none c (d ∷ rest) k) k l
  complete_called {rest = rest} d to (with_arguments {f = f} {p = p} {c = c} {ts = ts} {list = list} h i m k) l low = call_phrase-yes to f p c d ts rest list h i (argument_list-some m k low) k l

  call_into-yes : (to : Spot → RawTarget) (x q : Lexeme) (ts rest : List Lexeme) (xs : List RawStmt) → x.symbol ≡ s.Name → q.symbol ≡ s.Assign → call_phrase room (to (spot x)) ts ≡ Ok (xs, rest) → call_into room to (x ∷ q ∷ ts) ≡ Ok (xs, rest)
  unfolding call_into
  call_into-yes to x q ts rest xs h i read = rw (symbol_phrase-yes s.Name spot x (q ∷ ts) h, expect-yes s.Assign q ts i) read

  call_or_assignment-call : (ts rest : List Lexeme) (xs : List RawStmt) → begins_call ts ≡ true → call_phrase room target.Nothing ts ≡ Ok (xs, rest) → call_or_assignment room ts ≡ Ok (xs, rest)
  unfolding call_or_assignment
  call_or_assignment-call ts rest xs h read = rw h read

  call_or_assignment-into : (ts rest : List Lexeme) (xs : List RawStmt) → begins_call ts ≡ false → begins_call_into ts ≡ true → call_into room target.Assign ts ≡ Ok (xs, rest) → call_or_assignment room ts ≡ Ok (xs, rest)
  unfolding call_or_assignment
  call_or_assignment-into ts rest xs h i read = rw (h, i) read

  module _ (body : Parser (List RawStmt)) where
    plain_phrase-called : {ts rest : List Lexeme} {f : Spot} {list : List RawExpr} → Called ts f list rest → plain_phrase room body ts ≡ call_or_assignment room ts
    plain_phrase-called (without_arguments {f = f} {p = p} {c = c} {rest = rest} h i k) = plain_phrase-is room body s.Name f (p ∷ c ∷ rest) h
    plain_phrase-called (with_arguments {f = f} {p = p} {ts = ts} h i m k) = plain_phrase-is room body s.Name f (p ∷ ts) h

    pub plain_phrase-call : {c : Lexeme} {ts rest : List Lexeme} {f : Spot} {list : List RawExpr} → Called ts f list (c ∷ rest) → c.symbol ≡ s.Semicolon → list_height list ≤ room
        → plain_phrase room body ts ≡ Ok (stmt.Call target.Nothing f list ∷ [], rest)
    plain_phrase-call {c} {ts} {rest} d k low = plain_phrase-called d ∙ call_or_assignment-call ts rest _ (called_begins d) (complete_called c target.Nothing d k low)

    pub plain_phrase-call_into : (x q : Lexeme) {c : Lexeme} {ts rest : List Lexeme} {f : Spot} {list : List RawExpr} → x.symbol ≡ s.Name → q.symbol ≡ s.Assign → Called ts f list (c ∷ rest) → c.symbol ≡ s.Semicolon → list_height list ≤ room
        → plain_phrase room body (x ∷ q ∷ ts) ≡ Ok (stmt.Call (target.Assign (spot x)) f list ∷ [], rest)
    plain_phrase-call_into x q {c} {ts} {rest} h i d k low =
        plain_phrase-is room body s.Name x (q ∷ ts) h
        ∙ call_or_assignment-into (x ∷ q ∷ ts) rest _ (call-no_paren x (q ∷ ts) (sees-no s.LeftParen s.Assign q ts i refl)) (into-yes x q ts h i (called_begins d))
        (call_into-yes target.Assign x q ts rest _ h i (complete_called c (target.Assign (spot x)) d k low))

-- ---- declarations

size_shorter : {ts rest : List Lexeme} {n : Option RawExpr} → Size ts n rest → length rest < length ts
size_shorter (implied h k) = omega arith
size_shorter (sized h d k) = omega (arith, expr_shorter d)

values_shorter : {ts rest : List Lexeme} {list : List RawExpr} → Values ts list rest → length rest < length ts
values_shorter (values h m k) = omega (arith, separated_shorter expression_shorter m)
values_shorter (trailing h m k l) = omega (arith, separated_shorter expression_shorter m)

size_no : (m : Symbol) → is_same_symbol s.LeftBracket m ≡ false → {ts rest : List Lexeme} {n : Option RawExpr} → Size ts n rest → sees m ts ≡ false
size_no m never (implied {b = b} {c = c} {rest = rest} h k) = sees-no m s.LeftBracket b (c ∷ rest) h never
size_no m never (sized {b = b} {ts = ts} h d k) = sees-no m s.LeftBracket b ts h never

module _ {A : Type 0} (make : Spot → RawShape → A) where
  pub declarator_shorter : (ts u : List Lexeme) (a : A) → Declarator make ts a u → length u < length ts
  declarator_shorter _ _ _ (scalar h) = omega arith
  declarator_shorter _ _ _ (initialised h i d) = omega (arith, expr_shorter d)
  declarator_shorter _ _ _ (array h z) = omega (arith, size_shorter z)
  declarator_shorter _ _ _ (filled h z i v) = omega (arith, size_shorter z, values_shorter v)

  declarator_no : (m : Symbol) → is_same_symbol s.Name m ≡ false → {ts rest : List Lexeme} {a : A} → Declarator make ts a rest → sees m ts ≡ false
  declarator_no m never (scalar {x = x} {rest = rest} h) = sees-no m s.Name x rest h never
  declarator_no m never (initialised {x = x} {q = q} {ts = ts} h i d) = sees-no m s.Name x (q ∷ ts) h never
  declarator_no m never (array {x = x} {ts = ts} h z) = sees-no m s.Name x ts h never
  declarator_no m never (filled {x = x} {ts = ts} h z i v) = sees-no m s.Name x ts h never

  pub declarators_no : (m : Symbol) → is_same_symbol s.Name m ≡ false → {ts rest : List Lexeme} {list : List A} → Separated (Declarator make) ts list rest → sees m ts ≡ false
  declarators_no m never (last d) = declarator_no m never d
  declarators_no m never (comma d k r) = declarator_no m never d

  declarator_no_call : {ts rest : List Lexeme} {a : A} → Declarator make ts a rest → Closes rest → begins_call ts ≡ false
  declarator_no_call (scalar {x = x} {rest = rest} h) end = call-no_paren x rest (closes-no s.LeftParen refl end)
  declarator_no_call (initialised {x = x} {q = q} {ts = ts} h i d) end = call-no_paren x (q ∷ ts) (sees-no s.LeftParen s.Assign q ts i refl)
  declarator_no_call (array {x = x} {ts = ts} h z) end = call-no_paren x ts (size_no s.LeftParen refl z)
  declarator_no_call (filled {x = x} {ts = ts} h z i v) end = call-no_paren x ts (size_no s.LeftParen refl z)

  declarator_no_into : {ts rest : List Lexeme} {a : A} → Declarator make ts a rest → Closes rest → begins_call_into ts ≡ false
  declarator_no_into (scalar {x = x} {rest = rest} h) end = into-no_assign x rest (closes-no s.Assign refl end)
  declarator_no_into (initialised {x = x} {q = q} {ts = ts} h i d) end = into-no_call x q ts (expr_no_call d (closes-no s.LeftParen refl end))
  declarator_no_into (array {x = x} {ts = ts} h z) end = into-no_assign x ts (size_no s.Assign refl z)
  declarator_no_into (filled {x = x} {ts = ts} h z i v) end = into-no_assign x ts (size_no s.Assign refl z)

  pub declarators_no_call : {ts rest : List Lexeme} {list : List A} → Separated (Declarator make) ts list rest → Closes rest → begins_call ts ≡ false
  declarators_no_call (last d) end = declarator_no_call d end
  declarators_no_call (comma {c = c} {u = u} d k r) end = declarator_no_call d (closes-by s.Comma c u k refl)

  declarators_no_into : {ts rest : List Lexeme} {list : List A} → Separated (Declarator make) ts list rest → Closes rest → begins_call_into ts ≡ false
  declarators_no_into (last d) end = declarator_no_into d end
  declarators_no_into (comma {c = c} {u = u} d k r) end = declarator_no_into d (closes-by s.Comma c u k refl)

  pub complete_declarators : (room : ℕ) (high : A → ℕ) (limit : ℕ) → ((x : Spot) (form : RawShape) → high (make x form) ≤ limit → shape_height form ≤ room)
      → {c : Lexeme} {ts rest : List Lexeme} {list : List A} → Separated (Declarator make) ts list (c ∷ rest) → c.symbol ≡ s.Semicolon → most high list ≤ limit → phrases another (declarator room make) ts ≡ Ok (list, c ∷ rest)
  complete_declarators room high limit inside {c} {ts} {rest} m k low =
      complete_phrases (Declarator make) high limit another (declarator room make) declarator_shorter (another_goes (Declarator make)) (complete_declarator room make high limit inside)
      m low (closes-by s.Semicolon c rest k refl) (another-stop (c ∷ rest) (sees-no s.Comma s.Semicolon c rest k refl))

pub most-body : (xs : List RawStmt) → most stmt_height xs ≡ body_height xs
most-body [] = refl
most-body (x ∷ xs) = ap (λ (n : ℕ). max (stmt_height x) n) (most-body xs)

module _ (room : ℕ) where
  declarators-yes : (constant : Bool) (to : Ty) (c : Lexeme) (ts rest : List Lexeme) (xs : List RawStmt) → phrases another (declarator room (stmt.Declare constant to)) ts ≡ Ok (xs, c ∷ rest) → c.symbol ≡ s.Semicolon
      → declarators room constant to ts ≡ Ok (xs, rest)
  unfolding declarators local_declarator
  declarators-yes constant to c ts rest xs read k = rw (read, expect-yes s.Semicolon c rest k) refl

  declaration_phrase-list : (constant : Bool) (to : Ty) (ts u v rest : List Lexeme) (xs : List RawStmt) → optional_word s.Const ts ≡ Ok (constant, u) → type_name u ≡ Ok (to, v) → begins_call_into v ≡ false → declarators room constant to v ≡ Ok (xs, rest)
      → declaration_phrase room ts ≡ Ok (xs, rest)
  unfolding declaration_phrase
  declaration_phrase-list constant to ts u v rest xs o y h read = rw (o, y, h) read

  declaration_phrase-into : (constant : Bool) (to : Ty) (ts u v rest : List Lexeme) (xs : List RawStmt) → optional_word s.Const ts ≡ Ok (constant, u) → type_name u ≡ Ok (to, v) → begins_call_into v ≡ true → call_into room (target.Declare constant to) v ≡ Ok (xs, rest)
      → declaration_phrase room ts ≡ Ok (xs, rest)
  unfolding declaration_phrase
  declaration_phrase-into constant to ts u v rest xs o y h read = rw (o, y, h) read

  pub complete_declare : {c : Lexeme} {constant : Bool} {to : Ty} {ts u v rest : List Lexeme} {xs : List RawStmt} → Optional s.Const ts constant u → TypeName u to v → Separated (Declarator (stmt.Declare constant to)) v xs (c ∷ rest)
      → c.symbol ≡ s.Semicolon → body_height xs ≤ suc room → declaration_phrase room ts ≡ Ok (xs, rest)
  complete_declare {c} {constant} {to} {ts} {u} {v} {rest} {xs} o y m k low =
      declaration_phrase-list constant to ts u v rest xs (optional_yes o (type_no s.Const refl y)) (type_yes y (declarators_no (stmt.Declare constant to) s.Int refl m))
      (declarators_no_into (stmt.Declare constant to) m (closes-by s.Semicolon c rest k refl))
      (declarators-yes constant to c v rest xs (complete_declarators (stmt.Declare constant to) room stmt_height (suc room) (λ x form l. omega (arith, height-Declare constant to x form)) m k (omega (arith, most-body xs))) k)

  pub complete_declare_call : {x q c : Lexeme} {constant : Bool} {to : Ty} {f : Spot} {ts u v rest : List Lexeme} {list : List RawExpr} → Optional s.Const ts constant u → TypeName u to (x ∷ q ∷ v) → x.symbol ≡ s.Name → q.symbol ≡ s.Assign
      → Called v f list (c ∷ rest) → c.symbol ≡ s.Semicolon → list_height list ≤ room → declaration_phrase room ts ≡ Ok (stmt.Call (target.Declare constant to (spot x)) f list ∷ [], rest)
  complete_declare_call {x} {q} {c} {constant} {to} {f} {ts} {u} {v} {rest} {list} o y h i d k low =
      declaration_phrase-into constant to ts u (x ∷ q ∷ v) rest _ (optional_yes o (type_no s.Const refl y)) (type_yes y (sees-no s.Int s.Name x (q ∷ v) h refl)) (into-yes x q v h i (called_begins d))
      (call_into-yes room (target.Declare constant to) x q v rest _ h i (complete_called room c (target.Declare constant to (spot x)) d k low))

either_true : (b c : Bool) → c ≡ true → (if b then true else c) ≡ true
either_true true c h = refl
either_true false c h = h

pub declaration_begins : {constant : Bool} {to : Ty} {ts u v : List Lexeme} → Optional s.Const ts constant u → TypeName u to v → begins_declaration ts ≡ true
unfolding begins_declaration
declaration_begins (absent {rest = rest}) y = either_true (sees s.Const rest) (begins_type rest) (type_begins y)
declaration_begins (present {t = t} {rest = rest} h) y = rw (sees-yes s.Const t rest h) refl

pub declaration_no_brace : {constant : Bool} {to : Ty} {ts u v : List Lexeme} → Optional s.Const ts constant u → TypeName u to v → sees s.LeftBrace ts ≡ false
declaration_no_brace absent y = type_no s.LeftBrace refl y
declaration_no_brace (present {t = t} {rest = rest} h) y = sees-no s.LeftBrace s.Const t rest h refl

pub declared_height : {constant : Bool} {to : Ty} {ts rest : List Lexeme} {xs : List RawStmt} → Separated (Declarator (stmt.Declare constant to)) ts xs rest → 0 < body_height xs
declared_height (last {a = x} d) = omega (arith, stmt_height-pos x)
declared_height (comma {a = x} d k m) = omega (arith, stmt_height-pos x)
