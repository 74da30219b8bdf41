-- Declarations and functions at file scope that are spelled are read.
use Rattle.std.proofs.Common.{◌≡◌, ℕ, max, ◌<◌, ◌≤◌, Bool, true, false, List, [], ◌∷◌, length, Option, Some, None, Ok, refl, ap, arith}
use Rattle.c_tree.specs.declared.tree.Ty.{Ty}
use Rattle.c_tree.specs.declared.unit.RawExpr.{RawExpr}
use Rattle.c_tree.specs.declared.unit.RawParam.{RawParam}
use Rattle.c_tree.specs.declared.unit.RawStmt.{RawStmt}
use Rattle.c_tree.specs.declared.unit.RawTop.{RawTop}
use Rattle.c_tree.specs.declared.unit.RawTop.TheVariants as top
use Rattle.c_tree.specs.declared.symbol.Symbol.{Symbol}
use Rattle.c_tree.specs.declared.symbol.Symbol.TheVariants as s
use Rattle.c_tree.specs.Grammar.Heights.{top_height, tops_height}
use Rattle.c_tree.specs.Grammar.SpelledExpressions.{Separated, TypeName}
use Rattle.c_tree.specs.Grammar.SpelledStatements.{Optional, absent, present, Declarator, Item}
use Rattle.c_tree.specs.Grammar.Spelling.{OuterDeclarator, outer_scalar, outer_array, Result, typed, nothing, Param, param, Params, no_params, void, params, Top, outer, global, function}
use Rattle.c_tree.specs.Tokens.Symbols.{Lexeme, spot}
use Rattle.parse_laws.specs.Parser.{first, sees, optional_word, type_name, is_type, begins_type, another, phrases}
use Rattle.parse_laws.specs.ReadExpr.{index_phrase, expr_phrase}
use Rattle.parse_laws.specs.ReadDecl.{declarator}
use Rattle.parse_laws.specs.ReadSimple.{begins_call}
use Rattle.parse_laws.specs.ReadStmt.{compound_phrase, statement}
use Rattle.parse_laws.specs.ReadUnit.{param as read_param, params as read_params, outer_declarator, outers, global as read_global, globals, function as read_function, variables_or_function, after_static, top_of}
use Rattle.parse_laws.specs.Same.{is_same_symbol}
use Rattle.parse_laws.proofs.Complete.CallComplete.{declarators_no, declarators_no_call, complete_declarators}
use Rattle.parse_laws.proofs.Complete.DeclComplete.{another_goes, another-stop, complete_index}
use Rattle.parse_laws.proofs.Tokens.Begins.{expr_shorter}
use Rattle.parse_laws.proofs.Reading.Lists.{separated_begins}
use Rattle.parse_laws.proofs.Reading.Phrases.{most, complete_phrases}
use Rattle.parse_laws.proofs.Reading.Steps.{not_seen, sees-yes, sees-no, symbol_phrase-yes, expect-yes}
use Rattle.parse_laws.proofs.Complete.StmtComplete.{complete_statements}
use Rattle.parse_laws.proofs.Tokens.StmtFollows.{Closes, closes-by, closes-no, call-yes}
use Rattle.parse_laws.proofs.Complete.StmtSteps.{compound_phrase-yes}
use Rattle.parse_laws.proofs.Tokens.Types.{type_shorter, type_begins, type_no, type_yes, optional_yes}

-- ---- parameters

param-yes : {ts rest : List Lexeme} {p : RawParam} → Param ts p rest → read_param ts ≡ Ok (p, rest)
unfolding read_param
param-yes (param {x = x} {rest = rest} y h) = rw (type_yes y (sees-no s.Int s.Name x rest h refl), symbol_phrase-yes s.Name spot x rest h) refl

pub param_shorter : (ts u : List Lexeme) (p : RawParam) → Param ts p u → length u < length ts
param_shorter _ _ _ (param y h) = omega (arith, type_shorter y)

params_no : (m : Symbol) → is_type (Some m) ≡ false → {ts rest : List Lexeme} {list : List RawParam} → Separated Param ts list rest → sees m ts ≡ false
params_no m never d = separated_begins (λ ts. sees m ts ≡ false) first_no d
  where
    first_no : (ts u : List Lexeme) (p : RawParam) → Param ts p u → sees m ts ≡ false
    first_no _ _ _ (param y h) = type_no m never y

params-none : (ts : List Lexeme) → sees s.RightParen ts ≡ true → read_params ts ≡ Ok ([], ts)
unfolding read_params
params-none ts h = rw h refl

params-void : (t : Lexeme) (ts : List Lexeme) → t.symbol ≡ s.Void → read_params (t ∷ ts) ≡ Ok ([], ts)
unfolding read_params
params-void t ts h = rw (sees-no s.RightParen s.Void t ts h refl, sees-yes s.Void t ts h, expect-yes s.Void t ts h) refl

params-some : (ts rest : List Lexeme) (ps : List RawParam) → sees s.RightParen ts ≡ false → sees s.Void ts ≡ false → phrases another read_param ts ≡ Ok (ps, rest) → read_params ts ≡ Ok (ps, rest)
unfolding read_params
params-some ts rest ps h i list = rw (h, i) list

params_low : (list : List RawParam) → most (λ p. 0) list ≤ 0
params_low [] = omega arith
params_low (p ∷ list) = omega (arith, params_low list)

complete_params : (c : Lexeme) {ts rest : List Lexeme} {ps : List RawParam} → Params ts ps (c ∷ rest) → c.symbol ≡ s.RightParen → read_params ts ≡ Ok (ps, c ∷ rest)
complete_params c {rest = rest} no_params k = params-none (c ∷ rest) (sees-yes s.RightParen c rest k)
complete_params c {rest = rest} (void {t = t} h) k = params-void t (c ∷ rest) h
complete_params c {ts} {rest} {ps} (params m) k =
    params-some ts (c ∷ rest) ps (params_no s.RightParen refl m) (params_no s.Void refl m)
    (complete_phrases Param (λ p. 0) 0 another read_param param_shorter (another_goes Param) (λ v w p d low end. param-yes d) m (params_low ps) (closes-by s.RightParen c rest k refl)
    (another-stop (c ∷ rest) (sees-no s.Comma s.RightParen c rest k refl)))

-- ---- declarations

pub most-tops : (xs : List RawTop) → most top_height xs ≡ tops_height xs
most-tops [] = refl
most-tops (x ∷ xs) = ap (λ (n : ℕ). max (top_height x) n) (most-tops xs)

pub outer_shorter : {constant : Bool} {to : Ty} (ts u : List Lexeme) (a : RawTop) → OuterDeclarator constant to ts a u → length u < length ts
outer_shorter _ _ _ (outer_scalar h) = omega arith
outer_shorter _ _ _ (outer_array h i d k) = omega (arith, expr_shorter d)

outers_no : (m : Symbol) → is_same_symbol s.Name m ≡ false → {constant : Bool} {to : Ty} {ts rest : List Lexeme} {list : List RawTop} → Separated (OuterDeclarator constant to) ts list rest → sees m ts ≡ false
outers_no m never d = separated_begins (λ ts. sees m ts ≡ false) first_no d
  where
    first_no : {constant : Bool} {to : Ty} (ts u : List Lexeme) (a : RawTop) → OuterDeclarator constant to ts a u → sees m ts ≡ false
    first_no _ _ _ (outer_scalar {x = x} {rest = rest} h) = sees-no m s.Name x rest h never
    first_no _ _ _ (outer_array {x = x} {b = b} {ts = ts} h i d k) = sees-no m s.Name x (b ∷ ts) h never

module _ (room : ℕ) where
  outer-scalar : (constant : Bool) (to : Ty) (x : Lexeme) (rest : List Lexeme) → x.symbol ≡ s.Name → sees s.LeftBracket rest ≡ false → outer_declarator room constant to (x ∷ rest) ≡ Ok (top.Outer constant to (spot x) None, rest)
  unfolding outer_declarator
  outer-scalar constant to x rest h i = rw (symbol_phrase-yes s.Name spot x rest h, i) refl

  outer-array : (constant : Bool) (to : Ty) (x : Lexeme) (ts rest : List Lexeme) (a : RawExpr) → x.symbol ≡ s.Name → sees s.LeftBracket ts ≡ true → index_phrase (expr_phrase room) ts ≡ Ok (a, rest)
      → outer_declarator room constant to (x ∷ ts) ≡ Ok (top.Outer constant to (spot x) (Some a), rest)
  unfolding outer_declarator
  outer-array constant to x ts rest a h i read = rw (symbol_phrase-yes s.Name spot x ts h, i, read) refl

  complete_outer : (constant : Bool) (to : Ty) (ts u : List Lexeme) (a : RawTop) → OuterDeclarator constant to ts a u → top_height a ≤ room → Closes u → outer_declarator room constant to ts ≡ Ok (a, u)
  complete_outer constant to _ _ _ (outer_scalar {x = x} {rest = rest} h) low end = outer-scalar constant to x rest h (closes-no s.LeftBracket refl end)
  complete_outer constant to _ _ _ (outer_array {x = x} {b = b} {ts = ts} {rest = rest} {a = a} h i d k) low end =
      outer-array constant to x (b ∷ ts) rest a h (sees-yes s.LeftBracket b ts i) (complete_index room b i d k low)

  outers-yes : (t c : Lexeme) (constant : Bool) (to : Ty) (ts u v rest : List Lexeme) (xs : List RawTop) → t.symbol ≡ s.Extern → optional_word s.Const ts ≡ Ok (constant, u) → type_name u ≡ Ok (to, v)
      → phrases another (outer_declarator room constant to) v ≡ Ok (xs, c ∷ rest) → c.symbol ≡ s.Semicolon → outers room (t ∷ ts) ≡ Ok (xs, rest)
  unfolding outers
  outers-yes t c constant to ts u v rest xs h o y read k = rw (expect-yes s.Extern t ts h, o, y, read, expect-yes s.Semicolon c rest k) refl

  globals-yes : (kept constant : Bool) (to : Ty) (c : Lexeme) (ts rest : List Lexeme) (xs : List RawTop) → phrases another (declarator room (top.Global kept constant to)) ts ≡ Ok (xs, c ∷ rest) → c.symbol ≡ s.Semicolon
      → globals room kept constant to ts ≡ Ok (xs, rest)
  unfolding globals read_global
  globals-yes kept constant to c ts rest xs read k = rw (read, expect-yes s.Semicolon c rest k) refl

  complete_globals : (kept constant : Bool) (to : Ty) {c : Lexeme} {ts rest : List Lexeme} {xs : List RawTop} → Separated (Declarator (top.Global kept constant to)) ts xs (c ∷ rest) → c.symbol ≡ s.Semicolon → tops_height xs ≤ room
      → globals room kept constant to ts ≡ Ok (xs, rest)
  complete_globals kept constant to {c} {ts} {rest} {xs} m k low =
      globals-yes kept constant to c ts rest xs (complete_declarators (top.Global kept constant to) room top_height room (λ x form l. l) m k (omega (arith, most-tops xs))) k

  -- ---- functions

  function-yes : (kept : Bool) (result : Option Ty) (x p c : Lexeme) (ts u rest : List Lexeme) (ps : List RawParam) (xs : List RawStmt) → x.symbol ≡ s.Name → p.symbol ≡ s.LeftParen → read_params ts ≡ Ok (ps, c ∷ u)
      → c.symbol ≡ s.RightParen → compound_phrase (statement room Item) u ≡ Ok (xs, rest)
      → read_function room kept result (x ∷ p ∷ ts) ≡ Ok (top.Func (record { kept = kept; result = result; spot = spot x; params = ps; body = xs }) ∷ [], rest)
  unfolding read_function
  function-yes kept result x p c ts u rest ps xs h i read k body = rw (symbol_phrase-yes s.Name spot x (p ∷ ts) h, expect-yes s.LeftParen p ts i, read, expect-yes s.RightParen c u k, body) refl

  function-after_type : (kept : Bool) (to : Ty) (ts u rest : List Lexeme) (xs : List RawTop) → type_name ts ≡ Ok (to, u) → begins_call u ≡ true → read_function room kept (Some to) u ≡ Ok (xs, rest) → variables_or_function room kept ts ≡ Ok (xs, rest)
  unfolding variables_or_function
  function-after_type kept to ts u rest xs y h read = rw (y, h) read

  globals-after_type : (kept : Bool) (to : Ty) (ts u rest : List Lexeme) (xs : List RawTop) → type_name ts ≡ Ok (to, u) → begins_call u ≡ false → globals room kept false to u ≡ Ok (xs, rest) → variables_or_function room kept ts ≡ Ok (xs, rest)
  unfolding variables_or_function
  globals-after_type kept to ts u rest xs y h read = rw (y, h) read

  after_static-const : (kept : Bool) (to : Ty) (t : Lexeme) (ts u rest : List Lexeme) (xs : List RawTop) → t.symbol ≡ s.Const → type_name ts ≡ Ok (to, u) → globals room kept true to u ≡ Ok (xs, rest) → after_static room kept (t ∷ ts) ≡ Ok (xs, rest)
  unfolding after_static
  after_static-const kept to t ts u rest xs h y read = rw (sees-yes s.Const t ts h, expect-yes s.Const t ts h, y) read

  after_static-void : (kept : Bool) (t : Lexeme) (ts rest : List Lexeme) (xs : List RawTop) → t.symbol ≡ s.Void → read_function room kept None ts ≡ Ok (xs, rest) → after_static room kept (t ∷ ts) ≡ Ok (xs, rest)
  unfolding after_static
  after_static-void kept t ts rest xs h read = rw (sees-no s.Const s.Void t ts h refl, sees-yes s.Void t ts h, expect-yes s.Void t ts h) read

  after_static-typed : (kept : Bool) (ts rest : List Lexeme) (xs : List RawTop) → sees s.Const ts ≡ false → sees s.Void ts ≡ false → variables_or_function room kept ts ≡ Ok (xs, rest) → after_static room kept ts ≡ Ok (xs, rest)
  unfolding after_static
  after_static-typed kept ts rest xs h i read = rw (h, i) read

  top-extern : (t : Lexeme) (ts rest : List Lexeme) (xs : List RawTop) → t.symbol ≡ s.Extern → outers room (t ∷ ts) ≡ Ok (xs, rest) → top_of room (t ∷ ts) ≡ Ok (xs, rest)
  unfolding top_of
  top-extern t ts rest xs h read = rw (sees-yes s.Extern t ts h) read

  top-after_static : (kept : Bool) (ts u rest : List Lexeme) (xs : List RawTop) → sees s.Extern ts ≡ false → optional_word s.Static ts ≡ Ok (kept, u) → after_static room kept u ≡ Ok (xs, rest) → top_of room ts ≡ Ok (xs, rest)
  unfolding top_of
  top-after_static kept ts u rest xs h o read = rw (h, o) read

-- ---- how what follows `static` begins

abbrev begins_after_static : Option Symbol → Bool
begins_after_static (Some s.Const) = true
begins_after_static (Some s.Void) = true
begins_after_static x = is_type x

type_starts : {ts rest : List Lexeme} {to : Ty} → TypeName ts to rest → begins_after_static (first ts) ≡ true
unfolding begins_type
type_starts {ts} y = by_symbol (first ts) (type_begins y)
  where
    by_symbol : (x : Option Symbol) → is_type x ≡ true → begins_after_static x ≡ true
    by_symbol (Some s.Const) h = refl
    by_symbol (Some s.Void) h = refl
    by_symbol _ h = h

constant_starts : {ts u rest : List Lexeme} {b : Bool} {to : Ty} → Optional s.Const ts b u → TypeName u to rest → begins_after_static (first ts) ≡ true
constant_starts absent y = type_starts y
constant_starts (present h) y = rw h refl

result_starts : {ts rest : List Lexeme} {result : Option Ty} → Result ts result rest → begins_after_static (first ts) ≡ true
result_starts (typed y) = type_starts y
result_starts (nothing h) = rw h refl

static_no : (m : Symbol) → is_same_symbol s.Static m ≡ false → begins_after_static (Some m) ≡ false → {ts u : List Lexeme} {b : Bool} → Optional s.Static ts b u → begins_after_static (first u) ≡ true → sees m ts ≡ false
static_no m never never_begins {ts} absent h = not_seen begins_after_static m ts never_begins h
static_no m never never_begins (present {t = t} {rest = rest} i) h = sees-no m s.Static t rest i never

-- ---- a declaration or a function

module _ (room : ℕ) where
  after_static_globals : {kept constant : Bool} {to : Ty} {c : Lexeme} {ts u v rest : List Lexeme} {xs : List RawTop} → Optional s.Const ts constant u → TypeName u to v → Separated (Declarator (top.Global kept constant to)) v xs (c ∷ rest)
      → c.symbol ≡ s.Semicolon → tops_height xs ≤ room → after_static room kept ts ≡ Ok (xs, rest)
  after_static_globals {kept} {to = to} {c = c} {ts} {v = v} {rest = rest} {xs = xs} absent y m k low =
      after_static-typed room kept ts rest xs (type_no s.Const refl y) (type_no s.Void refl y)
      (globals-after_type room kept to ts v rest xs (type_yes y (declarators_no (top.Global kept false to) s.Int refl m)) (declarators_no_call (top.Global kept false to) m (closes-by s.Semicolon c rest k refl))
      (complete_globals room kept false to m k low))
  after_static_globals {kept} {to = to} {c = c} {v = v} {rest = rest} {xs = xs} (present {t = t} {rest = us} h) y m k low =
      after_static-const room kept to t us v rest xs h (type_yes y (declarators_no (top.Global kept true to) s.Int refl m)) (complete_globals room kept true to m k low)

  after_static_function : (kept : Bool) {result : Option Ty} {x p : Lexeme} {ts v rest : List Lexeme} {xs : List RawTop} → Result ts result (x ∷ p ∷ v) → x.symbol ≡ s.Name → p.symbol ≡ s.LeftParen → read_function room kept result (x ∷ p ∷ v) ≡ Ok (xs, rest)
      → after_static room kept ts ≡ Ok (xs, rest)
  after_static_function kept {x = x} {p = p} {ts} {v} {rest} {xs} (typed {to = to} y) h i read =
      after_static-typed room kept ts rest xs (type_no s.Const refl y) (type_no s.Void refl y)
      (function-after_type room kept to ts (x ∷ p ∷ v) rest xs (type_yes y (sees-no s.Int s.Name x (p ∷ v) h refl)) (call-yes x p v h i) read)
  after_static_function kept {x = x} {p = p} {v = v} {rest = rest} {xs = xs} (nothing {t = t} h2) h i read = after_static-void room kept t (x ∷ p ∷ v) rest xs h2 read

  pub complete_top : {ts rest : List Lexeme} {xs : List RawTop} → Top ts xs rest → tops_height xs ≤ room → top_of room ts ≡ Ok (xs, rest)
  complete_top (outer {t = t} {c = c} {constant = constant} {to = to} {ts = ts} {u = u} {v = v} {rest = rest} {xs = xs} h o y m k) low =
      top-extern room t ts rest xs h (outers-yes room t c constant to ts u v rest xs h (optional_yes o (type_no s.Const refl y)) (type_yes y (outers_no s.Int refl m))
      (complete_phrases (OuterDeclarator constant to) top_height room another (outer_declarator room constant to) outer_shorter (another_goes (OuterDeclarator constant to)) (complete_outer room constant to)
      m (omega (arith, most-tops xs)) (closes-by s.Semicolon c rest k refl) (another-stop (c ∷ rest) (sees-no s.Comma s.Semicolon c rest k refl))) k)
  complete_top (global {kept = kept} {ts = ts} {u = u} {rest = rest} {xs = xs} o q y m k) low =
      let starts = constant_starts q y in
      top-after_static room kept ts u rest xs (static_no s.Extern refl refl o starts) (optional_yes o (not_seen begins_after_static s.Static u refl starts)) (after_static_globals q y m k low)
  complete_top (function {x = x} {p = p} {c = c} {b = b} {d = d} {kept = kept} {result = result} {ts = ts} {u = u} {v = v} {w = w} {rest = rest} {list = list} {xs = xs} o r h i ps k l m z) low =
      let starts = result_starts r in
      let body = compound_phrase-yes (statement room Item) b d w rest xs l (complete_statements m room (length w) (omega arith) (omega arith) (sees-yes s.RightBrace d rest z)) z in
      top-after_static room kept ts u rest _ (static_no s.Extern refl refl o starts) (optional_yes o (not_seen begins_after_static s.Static u refl starts))
      (after_static_function kept r h i (function-yes room kept result x p c v (b ∷ w) rest list xs h i (complete_params c ps k) k body))
