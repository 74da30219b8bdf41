-- How expressions begin, and that they take tokens.
use Rattle.std.proofs.Common.{◌≡◌, ℕ, ◌<◌, Bool, true, false, List, ◌∷◌, length, Option, Some, None, refl, sym, ap, ◌∙◌, arith}
use Rattle.c_tree.specs.declared.tree.UnOp.{UnOp}
use Rattle.c_tree.specs.declared.unit.RawExpr.{RawExpr}
use Rattle.c_tree.specs.declared.symbol.Symbol.{Symbol}
use Rattle.c_tree.specs.declared.symbol.Symbol.TheVariants as s
use Rattle.c_tree.specs.Grammar.SpelledExpressions.{unary_operator, Expression, tighter, conditional, binary, unary, cast, number, name, element, paren}
use Rattle.c_tree.specs.Tokens.Symbols.{Lexeme}
use Rattle.parse_laws.specs.Parser.{first, tail, sees, sees_second, is_type, begins_type}
use Rattle.parse_laws.proofs.Reading.Steps.{not_seen, sees-is, sees-no}
use Rattle.parse_laws.proofs.Tokens.Types.{type_shorter}

pub expr_shorter : {n : ℕ} {ts rest : List Lexeme} {a : RawExpr} → Expression n ts a rest → length rest < length ts
expr_shorter (tighter d) = expr_shorter d
expr_shorter (conditional d q e c f) = omega (arith, expr_shorter d, expr_shorter e, expr_shorter f)
expr_shorter (binary d i e) = omega (arith, expr_shorter d, expr_shorter e)
expr_shorter (unary i d) = omega (arith, expr_shorter d)
expr_shorter (cast i y k d) = omega (arith, type_shorter y, expr_shorter d)
expr_shorter (number i) = omega arith
expr_shorter (name i) = omega arith
expr_shorter (element i b d k) = omega (arith, expr_shorter d)
expr_shorter (paren i d k) = omega (arith, expr_shorter d)

-- ---- the first token

abbrev is_there : Option UnOp → Bool
is_there None = false
is_there (Some o) = true

-- a number, a name, a `(` or a unary operator
abbrev pub begins_expr : Option Symbol → Bool
begins_expr None = false
begins_expr (Some s.Number) = true
begins_expr (Some s.Name) = true
begins_expr (Some s.LeftParen) = true
begins_expr (Some x) = is_there (unary_operator x)

unary_begins : (o : UnOp) (x : Symbol) → unary_operator x ≡ Some o → begins_expr (Some x) ≡ true
unary_begins o s.Number h = refl
unary_begins o s.Name h = refl
unary_begins o s.LeftParen h = refl
unary_begins o x h = ap is_there h

begins-is : (m : Symbol) (t : Lexeme) (ts : List Lexeme) → t.symbol ≡ m → begins_expr (first (t ∷ ts)) ≡ begins_expr (Some m)
begins-is m t ts h = ap (λ (x : Symbol). begins_expr (Some x)) h

pub expr_begins : {n : ℕ} {ts rest : List Lexeme} {a : RawExpr} → Expression n ts a rest → begins_expr (first ts) ≡ true
expr_begins (tighter d) = expr_begins d
expr_begins (conditional d q e c f) = expr_begins d
expr_begins (binary d i e) = expr_begins d
expr_begins (unary {o = o} {t = t} i d) = unary_begins o t.symbol i
expr_begins (cast {t = t} {ts = ts} h y k d) = begins-is s.LeftParen t ts h
expr_begins (number {t = t} {rest = rest} h) = begins-is s.Number t rest h
expr_begins (name {x = x} {rest = rest} h) = begins-is s.Name x rest h
expr_begins (element {x = x} {b = b} {ts = ts} h i d k) = begins-is s.Name x (b ∷ ts) h
expr_begins (paren {t = t} {ts = ts} h d k) = begins-is s.LeftParen t ts h

-- an expression begins with no other symbol
pub expr_no : (m : Symbol) → begins_expr (Some m) ≡ false → {n : ℕ} {ts rest : List Lexeme} {a : RawExpr} → Expression n ts a rest → sees m ts ≡ false
expr_no m never {ts = ts} d = not_seen begins_expr m ts never (expr_begins d)

no_type : (x : Option Symbol) → begins_expr x ≡ true → is_type x ≡ false
no_type None h = cc
no_type (Some s.Int) h = cc
no_type (Some s.Signed) h = cc
no_type (Some s.Unsigned) h = cc
no_type _ h = refl

pub expr_no_type : {n : ℕ} {ts rest : List Lexeme} {a : RawExpr} → Expression n ts a rest → begins_type ts ≡ false
unfolding begins_type
expr_no_type {ts = ts} d = no_type (first ts) (expr_begins d)

-- ---- a name before a `(`

second_is : (m : Symbol) (t : Lexeme) (ts : List Lexeme) → sees_second m (t ∷ ts) ≡ true → sees m ts ≡ true
unfolding sees sees_second
second_is m t ts h = h

tail_sees : (m : Symbol) (ts : List Lexeme) → sees_second m ts ≡ true → sees m (tail ts) ≡ true
unfolding sees sees_second
tail_sees m ts h = h

-- a token that comes after the name is that `(`
other : {X : Type 0} (t : Lexeme) (ts u : List Lexeme) → sees_second s.LeftParen ts ≡ true → t ∷ u ≡ tail ts → sees s.LeftParen (t ∷ u) ≡ false → X
other t ts u p same differs = let yes : sees s.LeftParen (t ∷ u) ≡ true = ap (sees s.LeftParen) same ∙ tail_sees s.LeftParen ts p in let never : false ≡ true = sym differs ∙ yes in cc

-- an expression that begins with a name and a `(` leaves all from the `(` on
name_alone : {n : ℕ} {ts rest : List Lexeme} {a : RawExpr} → Expression n ts a rest → sees s.Name ts ≡ true → sees_second s.LeftParen ts ≡ true → rest ≡ tail ts
name_alone (tighter d) x p = name_alone d x p
name_alone (conditional {q = q} {ts = ts} {u = u} d i e c f) x p = other q ts u p (name_alone d x p) (sees-no s.LeftParen s.Question q u i refl)
name_alone (binary {o = o} {t = t} {ts = ts} {u = u} d i e) x p = other t ts u p (name_alone d x p) (sees-no s.LeftParen (s.Operator o) t u i refl)
name_alone (unary {o = o} {t = t} {ts = ts} i d) x p = let is = sees-is s.Name t ts x in let h : unary_operator s.Name ≡ Some o = ap unary_operator (sym is) ∙ i in cc
name_alone (cast {t = t} {ts = ts} h y k d) x p = let is = sym (sees-is s.Name t ts x) ∙ h in cc
name_alone (number {t = t} {rest = rest} h) x p = let is = sym (sees-is s.Name t rest x) ∙ h in cc
name_alone (name h) x p = refl
name_alone (element {x = y} {b = b} {ts = ts} h i d k) x p = let never = sees-no s.LeftParen s.LeftBracket b ts i refl in let yes = second_is s.LeftParen y (b ∷ ts) p in cc
name_alone (paren {t = t} {ts = ts} h d k) x p = let is = sym (sees-is s.Name t ts x) ∙ h in cc

-- so before what is no `(` none begins so
pub no_call : {n : ℕ} {ts rest : List Lexeme} {a : RawExpr} → Expression n ts a rest → sees s.LeftParen rest ≡ false → sees s.Name ts ≡ true → sees_second s.LeftParen ts ≡ false
no_call {ts = ts} {rest = rest} d h x = by_test (sees_second s.LeftParen ts) refl
  where
    by_test : (b : Bool) → sees_second s.LeftParen ts ≡ b → sees_second s.LeftParen ts ≡ false
    by_test false p = p
    by_test true p = let yes : sees s.LeftParen rest ≡ true = ap (sees s.LeftParen) (name_alone d x p) ∙ tail_sees s.LeftParen ts p in cc
