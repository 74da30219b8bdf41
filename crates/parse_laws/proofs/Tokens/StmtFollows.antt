-- What may follow a phrase, and whether a call comes next.
use Rattle.std.proofs.Common.{◌≡◌, ℕ, Bool, true, false, List, ◌∷◌, Option, Some, refl}
use Rattle.std.specs.Prelude.{if◌then◌else◌}
use Rattle.c_tree.specs.declared.unit.RawExpr.{RawExpr}
use Rattle.c_tree.specs.declared.symbol.Symbol.{Symbol}
use Rattle.c_tree.specs.declared.symbol.Symbol.TheVariants as s
use Rattle.c_tree.specs.Grammar.SpelledExpressions.{Expression}
use Rattle.c_tree.specs.Tokens.Symbols.{Lexeme}
use Rattle.parse_laws.specs.Parser.{first, sees, sees_second}
use Rattle.parse_laws.specs.ReadSimple.{begins_call, begins_call_into}
use Rattle.parse_laws.proofs.Tokens.Begins.{no_call}
use Rattle.parse_laws.proofs.Reading.Steps.{not_seen, sees-yes}

-- ---- a mark with which no phrase goes on

abbrev pub is_close : Option Symbol → Bool
is_close (Some s.Semicolon) = true
is_close (Some s.Comma) = true
is_close (Some s.RightParen) = true
is_close (Some s.RightBracket) = true
is_close (Some s.RightBrace) = true
is_close _ = false

pub record Closes (ts : List Lexeme) : Type 0 where
  pub mark : is_close (first ts) ≡ true

pub closes-by : (m : Symbol) (c : Lexeme) (rest : List Lexeme) → c.symbol ≡ m → is_close (Some m) ≡ true → Closes (c ∷ rest)
closes-by m c rest h is = record { mark = rw h is }

pub closes-no : (m : Symbol) → is_close (Some m) ≡ false → {ts : List Lexeme} → Closes ts → sees m ts ≡ false
closes-no m never {ts} c = not_seen is_close m ts never c.mark

-- ---- whether a call comes next

pub second-yes : (m : Symbol) (x t : Lexeme) (ts : List Lexeme) → t.symbol ≡ m → sees_second m (x ∷ t ∷ ts) ≡ true
unfolding sees_second sees
second-yes m x t ts h = sees-yes m t ts h

pub second-no : (m : Symbol) (x : Lexeme) (ts : List Lexeme) → sees m ts ≡ false → sees_second m (x ∷ ts) ≡ false
unfolding sees_second sees
second-no m x ts h = h

pub call-yes : (f p : Lexeme) (ts : List Lexeme) → f.symbol ≡ s.Name → p.symbol ≡ s.LeftParen → begins_call (f ∷ p ∷ ts) ≡ true
unfolding begins_call
call-yes f p ts h i = rw (sees-yes s.Name f (p ∷ ts) h) (second-yes s.LeftParen f p ts i)

pub call-no_name : (ts : List Lexeme) → sees s.Name ts ≡ false → begins_call ts ≡ false
unfolding begins_call
call-no_name ts h = rw h refl

either_false : (b c : Bool) → c ≡ false → (if b then c else false) ≡ false
either_false true c h = h
either_false false c h = refl

pub call-no_paren : (x : Lexeme) (ts : List Lexeme) → sees s.LeftParen ts ≡ false → begins_call (x ∷ ts) ≡ false
unfolding begins_call
call-no_paren x ts h = either_false (sees s.Name (x ∷ ts)) _ (second-no s.LeftParen x ts h)

pub into-yes : (x q : Lexeme) (ts : List Lexeme) → x.symbol ≡ s.Name → q.symbol ≡ s.Assign → begins_call ts ≡ true → begins_call_into (x ∷ q ∷ ts) ≡ true
unfolding begins_call_into
into-yes x q ts h i c = rw (sees-yes s.Name x (q ∷ ts) h, second-yes s.Assign x q ts i) c

pub into-no_assign : (x : Lexeme) (ts : List Lexeme) → sees s.Assign ts ≡ false → begins_call_into (x ∷ ts) ≡ false
unfolding begins_call_into
into-no_assign x ts h = either_false (sees s.Name (x ∷ ts)) _ (rw (second-no s.Assign x ts h) refl)

pub into-no_call : (x q : Lexeme) (ts : List Lexeme) → begins_call ts ≡ false → begins_call_into (x ∷ q ∷ ts) ≡ false
unfolding begins_call_into
into-no_call x q ts h = either_false (sees s.Name (x ∷ q ∷ ts)) _ (either_false (sees_second s.Assign (x ∷ q ∷ ts)) _ h)

-- an expression is no call
pub expr_no_call : {n : ℕ} {ts rest : List Lexeme} {a : RawExpr} → Expression n ts a rest → sees s.LeftParen rest ≡ false → begins_call ts ≡ false
unfolding begins_call
expr_no_call {ts = ts} d h = by_test (sees s.Name ts) refl
  where
    by_test : (b : Bool) → sees s.Name ts ≡ b → (if b then sees_second s.LeftParen ts else false) ≡ false
    by_test true x = no_call d h x
    by_test false x = refl
