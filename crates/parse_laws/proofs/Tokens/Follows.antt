-- What may follow an expression.
use Rattle.std.proofs.Common.{◌≡◌, ℕ, suc, ◌<◌, ◌≤◌, false, List, ◌∷◌, Some, refl, ap, arith}
use Rattle.std.proofs.lemmas.Bool.{lt-leb, leb-false}
use Rattle.std.proofs.lemmas.Bool.Decides.{nat_tests}
use Rattle.c_tree.specs.declared.symbol.Symbol.{Symbol}
use Rattle.c_tree.specs.declared.symbol.Symbol.TheVariants as s
use Rattle.c_tree.specs.declared.tree.BinOp.{BinOp}
use Rattle.c_tree.specs.declared.tree.BinOp.TheVariants as op
use Rattle.c_tree.specs.Grammar.SpelledExpressions.{level}
use Rattle.c_tree.specs.Tokens.Symbols.{Lexeme}
use Rattle.parse_laws.specs.declared.going.Next.{Next}
use Rattle.parse_laws.specs.declared.going.Next.TheVariants.{Stop, Ask, By}
use Rattle.parse_laws.specs.Going.{next_for, next_seen, binds}
use Rattle.parse_laws.specs.Parser.{sees}
use Rattle.parse_laws.specs.Same.{is_same_symbol}
use Rattle.parse_laws.proofs.Reading.Steps.{sees-no}

-- how tightly the next token binds what stands before it: a `?` more than nothing, and no more than any operator
abbrev pub strength : Next → ℕ
strength Stop = 0
strength Ask = 1
strength (By o) = level o

-- no rule of a level above n goes on with the token that follows, and it is no `[`, with which a name would go on
pub record Ends (n : ℕ) (rest : List Lexeme) : Type 0 where
  pub loose : strength (next_seen rest) ≤ n
  pub apart : sees s.LeftBracket rest ≡ false

-- an expression of level n or above does not go on
abbrev pub Quiet : ℕ → Next → Type 0
Quiet n x = binds n x ≡ false

-- every binary operator stands between `?:` and the unary ones
pub level-pos : (o : BinOp) → 0 < level o
level-pos op.Mul = omega arith
level-pos op.Div = omega arith
level-pos op.Rem = omega arith
level-pos op.Add = omega arith
level-pos op.Sub = omega arith
level-pos op.Shl = omega arith
level-pos op.Shr = omega arith
level-pos op.Lt = omega arith
level-pos op.Gt = omega arith
level-pos op.Le = omega arith
level-pos op.Ge = omega arith
level-pos op.Eq = omega arith
level-pos op.Ne = omega arith
level-pos op.And = omega arith
level-pos op.Xor = omega arith
level-pos op.Or = omega arith
level-pos op.Both = omega arith
level-pos op.Either = omega arith

pub level-below : (o : BinOp) → level o < 11
level-below op.Mul = omega arith
level-below op.Div = omega arith
level-below op.Rem = omega arith
level-below op.Add = omega arith
level-below op.Sub = omega arith
level-below op.Shl = omega arith
level-below op.Shr = omega arith
level-below op.Lt = omega arith
level-below op.Gt = omega arith
level-below op.Le = omega arith
level-below op.Ge = omega arith
level-below op.Eq = omega arith
level-below op.Ne = omega arith
level-below op.And = omega arith
level-below op.Xor = omega arith
level-below op.Or = omega arith
level-below op.Both = omega arith
level-below op.Either = omega arith

pub strength-below : (x : Next) → strength x ≤ 11
strength-below Stop = omega arith
strength-below Ask = omega arith
strength-below (By o) = omega (arith, level-below o)

quiet_ask : (m : ℕ) → 0 < m → Quiet m Ask
quiet_ask m h = grind (arith, nat_tests)

pub quiet_from : (n m : ℕ) (x : Next) → strength x ≤ n → n < m → Quiet m x
quiet_from n m Stop h l = refl
quiet_from n m Ask h l = quiet_ask m (omega arith)
quiet_from n m (By o) h l = lt-leb m (level o) (omega arith)

-- where nothing binds, every level is quiet
pub quiet_at : (m : ℕ) (x : Next) → strength x ≤ 0 → Quiet m x
quiet_at m Stop h = refl
quiet_at m Ask h = absurd (omega arith)
quiet_at m (By o) h = absurd (omega (arith, level-pos o))

-- the operand of a unary operator does not go on
pub quiet_unary : (x : Next) → Quiet 11 x
quiet_unary Stop = refl
quiet_unary Ask = quiet_ask 11 (omega arith)
quiet_unary (By o) = lt-leb 11 (level o) (level-below o)

-- what is quiet above an operator's level binds no tighter than the operator
pub quiet-strength : (o : BinOp) (x : Next) → Quiet (suc (level o)) x → strength x ≤ level o
quiet-strength o Stop h = omega arith
quiet-strength o Ask h = omega (arith, level-pos o)
quiet-strength o (By p) h = omega (arith, leb-false (suc (level o)) (level p) h)

pub next_seen-by : (o : BinOp) (t : Lexeme) (ts : List Lexeme) → t.symbol ≡ s.Operator o → next_seen (t ∷ ts) ≡ By o
unfolding next_seen
next_seen-by o t ts h = ap (λ (x : Symbol). next_for (Some x)) h

pub next_seen-ask : (t : Lexeme) (ts : List Lexeme) → t.symbol ≡ s.Question → next_seen (t ∷ ts) ≡ Ask
unfolding next_seen
next_seen-ask t ts h = ap (λ (x : Symbol). next_for (Some x)) h

next_seen-is : (f : Symbol) (t : Lexeme) (ts : List Lexeme) → t.symbol ≡ f → next_seen (t ∷ ts) ≡ next_for (Some f)
unfolding next_seen
next_seen-is f t ts h = ap (λ (x : Symbol). next_for (Some x)) h

pub ends-symbol : (n : ℕ) (f : Symbol) (t : Lexeme) (ts : List Lexeme) → t.symbol ≡ f → strength (next_for (Some f)) ≤ n → is_same_symbol f s.LeftBracket ≡ false → Ends n (t ∷ ts)
ends-symbol n f t ts h l differs = record { loose = rw (next_seen-is f t ts h) l; apart = sees-no s.LeftBracket f t ts h differs }

pub ends-by : (o : BinOp) (t : Lexeme) (ts : List Lexeme) → t.symbol ≡ s.Operator o → Ends (level o) (t ∷ ts)
ends-by o t ts h = ends-symbol (level o) (s.Operator o) t ts h (omega arith) refl

pub ends-up : {n : ℕ} {ts : List Lexeme} → Ends n ts → Ends (suc n) ts
ends-up x = record { loose = omega arith; apart = x.apart }

-- ---- the other way round: a token with which an expression goes on

pub next_for-ask : (x : Symbol) → next_for (Some x) ≡ Ask → x ≡ s.Question
next_for-ask s.Question h = refl
next_for-ask (s.Operator p) h = cc
next_for-ask _ h = cc

pub next_for-by : (o : BinOp) (x : Symbol) → next_for (Some x) ≡ By o → x ≡ s.Operator o
next_for-by o s.Question h = cc
next_for-by o (s.Operator p) h = cc
next_for-by o _ h = cc
