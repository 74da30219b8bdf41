-- Reading statements and their parts, a height at a time.
use Rattle.std.proofs.Common.{◌≡◌, ℕ, zero, suc, ◌-◌, ◌<◌, true, false, List, [], ◌∷◌, length, Some, None, Ok, Err, refl, ap, arith}
use Rattle.std.specs.Prelude.{if◌then◌else◌}
use Rattle.c_tree.specs.declared.unit.RawPlace.TheVariants as place
use Rattle.c_tree.specs.declared.symbol.Symbol.{Symbol}
use Rattle.c_tree.specs.declared.symbol.Symbol.TheVariants as s
use Rattle.c_tree.specs.Grammar.SpelledStatements.{Plain, Body, Item}
use Rattle.c_tree.specs.Tokens.Symbols.{Lexeme}
use Rattle.parse_laws.specs.declared.fault.ReadingFault.TheVariants.{Depth}
use Rattle.parse_laws.specs.Parser.{and_then, first, head_lexeme, tail, sees, sees_second, name}
use Rattle.parse_laws.specs.ReadExpr.{index_phrase, expr_phrase}
use Rattle.parse_laws.specs.ReadSimple.{assigned_place, assignment, one_at}
use Rattle.parse_laws.specs.ReadStmt.{for_setup, initialiser, test, for_step, plain_phrase, as_body, as_item, statement}
use Rattle.parse_laws.proofs.Reading.Turns.{first-some}

pub second-some : (m : Symbol) (ts : List Lexeme) → sees_second m ts ≡ true → 1 < length ts
unfolding sees_second
second-some m [] h = cc
second-some m (t ∷ []) h = cc
second-some m (t ∷ u ∷ ts) h = omega arith

pub tail-some : (ts : List Lexeme) → 1 < length ts → 0 < length (tail ts)
tail-some [] h = omega arith
tail-some (t ∷ ts) h = omega arith

pub ruleset next_symbol = (first-some, second-some, tail-some)

-- ---- parts

pub assigned_place-zero : (room : ℕ) (ts : List Lexeme) → room ≡ 0 → assigned_place room ts ≡ Err (Depth (length ts))
unfolding assigned_place
assigned_place-zero zero ts h = refl
assigned_place-zero (suc r) ts h = absurd (omega arith)

pub assigned_place-pos : (room : ℕ) (ts : List Lexeme) → 0 < room
    → assigned_place room ts ≡ and_then (name ts) (λ x u. if sees s.LeftBracket u then and_then (index_phrase (expr_phrase (room - 1)) u) (λ a v. Ok (place.Elem x a, v)) else Ok (place.Scalar x, u))
unfolding assigned_place
assigned_place-pos zero ts h = absurd (omega arith)
assigned_place-pos (suc r) ts h =
    let e : r ≡ suc r - 1 = omega arith in
    ap (λ (i : ℕ). and_then (name ts) (λ x u. if sees s.LeftBracket u then and_then (index_phrase (expr_phrase i) u) (λ a v. Ok (place.Elem x a, v)) else Ok (place.Scalar x, u))) e

pub initialiser-none : (room : ℕ) (ts : List Lexeme) → sees s.Semicolon ts ≡ true → initialiser room ts ≡ Ok (None, ts)
unfolding initialiser
initialiser-none zero ts h = rw h refl
initialiser-none (suc r) ts h = rw h refl

pub initialiser-deep : (room : ℕ) (ts : List Lexeme) → sees s.Semicolon ts ≡ false → room ≡ 0 → initialiser room ts ≡ Err (Depth (length ts))
unfolding initialiser
initialiser-deep zero ts h e = rw h refl
initialiser-deep (suc r) ts h e = absurd (omega arith)

pub initialiser-some : (room : ℕ) (ts : List Lexeme) → sees s.Semicolon ts ≡ false → 0 < room → initialiser room ts ≡ and_then (for_setup (room - 1) ts) (λ x u. Ok (Some x, u))
unfolding initialiser
initialiser-some zero ts h e = absurd (omega arith)
initialiser-some (suc r) ts h e = let e : r ≡ suc r - 1 = omega arith in rw h (ap (λ (i : ℕ). and_then (for_setup i ts) (λ x u. Ok (Some x, u))) e)

pub test-zero : (room : ℕ) (ts : List Lexeme) → room ≡ 0 → test room ts ≡ Err (Depth (length ts))
unfolding test
test-zero zero ts h = refl
test-zero (suc r) ts h = absurd (omega arith)

pub test-none : (room : ℕ) (ts : List Lexeme) → 0 < room → sees s.Semicolon ts ≡ true → test room ts ≡ Ok (one_at (head_lexeme ts).at, ts)
unfolding test
test-none zero ts e h = absurd (omega arith)
test-none (suc r) ts e h = rw h refl

pub test-some : (room : ℕ) (ts : List Lexeme) → 0 < room → sees s.Semicolon ts ≡ false → test room ts ≡ expr_phrase room 0 ts
unfolding test
test-some zero ts e h = absurd (omega arith)
test-some (suc r) ts e h = rw h refl

pub for_step-none : (room : ℕ) (ts : List Lexeme) → sees s.RightParen ts ≡ true → for_step room ts ≡ Ok (None, ts)
unfolding for_step
for_step-none zero ts h = rw h refl
for_step-none (suc r) ts h = rw h refl

pub for_step-deep : (room : ℕ) (ts : List Lexeme) → sees s.RightParen ts ≡ false → room ≡ 0 → for_step room ts ≡ Err (Depth (length ts))
unfolding for_step
for_step-deep zero ts h e = rw h refl
for_step-deep (suc r) ts h e = absurd (omega arith)

pub for_step-some : (room : ℕ) (ts : List Lexeme) → sees s.RightParen ts ≡ false → 0 < room → for_step room ts ≡ and_then (assignment (room - 1) ts) (λ x u. Ok (Some x, u))
unfolding for_step
for_step-some zero ts h e = absurd (omega arith)
for_step-some (suc r) ts h e = let e : r ≡ suc r - 1 = omega arith in rw h (ap (λ (i : ℕ). and_then (assignment i ts) (λ x u. Ok (Some x, u))) e)

pub ruleset part_turns = (assigned_place-zero, assigned_place-pos, initialiser-none, initialiser-deep, initialiser-some, test-zero, test-none, test-some, for_step-none, for_step-deep, for_step-some)

-- ---- statements

pub plain_phrase-zero : (ts : List Lexeme) → statement 0 Plain ts ≡ Err (Depth (length ts))
unfolding statement
plain_phrase-zero ts = refl

pub item-zero : (ts : List Lexeme) → statement 0 Item ts ≡ Err (Depth (length ts))
unfolding statement
item-zero ts = refl

pub statement-plain : (room : ℕ) (ts : List Lexeme) → 0 < room → statement room Plain ts ≡ plain_phrase (room - 1) (statement (room - 1) Body) ts
unfolding statement
statement-plain zero ts h = absurd (omega arith)
statement-plain (suc r) ts h = let e : r ≡ suc r - 1 = omega arith in ap (λ (i : ℕ). plain_phrase i (statement i Body) ts) e

pub statement-item : (room : ℕ) (ts : List Lexeme) → 0 < room → statement room Item ts ≡ as_item (room - 1) (statement (room - 1) Item) (statement room Plain) ts
unfolding statement
statement-item zero ts h = absurd (omega arith)
statement-item (suc r) ts h = let e : r ≡ suc r - 1 = omega arith in ap (λ (i : ℕ). as_item i (statement i Item) (statement (suc r) Plain) ts) e

pub statement-body : (room : ℕ) (ts : List Lexeme) → statement room Body ts ≡ as_body (statement room Item) (statement room Plain) ts
unfolding statement
statement-body zero ts = refl
statement-body (suc r) ts = refl

pub ruleset stmt_turns = (plain_phrase-zero, item-zero, statement-plain, statement-item, statement-body)
