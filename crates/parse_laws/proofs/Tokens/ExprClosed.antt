-- Expressions before a mark with which none goes on: what is spelled is read, and what is read is spelled.
use Rattle.std.proofs.Common.{◌≡◌, ℕ, ◌≤◌, true, List, Option, Some, Ok, refl, arith}
use Rattle.c_tree.specs.declared.unit.RawExpr.{RawExpr}
use Rattle.c_tree.specs.declared.symbol.Symbol.{Symbol}
use Rattle.c_tree.specs.declared.symbol.Symbol.TheVariants as s
use Rattle.c_tree.specs.Grammar.Heights.{height}
use Rattle.c_tree.specs.Grammar.SpelledExpressions.{Expression}
use Rattle.c_tree.specs.Tokens.Symbols.{Lexeme}
use Rattle.parse_laws.specs.Going.{next_for, next_seen}
use Rattle.parse_laws.specs.Parser.{first}
use Rattle.parse_laws.specs.ReadExpr.{expr_phrase}
use Rattle.parse_laws.proofs.Complete.ExprComplete.{expr_read}
use Rattle.parse_laws.proofs.Sound.ExprSound.{IsRead, sound}
use Rattle.parse_laws.proofs.Tokens.Follows.{strength, Ends}
use Rattle.parse_laws.proofs.Reading.Phrases.{IsPhrase}
use Rattle.parse_laws.proofs.Reading.Steps.{Sound, weaken}
use Rattle.parse_laws.proofs.Tokens.StmtFollows.{is_close, Closes, closes-no}

loose : (x : Option Symbol) → is_close x ≡ true → strength (next_for x) ≤ 0
loose (Some s.Question) h = cc
loose (Some (s.Operator o)) h = cc
loose _ h = omega arith

closes_ends : {ts : List Lexeme} → Closes ts → Ends 0 ts
unfolding next_seen
closes_ends {ts} c = record { loose = loose (first ts) c.mark; apart = closes-no s.LeftBracket refl c }

pub expr_closed : {ts rest : List Lexeme} {a : RawExpr} (room : ℕ) → Expression 0 ts a rest → Closes rest → height a ≤ room → expr_phrase room 0 ts ≡ Ok (a, rest)
expr_closed room d end low = expr_read room d (closes_ends end) low

pub expr_sound : (room : ℕ) (ts : List Lexeme) → Sound (IsPhrase (Expression 0) height room ts) (expr_phrase room 0 ts)
expr_sound room ts = weaken (IsRead room 0 ts) (IsPhrase (Expression 0) height room ts) (expr_phrase room 0 ts) (sound room 0 (omega arith) ts) (λ a u d. record { spells = d.spells; low = d.low })
