-- How an expression goes on with the token after it.
use Rattle.std.specs.Prelude.{ℕ, ◌==◌, nat_le, Bool, false, List, Option, Some}
use Rattle.c_tree.specs.declared.symbol.Symbol.{Symbol}
use Rattle.c_tree.specs.declared.symbol.Symbol.TheVariants as s
use Rattle.c_tree.specs.Grammar.SpelledExpressions.{level}
use Rattle.c_tree.specs.Tokens.Symbols.{Lexeme}
use Rattle.parse_laws.specs.declared.going.Next.{Next}
use Rattle.parse_laws.specs.declared.going.Next.TheVariants.{Stop, Ask, By}
use Rattle.parse_laws.specs.Parser.{first}

abbrev pub next_for : Option Symbol → Next
next_for (Some s.Question) = Ask
next_for (Some (s.Operator o)) = By o
next_for _ = Stop

unfoldable pub next_seen : List Lexeme → Next
next_seen ts = next_for (first ts)

-- an expression of the level `least` or a tighter one goes on so
abbrev pub binds : ℕ → Next → Bool
binds least Stop = false
binds least Ask = least == 0
binds least (By o) = nat_le least (level o)
