-- Tokens in order lie within their text.
use Rattle.std.proofs.Common.{ℕ, zero, suc, ◌+◌, ◌<◌, ◌≤◌, List, [], ◌∷◌, length, get_or, arith}
use Rattle.std.specs.Prelude.{All}
use Rattle.c_tree.specs.declared.token.Token.{Token}
use Rattle.c_tree.specs.Tokens.Places.{AreInOrder}
use Rattle.c_parse.specs.Lexeme.{IsWithin}

-- so many tokens take as many bytes at least
in_order_long : (ts : List Token) (from to : ℕ) → AreInOrder from ts to → from + length ts ≤ to
in_order_long [] from to h = omega (arith, h)
in_order_long (t ∷ ts) from to h = omega (arith, h.0, h.1, in_order_long ts t.to to h.2)

within_at : (text : List ℕ) (ts : List Token) (from : ℕ) → AreInOrder from ts (length text) → (k : ℕ) (d : Token) → k < length ts → IsWithin text (get_or ts k d)
within_at text [] from h k d inside = absurd (omega arith)
within_at text (t ∷ ts) from h zero d inside = record { forward = omega (arith, h.1); inside = omega (arith, in_order_long ts t.to (length text) h.2) }
within_at text (t ∷ ts) from h (suc k) d inside = within_at text ts t.to h.2 k d (omega arith)

pub in_order_within : (text : List ℕ) (ts : List Token) → AreInOrder 0 ts (length text) → All (IsWithin text) ts
in_order_within text ts h = within_at text ts 0 h
