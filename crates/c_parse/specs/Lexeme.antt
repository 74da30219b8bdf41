-- Tokens within their text.
use Rattle.std.specs.Prelude.{ℕ, ◌≤◌, List, length}
use Rattle.c_tree.specs.declared.token.Token.{Token}

-- the token lies within the text
pub record IsWithin (text : List ℕ) (t : Token) : Type 0 where
  pub forward : t.from ≤ t.to
  pub inside : t.to ≤ length text
