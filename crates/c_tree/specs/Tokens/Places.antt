-- Where the tokens of a text lie.
use Rattle.std.specs.Prelude.{ℕ, ◌<◌, ◌≤◌, List, [], ◌∷◌, length, slice_range}
use Rattle.c_tree.specs.declared.token.Token.{Token}
use Rattle.c_tree.specs.Tokens.Lexing.{Reaches}

-- the bytes of a token
abbrev pub spelling : List ℕ → Token → List ℕ
spelling text t = slice_range text t.from t.to

-- between two places lie these tokens, in order, disjoint, and none of them empty
abbrev pub AreInOrder : ℕ → List Token → ℕ → Type 0
AreInOrder from [] to = from ≤ to
AreInOrder from (t ∷ ts) to = (from ≤ t.from) × (t.from < t.to) × AreInOrder t.to ts to

-- from a place on, only separators stand before, between and behind the tokens
abbrev pub AreSeparated : List ℕ → ℕ → List Token → Type 0
AreSeparated text from [] = Reaches text (length text) from []
AreSeparated text from (t ∷ ts) = Reaches text t.from from [] × AreSeparated text t.to ts
