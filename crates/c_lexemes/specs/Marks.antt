-- The first entry of a table that a text begins with.
use Rattle.std.specs.Prelude.{ℕ, List, [], ◌∷◌, length, Option, Some, None, if◌then◌else◌}
use Rattle.c_tree.specs.Tokens.Characters.{begins_with}
use Rattle.c_tree.specs.Tokens.TokenKinds.{marks}

-- the length of that entry
unfoldable pub first_length : List (List ℕ) → List ℕ → Option ℕ
first_length [] here = None
first_length (entry ∷ table) here = if begins_with here entry then Some (length entry) else first_length table here

-- the length of the mark that stands first
unfoldable pub mark_length : List ℕ → Option ℕ
mark_length here = first_length marks here
