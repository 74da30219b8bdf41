-- How far a token reaches.
use Rattle.std.specs.Prelude.{ℕ, ◌+◌, ◌==◌, Bool, ◌&&◌, ◌||◌, List, [], ◌∷◌, if◌then◌else◌}
use Rattle.std.specs.Str.{byte}
use Rattle.c_tree.specs.Tokens.Characters.{is_name_byte, is_sign, is_exponent}

-- a byte goes on the number whose last byte so far is `last`
unfoldable pub continues : ℕ → ℕ → Bool
continues last c = is_name_byte c || (c == byte ".") || (is_sign c && is_exponent last)

-- how many bytes at the front go on the number
unfoldable pub number_length : ℕ → List ℕ → ℕ
number_length last [] = 0
number_length last (c ∷ cs) = if continues last c then number_length c cs + 1 else 0
