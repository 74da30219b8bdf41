-- Classes of bytes (C11 5.2.1).
use Rattle.std.specs.Prelude.{ℕ, ◌==◌, nat_eq, nat_le, Bool, false, ◌||◌, ◌&&◌, List, [], ◌∷◌}
use Rattle.std.specs.List.{starts_with}
use Rattle.std.specs.Char.{is_ascii_digit, is_ascii_alphabetic}
use Rattle.std.specs.Str.{byte}

-- there is a first byte, and it passes the test
abbrev pub begins : (ℕ → Bool) → List ℕ → Bool
begins p [] = false
begins p (c ∷ cs) = p c

-- these bytes stand first
abbrev pub begins_with : List ℕ → List ℕ → Bool
begins_with here front = starts_with nat_eq here front

-- space, or one of tab, line feed, vertical tab, form feed and carriage return (6.4 paragraph 3)
unfoldable pub is_blank : ℕ → Bool
is_blank c = (c == byte " ") || (nat_le 9 c && nat_le c 13)

unfoldable pub is_space_or_tab : ℕ → Bool
is_space_or_tab c = (c == byte " ") || (c == byte "\t")

unfoldable pub is_line_feed : ℕ → Bool
is_line_feed c = c == byte "\n"

unfoldable pub is_carriage_return : ℕ → Bool
is_carriage_return c = c == byte "\r"

unfoldable pub is_digit : ℕ → Bool
is_digit c = is_ascii_digit c

-- a letter or `_` (6.4.2.1)
unfoldable pub is_nondigit : ℕ → Bool
is_nondigit c = is_ascii_alphabetic c || (c == byte "_")

-- what a name may go on with
unfoldable pub is_name_byte : ℕ → Bool
is_name_byte c = is_nondigit c || is_digit c

-- `e`, `E`, `p` and `P`, behind which a sign belongs to a number (6.4.8)
unfoldable pub is_exponent : ℕ → Bool
is_exponent c = (c == byte "e") || (c == byte "E") || (c == byte "p") || (c == byte "P")

unfoldable pub is_sign : ℕ → Bool
is_sign c = (c == byte "+") || (c == byte "-")
