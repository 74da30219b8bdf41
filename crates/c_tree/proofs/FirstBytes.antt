-- What the first byte of a token tells of it.
use Rattle.std.proofs.Common.{◌≡◌, ℕ, Bool, true, false, not, ◌&&◌, ◌||◌, eqb, List, [], ◌∷◌, refl, sym, arith}
use Rattle.std.specs.Prelude.{bytes_eq}
use Rattle.std.specs.List.{list_all}
use Rattle.std.proofs.lemmas.Bool.{and_parts}
use Rattle.std.proofs.lemmas.Bool.Decides.{nat_tests}
use Rattle.std.proofs.lemmas.Slice.Eq.{bytes_eq-Decides}
use Rattle.c_tree.specs.Tokens.Characters.{begins, is_blank, is_digit, is_nondigit, is_name_byte}
use Rattle.c_tree.specs.Tokens.TokenKinds.{is_among, marks, is_name, is_number_run, could_be_token}

pub nondigit_is_no_digit : (c : ℕ) → is_nondigit c ≡ true → is_digit c ≡ false
unfolding is_nondigit is_digit
nondigit_is_no_digit c e = grind (arith, nat_tests)

pub digit_is_no_slash : (c : ℕ) → is_digit c ≡ true → eqb 47 c ≡ false
unfolding is_digit
digit_is_no_slash c e = grind (arith, nat_tests)

-- an entry of a table each of whose entries begins so
pub is_among-front : (p : ℕ → Bool) (table : List (List ℕ)) (bytes : List ℕ) → list_all (begins p) table ≡ true → is_among table bytes ≡ true → begins p bytes ≡ true
is_among-front p [] bytes all among = cc
is_among-front p (entry ∷ table) bytes all among =
    let parts = and_parts (begins p entry) (list_all (begins p) table) all in
    by_test parts.0 (is_among-front p table bytes parts.1) (bytes_eq entry bytes) refl among
  where
    by_test : begins p entry ≡ true → (is_among table bytes ≡ true → begins p bytes ≡ true) → (b : Bool) → bytes_eq entry bytes ≡ b → (b || is_among table bytes) ≡ true → begins p bytes ≡ true
    by_test first ih true e h = rw (sym ((bytes_eq-Decides entry bytes).0 e)) first
    by_test first ih false e h = ih h

-- what a mark begins with
unfoldable pub begins_mark : ℕ → Bool
begins_mark c = not (is_nondigit c) && not (is_digit c) && not (is_blank c) && not (eqb c 35)

pub marks_begin : list_all (begins begins_mark) marks ≡ true
unfolding marks begins_mark is_nondigit is_digit is_blank
marks_begin = refl

mark_no_name : (c : ℕ) → begins_mark c ≡ true → (is_nondigit c ≡ false) × (is_digit c ≡ false)
unfolding begins_mark
mark_no_name c e = by_tests (is_nondigit c) (is_digit c) refl refl
  where
    by_tests : (a b : Bool) → is_nondigit c ≡ a → is_digit c ≡ b → (is_nondigit c ≡ false) × (is_digit c ≡ false)
    by_tests true b p q = let bad = rw p at e in cc
    by_tests false true p q = let bad = rw (p, q) at e in cc
    by_tests false false p q = (p, q)

pub mark_begins : (c : ℕ) (cs : List ℕ) → is_among marks (c ∷ cs) ≡ true → (is_nondigit c ≡ false) × (is_digit c ≡ false)
mark_begins c cs among = mark_no_name c (is_among-front begins_mark marks (c ∷ cs) marks_begin among)

pub no_mark : (c : ℕ) (cs : List ℕ) → is_name_byte c ≡ true → is_among marks (c ∷ cs) ≡ false
unfolding is_name_byte
no_mark c cs e = by_test (is_among marks (c ∷ cs)) refl
  where
    by_test : (b : Bool) → is_among marks (c ∷ cs) ≡ b → b ≡ false
    by_test true h = let parts = mark_begins c cs h in let bad = rw (parts.0, parts.1) at e in cc
    by_test false h = refl

pub nondigit_in_name : (c : ℕ) → is_nondigit c ≡ true → is_name_byte c ≡ true
unfolding is_name_byte
nondigit_in_name c e = rw e refl

-- what could be a token, by its first byte
pub token_nondigit : (c : ℕ) (cs : List ℕ) → is_nondigit c ≡ true → could_be_token (c ∷ cs) ≡ list_all is_name_byte cs
unfolding could_be_token is_name is_number_run
token_nondigit c cs e = rw (e, nondigit_is_no_digit c e, no_mark c cs (nondigit_in_name c e)) (or_twice (list_all is_name_byte cs))
  where
    or_twice : (a : Bool) → ((a || false) || false) ≡ a
    or_twice true = refl
    or_twice false = refl
