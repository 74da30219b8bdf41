-- Names, keywords, numbers and marks stand as tokens where what follows cannot extend them.
use Rattle.std.proofs.Common.{◌≡◌, ℕ, Bool, true, false, not, ◌&&◌, ◌||◌, eqb, List, [], ◌∷◌, ◌++◌, Some, refl, sym, ◌∙◌, arith}
use Rattle.std.specs.Prelude.{◌==◌, bytes_eq}
use Rattle.std.specs.List.{list_all}
use Rattle.std.proofs.lemmas.Bool.Decides.{nat_tests}
use Rattle.std.proofs.lemmas.Slice.Eq.{bytes_eq-Decides}
use Rattle.c_tree.specs.declared.token.Kind.{Kind}
use Rattle.c_tree.specs.Tokens.Characters.{begins, is_digit, is_nondigit, is_name_byte, is_sign}
use Rattle.c_tree.specs.Tokens.TokenKinds.{is_among, marks, is_name, is_number_run, continues_number, could_be_token, kind_of}
use Rattle.c_tree.specs.Tokens.Lexing.{opens_block_comment, opens_line_comment}
use Rattle.print_laws.proofs.Composing.Composed.{Stands}
use Rattle.std.proofs.lemmas.Bool.{and_parts, and_right}
use Rattle.plain_laws.proofs.Booleans.{or-false}
use Rattle.c_tree.proofs.FirstBytes.{token_nondigit, no_mark, digit_is_no_slash}

-- ---- the first byte

nondigit_is_no_slash : (c : ℕ) → is_nondigit c ≡ true → eqb 47 c ≡ false
unfolding is_nondigit
nondigit_is_no_slash c e = grind (arith, nat_tests)

digit_is_no_nondigit : (c : ℕ) → is_digit c ≡ true → is_nondigit c ≡ false
unfolding is_nondigit is_digit
digit_is_no_nondigit c e = grind (arith, nat_tests)

no_block : (c : ℕ) (cs : List ℕ) → eqb 47 c ≡ false → opens_block_comment (c ∷ cs) ≡ false
unfolding opens_block_comment
no_block c cs e = rw e refl

no_line : (c : ℕ) (cs : List ℕ) → eqb 47 c ≡ false → opens_line_comment (c ∷ cs) ≡ false
unfolding opens_line_comment
no_line c cs e = rw e refl

pub digit_in_name : (c : ℕ) → is_digit c ≡ true → is_name_byte c ≡ true
unfolding is_name_byte
digit_in_name c e = rw (digit_is_no_nondigit c e, e) refl

token_digit : (c : ℕ) (cs : List ℕ) → is_digit c ≡ true → could_be_token (c ∷ cs) ≡ continues_number c cs
unfolding could_be_token is_name is_number_run
token_digit c cs e = rw (digit_is_no_nondigit c e, e, no_mark c cs (digit_in_name c e)) (or-false (continues_number c cs))

-- ---- names and keywords

all_stop : (p : ℕ → Bool) (xs more : List ℕ) (c : ℕ) → p c ≡ false → list_all p (xs ++ c ∷ more) ≡ false
all_stop p [] more c out = rw out refl
all_stop p (x ∷ xs) more c out = and_right (p x) (list_all p (xs ++ c ∷ more)) (all_stop p xs more c out)

-- a name or a keyword before a byte that no name goes on with
pub word_stands : (d : ℕ) (ds : List ℕ) (kind : Kind) (c : ℕ) (after : List ℕ) → is_nondigit d ≡ true → list_all is_name_byte ds ≡ true → kind_of (d ∷ ds) ≡ Some kind → is_name_byte c ≡ false
    → Stands kind (d ∷ ds) (c ∷ after)
word_stands d ds kind c after first all is out = record {
  next = c;
  after = after;
  goes_on = refl;
  kind_is = is;
  could_be = token_nondigit d ds first ∙ all;
  stops = λ more. token_nondigit d (ds ++ c ∷ more) first ∙ all_stop is_name_byte ds more c out;
  no_block_comment = no_block d (ds ++ c ∷ after) (nondigit_is_no_slash d first);
  no_line_comment = no_line d (ds ++ c ∷ after) (nondigit_is_no_slash d first);
}

-- ---- numbers

-- no number goes on with the byte
pub record EndsNumber (c : ℕ) : Type 0 where
  pub no_name : is_name_byte c ≡ false
  pub no_dot : (c == 46) ≡ false
  pub no_sign : is_sign c ≡ false

pub number_goes_on : (last : ℕ) (xs : List ℕ) → list_all is_name_byte xs ≡ true → continues_number last xs ≡ true
unfolding continues_number
number_goes_on last [] all = refl
number_goes_on last (x ∷ xs) all =
    let parts = and_parts (is_name_byte x) (list_all is_name_byte xs) all in
    rw parts.0 (number_goes_on x xs parts.1)

number_stops : (last : ℕ) (xs more : List ℕ) (c : ℕ) → EndsNumber c → continues_number last (xs ++ c ∷ more) ≡ false
unfolding continues_number
number_stops last [] more c ends = rw (ends.no_name, ends.no_dot, ends.no_sign) refl
number_stops last (x ∷ xs) more c ends = and_right _ (continues_number x (xs ++ c ∷ more)) (number_stops x xs more c ends)

-- a run of digits and letters that begins with a digit, before a byte that no number goes on with
pub number_stands : (d : ℕ) (ds : List ℕ) (kind : Kind) (c : ℕ) (after : List ℕ) → is_digit d ≡ true → list_all is_name_byte ds ≡ true → kind_of (d ∷ ds) ≡ Some kind → EndsNumber c
    → Stands kind (d ∷ ds) (c ∷ after)
number_stands d ds kind c after first all is ends = record {
  next = c;
  after = after;
  goes_on = refl;
  kind_is = is;
  could_be = token_digit d ds first ∙ number_goes_on d ds all;
  stops = λ more. token_digit d (ds ++ c ∷ more) first ∙ number_stops d ds more c ends;
  no_block_comment = no_block d (ds ++ c ∷ after) (digit_is_no_slash d first);
  no_line_comment = no_line d (ds ++ c ∷ after) (digit_is_no_slash d first);
}
