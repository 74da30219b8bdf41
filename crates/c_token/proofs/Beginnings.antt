-- What the first bytes of a place tell of it.
use Rattle.std.proofs.Common.{◌≡◌, ℕ, zero, suc, Bool, true, false, ◌&&◌, ◌||◌, eqb, List, [], ◌∷◌, length, take, codes, refl, sym, ◌∙◌, ap, arith, eqb-true}
use Rattle.std.specs.Prelude.{bytes_eq}
use Rattle.std.specs.List.{list_all, after_last}
use Rattle.std.proofs.lemmas.Bool.Decides.{nat_tests}
use Rattle.c_tree.specs.Tokens.Characters.{begins, begins_with, is_blank, is_space_or_tab, is_line_feed, is_digit, is_nondigit}
use Rattle.c_tree.specs.Tokens.TokenKinds.{is_among, marks, is_name, is_number_run, could_be_token}
use Rattle.c_tree.specs.Tokens.Lexing.{opens_block_comment, opens_line_comment, opens_directive}
use Rattle.std.proofs.lemmas.Bool.{and_parts}
use Rattle.c_tree.proofs.FirstBytes.{marks_begin, is_among-front, digit_is_no_slash, begins_mark}

-- ---- texts that begin with given bytes

front_is : (first : ℕ) (front here : List ℕ) → begins_with here (first ∷ front) ≡ true → take 1 here ≡ first ∷ []
front_is first front [] e = cc
front_is first front (c ∷ cs) e =
    let same : first ≡ c = eqb-true first c (and_parts (eqb first c) (bytes_eq front (take (length front) cs)) e).0 in
    ap (λ (x : ℕ). x ∷ []) (sym same)

begins-take_one : (p : ℕ → Bool) (here : List ℕ) → begins p (take 1 here) ≡ begins p here
begins-take_one p [] = refl
begins-take_one p (c ∷ cs) = refl

pub front_fails : (p : ℕ → Bool) (first : ℕ) (front here : List ℕ) → begins_with here (first ∷ front) ≡ true → begins p here ≡ p first
front_fails p first front here e = sym (begins-take_one p here) ∙ ap (begins p) (front_is first front here e)

no_front : (first : ℕ) (front here : List ℕ) → begins (eqb first) here ≡ false → begins_with here (first ∷ front) ≡ false
no_front first front [] e = refl
no_front first front (c ∷ cs) e = rw e refl

pub not_both_comments : (here : List ℕ) → opens_line_comment here ≡ true → opens_block_comment here ≡ false
unfolding opens_line_comment opens_block_comment
not_both_comments [] e = cc
not_both_comments (c ∷ []) e = by_test (eqb 47 c) e
  where
    by_test : (b : Bool) → (b && false) ≡ true → (b && false) ≡ false
    by_test true h = cc
    by_test false h = refl
not_both_comments (c ∷ d ∷ cs) e =
    let parts = and_parts (eqb 47 c) (eqb 47 d && true) e in
    let second : 47 ≡ d = eqb-true 47 d (and_parts (eqb 47 d) true parts.1).0 in
    rw (parts.0, sym second) refl

-- ---- comments and lines of `#`

pub block_no_blank : (here : List ℕ) → opens_block_comment here ≡ true → begins is_blank here ≡ false
unfolding opens_block_comment is_blank
block_no_blank here e = front_fails is_blank 47 (42 ∷ []) here e

pub line_no_blank : (here : List ℕ) → opens_line_comment here ≡ true → begins is_blank here ≡ false
unfolding opens_line_comment is_blank
line_no_blank here e = front_fails is_blank 47 (47 ∷ []) here e

-- a `#` stands first
pub directive_begins : (before here : List ℕ) → opens_directive before here ≡ true → begins_with here (codes "#") ≡ true
unfolding opens_directive
directive_begins before here e = (and_parts (begins_with here (codes "#")) (list_all is_space_or_tab (after_last is_line_feed before)) e).0

pub record IsHash (here : List ℕ) : Type 0 where
  pub no_blank : begins is_blank here ≡ false
  pub no_block_comment : opens_block_comment here ≡ false
  pub no_line_comment : opens_line_comment here ≡ false

pub directive_is_hash : (before here : List ℕ) → opens_directive before here ≡ true → IsHash here
unfolding opens_block_comment opens_line_comment is_blank
directive_is_hash before here e =
    let hash = directive_begins before here e in
    let no_slash : begins (eqb 47) here ≡ false = front_fails (eqb 47) 35 [] here hash in
    record {
      no_blank = front_fails is_blank 35 [] here hash;
      no_block_comment = no_front 47 (42 ∷ []) here no_slash;
      no_line_comment = no_front 47 (47 ∷ []) here no_slash;
    }

-- ---- tokens

-- what a token begins with
unfoldable begins_token : ℕ → Bool
begins_token c = (is_nondigit c || is_digit c) || begins_mark c

or_true : (a b c : Bool) → (a ≡ true → c ≡ true) → (b ≡ true → c ≡ true) → (a || b) ≡ true → c ≡ true
or_true true b c f g e = f refl
or_true false b c f g e = g e

name_begins : (bytes : List ℕ) → is_name bytes ≡ true → begins begins_token bytes ≡ true
unfolding is_name begins_token
name_begins [] e = cc
name_begins (c ∷ cs) e = rw (and_parts (is_nondigit c) _ e).0 refl

number_begins : (bytes : List ℕ) → is_number_run bytes ≡ true → begins is_digit bytes ≡ true
unfolding is_number_run
number_begins [] e = cc
number_begins (c ∷ cs) e = (and_parts (is_digit c) _ e).0

begins_more : (p q : ℕ → Bool) (bytes : List ℕ) → ((c : ℕ) → p c ≡ true → q c ≡ true) → begins p bytes ≡ true → begins q bytes ≡ true
begins_more p q [] more e = cc
begins_more p q (c ∷ cs) more e = more c e

digit_begins : (c : ℕ) → is_digit c ≡ true → begins_token c ≡ true
unfolding begins_token
digit_begins c e = rw e (by_test (is_nondigit c))
  where
    by_test : (b : Bool) → ((b || true) || begins_mark c) ≡ true
    by_test true = refl
    by_test false = refl

mark_begins : (c : ℕ) → begins_mark c ≡ true → begins_token c ≡ true
unfolding begins_token
mark_begins c e = rw e (by_test (is_nondigit c || is_digit c))
  where
    by_test : (b : Bool) → (b || true) ≡ true
    by_test true = refl
    by_test false = refl

token_begins : (bytes : List ℕ) → could_be_token bytes ≡ true → begins begins_token bytes ≡ true
unfolding could_be_token
token_begins bytes e =
    or_true (is_name bytes || is_number_run bytes) (is_among marks bytes) (begins begins_token bytes)
    (or_true (is_name bytes) (is_number_run bytes) (begins begins_token bytes) (name_begins bytes) (λ h. begins_more is_digit begins_token bytes digit_begins (number_begins bytes h)))
    (λ h. begins_more begins_mark begins_token bytes mark_begins (is_among-front begins_mark marks bytes marks_begin h)) e

begins-take : (p : ℕ → Bool) (n : ℕ) (here : List ℕ) → begins p (take n here) ≡ true → begins p here ≡ true
begins-take p zero here e = cc
begins-take p (suc n) [] e = cc
begins-take p (suc n) (c ∷ cs) e = e

token_is_no_blank : (c : ℕ) → begins_token c ≡ true → is_blank c ≡ false
unfolding begins_token begins_mark is_nondigit is_digit is_blank
token_is_no_blank c e = grind (arith, nat_tests)

token_is_no_hash : (c : ℕ) → begins_token c ≡ true → eqb 35 c ≡ false
unfolding begins_token begins_mark is_nondigit is_digit is_blank
token_is_no_hash c e = grind (arith, nat_tests)

begins_less : (p q : ℕ → Bool) (bytes : List ℕ) → ((c : ℕ) → p c ≡ true → q c ≡ false) → begins p bytes ≡ true → begins q bytes ≡ false
begins_less p q [] less e = cc
begins_less p q (c ∷ cs) less e = less c e

pub lexeme_no_blank : (n : ℕ) (here : List ℕ) → could_be_token (take n here) ≡ true → begins is_blank here ≡ false
lexeme_no_blank n here e = begins_less begins_token is_blank here token_is_no_blank (begins-take begins_token n here (token_begins (take n here) e))

pub lexeme_no_directive : (n : ℕ) (before here : List ℕ) → could_be_token (take n here) ≡ true → opens_directive before here ≡ false
unfolding opens_directive
lexeme_no_directive n before here e =
    let no_hash : begins (eqb 35) here ≡ false = begins_less begins_token (eqb 35) here token_is_no_hash (begins-take begins_token n here (token_begins (take n here) e)) in
    rw (no_front 35 [] here no_hash) refl

number_no_slash : (n : ℕ) (here : List ℕ) → is_number_run (take n here) ≡ true → begins (eqb 47) here ≡ false
number_no_slash n here e = begins_less is_digit (eqb 47) here digit_is_no_slash (begins-take is_digit n here (number_begins (take n here) e))

pub number_no_block_comment : (n : ℕ) (here : List ℕ) → is_number_run (take n here) ≡ true → opens_block_comment here ≡ false
unfolding opens_block_comment
number_no_block_comment n here e = no_front 47 (42 ∷ []) here (number_no_slash n here e)

pub number_no_line_comment : (n : ℕ) (here : List ℕ) → is_number_run (take n here) ≡ true → opens_line_comment here ≡ false
unfolding opens_line_comment
number_no_line_comment n here e = no_front 47 (47 ∷ []) here (number_no_slash n here e)

-- `/` is a mark
slash_is_token : could_be_token (47 ∷ []) ≡ true
unfolding could_be_token is_name is_number_run marks is_nondigit is_digit
slash_is_token = refl

pub block_is_token : (here : List ℕ) → opens_block_comment here ≡ true → could_be_token (take 1 here) ≡ true
unfolding opens_block_comment
block_is_token here e = ap could_be_token (front_is 47 (42 ∷ []) here e) ∙ slash_is_token

pub line_is_token : (here : List ℕ) → opens_line_comment here ≡ true → could_be_token (take 1 here) ≡ true
unfolding opens_line_comment
line_is_token here e = ap could_be_token (front_is 47 (47 ∷ []) here e) ∙ slash_is_token
