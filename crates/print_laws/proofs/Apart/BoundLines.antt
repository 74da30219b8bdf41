-- A printed line of a loop's bound is one.
use Rattle.std.proofs.Common.{◌≡◌, ℕ, suc, ◌+◌, ◌^◌, ◌<◌, ◌≤◌, Bool, true, false, not, cond, ◌&&◌, List, [], ◌∷◌, ◌++◌, length, take, drop, refl, sym, ◌∙◌, ap, arith, one-add, le-leb}
use Rattle.std.specs.Prelude.{codes, decimal}
use Rattle.std.specs.List.{list_all, prefix_len, position_or_len}
use Rattle.std.specs.Char.{digit_value}
use Rattle.std.specs.Str.Parse.{digits_value, AllDigits}
use Rattle.std.proofs.lemmas.Bool.Decides.{nat_tests}
use Rattle.std.proofs.lemmas.Fmt.{decimal_is_IsNumeral, length-decimal-le}
use Rattle.std.proofs.Math.Seq.{take-append_seam, take-length, drop-length}
use Rattle.c_tree.specs.Tokens.Characters.{is_space_or_tab, is_line_feed, is_digit, is_nondigit, is_name_byte}
use Rattle.c_tree.specs.Tokens.Lexing.{line_of, directive_of, after_spaces, word_of, after_word, is_pragma, is_loopbound, operand_of, operand_digits, operand_rest, is_line_end, is_bound_operand, is_bound_line}
use Rattle.print_laws.proofs.Composing.Composed.{Pragma, piece_text, IsBoundLine}
use Rattle.print_laws.proofs.Apart.StandingNumbers.{value_is_digit}

no_feed : (c : ℕ) → digit_value c < 10 → is_line_feed c ≡ false
unfolding is_line_feed
no_feed c small = grind (arith, nat_tests)

no_space : (c : ℕ) → digit_value c < 10 → is_space_or_tab c ≡ false
unfolding is_space_or_tab
no_space c small = grind (arith, nat_tests)

-- ---- the line

no_feeds : (ds : List ℕ) → AllDigits 10 ds → list_all (λ c. not (is_line_feed c)) ds ≡ true
no_feeds [] all = refl
no_feeds (d ∷ ds) all = rw (no_feed d all.0) (no_feeds ds all.1)

feed_at : (xs after : List ℕ) → list_all (λ c. not (is_line_feed c)) xs ≡ true → position_or_len is_line_feed (xs ++ 10 ∷ after) ≡ length xs
unfolding is_line_feed
feed_at [] after all = refl
feed_at (x ∷ xs) after all = by_test (λ h. feed_at xs after h) (is_line_feed x) refl all
  where
    by_test : (list_all (λ c. not (is_line_feed c)) xs ≡ true → position_or_len is_line_feed (xs ++ 10 ∷ after) ≡ length xs) → (b : Bool) → is_line_feed x ≡ b
        → (not b && list_all (λ c. not (is_line_feed c)) xs) ≡ true → cond (not b) (1 + position_or_len is_line_feed (xs ++ 10 ∷ after)) 0 ≡ suc (length xs)
    by_test ih true e h = cc
    by_test ih false e h = omega (arith, ih h)

line_is : (xs after : List ℕ) → list_all (λ c. not (is_line_feed c)) xs ≡ true → line_of (xs ++ 10 ∷ after) ≡ xs
unfolding line_of
line_is xs after all = ap (λ (n : ℕ). take n (xs ++ 10 ∷ after)) (feed_at xs after all) ∙ take-append_seam xs (10 ∷ after)

-- ---- the operand

all_of : (ds : List ℕ) → AllDigits 10 ds → prefix_len is_digit ds ≡ length ds
all_of [] all = refl
all_of (d ∷ ds) all = rw (value_is_digit d all.0, one-add) (ap suc (all_of ds all.1))

digits_are : (ds : List ℕ) → AllDigits 10 ds → operand_digits ds ≡ ds
unfolding operand_digits
digits_are ds all = ap (λ (n : ℕ). take n ds) (all_of ds all) ∙ take-length ds

rest_is : (ds : List ℕ) → AllDigits 10 ds → operand_rest ds ≡ []
unfolding operand_rest
rest_is ds all = ap (λ (n : ℕ). drop n ds) (all_of ds all) ∙ drop-length ds

operand_is : (ds : List ℕ) → AllDigits 10 ds → 0 < length ds → operand_of (codes "pragma loopbound " ++ ds) ≡ ds
unfolding operand_of after_word after_spaces is_space_or_tab is_name_byte is_nondigit is_digit
operand_is [] all some = absurd (omega (arith, some))
operand_is (d ∷ ds) all some = rw (no_space_here) refl
  where
    no_space_here : is_space_or_tab d ≡ false
    no_space_here = no_space d all.0

loopbound_is : (ds : List ℕ) → is_loopbound (codes "pragma loopbound " ++ ds) ≡ true
unfolding is_loopbound is_pragma word_of after_word after_spaces is_space_or_tab is_name_byte is_nondigit is_digit
loopbound_is ds = refl

operand_fits : (ds : List ℕ) → AllDigits 10 ds → 0 < length ds → length ds ≤ 10 → is_bound_operand ds ≡ true
unfolding is_bound_operand is_line_end
operand_fits ds all some few = rw (digits_are ds all, rest_is ds all, le-leb 1 (length ds) some, le-leb (length ds) 10 few) refl

-- ---- the whole

of_digits : (n : ℕ) (ds after : List ℕ) → AllDigits 10 ds → 0 < length ds → length ds ≤ 10 → digits_value 10 ds ≡ n → IsBoundLine n (codes "#pragma loopbound " ++ ds) (10 ∷ after)
unfolding is_bound_line directive_of is_line_feed
of_digits n ds after all some few is =
    let line : line_of ((codes "pragma loopbound " ++ ds) ++ 10 ∷ after) ≡ codes "pragma loopbound " ++ ds = line_is (codes "pragma loopbound " ++ ds) after (no_feeds ds all) in
    record {
      hash = refl;
      line = rw (line, operand_is ds all some, loopbound_is ds, operand_fits ds all some few) refl;
      number = rw (line, operand_is ds all some, digits_are ds all) (sym is);
      size = rw (line, operand_is ds all some, rest_is ds all) (omega arith);
    }

pub bound_line : (n : ℕ) (after : List ℕ) → n < 10 ^ 10 → IsBoundLine n (piece_text (Pragma n)) (10 ∷ after)
bound_line n after few =
    let small : n < 2 ^ 64 = omega (arith, few) in
    let numeral = decimal_is_IsNumeral n small in
    of_digits n (decimal n) after numeral.0.1 numeral.0.0 (length-decimal-le 10 n (omega arith) few small) numeral.1
