-- The number of a `loopbound` pragma.
use Rattle.std.proofs.Common.{◌≡◌, ℕ, ◌^◌, ◌<◌, ◌≤◌, Bool, true, false, cond, ltb, leb, ◌&&◌, List, [], ◌∷◌, length, Option, Some, None, refl, ap, arith, lt-ltb, le-leb, length-drop}
use Rattle.std.specs.Prelude.{option_map}
use Rattle.std.proofs.lemmas.Bool.{lt-leb, and_parts}
use Rattle.std.specs.List.{list_all}
use Rattle.std.specs.Char.{digit_value}
use Rattle.std.specs.Str.Parse.{digits_value, AllDigits}
use Rattle.std.proofs.Math.Nat.{pow-le-pow_right}
use Rattle.std.proofs.lemmas.Bool.Decides.{nat_tests}
use Rattle.std.proofs.lemmas.Int.Digits.{digits_value-lt}
use Rattle.c_tree.specs.Tokens.Characters.{is_digit}
use Rattle.c_tree.specs.Tokens.TokenKinds.{is_numeral}
use Rattle.c_tree.specs.Tokens.Lexing.{after_spaces, after_word, operand_of, operand_digits, operand_rest, is_bound_operand, is_line_end}
use Rattle.c_lexemes.specs.Directives.{IsOperand}
use Rattle.c_lexemes.proofs.Fronts.{all_front}
use Rattle.c_lexemes.proofs.Numerals.{held}

digit_small : (c : ℕ) → is_digit c ≡ true → digit_value c < 10
unfolding is_digit
digit_small c e = grind (arith, nat_tests)

all_digits : (ds : List ℕ) → list_all is_digit ds ≡ true → AllDigits 10 ds
all_digits [] e = tt
all_digits (d ∷ ds) e = let parts = and_parts (is_digit d) (list_all is_digit ds) e in (digit_small d parts.0, all_digits ds parts.1)

all_below_ten : (ds : List ℕ) → list_all is_digit ds ≡ true → list_all (λ c. ltb (digit_value c) 10) ds ≡ true
all_below_ten [] e = refl
all_below_ten (d ∷ ds) e = let parts = and_parts (is_digit d) (list_all is_digit ds) e in rw (lt-ltb (digit_value d) 10 (digit_small d parts.0)) (all_below_ten ds parts.1)

ten_digits : (ds : List ℕ) → list_all is_digit ds ≡ true → length ds ≤ 10 → digits_value 10 ds < 2 ^ 64
ten_digits ds all short =
    let small = digits_value-lt 10 ds (all_digits ds all) in
    let most : 10 ^ length ds ≤ 10 ^ 10 = pow-le-pow_right (omega arith) short in
    omega arith

operand_all_digits : (operand : List ℕ) → list_all is_digit (operand_digits operand) ≡ true
unfolding operand_digits
operand_all_digits operand = all_front is_digit operand

-- up to ten digits have a value that 64 bits hold, if there is one
held_ten : (ds : List ℕ) → list_all is_digit ds ≡ true → length ds ≤ 10 → held 10 ds ≡ cond (leb 1 (length ds)) (Some (digits_value 10 ds)) None
unfolding is_numeral
held_ten [] all short = refl
held_ten (d ∷ ds) all short = rw (all_below_ten (d ∷ ds) all, lt-ltb 0 (length (d ∷ ds)) (omega arith), lt-ltb (digits_value 10 (d ∷ ds)) (2 ^ 64) (ten_digits (d ∷ ds) all short)) refl

pub operand_long : (operand : List ℕ) → 10 < length (operand_digits operand) → is_bound_operand operand ≡ false
unfolding is_bound_operand
operand_long operand long = rw (le-leb 1 (length (operand_digits operand)) (omega arith), lt-leb (length (operand_digits operand)) 10 long) refl

pub operand_unended : (operand : List ℕ) → is_line_end (operand_rest operand) ≡ false → is_bound_operand operand ≡ false
unfolding is_bound_operand
operand_unended operand e = rw e (and_false (leb 1 (length (operand_digits operand)) && leb (length (operand_digits operand)) 10))
  where
    and_false : (b : Bool) → (b && false) ≡ false
    and_false true = refl
    and_false false = refl

-- what is read of up to ten digits
pub operand_value : (operand : List ℕ) (rest : ℕ) → length (operand_digits operand) ≤ 10 → is_line_end (operand_rest operand) ≡ true → rest ≡ length (operand_rest operand)
    → IsOperand operand (option_map (λ v. (v, rest)) (held 10 (operand_digits operand)))
unfolding is_bound_operand
operand_value operand rest short ended is = rw (held_ten (operand_digits operand) (operand_all_digits operand) short) (by_test (leb 1 (length (operand_digits operand))) refl)
  where
    by_test : (b : Bool) → leb 1 (length (operand_digits operand)) ≡ b → IsOperand operand (option_map (λ v. (v, rest)) (cond b (Some (digits_value 10 (operand_digits operand))) None))
    by_test true e = (rw (e, le-leb (length (operand_digits operand)) 10 short, ended) refl, refl, is)
    by_test false e = rw e refl

pub operand_read : (operand digits rest : List ℕ) (r : Option ℕ) → digits ≡ operand_digits operand → rest ≡ operand_rest operand → length digits ≤ 10 → is_line_end rest ≡ true → r ≡ held 10 digits
    → IsOperand operand (option_map (λ v. (v, length rest)) r)
operand_read operand digits rest r digits_are rest_is short ended is =
    let value = rw digits_are at is in
    rw value (operand_value operand (length rest) (rw digits_are at short) (rw rest_is at ended) (ap length rest_is))

-- the operand is a part of the line
pub operand_rest_le : (line : List ℕ) → length (operand_rest (operand_of line)) ≤ length line
unfolding operand_rest operand_of after_word after_spaces
operand_rest_le line = simp length-drop (omega arith)
