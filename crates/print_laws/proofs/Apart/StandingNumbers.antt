-- Printed numbers are the integer constants that they show.
use Rattle.std.proofs.Common.{◌≡◌, ℕ, zero, suc, ◌-◌, ◌^◌, ◌<◌, Bool, true, false, eqb, ltb, List, [], ◌∷◌, ◌++◌, length, drop, get_or, Some, refl, ◌∙◌, ap, arith, lt-ltb, length-append, append-nil}
use Rattle.std.specs.Prelude.{decimal}
use Rattle.std.specs.Fmt as fmt
use Rattle.std.specs.List.{list_all, list_any}
use Rattle.std.specs.Char.{digit_value}
use Rattle.std.specs.Str.Parse.{digits_value, AllDigits}
use Rattle.std.proofs.lemmas.Bool.Decides.{nat_tests}
use Rattle.std.proofs.lemmas.Fmt.{decimal_is_IsNumeral, first_decimal}
use Rattle.std.proofs.Math.Seq.{take-append_seam, drop-append_seam}
use Rattle.c_tree.specs.declared.tree.Ty.{Ty}
use Rattle.c_tree.specs.declared.tree.Ty.TheVariants as ty
use Rattle.c_tree.specs.declared.token.Kind.TheVariants.{Number}
use Rattle.c_tree.specs.Tokens.Characters.{is_digit, is_nondigit, is_name_byte}
use Rattle.c_tree.specs.Tokens.TokenKinds.{is_number_run, continues_number, is_suffix, is_suffixed, without_suffix, is_hexadecimal, base_of, digits_of, is_numeral, number_kind, constant_in, constant_of, kind_of}
use Rattle.print_laws.specs.PrintedExpressions.{suffix, number_text}
use Rattle.print_laws.proofs.Composing.ComposedExpressions.{limit, is_unsigned}
use Rattle.print_laws.proofs.Apart.Standing.{digit_in_name, number_goes_on}

pub value_is_digit : (c : ℕ) → digit_value c < 10 → is_digit c ≡ true
unfolding is_digit
value_is_digit c small = grind (arith, nat_tests)

digit_is_no_suffix : (c : ℕ) → digit_value c < 10 → is_suffix c ≡ false
unfolding is_suffix
digit_is_no_suffix c small = grind (arith, nat_tests)

no_zero_first : (c : ℕ) → 48 < c → eqb 48 c ≡ false
no_zero_first c more = grind (arith, nat_tests)

all_names : (ds : List ℕ) → AllDigits 10 ds → list_all is_name_byte ds ≡ true
all_names [] all = refl
all_names (d ∷ ds) all = rw (digit_in_name d (value_is_digit d all.0)) (all_names ds all.1)

all_small : (ds : List ℕ) → AllDigits 10 ds → list_all (λ c. ltb (digit_value c) 10) ds ≡ true
all_small [] all = refl
all_small (d ∷ ds) all = rw (lt-ltb (digit_value d) 10 all.0) (all_small ds all.1)

no_suffix : (ds : List ℕ) (k : ℕ) → AllDigits 10 ds → list_any is_suffix (drop k ds) ≡ false
no_suffix [] zero all = refl
no_suffix [] (suc k) all = refl
no_suffix (d ∷ ds) zero all = rw (digit_is_no_suffix d all.0) (no_suffix ds zero all.1)
no_suffix (d ∷ ds) (suc k) all = no_suffix ds k all.1

-- digits, and a suffix
suffixed_names : (t : Ty) (ds : List ℕ) → AllDigits 10 ds → list_all is_name_byte (ds ++ suffix t) ≡ true
unfolding is_name_byte is_nondigit
suffixed_names ty.Int [] all = refl
suffixed_names ty.Unsigned [] all = refl
suffixed_names t (d ∷ ds) all = rw (digit_in_name d (value_is_digit d all.0)) (suffixed_names t ds all.1)

-- the constant that digits are, the first of which is not 0
constant_is : (s : Bool) (d : ℕ) (ds : List ℕ) → 48 < d → AllDigits 10 (d ∷ ds) → constant_in s (d ∷ ds) ≡ number_kind s 10 (digits_value 10 (d ∷ ds))
unfolding constant_in base_of is_hexadecimal digits_of is_numeral
constant_is s d ds more all = rw (no_zero_first d more, lt-ltb (digit_value d) 10 all.0, all_small ds all.1, lt-ltb 0 (length (d ∷ ds)) (omega arith)) refl

plain_run : (d : ℕ) (ds : List ℕ) → 48 < d → AllDigits 10 (d ∷ ds) → constant_of (d ∷ ds) ≡ number_kind false 10 (digits_value 10 (d ∷ ds))
unfolding constant_of without_suffix is_suffixed
plain_run d ds more all = rw (no_suffix (d ∷ ds) (length (d ∷ ds) - 1) all) (constant_is false d ds more all)

run_is : (t : Ty) (d : ℕ) (ds : List ℕ) → 48 < d → AllDigits 10 (d ∷ ds) → constant_of ((d ∷ ds) ++ suffix t) ≡ number_kind (is_unsigned t) 10 (digits_value 10 (d ∷ ds))
unfolding constant_of without_suffix is_suffixed is_suffix
run_is ty.Int d ds more all = ap constant_of (append-nil (d ∷ ds)) ∙ plain_run d ds more all
run_is ty.Unsigned d ds more all = rw (place, drop-append_seam (d ∷ ds) (117 ∷ []), take-append_seam (d ∷ ds) (117 ∷ [])) (constant_is true d ds more all)
  where
    place : length ((d ∷ ds) ++ 117 ∷ []) - 1 ≡ length (d ∷ ds)
    place = omega (arith, length-append (d ∷ ds) (117 ∷ []))

typed_is : (t : Ty) (n : ℕ) → n < limit t → number_kind (is_unsigned t) 10 n ≡ Some (Number (is_unsigned t) n)
unfolding number_kind
typed_is ty.Int n small = rw (lt-ltb n (2 ^ 31) small) refl
typed_is ty.Unsigned n small = rw (lt-ltb n (2 ^ 32) small) refl

-- a number's first digit, and what stands behind it
pub record IsNumber (t : Ty) (n : ℕ) (bytes : List ℕ) : Type 0 where
  pub first : ℕ
  pub more : List ℕ
  pub split : bytes ≡ first ∷ more
  pub digit : is_digit first ≡ true
  pub names : list_all is_name_byte more ≡ true
  pub kind_is : kind_of (first ∷ more) ≡ Some (Number (is_unsigned t) n)

some_number : (t : Ty) (n d : ℕ) (ds : List ℕ) → 48 < d → AllDigits 10 (d ∷ ds) → digits_value 10 (d ∷ ds) ≡ n → n < limit t → IsNumber t n ((d ∷ ds) ++ suffix t)
unfolding kind_of is_number_run
some_number t n d ds more all is small = record {
  first = d;
  more = ds ++ suffix t;
  split = refl;
  digit = value_is_digit d all.0;
  names = suffixed_names t ds all.1;
  kind_is = rw (value_is_digit d all.0, number_goes_on d (ds ++ suffix t) (suffixed_names t ds all.1)) (run_is t d ds more all ∙ ap (number_kind (is_unsigned t) 10) is ∙ typed_is t n small);
}

of_digits : (t : Ty) (n : ℕ) (ds : List ℕ) → 0 < length ds → 48 < get_or ds 0 0 → AllDigits 10 ds → digits_value 10 ds ≡ n → n < limit t → IsNumber t n (ds ++ suffix t)
of_digits t n [] some more all is small = absurd (omega (arith, some))
of_digits t n (d ∷ ds) some more all is small = some_number t n d ds more all is small

zero_number : (t : Ty) → IsNumber t 0 (number_text t 0)
unfolding fmt.digits number_text kind_of is_number_run continues_number constant_of constant_in is_suffixed without_suffix is_suffix base_of is_hexadecimal digits_of is_numeral number_kind is_name_byte is_nondigit is_digit
zero_number ty.Int = record { first = 48; more = []; split = refl; digit = refl; names = refl; kind_is = refl }
zero_number ty.Unsigned = record { first = 48; more = 117 ∷ []; split = refl; digit = refl; names = refl; kind_is = refl }

limit-le : (t : Ty) (n : ℕ) → n < limit t → n < 2 ^ 64
limit-le ty.Int n small = omega (arith, small)
limit-le ty.Unsigned n small = omega (arith, small)

pub number_text_is : (t : Ty) (n : ℕ) → n < limit t → IsNumber t n (number_text t n)
unfolding number_text
number_text_is t zero small = zero_number t
number_text_is t (suc n) small =
    let numeral = decimal_is_IsNumeral (suc n) (limit-le t (suc n) small) in
    of_digits t (suc n) (decimal (suc n)) numeral.0.0 (first_decimal (suc n) (omega arith) (limit-le t (suc n) small)) numeral.0.1 numeral.1 small
