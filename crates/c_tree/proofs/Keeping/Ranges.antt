-- Each operator gives a value in the range of its type.
use Rattle.std.proofs.Common.{◌≡◌, ◌<◌, ℕ, zero, suc, ◌+◌, ◌-◌, ◌*◌, ◌/◌, ◌%◌, ◌^◌, Bool, true, false, if◌then◌else◌, Option, Some, None, ℤ, pos, negsuc, refl, subst, arith}
use Rattle.std.specs.Prelude.{IsTrue, IfSome, option_and_then, option_map, int_lt, int_le, int_div, int_rem, ◌+ℤ◌, ◌-ℤ◌, ◌*ℤ◌, bit_and, bit_or, bit_xor, nat_lt, nat_le, not, ◌==◌}
use Rattle.std.specs.Int.{cast_signed, cast_unsigned, w32, int_shr}
use Rattle.std.proofs.lemmas.Bool.{ltb-true, lt-ltb}
use Rattle.std.proofs.lemmas.Nat.{and_le_l, or_lt, xor_lt}
use lib.Signed.{mag, mag_rem, mag_shr}
use Rattle.std.proofs.Math.Facts.{sfits_to_z}
use Rattle.std.proofs.Math.Nat.{div-le_self}
use Rattle.c_tree.specs.declared.tree.Ty.{Ty}
use Rattle.c_tree.specs.declared.tree.Ty.TheVariants as ty
use Rattle.c_tree.specs.declared.tree.UnOp.{UnOp}
use Rattle.c_tree.specs.declared.tree.UnOp.TheVariants as un
use Rattle.c_tree.specs.declared.tree.BinOp.{BinOp}
use Rattle.c_tree.specs.declared.tree.BinOp.TheVariants as bin
use Rattle.c_tree.specs.declared.value.Value.{Value}
use Rattle.c_tree.specs.declared.value.Value.TheVariants.{Int, Unsigned}
use Rattle.c_tree.specs.Meaning.Values.{is_of, ty_of, common, word, of_word, convert, is_value, is_nonzero, truth, zero_of}
use Rattle.c_tree.specs.Meaning.Operators.{int, wrapped_unsigned, in_common, int_quotient, quotient, int_remainder, remainder, shift_count, shifted_left, shifted_right, comparison_value, bits, binary, unary, both, either, two, operation_value, int_same, only_after}
use Rattle.c_tree.specs.Meaning.Expressions.{un_ty, bin_ty, choice_value}
use Rattle.c_tree.specs.Keeping.Layouts.{IsValueOf}

-- ---- values

pub int_in : (z : ℤ) → mag z < 2 ^ 31 → IsValueOf ty.Int (Int z)
int_in (pos n) h = record { same_type = refl; in_range = lt-ltb n (2 ^ 31) h }
int_in (negsuc n) h = record { same_type = refl; in_range = lt-ltb n (2 ^ 31) h }

pub unsigned_in : (n : ℕ) → n < 2 ^ 32 → IsValueOf ty.Unsigned (Unsigned n)
unsigned_in n h = record { same_type = refl; in_range = lt-ltb n (2 ^ 32) h }

-- its magnitude, of an `int` in range
mag_of : (z : ℤ) → IsTrue (is_value (Int z)) → mag z < 2 ^ 31
mag_of (pos n) h = ltb-true n (2 ^ 31) h
mag_of (negsuc n) h = ltb-true n (2 ^ 31) h

number_of : (n : ℕ) → IsTrue (is_value (Unsigned n)) → n < 2 ^ 32
number_of n h = ltb-true n (2 ^ 32) h

pub signed_mag : (n : ℕ) → n < 2 ^ 32 → mag (cast_signed w32 n) < 2 ^ 31
signed_mag n h = (sfits_to_z {w = w32} {n = n} (record { fits = h })).sfits

pub of_word_in : (t : Ty) (n : ℕ) → n < 2 ^ 32 → IsValueOf t (of_word t n)
of_word_in ty.Int n h = int_in (cast_signed w32 n) (signed_mag n h)
of_word_in ty.Unsigned n h = unsigned_in n h

int_word : (z : ℤ) → mag z < 2 ^ 31 → cast_unsigned w32 z < 2 ^ 32
int_word (pos n) h = omega (arith, h)
int_word (negsuc n) h = omega (arith, h)

pub word_in : (v : Value) → IsTrue (is_value v) → word v < 2 ^ 32
word_in (Int z) h = int_word z (mag_of z h)
word_in (Unsigned n) h = number_of n h

pub convert_in : (t : Ty) (v : Value) → IsTrue (is_value v) → IsValueOf t (convert t v)
convert_in ty.Int (Int z) h = record { same_type = refl; in_range = h }
convert_in ty.Int (Unsigned n) h = int_in (cast_signed w32 n) (signed_mag n (number_of n h))
convert_in ty.Unsigned v h = unsigned_in (word v) (word_in v h)

pub truth_in : (b : Bool) → IsValueOf ty.Int (truth b)
truth_in true = int_in (pos 1) (omega arith)
truth_in false = int_in (pos 0) (omega arith)

pub zero_in : (t : Ty) → IsValueOf t (zero_of t)
zero_in ty.Int = int_in (pos 0) (omega arith)
zero_in ty.Unsigned = unsigned_in 0 (omega arith)

-- ---- operators

if_gives : (P : Value → Type 0) (b : Bool) (v : Value) → (b ≡ true → P v) → IfSome (if b then Some v else None) P
if_gives P true v h = h refl
if_gives P false v h = tt

then_gives : {A : Type 0} (P : Value → Type 0) (f : A → Option Value) (o : Option A) → ((a : A) → IfSome (f a) P) → IfSome (option_and_then f o) P
then_gives P f None h = tt
then_gives P f (Some a) h = h a

int_gives : (z : ℤ) → IfSome (int z) (IsValueOf ty.Int)
int_gives z = if_gives (IsValueOf ty.Int) (is_of ty.Int z) (Int z) (λ e. int_in z (ltb-true (mag z) (2 ^ 31) e))

wrapped_gives : (n : ℕ) → IfSome (wrapped_unsigned n) (IsValueOf ty.Unsigned)
wrapped_gives n = unsigned_in (n % 2 ^ 32) (omega arith)

common_gives : (f : ℤ → ℤ → Option Value) (g : ℕ → ℕ → Option Value) → ((x y : ℤ) → mag x < 2 ^ 31 → IfSome (f x y) (IsValueOf ty.Int)) → ((m n : ℕ) → m < 2 ^ 32 → IfSome (g m n) (IsValueOf ty.Unsigned)) → (a b : Value) → IsTrue (is_value a) → IfSome (in_common f g a b) (IsValueOf (common (ty_of a) (ty_of b)))
common_gives f g F G (Int x) (Int y) h = F x y (mag_of x h)
common_gives f g F G (Int x) (Unsigned n) h = G (cast_unsigned w32 x) n (int_word x (mag_of x h))
common_gives f g F G (Unsigned m) (Int y) h = G m (cast_unsigned w32 y) (number_of m h)
common_gives f g F G (Unsigned m) (Unsigned n) h = G m n (number_of m h)

compared_gives : (f : ℤ → ℤ → Bool) (g : ℕ → ℕ → Bool) (a b : Value) → IfSome (comparison_value f g a b) (IsValueOf ty.Int)
compared_gives f g (Int x) (Int y) = truth_in (f x y)
compared_gives f g (Int x) (Unsigned n) = truth_in (g (cast_unsigned w32 x) n)
compared_gives f g (Unsigned m) (Int y) = truth_in (g m (cast_unsigned w32 y))
compared_gives f g (Unsigned m) (Unsigned n) = truth_in (g m n)

quotient_gives : (m n : ℕ) → m < 2 ^ 32 → IfSome (quotient m n) (IsValueOf ty.Unsigned)
quotient_gives m zero h = tt
quotient_gives m (suc n) h = unsigned_in (m / suc n) (omega (arith, h))

remainder_gives : (m n : ℕ) → m < 2 ^ 32 → IfSome (remainder m n) (IsValueOf ty.Unsigned)
remainder_gives m zero h = tt
remainder_gives m (suc n) h = unsigned_in (m % suc n) (omega (arith, h))

divided_gives : (b : Bool) (z : ℤ) → IfSome (if b then None else int z) (IsValueOf ty.Int)
divided_gives true z = tt
divided_gives false z = int_gives z

after_gives : (o : Option Value) (v : Value) → IsValueOf ty.Int v → IfSome (only_after o v) (IsValueOf ty.Int)
after_gives None v h = tt
after_gives (Some q) v h = h

int_remainder_gives : (x y : ℤ) → mag x < 2 ^ 31 → IfSome (int_remainder x y) (IsValueOf ty.Int)
int_remainder_gives x y h =
    after_gives (int_quotient x y) (Int (int_rem x y)) (int_in (int_rem x y) (omega (arith, h, mag_rem x y)))

left_gives : (a : Value) (k : ℕ) → IfSome (shifted_left a k) (IsValueOf (ty_of a))
left_gives (Int (pos m)) k = int_gives (pos (m * 2 ^ k))
left_gives (Int (negsuc m)) k = tt
left_gives (Unsigned m) k = wrapped_gives (m * 2 ^ k)

right_gives : (a : Value) (k : ℕ) → IsTrue (is_value a) → IfSome (shifted_right a k) (IsValueOf (ty_of a))
right_gives (Int z) k h = int_in (int_shr z k) (omega (arith, mag_of z h, mag_shr z (2 ^ k)))
right_gives (Unsigned m) k h = unsigned_in (m / 2 ^ k) (omega (arith, number_of m h, div-le_self m (2 ^ k)))

bits_gives : (f : ℕ → ℕ → ℕ) (a b : Value) → f (word a) (word b) < 2 ^ 32 → IfSome (bits f a b) (IsValueOf (common (ty_of a) (ty_of b)))
bits_gives f a b h = of_word_in (common (ty_of a) (ty_of b)) (f (word a) (word b)) h

pub binary_gives : (op : BinOp) (a b : Value) → IsTrue (is_value a) → IsTrue (is_value b) → IfSome (binary op a b) (IsValueOf (bin_ty op (ty_of a) (ty_of b)))
binary_gives bin.Mul a b ha hb =
    common_gives (λ x y. int (x *ℤ y)) (λ m n. wrapped_unsigned (m * n)) (λ x y h. int_gives (x *ℤ y)) (λ m n h. wrapped_gives (m * n)) a b ha
binary_gives bin.Div a b ha hb =
    common_gives int_quotient quotient (λ x y h. divided_gives (int_same y (pos 0)) (int_div x y)) quotient_gives a b ha
binary_gives bin.Rem a b ha hb = common_gives int_remainder remainder int_remainder_gives remainder_gives a b ha
binary_gives bin.Add a b ha hb =
    common_gives (λ x y. int (x +ℤ y)) (λ m n. wrapped_unsigned (m + n)) (λ x y h. int_gives (x +ℤ y)) (λ m n h. wrapped_gives (m + n)) a b ha
binary_gives bin.Sub a b ha hb =
    common_gives (λ x y. int (x -ℤ y)) (λ m n. wrapped_unsigned (m + 2 ^ 32 - n)) (λ x y h. int_gives (x -ℤ y)) (λ m n h. wrapped_gives (m + 2 ^ 32 - n)) a b ha
binary_gives bin.Shl a b ha hb = then_gives (IsValueOf (ty_of a)) (shifted_left a) (shift_count b) (left_gives a)
binary_gives bin.Shr a b ha hb =
    then_gives (IsValueOf (ty_of a)) (shifted_right a) (shift_count b) (λ k. right_gives a k ha)
binary_gives bin.Lt a b ha hb = compared_gives int_lt nat_lt a b
binary_gives bin.Gt a b ha hb = compared_gives (λ x y. int_lt y x) (λ m n. nat_lt n m) a b
binary_gives bin.Le a b ha hb = compared_gives int_le nat_le a b
binary_gives bin.Ge a b ha hb = compared_gives (λ x y. int_le y x) (λ m n. nat_le n m) a b
binary_gives bin.Eq a b ha hb = compared_gives int_same (λ m n. m == n) a b
binary_gives bin.Ne a b ha hb = compared_gives (λ x y. not (int_same x y)) (λ m n. not (m == n)) a b
binary_gives bin.And a b ha hb =
    bits_gives bit_and a b (omega (arith, word_in a ha, and_le_l (word a) (word b)))
binary_gives bin.Xor a b ha hb =
    bits_gives bit_xor a b (xor_lt 32 (word a) (word b) (word_in a ha) (word_in b hb))
binary_gives bin.Or a b ha hb = bits_gives bit_or a b (or_lt 32 (word a) (word b) (word_in a ha) (word_in b hb))
binary_gives bin.Both a b ha hb = tt
binary_gives bin.Either a b ha hb = tt

same_common : (t : Ty) → common t t ≡ t
same_common ty.Int = refl
same_common ty.Unsigned = refl

zero_ty : (t : Ty) → ty_of (zero_of t) ≡ t
zero_ty ty.Int = refl
zero_ty ty.Unsigned = refl

pub unary_gives : (op : UnOp) (a : Value) → IsTrue (is_value a) → IfSome (unary op a) (IsValueOf (un_ty op (ty_of a)))
unary_gives un.Plus a h = record { same_type = refl; in_range = h }
unary_gives un.Minus (Int z) h = int_gives (pos 0 -ℤ z)
unary_gives un.Minus (Unsigned n) h = wrapped_gives (0 + 2 ^ 32 - n)
unary_gives un.Flip a h = of_word_in (ty_of a) (2 ^ 32 - 1 - word a) (omega arith)
unary_gives un.Not a h = truth_in (not (is_nonzero a))

-- ---- operators on operands that may be undefined

decided_gives : (o : Option Value) → IfSome (option_and_then (λ v. Some (truth (is_nonzero v))) o) (IsValueOf ty.Int)
decided_gives None = tt
decided_gives (Some v) = truth_in (is_nonzero v)

choice_gives : (P : Value → Type 0) (b : Bool) (o p : Option Value) → IfSome o P → IfSome p P → IfSome (if b then o else p) P
choice_gives P true o p ho hp = ho
choice_gives P false o p ho hp = hp

both_gives : (o p : Option Value) → IfSome (both o p) (IsValueOf ty.Int)
both_gives None p = tt
both_gives (Some a) p =
    choice_gives (IsValueOf ty.Int) (is_nonzero a) (option_and_then (λ v. Some (truth (is_nonzero v))) p) (Some (truth false)) (decided_gives p) (truth_in false)

either_gives : (o p : Option Value) → IfSome (either o p) (IsValueOf ty.Int)
either_gives None p = tt
either_gives (Some a) p =
    choice_gives (IsValueOf ty.Int) (is_nonzero a) (Some (truth true)) (option_and_then (λ v. Some (truth (is_nonzero v))) p) (truth_in true) (decided_gives p)

pub two_gives : (op : BinOp) (t u : Ty) (o p : Option Value) → IfSome o (IsValueOf t) → IfSome p (IsValueOf u) → IfSome (two (binary op) o p) (IsValueOf (bin_ty op t u))
two_gives op t u None p ho hp = tt
two_gives op t u (Some x) None ho hp = tt
two_gives op t u (Some x) (Some y) ho hp =
    subst (λ t. IfSome (binary op x y) (IsValueOf (bin_ty op t u))) ho.same_type (subst (λ u. IfSome (binary op x y) (IsValueOf (bin_ty op (ty_of x) u))) hp.same_type (binary_gives op x y ho.in_range hp.in_range))

pub operated_gives : (op : BinOp) (t u : Ty) (o p : Option Value) → IfSome o (IsValueOf t) → IfSome p (IsValueOf u) → IfSome (operation_value op o p) (IsValueOf (bin_ty op t u))
operated_gives bin.Both t u o p ho hp = both_gives o p
operated_gives bin.Either t u o p ho hp = either_gives o p
operated_gives bin.Mul t u o p ho hp = two_gives bin.Mul t u o p ho hp
operated_gives bin.Div t u o p ho hp = two_gives bin.Div t u o p ho hp
operated_gives bin.Rem t u o p ho hp = two_gives bin.Rem t u o p ho hp
operated_gives bin.Add t u o p ho hp = two_gives bin.Add t u o p ho hp
operated_gives bin.Sub t u o p ho hp = two_gives bin.Sub t u o p ho hp
operated_gives bin.Shl t u o p ho hp = two_gives bin.Shl t u o p ho hp
operated_gives bin.Shr t u o p ho hp = two_gives bin.Shr t u o p ho hp
operated_gives bin.Lt t u o p ho hp = two_gives bin.Lt t u o p ho hp
operated_gives bin.Gt t u o p ho hp = two_gives bin.Gt t u o p ho hp
operated_gives bin.Le t u o p ho hp = two_gives bin.Le t u o p ho hp
operated_gives bin.Ge t u o p ho hp = two_gives bin.Ge t u o p ho hp
operated_gives bin.Eq t u o p ho hp = two_gives bin.Eq t u o p ho hp
operated_gives bin.Ne t u o p ho hp = two_gives bin.Ne t u o p ho hp
operated_gives bin.And t u o p ho hp = two_gives bin.And t u o p ho hp
operated_gives bin.Xor t u o p ho hp = two_gives bin.Xor t u o p ho hp
operated_gives bin.Or t u o p ho hp = two_gives bin.Or t u o p ho hp

pub unary_of : (op : UnOp) (t : Ty) (o : Option Value) → IfSome o (IsValueOf t) → IfSome (option_and_then (unary op) o) (IsValueOf (un_ty op t))
unary_of op t None h = tt
unary_of op t (Some a) h =
    subst (λ t. IfSome (unary op a) (IsValueOf (un_ty op t))) h.same_type (unary_gives op a h.in_range)

pub cast_gives : (t u : Ty) (o : Option Value) → IfSome o (IsValueOf u) → IfSome (option_map (convert t) o) (IsValueOf t)
cast_gives t u None h = tt
cast_gives t u (Some v) h = convert_in t v h.in_range

pub chosen_gives : (r t u : Ty) (c o p : Option Value) → IfSome o (IsValueOf t) → IfSome p (IsValueOf u) → IfSome (choice_value c r o p) (IsValueOf r)
chosen_gives r t u None o p ho hp = tt
chosen_gives r t u (Some v) o p ho hp = by_choice (is_nonzero v)
  where
    by_choice : (b : Bool) → IfSome (option_map (convert r) (if b then o else p)) (IsValueOf r)
    by_choice true = cast_gives r t o ho
    by_choice false = cast_gives r u p hp
