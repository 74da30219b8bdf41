-- Conversion and division in the standard's words.
use Rattle.std.proofs.Common.{◌≡◌, ◌<◌, ℕ, zero, suc, ◌+◌, ◌*◌, ◌/◌, ◌%◌, Bool, true, false, if◌then◌else◌, Option, Some, None, ℤ, pos, subst, arith}
use Rattle.std.specs.Prelude.{int_div, int_rem, ◌+ℤ◌, ◌*ℤ◌}
use Rattle.std.proofs.lemmas.Int.{quot-rem}
use Rattle.c_tree.specs.declared.tree.Ty.TheVariants as ty
use Rattle.c_tree.specs.declared.value.Value.{Value}
use Rattle.c_tree.specs.declared.value.Value.TheVariants.{Int, Unsigned}
use Rattle.c_tree.specs.Meaning.Values.{is_of}
use Rattle.c_tree.specs.Meaning.Operators.{int_same, int_quotient, int_remainder, only_after, quotient, remainder}

-- ---- division

quotient_is : (b c : Bool) (d q : ℤ) → (if b then None else (if c then Some (Int d) else None)) ≡ Some (Int q) → d ≡ q
quotient_is true c d q e = absurd (cc)
quotient_is false true d q e = cc
quotient_is false false d q e = absurd (cc)

pub int_quotient_is : (x y q : ℤ) → int_quotient x y ≡ Some (Int q) → int_div x y ≡ q
int_quotient_is x y q e = quotient_is (int_same y (pos 0)) (is_of ty.Int (int_div x y)) (int_div x y) q e

remainder_is : (o : Option Value) (d r : ℤ) → only_after o (Int d) ≡ Some (Int r) → d ≡ r
remainder_is None d r e = absurd (cc)
remainder_is (Some v) d r e = cc

pub int_division : (x y q r : ℤ) → int_quotient x y ≡ Some (Int q) → int_remainder x y ≡ Some (Int r) → (q *ℤ y) +ℤ r ≡ x
int_division x y q r eq er =
    let hq = int_quotient_is x y q eq in
    let hr = remainder_is (int_quotient x y) (int_rem x y) r er in
    subst (λ q. (q *ℤ y) +ℤ r ≡ x) hq (subst (λ r. (int_div x y *ℤ y) +ℤ r ≡ x) hr (quot-rem x y))

pub division : (m n q r : ℕ) → quotient m n ≡ Some (Unsigned q) → remainder m n ≡ Some (Unsigned r) → (q * n + r ≡ m) × (r < n)
division m zero q r eq er = absurd (cc)
division m (suc n) q r eq er =
    let hq : m / suc n ≡ q = cc in
    let hr : m % suc n ≡ r = cc in
    (subst (λ q. q * suc n + r ≡ m) hq (subst (λ r. m / suc n * suc n + r ≡ m) hr (omega arith)), subst (λ r. r < suc n) hr (omega arith))
