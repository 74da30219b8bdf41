-- Truth values, as Booleans and as what holds.
use Rattle.std.proofs.Common.{◌≡◌, ℕ, Bool, true, false, if◌then◌else◌, IsTrue, refl}
use Rattle.std.specs.Prelude.{◌&&◌, ◌||◌, not}

pub and-true : (b : Bool) → (b && true) ≡ b
and-true true = refl
and-true false = refl

pub and-false : (b : Bool) → (b && false) ≡ false
and-false true = refl
and-false false = refl

pub or-false : (b : Bool) → (b || false) ≡ b
or-false true = refl
or-false false = refl

pub or-assoc : (a b c : Bool) → ((a || b) || c) ≡ (a || (b || c))
or-assoc true b c = refl
or-assoc false b c = refl

pub false_from_not : (b : Bool) → not b ≡ true → b ≡ false
false_from_not true e = absurd (cc)
false_from_not false e = refl

-- of a conjunction that holds, both parts hold
pub both_hold : (a b : Bool) → IsTrue (a && b) → IsTrue a × IsTrue b
both_hold true true h = (refl, refl)
both_hold true false h = absurd cc
both_hold false b h = absurd cc

pub false_never_holds : IsTrue false → ⊥
false_never_holds h = absurd (cc)

pub if_chosen : (b : Bool) (n : ℕ) → b ≡ true → (if b then n else 0) ≡ n
if_chosen true n h = refl
if_chosen false n h = absurd (cc)
