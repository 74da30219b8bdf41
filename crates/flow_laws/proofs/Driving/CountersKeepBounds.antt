-- The counter says what the bound says of the list.
use Rattle.std.proofs.Common.{◌≡◌, ℕ, zero, suc, ◌≤◌, Bool, true, false, if◌then◌else◌, List, [], ◌∷◌, ◌++◌, Option, Some, None, refl, sym, ap, subst, arith}
use Rattle.std.specs.Prelude.{not}
use Rattle.std.specs.List.{list_all}
use Rattle.flow_laws.specs.Paths.{times, after_turn, keeps_from}
use Rattle.std.proofs.lemmas.Bool.{and_parts, and_from}
use Rattle.plain_laws.proofs.Booleans.{false_from_not}

-- what is said of a list by its edges of `into` and of `turn`
abbrev pub KeepsBy : {A : Type 0} → (A → Bool) → (A → Bool) → ℕ → List A → Type 0
KeepsBy into turn lim q =
    (a b c : List _) (e : _) → q ≡ a ++ (e ∷ (b ++ c)) → into e ≡ true → list_all (λ d. not (into d)) b ≡ true → times turn b ≤ lim

-- before the next edge of `into` there are at most n edges of `turn`
abbrev Starts : {A : Type 0} → (A → Bool) → (A → Bool) → ℕ → ℕ → List A → Type 0
Starts into turn lim n q = (b c : List _) → q ≡ b ++ c → list_all (λ d. not (into d)) b ≡ true → times turn b ≤ n

abbrev StartsAt : {A : Type 0} → (A → Bool) → (A → Bool) → ℕ → Option ℕ → List A → Type 0
StartsAt into turn lim None q = Unit {0}
StartsAt into turn lim (Some n) q = Starts into turn lim n q

true≢false : true ≡ false → ⊥
true≢false e = absurd (cc)

-- ---- from the counter

starts_step : {A : Type 0} (into turn : A → Bool) (lim : ℕ) (n : ℕ) (x : A) (q b c : List A) (en tu : Bool) → into x ≡ en → turn x ≡ tu → en ≡ false → ((m : ℕ) → keeps_from into turn lim (Some m) q ≡ true → Starts into turn lim m q) → q ≡ b ++ c → list_all (λ d. not (into d)) b ≡ true → (if en then keeps_from into turn lim (Some lim) q else (if tu then after_turn (Some n) (λ m. keeps_from into turn lim m q) else keeps_from into turn lim (Some n) q)) ≡ true → (if tu then suc (times turn b) else times turn b) ≤ n
starts_step into turn lim n x q b c true tu ee te e next p h k = absurd (true≢false e)
starts_step into turn lim zero x q b c false true ee te e next p h k = absurd (true≢false (sym k))
starts_step into turn lim (suc n) x q b c false true ee te e next p h k = omega (arith, next n k b c p h)
starts_step into turn lim n x q b c false false ee te e next p h k = next n k b c p h

from_counter : {A : Type 0} (into turn : A → Bool) (lim : ℕ) (q : List A) (n : ℕ) → keeps_from into turn lim (Some n) q ≡ true → Starts into turn lim n q
from_counter into turn lim [] n k [] c p h = omega arith
from_counter into turn lim [] n k (x ∷ b) c p h = absurd (cc)
from_counter into turn lim (e ∷ q) n k [] c p h = omega arith
from_counter into turn lim (e ∷ q) n k (x ∷ b) c p h =
    let same : e ≡ x = cc in
    let rest : q ≡ b ++ c = cc in
    let parts = and_parts (not (into x)) (list_all (λ d. not (into d)) b) h in
    let k' = subst (λ y. keeps_from into turn lim (Some n) (y ∷ q) ≡ true) same k in
    starts_step into turn lim n x q b c (into x) (turn x) refl refl (false_from_not (into x) parts.0) (from_counter into turn lim q) rest parts.1 k'

-- what is left after an edge
tail_keeps : {A : Type 0} (into turn : A → Bool) (lim : ℕ) (n : Option ℕ) (q : List A) (en tu : Bool) → (if en then keeps_from into turn lim (Some lim) q else (if tu then after_turn n (λ m. keeps_from into turn lim m q) else keeps_from into turn lim n q)) ≡ true → (m : Option ℕ) × (keeps_from into turn lim m q ≡ true)
tail_keeps into turn lim n q true tu k = (Some lim, k)
tail_keeps into turn lim n q false false k = (n, k)
tail_keeps into turn lim None q false true k = (None, k)
tail_keeps into turn lim (Some zero) q false true k = absurd (true≢false (sym k))
tail_keeps into turn lim (Some (suc n)) q false true k = (Some n, k)

head_keeps : {A : Type 0} (into turn : A → Bool) (lim : ℕ) (n : Option ℕ) (q : List A) (en tu : Bool) → en ≡ true → (if en then keeps_from into turn lim (Some lim) q else (if tu then after_turn n (λ m. keeps_from into turn lim m q) else keeps_from into turn lim n q)) ≡ true → keeps_from into turn lim (Some lim) q ≡ true
head_keeps into turn lim n q true tu e k = k
head_keeps into turn lim n q false tu e k = absurd (true≢false (sym e))

pub counter_keeps : {A : Type 0} (into turn : A → Bool) (lim : ℕ) (q : List A) (n : Option ℕ) → keeps_from into turn lim n q ≡ true → KeepsBy into turn lim q
counter_keeps into turn lim [] n k [] b c e p en h = absurd (cc)
counter_keeps into turn lim [] n k (x ∷ a) b c e p en h = absurd (cc)
counter_keeps into turn lim (d ∷ q) n k [] b c e p en h =
    let same : d ≡ e = cc in
    let rest : q ≡ b ++ c = cc in
    let k' = subst (λ y. keeps_from into turn lim n (y ∷ q) ≡ true) same k in
    from_counter into turn lim q lim (head_keeps into turn lim n q (into e) (turn e) en k') b c rest h
counter_keeps into turn lim (d ∷ q) n k (x ∷ a) b c e p en h =
    let rest : q ≡ a ++ (e ∷ (b ++ c)) = cc in
    let tail = tail_keeps into turn lim n q (into d) (turn d) k in
    counter_keeps into turn lim q tail.0 tail.1 a b c e rest en h

-- ---- to the counter

keeps_tail : {A : Type 0} (into turn : A → Bool) (lim : ℕ) (d : A) (q : List A) → KeepsBy into turn lim (d ∷ q) → KeepsBy into turn lim q
keeps_tail into turn lim d q h a b c e p en none = h (d ∷ a) b c e (ap (λ x. d ∷ x) p) en none

starts_tail : {A : Type 0} (into turn : A → Bool) (lim : ℕ) (d : A) (q : List A) (n m : ℕ) → into d ≡ false → ((k : ℕ) → times turn (d ∷ []) ≤ 1 → (if turn d then suc k else k) ≤ n → k ≤ m) → Starts into turn lim n (d ∷ q) → Starts into turn lim m q
starts_tail into turn lim d q n m en less h b c p none =
    less (times turn b) (one (turn d)) (h (d ∷ b) c (ap (λ x. d ∷ x) p) (and_from (not (into d)) (list_all (λ x. not (into x)) b) (ap not en) none))
  where
    one : (tu : Bool) → (if tu then suc 0 else 0) ≤ 1
    one true = omega arith
    one false = omega arith

mutual_step : {A : Type 0} (into turn : A → Bool) (lim : ℕ) (d : A) (q : List A) (n : Option ℕ) → ((m : Option ℕ) → StartsAt into turn lim m q → keeps_from into turn lim m q ≡ true) → KeepsBy into turn lim (d ∷ q) → StartsAt into turn lim n (d ∷ q) → (en tu : Bool) → into d ≡ en → turn d ≡ tu → (if en then keeps_from into turn lim (Some lim) q else (if tu then after_turn n (λ m. keeps_from into turn lim m q) else keeps_from into turn lim n q)) ≡ true
mutual_step into turn lim d q n next h s true tu ee te = next (Some lim) (λ b c p none. h [] b c d (ap (λ x. d ∷ x) p) ee none)
mutual_step into turn lim d q None next h s false true ee te = next None tt
mutual_step into turn lim d q None next h s false false ee te = next None tt
mutual_step into turn lim d q (Some zero) next h s false true ee te =
    let P : Bool → Type 0 = λ x. (if x then suc 0 else 0) ≤ 0 in
    let bad = subst P te (s (d ∷ []) q refl (and_from (not (into d)) true (ap not ee) refl)) in
    absurd (omega (arith, bad))
mutual_step into turn lim d q (Some (suc n)) next h s false true ee te =
    next (Some n) (starts_tail into turn lim d q (suc n) n ee (λ k one le. let P : Bool → Type 0 = λ x. (if x then suc k else k) ≤ suc n in omega (arith, subst P te le)) s)
mutual_step into turn lim d q (Some n) next h s false false ee te =
    next (Some n) (starts_tail into turn lim d q n n ee (λ k one le. let P : Bool → Type 0 = λ x. (if x then suc k else k) ≤ n in subst P te le) s)

keeps_counter_at : {A : Type 0} (into turn : A → Bool) (lim : ℕ) (q : List A) (n : Option ℕ) → KeepsBy into turn lim q → StartsAt into turn lim n q → keeps_from into turn lim n q ≡ true
keeps_counter_at into turn lim [] n h s = refl
keeps_counter_at into turn lim (d ∷ q) n h s =
    mutual_step into turn lim d q n (λ m t. keeps_counter_at into turn lim q m (keeps_tail into turn lim d q h) t) h s (into d) (turn d) refl refl

pub keeps_counter : {A : Type 0} (into turn : A → Bool) (lim : ℕ) (q : List A) → KeepsBy into turn lim q → keeps_from into turn lim None q ≡ true
keeps_counter into turn lim q h = keeps_counter_at into turn lim q None h tt
