-- The bounds of loops one edge on.
use Rattle.std.proofs.Common.{◌≡◌, ℕ, zero, suc, ◌-◌, Bool, true, false, if◌then◌else◌, List, [], ◌∷◌, ◌++◌, Option, Some, None, refl, ap, ◌∙◌, subst, arith, tests}
use Rattle.std.specs.Prelude.{◌↔◌, ◌==◌, ◌&&◌, slice_get}
use Rattle.flow_laws.specs.declared.graph.Loop.{Loop}
use Rattle.flow_laws.specs.Paths.{is_in_list, most_turns, after_turn, keeps_from, keeps, keeps_each, one_less, turns_left_on, turns_left_from, turns_left, has_turn, allows, each_allows}
use Rattle.flow_laws.proofs.Driving.DrivenPrefixes.{each_is, each_front}
use Rattle.std.proofs.lemmas.Bool.{and_parts}

abbrev chosen : Bool → Bool → ℕ → Option ℕ → (Option ℕ → Bool) → Bool
chosen en tu most left go = if en then go (Some most) else (if tu then after_turn left go else go left)

abbrev counted : Bool → Bool → ℕ → Option ℕ → Option ℕ
counted en tu most left = if en then Some most else (if tu then one_less left else left)

turned : (go go' last : Option ℕ → Bool) → ((m : Option ℕ) → go m ≡ (go' m && last m)) → (left : Option ℕ) → after_turn left go ≡ (after_turn left go' && last (one_less left))
turned go go' last ih None = ih None
turned go go' last ih (Some zero) = refl
turned go go' last ih (Some (suc n)) =
    let same : n ≡ suc n - 1 = omega arith in
    ih (Some n) ∙ ap (λ m. go' (Some n) && last (Some m)) same

on_case : (go go' last : Option ℕ → Bool) → ((m : Option ℕ) → go m ≡ (go' m && last m)) → (en tu : Bool) (most : ℕ) (left : Option ℕ) → chosen en tu most left go ≡ (chosen en tu most left go' && last (counted en tu most left))
on_case go go' last ih true tu most left = ih (Some most)
on_case go go' last ih false true most left = turned go go' last ih left
on_case go go' last ih false false most left = ih left

last_turn : (left : Option ℕ) → after_turn left (λ m. true) ≡ has_turn left
last_turn None = refl
last_turn (Some zero) = refl
last_turn (Some (suc n)) = grind (arith, tests)

last_case : (en tu : Bool) (most : ℕ) (left : Option ℕ) → chosen en tu most left (λ m. true) ≡ (if en then true else (if tu then has_turn left else true))
last_case true tu most left = refl
last_case false true most left = last_turn left
last_case false false most left = refl

abbrev keeps_left : Loop → Option ℕ → List ℕ → Bool
keeps_left l left q = keeps_from (λ j. is_in_list j l.into) (λ j. j == l.turn) (most_turns l) left q

keeps_from_on : (l : Loop) (q : List ℕ) (j : ℕ) (left : Option ℕ) → keeps_left l left (q ++ j ∷ []) ≡ (keeps_left l left q && allows l j (turns_left_from l left q))
keeps_from_on l [] j left = last_case (is_in_list j l.into) (j == l.turn) (most_turns l) left
keeps_from_on l (i ∷ q) j left =
    on_case (λ m. keeps_left l m (q ++ j ∷ [])) (λ m. keeps_left l m q) (λ m. allows l j (turns_left_from l m q)) (keeps_from_on l q j) (is_in_list i l.into) (i == l.turn) (most_turns l) left

pub keeps_on : (l : Loop) (q : List ℕ) (j : ℕ) → keeps l (q ++ j ∷ []) ≡ (keeps l q && allows l j (turns_left l q))
keeps_on l q j = keeps_from_on l q j None

left_from_on : (l : Loop) (q : List ℕ) (j : ℕ) (left : Option ℕ) → turns_left_from l left (q ++ j ∷ []) ≡ turns_left_on l j (turns_left_from l left q)
left_from_on l [] j left = refl
left_from_on l (i ∷ q) j left = left_from_on l q j (turns_left_on l i left)

pub left_on : (l : Loop) (q : List ℕ) (j : ℕ) → turns_left l (q ++ j ∷ []) ≡ turns_left_on l j (turns_left l q)
left_on l q j = left_from_on l q j None

-- ---- each loop

both_on : (a b x y : Bool) → ((a && x) && (b && y)) ≡ ((a && b) && (x && y))
both_on true b true y = refl
both_on true true false y = refl
both_on true false false y = refl
both_on false b x y = refl

pub each_on : (ls : List Loop) (q : List ℕ) (j : ℕ) → keeps_each ls (q ++ j ∷ []) ≡ (keeps_each ls q && each_allows ls q j)
each_on [] q j = refl
each_on (l ∷ ls) q j =
    (λ i. keeps_on l q j i && each_on ls q j i) ∙ both_on (keeps l q) (keeps_each ls q) (allows l j (turns_left l q)) (each_allows ls q j)

pub each_begin : (ls : List Loop) (a b : List ℕ) → keeps_each ls (a ++ b) ≡ true → keeps_each ls a ≡ true
each_begin ls a b h = (each_is ls a).0 (each_front ls a b ((each_is ls (a ++ b)).1 h))

-- ---- each loop by its number

abbrev AllowsAt : List Loop → List ℕ → ℕ → Type 0
AllowsAt ls q j = (k : ℕ) (l : Loop) → slice_get ls k ≡ Some l → allows l j (turns_left l q) ≡ true

allowed_at : (ls : List Loop) (q : List ℕ) (j : ℕ) → each_allows ls q j ≡ true → AllowsAt ls q j
allowed_at [] q j h k l is = absurd (cc is)
allowed_at (x ∷ ls) q j h zero l is =
    let same : x ≡ l = cc in
    subst (λ (y : Loop). allows y j (turns_left y q) ≡ true) same (and_parts (allows x j (turns_left x q)) (each_allows ls q j) h).0
allowed_at (x ∷ ls) q j h (suc k) l is = allowed_at ls q j (and_parts (allows x j (turns_left x q)) (each_allows ls q j) h).1 k l is

all_allowed : (ls : List Loop) (q : List ℕ) (j : ℕ) → AllowsAt ls q j → each_allows ls q j ≡ true
all_allowed [] q j h = refl
all_allowed (x ∷ ls) q j h = λ i. h 0 x refl i && all_allowed ls q j (λ k l is. h (suc k) l is) i

pub each_by_number : (ls : List Loop) (q : List ℕ) (j : ℕ) → (each_allows ls q j ≡ true) ↔ ((k : ℕ) (l : Loop) → slice_get ls k ≡ Some l → allows l j (turns_left l q) ≡ true)
each_by_number ls q j = (allowed_at ls q j, all_allowed ls q j)
