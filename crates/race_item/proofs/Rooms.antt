-- The room that is left of the upper limits behind a list.
use Rattle.std.proofs.Common.{◌≡◌, ◌≤◌, ◌<◌, ◌⊎◌, inl, inr, ⊎_elim, ℕ, zero, suc, ◌+◌, true, false, if◌then◌else◌, List, [], ◌∷◌, ◌++◌, length, Option, Some, None, refl, sym, ap, ◌∙◌, subst, arith}
use Rattle.std.specs.Prelude.{slice_get, slice_set, slice_index, option_and_then, ◌==◌}
use Rattle.std.proofs.lemmas.Bool.{eqb-true, ne_eqb, cases_lt}
use Rattle.std.proofs.lemmas.List.{length-set, get_or-set_same, get_or-set_other}
use Rattle.std.proofs.lemmas.Option.{slice_get_within, get_or_from_slice_get, slice_get_past, unwrap_or-slice_get}
use Rattle.c_tree.specs.declared.program.Program.{Program}
use Rattle.flow_laws.specs.Graphs.{graph, edges}
use Rattle.flow_laws.specs.Paths.{edge_count}
use Rattle.ipet_rows.specs.CapsBound.{cap_at}
use Rattle.race_item.specs.declared.region.Cut.{Cut}
use Rattle.race_item.specs.declared.region.Cut.{Cut}
use Rattle.race_item.specs.Regions.{upper_limit}
use Rattle.race_item.specs.Trials.{AreUpperLimits, one_taken, room_after, IsRoomOf}
use Rattle.race_item.proofs.Forks.{least_within}
use Rattle.plain_laws.proofs.Lists.{length-push}
use Rattle.plain_laws.proofs.Numbers.{equals_itself}

-- ---- limits, one more

-- the limits of the first edges
pub record AreFirst (p : Program) (cuts : List Cut) (limits : List ℕ) (n : ℕ) : Type 0 where
  pub many : length limits ≡ n
  pub each : (j : ℕ) → j < length limits → slice_index limits j ≡ upper_limit p cuts j

snoc_at : (xs : List ℕ) (x : ℕ) (f : ℕ → ℕ) → ((j : ℕ) → j < length xs → slice_index xs j ≡ f j) → x ≡ f (length xs) → (j : ℕ) → j < length (xs ++ x ∷ []) → slice_index (xs ++ x ∷ []) j ≡ f j
snoc_at [] x f each is zero lt = is
snoc_at [] x f each is (suc j) lt = absurd (omega (arith, lt))
snoc_at (y ∷ xs) x f each is zero lt = each 0 (omega arith)
snoc_at (y ∷ xs) x f each is (suc j) lt =
    snoc_at xs x (λ k. f (suc k)) (λ k l. each (suc k) (omega (arith, l))) is j (omega (arith, lt))

pub no_limit : (p : Program) (cuts : List Cut) → AreFirst p cuts [] 0
no_limit p cuts = record { many = refl; each = λ j lt. absurd (omega (arith, lt)) }

pub next_limit : (p : Program) (cuts : List Cut) (old new : List ℕ) (n x : ℕ) → AreFirst p cuts old n → x ≡ upper_limit p cuts n → new ≡ old ++ x ∷ [] → AreFirst p cuts new (n + 1)
next_limit p cuts old new n x first is more = subst (λ l. AreFirst p cuts l (n + 1)) (sym more) (record {
  many = let one = length-push old x in let many = first.many in omega (arith, one, many);
  each = snoc_at old x (upper_limit p cuts) first.each (is ∙ ap (upper_limit p cuts) (sym first.many));
})

-- past the edges there is no limit
past_limits : (p : Program) (cuts : List Cut) (e : ℕ) → length (edges (graph p)) ≤ e → upper_limit p cuts e ≡ 0
past_limits p cuts e le =
    let none : cap_at (graph p) (slice_get (edges (graph p)) e) ≡ 0 = ap (cap_at (graph p)) (slice_get_past (edges (graph p)) e le) in
    let most = least_within e (cap_at (graph p) (slice_get (edges (graph p)) e)) cuts in
    omega (arith, none, most)

past_index : (xs : List ℕ) (j : ℕ) → length xs ≤ j → slice_index xs j ≡ 0
past_index [] j le = refl
past_index (x ∷ xs) zero le = absurd (omega (arith, le))
past_index (x ∷ xs) (suc j) le = past_index xs j (omega (arith, le))

by_place : (p : Program) (cuts : List Cut) (limits : List ℕ) (e : ℕ) → AreFirst p cuts limits (length (edges (graph p))) → (e < length limits) ⊎ (length limits ≤ e) → slice_index limits e ≡ upper_limit p cuts e
by_place p cuts limits e first (inl lt) = first.each e lt
by_place p cuts limits e first (inr le) =
    past_index limits e le ∙ sym (past_limits p cuts e (let many = first.many in omega (arith, le, many)))

pub all_limits : (p : Program) (cuts : List Cut) (limits : List ℕ) (n : ℕ) → AreFirst p cuts limits n → n ≡ length (edges (graph p)) → AreUpperLimits p cuts limits
all_limits p cuts limits n first all =
    let whole : AreFirst p cuts limits (length (edges (graph p))) = subst (AreFirst p cuts limits) all first in
    record { many = whole.many; each = λ e. by_place p cuts limits e whole (cases_lt e (length limits)) }

-- ---- one of the room

-- whether a number is this one
abbrev is_it : ℕ → ℕ → ℕ
is_it j e = if j == e then 1 else 0

count_cons : (j e : ℕ) (q : List ℕ) → edge_count (j ∷ q) e ≡ is_it j e + edge_count q e
count_cons j e q =
    elim (j == e) as (λ b. (if b then suc (edge_count q e) else edge_count q e) ≡ (if b then 1 else 0) + edge_count q e) [ true ↦ omega arith | false ↦ omega arith ]

self_one : (j : ℕ) → is_it j j ≡ 1
self_one j = ap (λ b. if b then 1 else 0) (equals_itself j)

-- what is taken of one edge is gone from its room
one_set : (room : List ℕ) (j n e : ℕ) → slice_get room j ≡ Some (suc n) → slice_index (slice_set room j n) e + is_it j e ≡ slice_index room e
one_set room j n e is =
    let lt = slice_get_within room j (suc n) is in
    let was : slice_index room j ≡ suc n = get_or_from_slice_get room j (suc n) 0 is in
    elim (j == e) as (λ b. (j == e) ≡ b → slice_index (slice_set room j n) e + (if b then 1 else 0) ≡ slice_index room e) [
      | true ↦ λ same. subst (λ k. slice_index (slice_set room j n) k + 1 ≡ slice_index room k) (eqb-true j e same) (let now = get_or-set_same room j n 0 lt in omega (arith, now, was))
      | false ↦ λ other. let kept = get_or-set_other room j e n 0 (λ same. not_same j e (sym same) other) in omega (arith, kept)
    ] refl
  where
    not_same : (a b : ℕ) → a ≡ b → (a == b) ≡ false → ⊥
    not_same a b same other = let one = self_one a in let none : is_it a b ≡ 0 = ap (λ x. if x then 1 else 0) other in let at : is_it a a ≡ is_it a b = ap (is_it a) same in omega (arith, one, none, at)

no_index : (room : List ℕ) (j : ℕ) → slice_get room j ≡ None → slice_index room j ≡ 0
no_index [] j is = refl
no_index (x ∷ room) zero is = absurd (cc)
no_index (x ∷ room) (suc j) is = no_index room j is

-- ---- what is left

pub record IsLeft (room q left : List ℕ) : Type 0 where
  pub long : length left ≡ length room
  pub each : (e : ℕ) → slice_index left e + edge_count q e ≡ slice_index room e

abbrev More : List ℕ → List ℕ → List ℕ → Type 0
More room q left = room_after room q ≡ Some left → IsLeft room q left

left_by : (room : List ℕ) (j : ℕ) (q left : List ℕ) → ((r : List ℕ) → More r q left) → (o : Option ℕ) → slice_get room j ≡ o → option_and_then (λ r. room_after r q) (one_taken room j o) ≡ Some left → IsLeft room (j ∷ q) left
left_by room j q left ih None is h = absurd (cc)
left_by room j q left ih (Some zero) is h = absurd (cc)
left_by room j q left ih (Some (suc n)) is h =
    let rest = ih (slice_set room j n) h in
    record {
      long = rest.long ∙ length-set room j n;
      each = λ e. let balance = rest.each e in let one = one_set room j n e is in let counted = count_cons j e q in omega (arith, balance, one, counted);
    }

left_of : (q : List ℕ) (room left : List ℕ) → More room q left
left_of [] room left h =
    let same : room ≡ left = cc in
    record { long = ap length (sym same); each = λ e. let at : slice_index room e ≡ slice_index left e = ap (λ l. slice_index l e) same in omega (arith, at) }
left_of (j ∷ q) room left h = left_by room j q left (λ r. left_of q r left) (slice_get room j) refl h

none_by : (room : List ℕ) (j : ℕ) (q : List ℕ) → ((r : List ℕ) → room_after r q ≡ None → ((e : ℕ) → edge_count q e ≤ slice_index r e) → ⊥) → (o : Option ℕ) → slice_get room j ≡ o → option_and_then (λ r. room_after r q) (one_taken room j o) ≡ None → ((e : ℕ) → edge_count (j ∷ q) e ≤ slice_index room e) → ⊥
none_by room j q ih None is h enough =
    let le = enough j in let counted = count_cons j j q in let one = self_one j in let none = no_index room j is in omega (arith, le, counted, one, none)
none_by room j q ih (Some zero) is h enough =
    let le = enough j in let counted = count_cons j j q in let one = self_one j in let none : slice_index room j ≡ 0 = get_or_from_slice_get room j 0 0 is in omega (arith, le, counted, one, none)
none_by room j q ih (Some (suc n)) is h enough =
    ih (slice_set room j n) h (λ e. let le = enough e in let counted = count_cons j e q in let one = one_set room j n e is in omega (arith, le, counted, one))

none_left : (q : List ℕ) (room : List ℕ) → room_after room q ≡ None → ((e : ℕ) → edge_count q e ≤ slice_index room e) → ⊥
none_left [] room h enough = absurd (cc)
none_left (j ∷ q) room h enough = none_by room j q (none_left q) (slice_get room j) refl h enough

-- ---- the room of a region

room_by : (p : Program) (cuts : List Cut) (q limits : List ℕ) → AreUpperLimits p cuts limits → (o : Option (List ℕ)) → room_after limits q ≡ o → IsRoomOf p cuts q o
room_by p cuts q limits are None is =
    λ within. none_left q limits is (λ e. let le = within e in let at = are.each e in omega (arith, le, at))
room_by p cuts q limits are (Some room) is =
    let left = left_of q limits room is in (
      λ e. let balance = left.each e in let at = are.each e in omega (arith, balance, at),
      λ e. let balance = left.each e in let at = are.each e in omega (arith, balance, at),
      left.long ∙ are.many,
    )

pub room_is : (p : Program) (cuts : List Cut) (q limits : List ℕ) (o : Option (List ℕ)) → AreUpperLimits p cuts limits → o ≡ room_after limits q → IsRoomOf p cuts q o
room_is p cuts q limits o are is = room_by p cuts q limits are o (sym is)
