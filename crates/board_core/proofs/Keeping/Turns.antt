-- The limits of turns that are never spent.
use Rattle.std.proofs.Common.{◌≡◌, ◌≢◌, ◌≤◌, ◌<◌, inl, inr, ℕ, zero, suc, ◌+◌, Bool, true, false, if◌then◌else◌, List, [], ◌∷◌, ◌++◌, map, length, Option, Some, refl, sym, ap, ◌∙◌, arith, IsTrue, length-append}
use Rattle.std.specs.Prelude.{slice_get, ◌==◌, ◌&&◌}
use Rattle.std.proofs.lemmas.Bool.{false≢true}
use Rattle.std.proofs.lemmas.List.{length-map}
use Rattle.flow_laws.specs.Paths.{times}
use Rattle.flow_graph.specs.Plans.{Planned}
use Rattle.race_item.specs.declared.region.Region.{Region}
use Rattle.race_item.specs.Lists.{EachOf, SomeOf, EachTwoOf}
use Rattle.race_item.specs.Items.{IsItem}
use Rattle.board_core.specs.declared.event.ItemState.{ItemState}
use Rattle.board_core.specs.declared.event.ItemState.TheVariants.{Free, Taken, Parked, Closed}
use Rattle.board_core.specs.declared.event.Entry.{Entry}
use Rattle.board_core.specs.declared.event.Entry.TheVariants.{Claim, Empty, Refuted, Split, Found, Park, Return, Reopen}
use Rattle.board_core.specs.declared.event.Cause.{Cause}
use Rattle.board_core.specs.declared.event.End.TheVariants.{Spent}
use Rattle.board_core.specs.Kinds.{is_open, is_free, is_taken, freed_state}
use Rattle.board_core.specs.Machine.{Posted, posted_item, Setup, State, step, state_after_entries, start_state, with_item_state, taken_count, freed_item, free}
use Rattle.board_core.specs.Conditions.{May, LegalFrom}
use Rattle.board_core.specs.Histories.{Legal, state_after}
use Rattle.board_core.specs.Kept.{IsSetup}
use Rattle.board_core.specs.Showing.{some_above, is_spent, cause_of, first_end, end_of}
use Rattle.board_core.specs.declared.claim.Claim.TheVariants as answer
use Rattle.board_core.specs.Calls.{Answers}
use Rattle.board_core.specs.Turns.{AreSoMany, IsFree}
use Rattle.board_core.proofs.Keeping.Induction.{kept_legal}
use Rattle.board_core.proofs.Keeping.Apart.{kept_apart}
use Rattle.board_core.proofs.Places.{one_if, length-put, taken_count-put, taken_count-freed, taken_count-append, taken_count-free, counted}
use Rattle.plain_laws.proofs.Booleans.{both_hold}
use Rattle.plain_laws.proofs.Numbers.{same_number}

-- ---- each item is free, taken or settled

abbrev pub frees : List Posted → ℕ
frees items = times (λ (item : Posted). is_free item.state) items

frees-put : (items : List Posted) (id : ℕ) (s : ItemState) (r : Region) (was : ItemState) → slice_get items id ≡ Some (posted_item r was) → frees (with_item_state items id s) + one_if (is_free was) ≡ frees items + one_if (is_free s)
frees-put [] id s r was is = cc
frees-put (x ∷ items) zero s r was is =
    let same : x ≡ posted_item r was = cc in
    let state : one_if (is_free x.state) ≡ one_if (is_free was) = ap (λ (item : Posted). one_if (is_free item.state)) same in
    omega (arith, counted (is_free s) (frees items), counted (is_free x.state) (frees items), state)
frees-put (x ∷ items) (suc id) s r was is =
    omega (arith, counted (is_free x.state) (frees (with_item_state items id s)), counted (is_free x.state) (frees items), frees-put items id s r was is)

frees-append : (xs ys : List Posted) → frees (xs ++ ys) ≡ frees xs + frees ys
frees-append [] ys = omega arith
frees-append (x ∷ xs) ys = omega (arith, counted (is_free x.state) (frees (xs ++ ys)), counted (is_free x.state) (frees xs), frees-append xs ys)

frees-free : (rs : List Region) → frees (map free rs) ≡ length rs
frees-free [] = refl
frees-free (r ∷ rs) = ap suc (frees-free rs)

freed_kind : (s : ItemState) → one_if (is_free (freed_state s)) ≡ one_if (is_free s) + one_if (is_taken s)
freed_kind Free = refl
freed_kind (Taken who) = refl
freed_kind (Parked cause) = refl
freed_kind Closed = refl

frees-freed : (items : List Posted) → frees (map freed_item items) ≡ frees items + taken_count items
frees-freed [] = refl
frees-freed (x ∷ items) =
    omega (arith, counted (is_free (freed_state x.state)) (frees (map freed_item items)), counted (is_free x.state) (frees items), counted_taken (is_taken x.state) (taken_count items), freed_kind x.state, frees-freed items)
  where
    counted_taken : (b : Bool) (n : ℕ) → (if b then suc n else n) ≡ n + one_if b
    counted_taken true n = omega arith
    counted_taken false n = omega arith

-- settled, taken and free items are all items
abbrev pub Sorted : State → Type 0
Sorted s = s.settled + taken_count s.items + frees s.items ≡ length s.items

placed : (s : State) (id : ℕ) (new was : ItemState) (r : Region) (turns : ℕ) → slice_get s.items id ≡ Some (posted_item r was) → turns + one_if (is_taken new) + one_if (is_free new) ≡ one_if (is_taken was) + one_if (is_free was) → Sorted s → s.settled + turns + taken_count (with_item_state s.items id new) + frees (with_item_state s.items id new) ≡ length (with_item_state s.items id new)
placed s id new was r turns is kinds sorted =
    let t = taken_count-put s.items id new r was is in
    let f = frees-put s.items id new r was is in
    let same = length-put s.items id new in
    omega (arith, t, f, same, kinds, sorted)

sorted_step : (u : Setup) (s : State) (e : Entry) → May u s e → Sorted s → Sorted (step s e)
sorted_step u s (Claim who id) may h = let p = placed s id (Taken who) Free may.0 0 may.1.stands refl h in omega (arith, p)
sorted_step u s (Empty who id) may h = placed s id Closed (Taken who) may.region 1 may.stands refl h
sorted_step u s (Refuted who id) may h = placed s id Closed (Taken who) may.region 1 may.stands refl h
sorted_step u s (Split who id first children) may h =
    let p = placed s id Closed (Taken who) may.1.region 1 may.1.stands refl h in
    let t = taken_count-append (with_item_state s.items id Closed) (map free children) in
    let t0 = taken_count-free children in
    let f = frees-append (with_item_state s.items id Closed) (map free children) in
    let f0 = frees-free children in
    let l = length-append (with_item_state s.items id Closed) (map free children) in
    let l0 = length-map children free in
    omega (arith, p, t, t0, f, f0, l, l0)
sorted_step u s (Found who id cost) may h = placed s id Closed (Taken who) may.region 1 may.stands refl h
sorted_step u s (Park who id cause) may h = placed s id (Parked cause) (Taken who) may.region 1 may.stands refl h
sorted_step u s (Return who id) may h = let p = placed s id Free (Taken who) may.region 0 may.stands refl h in omega (arith, p)
sorted_step u s Reopen may h =
    let t = taken_count-freed s.items in
    let f = frees-freed s.items in
    let l = length-map s.items freed_item in
    omega (arith, h, t, f, l)

sorted_after : (u : Setup) (s : State) (es : List Entry) → LegalFrom u s es → Sorted s → Sorted (state_after_entries s es)
sorted_after u s [] legal h = h
sorted_after u s (e ∷ es) legal h = sorted_after u (step s e) es legal.1 (sorted_step u s e legal.0 h)

pub sorted_legal : (u : Setup) (es : List Entry) → Legal u es → Sorted (state_after u es)
sorted_legal u es legal = sorted_after u (start_state u) es legal.each (omega arith)

-- ---- as many different lists as there are

-- a list of lists without this one
abbrev without : {A : Type 0} (xs : List A) (x : A) → SomeOf (λ y. x ≡ y) xs → List A
without [] x h = []
without (y ∷ xs) x (inl here) = xs
without (y ∷ xs) x (inr rest) = y ∷ without xs x rest

length-without : {A : Type 0} (xs : List A) (x : A) (h : SomeOf (λ y. x ≡ y) xs) → length xs ≡ suc (length (without xs x h))
length-without [] x h = absurd h
length-without (y ∷ xs) x (inl here) = refl
length-without (y ∷ xs) x (inr rest) = ap suc (length-without xs x rest)

stays : {A : Type 0} (xs : List A) (x z : A) (h : SomeOf (λ y. x ≡ y) xs) → x ≢ z → SomeOf (λ y. z ≡ y) xs → SomeOf (λ y. z ≡ y) (without xs x h)
stays [] x z h other k = absurd h
stays (y ∷ xs) x z (inl here) other (inl is) = absurd (other (here ∙ sym is))
stays (y ∷ xs) x z (inl here) other (inr rest) = rest
stays (y ∷ xs) x z (inr there) other (inl is) = inl is
stays (y ∷ xs) x z (inr there) other (inr rest) = inr (stays xs x z there other rest)

each_stays : {A : Type 0} (zs xs : List A) (x : A) (h : SomeOf (λ y. x ≡ y) xs) → EachOf (λ z. x ≢ z) zs → EachOf (λ z. SomeOf (λ y. z ≡ y) xs) zs → EachOf (λ z. SomeOf (λ y. z ≡ y) (without xs x h)) zs
each_stays [] xs x h others each = tt
each_stays (z ∷ zs) xs x h others each = (stays xs x z h others.0 each.0, each_stays zs xs x h others.1 each.1)

-- different elements of a list are at most as many as the list has
pub pigeons : {A : Type 0} (zs xs : List A) → EachTwoOf (λ z y. z ≢ y) zs → EachOf (λ z. SomeOf (λ y. z ≡ y) xs) zs → length zs ≤ length xs
pigeons [] xs once each = omega arith
pigeons (z ∷ zs) xs once each =
    let rest = pigeons zs (without xs z each.0) once.1 (each_stays zs xs z each.0 once.0 each.1) in
    let shorter = length-without xs z each.0 in
    omega (arith, rest, shorter)

-- ---- at most as many items as lists

abbrev pub prefixes : List Posted → List (List ℕ)
prefixes items = map (λ (item : Posted). item.region.prefix) items

-- an item that stands further on differs from this one
differs : (q : List ℕ) (items : List Posted) → ((j : ℕ) (b : Posted) → slice_get items j ≡ Some b → q ≢ b.region.prefix) → EachOf (λ w. q ≢ w) (prefixes items)
differs q [] h = tt
differs q (x ∷ items) h = (h 0 x refl, differs q items (λ j b is. h (suc j) b is))

apart_suc : (i j : ℕ) → i ≢ j → suc i ≢ suc j
apart_suc i j other h = other (omega (arith, h))

not_zero : (j : ℕ) → 0 ≢ suc j
not_zero j h = cc

all_differ : (items : List Posted) → ((i j : ℕ) (a b : Posted) → slice_get items i ≡ Some a → slice_get items j ≡ Some b → i ≢ j → a.region.prefix ≢ b.region.prefix) → EachTwoOf (λ q w. q ≢ w) (prefixes items)
all_differ [] h = tt
all_differ (x ∷ items) h =
    (differs x.region.prefix items (λ j b is. h 0 (suc j) x b refl is (not_zero j)), all_differ items (λ i j a b at_i at_j other. h (suc i) (suc j) a b at_i at_j (apart_suc i j other)))

all_listed : (plan : Planned) (n : ℕ) (many : AreSoMany (IsFree plan.program) n) (items : List Posted) → EachOf (λ (item : Posted). IsItem plan item.region) items → EachOf (λ q. SomeOf (λ w. q ≡ w) many.all) (prefixes items)
all_listed plan n many [] h = tt
all_listed plan n many (x ∷ items) h =
    (many.complete x.region.prefix (record { contiguous = h.0.contiguous; within_caps = h.0.within_caps }), all_listed plan n many items h.1)

pub items_within : (u : Setup) (es : List Entry) (n : ℕ) → IsSetup u → Legal u es → AreSoMany (IsFree u.rows.plan.program) n → length (state_after u es).items ≤ n
items_within u es n h legal many =
    let s : State = state_after u es in
    let kept = kept_legal u es h legal in
    let apart = kept_apart u es legal in
    let le = pigeons (prefixes s.items) many.all (all_differ s.items apart.different) (all_listed u.rows.plan n many s.items kept.items) in
    let same = length-map s.items (λ (item : Posted). item.region.prefix) in
    omega (arith, le, same, many.number)

-- where an item is free, one is
some_free : (items : List Posted) (id : ℕ) (r : Region) → slice_get items id ≡ Some (posted_item r Free) → 1 ≤ frees items
some_free items id r is = let f = frees-put items id Closed r Free is in omega (arith, f)

-- where there are at most as many items as turns
pub free_leaves_a_turn : (u : Setup) (es : List Entry) → Legal u es → length (state_after u es).items ≤ u.limits.turns → (id : ℕ) (r : Region) → slice_get (state_after u es).items id ≡ Some (posted_item r Free) → (state_after u es).settled + taken_count (state_after u es).items < u.limits.turns
free_leaves_a_turn u es legal le id r is =
    let sorted = sorted_legal u es legal in
    let some = some_free (state_after u es).items id r is in
    omega (arith, sorted, some, le)

-- ---- so the limit is never spent

some_is_free : (best : Option ℕ) (items : List Posted) → IsTrue (some_above best is_free items) → (id : ℕ) × (r : Region) × (slice_get items id ≡ Some (posted_item r Free))
some_is_free best [] h = absurd (false≢true h)
some_is_free best (x ∷ items) h = here best x.region x.state items (λ k. some_is_free best items k) h
  where
    here : (best : Option ℕ) (r : Region) (s : ItemState) (items : List Posted) → (IsTrue (some_above best is_free items) → (id : ℕ) × (q : Region) × (slice_get items id ≡ Some (posted_item q Free))) → IsTrue (some_above best is_free (posted_item r s ∷ items)) → (id : ℕ) × (q : Region) × (slice_get (posted_item r s ∷ items) id ≡ Some (posted_item q Free))
    here best r Free items rest h = (0, r, refl)
    here best r (Taken who) items rest h = let k = rest h in (suc k.0, k.1, k.2)
    here best r (Parked cause) items rest h = let k = rest h in (suc k.0, k.1, k.2)
    here best r Closed items rest h = let k = rest h in (suc k.0, k.1, k.2)

not_spent : (n limit : ℕ) → n < limit → IsTrue (n == limit) → ⊥
not_spent n limit lt h = let same = same_number n limit h in omega (arith, lt, same)

ends_spent : (live free_above taken_above spent : Bool) (cause : Cause) → first_end live free_above taken_above spent cause ≡ Some Spent → IsTrue (free_above && spent)
ends_spent false free_above taken_above spent cause h = cc
ends_spent true true taken_above true cause h = refl
ends_spent true true taken_above false cause h = cc
ends_spent true false true spent cause h = cc
ends_spent true false false spent cause h = cc

pub never_ends_spent : (u : Setup) (es : List Entry) → Legal u es → length (state_after u es).items ≤ u.limits.turns → end_of u (state_after u es) ≢ Some Spent
never_ends_spent u es legal le end =
    let s : State = state_after u es in
    let two = both_hold (some_above s.best is_free s.items) (is_spent u s) (ends_spent (some_above s.best is_open s.items) (some_above s.best is_free s.items) (some_above s.best is_taken s.items) (is_spent u s) (cause_of s) end) in
    let one = some_is_free s.best s.items two.0 in
    not_spent (s.settled + taken_count s.items) u.limits.turns (free_leaves_a_turn u es legal le one.0 one.1 one.2) two.1

-- nor does a claim answer so
pub never_answers_spent : (u : Setup) (es : List Entry) (who : ℕ) → Legal u es → length (state_after u es).items ≤ u.limits.turns → ¬ Answers u (state_after u es) who answer.Spent
never_answers_spent u es who legal le h =
    let s : State = state_after u es in
    let one = some_is_free s.best s.items h.0 in
    let lt = free_leaves_a_turn u es legal le one.0 one.1 one.2 in
    let same = h.1 in
    omega (arith, lt, same)
