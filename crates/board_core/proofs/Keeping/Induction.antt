-- What is kept holds after every legal history.
use Rattle.std.proofs.Common.{◌≤◌, inl, inr, ⊎_elim, ℕ, ◌+◌, List, [], ◌∷◌, map, Option, Some, None, refl, arith, length-append}
use Rattle.std.proofs.lemmas.List.{length-map}
use Rattle.race_item.specs.declared.region.Region.{Region}
use Rattle.race_item.specs.Regions.{Covers}
use Rattle.race_item.specs.Items.{IsItem, list_cost}
use Rattle.race_item.specs.Facts.{IsRefuted, IsPartOf}
use Rattle.board_core.specs.declared.event.Cause.{Cause}
use Rattle.board_core.specs.declared.event.ItemState.TheVariants.{Free, Taken, Parked, Closed}
use Rattle.board_core.specs.declared.event.Entry.{Entry}
use Rattle.board_core.specs.declared.event.Entry.TheVariants.{Claim, Empty, Refuted, Split, Found, Park, Return, Reopen}
use Rattle.board_core.specs.Machine.{Posted, posted_item, Setup, State, state, step, state_after_entries, start_state, with_item_state, freed_item, free, better}
use Rattle.board_core.specs.Conditions.{May, LegalFrom, IsTaken}
use Rattle.board_core.specs.Histories.{Legal, state_after}
use Rattle.board_core.specs.Kept.{IsSetup, KeptState, CoversOpen, IsAtMostBest}
use Rattle.board_core.proofs.Lists.{EachOf-append, EachOf-map, SomeOf-append_left, SomeOf-append_right, SomeOf-map}
use Rattle.board_core.proofs.Places.{EachOf-put, length-put, SomeOf-put_or, taken_count-put, taken_count-freed, open_freed, taken_count-append, taken_count-free}
use Rattle.board_core.proofs.Paths.{empty_is_refuted, found_is_dearest}
use Rattle.board_core.proofs.Keeping.Steps.{kept, kept_start, stays_open, closes, at_number}

-- ---- entries that leave the item open

claimed : (u : Setup) (s : State) (who id : ℕ) → KeptState u s → May u s (Claim who id) → KeptState u (step s (Claim who id))
claimed u s who id k may =
    let stands = may.1.stands in
    let count = taken_count-put s.items id (Taken who) may.0 Free stands in
    let same = length-put s.items id (Taken who) in
    let below = may.2 in
    let few = k.few in
    kept u (step s (Claim who id)) (EachOf-put (IsItem u.rows.plan) s.items id (Taken who) k.items) (stays_open u.rows.plan s.items id (Taken who) s.best refl k.covered) (omega arith) (omega arith)

returned : (u : Setup) (s : State) (who id : ℕ) → KeptState u s → May u s (Return who id) → KeptState u (step s (Return who id))
returned u s who id k may =
    let count = taken_count-put s.items id Free may.region (Taken who) may.stands in
    let same = length-put s.items id Free in
    let within = k.within in
    let few = k.few in
    kept u (step s (Return who id)) (EachOf-put (IsItem u.rows.plan) s.items id Free k.items) (stays_open u.rows.plan s.items id Free s.best refl k.covered) (omega arith) (omega arith)

parked : (u : Setup) (s : State) (who id : ℕ) (cause : Cause) → KeptState u s → May u s (Park who id cause) → KeptState u (step s (Park who id cause))
parked u s who id cause k may =
    let count = taken_count-put s.items id (Parked cause) may.region (Taken who) may.stands in
    let same = length-put s.items id (Parked cause) in
    let within = k.within in
    let few = k.few in
    kept u (step s (Park who id cause)) (EachOf-put (IsItem u.rows.plan) s.items id (Parked cause) k.items) (stays_open u.rows.plan s.items id (Parked cause) s.best refl k.covered) (omega arith) (omega arith)

reopened : (u : Setup) (s : State) → KeptState u s → KeptState u (step s Reopen)
reopened u s k =
    let none = taken_count-freed s.items in
    let same = length-map s.items freed_item in
    let within = k.within in
    let few = k.few in
    kept u (step s Reopen) (EachOf-map (λ (item : Posted). IsItem u.rows.plan item.region) (λ (item : Posted). IsItem u.rows.plan item.region) freed_item (λ item h. h) s.items k.items)
    (λ q driven. ⊎_elim (λ some. inl (SomeOf-map (CoversOpen u.rows.plan q) (CoversOpen u.rows.plan q) freed_item (λ item h. (open_freed item.state h.0, h.1)) s.items some)) (λ most. inr most) (k.covered q driven))
    (omega arith)
    (omega arith)

-- ---- entries that close it

refuted : (u : Setup) (s : State) (who id : ℕ) → KeptState u s → IsTaken s who id (IsRefuted u.rows.plan) → KeptState u (state (with_item_state s.items id Closed) s.best (s.settled + 1))
refuted u s who id k may =
    let count = taken_count-put s.items id Closed may.region (Taken who) may.stands in
    let same = length-put s.items id Closed in
    let within = k.within in
    let few = k.few in
    kept u (state (with_item_state s.items id Closed) s.best (s.settled + 1)) (EachOf-put (IsItem u.rows.plan) s.items id Closed k.items)
    (closes u.rows.plan s.items id may.region (Taken who) Closed s.best may.stands (λ q driven covers. absurd (may.says q driven covers)) k.covered)
    (omega arith)
    (omega arith)

-- a greater best is at least what the lesser one was
at_most_better : (best : Option ℕ) (cost n : ℕ) → IsAtMostBest best n → IsAtMostBest (better best cost) n
at_most_better None cost n h = absurd h
at_most_better (Some best) cost n h = omega arith

at_most_found : (best : Option ℕ) (cost n : ℕ) → n ≤ cost → IsAtMostBest (better best cost) n
at_most_found None cost n h = h
at_most_found (Some best) cost n h = omega arith

found : (u : Setup) (s : State) (who id cost : ℕ) → KeptState u s → May u s (Found who id cost) → KeptState u (step s (Found who id cost))
found u s who id cost k may =
    let count = taken_count-put s.items id Closed may.region (Taken who) may.stands in
    let same = length-put s.items id Closed in
    let within = k.within in
    let few = k.few in
    let item = at_number (IsItem u.rows.plan) s.items id may.region (Taken who) k.items may.stands in
    kept u (step s (Found who id cost)) (EachOf-put (IsItem u.rows.plan) s.items id Closed k.items)
    (closes u.rows.plan s.items id may.region (Taken who) Closed (better s.best cost) may.stands
    (λ q driven covers. inr (at_most_found s.best cost (list_cost u.rows.plan q) (found_is_dearest u.rows.plan may.region may.says.0 cost item.bounds may.says.1 q driven covers)))
    (λ q driven. ⊎_elim (λ some. inl some) (λ most. inr (at_most_better s.best cost (list_cost u.rows.plan q) most)) (k.covered q driven)))
    (omega arith)
    (omega arith)

split : (u : Setup) (s : State) (who id first : ℕ) (children : List Region) → KeptState u s → May u s (Split who id first children) → KeptState u (step s (Split who id first children))
split u s who id first children k may =
    let taken_by = may.1 in
    let count = taken_count-put s.items id Closed taken_by.region (Taken who) taken_by.stands in
    let same = length-put s.items id Closed in
    let within = k.within in
    let few = k.few in
    let several = taken_by.says.several in
    let all = taken_count-append (with_item_state s.items id Closed) (map free children) in
    let none = taken_count-free children in
    let longer = length-append (with_item_state s.items id Closed) (map free children) in
    let as_many = length-map children free in
    kept u (step s (Split who id first children))
    (EachOf-append (λ (item : Posted). IsItem u.rows.plan item.region) (with_item_state s.items id Closed) (map free children) (EachOf-put (IsItem u.rows.plan) s.items id Closed k.items)
    (EachOf-map (IsPartOf u.rows.plan taken_by.region) (λ (item : Posted). IsItem u.rows.plan item.region) free (λ child part. part.item) children taken_by.says.parts))
    (λ q driven. ⊎_elim
    (λ some. ⊎_elim
    (λ here. inl (SomeOf-append_right (CoversOpen u.rows.plan q) (with_item_state s.items id Closed) (map free children)
    (SomeOf-map (λ (child : Region). Covers u.rows.plan.program child q) (CoversOpen u.rows.plan q) free (λ child covers. (refl, covers)) children (taken_by.says.covered q driven here.1))))
    (λ others. inl (SomeOf-append_left (CoversOpen u.rows.plan q) (with_item_state s.items id Closed) (map free children) others))
    (SomeOf-put_or (CoversOpen u.rows.plan q) s.items id Closed (posted_item taken_by.region (Taken who)) taken_by.stands some))
    (λ most. inr most)
    (k.covered q driven))
    (omega arith)
    (omega arith)

-- ---- each entry, and each history

pub kept_step : (u : Setup) (s : State) (e : Entry) → IsSetup u → KeptState u s → May u s e → KeptState u (step s e)
kept_step u s (Claim who id) h k may = claimed u s who id k may
kept_step u s (Empty who id) h k may =
    refuted u s who id k (record { region = may.region; stands = may.stands; says = empty_is_refuted u.rows may.region h.rows_hold may.says })
kept_step u s (Refuted who id) h k may = refuted u s who id k may
kept_step u s (Split who id first children) h k may = split u s who id first children k may
kept_step u s (Found who id cost) h k may = found u s who id cost k may
kept_step u s (Park who id cause) h k may = parked u s who id cause k may
kept_step u s (Return who id) h k may = returned u s who id k may
kept_step u s Reopen h k may = reopened u s k

pub kept_after : (u : Setup) (s : State) (es : List Entry) → IsSetup u → KeptState u s → LegalFrom u s es → KeptState u (state_after_entries s es)
kept_after u s [] h k legal = k
kept_after u s (e ∷ es) h k legal = kept_after u (step s e) es h (kept_step u s e h k legal.0) legal.1

pub kept_legal : (u : Setup) (es : List Entry) → IsSetup u → Legal u es → KeptState u (state_after u es)
kept_legal u es h legal = kept_after u (start_state u) es h (kept_start u h) legal.each
