-- A claim that is got is open, and open claims stay open while others are got, settled or given back.
use Rattle.std.proofs.Common.{◌≡◌, ◌≢◌, ℕ, zero, suc, List, [], ◌∷◌, ◌++◌, length, map, Some, refl, sym, ap, ◌∙◌, subst}
use Rattle.std.specs.Prelude.{slice_get}
use Rattle.c_tree.specs.declared.program.Input.{Input}
use Rattle.race_item.specs.declared.settlement.Conclusion.{Conclusion}
use Rattle.race_item.specs.declared.settlement.Conclusion.TheVariants as c
use Rattle.race_item.specs.Regions.{children_of}
use Rattle.board_core.specs.declared.event.ItemState.{ItemState}
use Rattle.board_core.specs.declared.event.ItemState.TheVariants.{Free, Taken, Parked, Closed}
use Rattle.board_core.specs.declared.event.Cause.TheVariants.{Conflicts, Weight}
use Rattle.board_core.specs.declared.event.Entry.{Entry}
use Rattle.board_core.specs.declared.event.Entry.TheVariants.{Claim, Empty, Refuted, Split, Found, Park, Return}
use Rattle.board_core.specs.Machine.{Posted, posted_item, State, start_state, with_item_state, free, step}
use Rattle.board_core.specs.Boards.{BoardOf, state_of}
use Rattle.board_core.specs.Tickets.{TicketOf}
use Rattle.board_core.specs.Calls.{IsGot, IsOpenClaim, with_entry, board_after_publish}
use Rattle.board_core.proofs.Keeping.Histories.{after_more}
use Rattle.board_core.proofs.Keeping.Apart.{more_there, put_same}

-- ---- items in their places

put_other : (items : List Posted) (id j : ℕ) (s : ItemState) (p : Posted) → id ≢ j → slice_get items j ≡ Some p → slice_get (with_item_state items id s) j ≡ Some p
put_other [] id j s p other is = is
put_other (x ∷ items) zero zero s p other is = absurd (other refl)
put_other (x ∷ items) zero (suc j) s p other is = is
put_other (x ∷ items) (suc id) zero s p other is = is
put_other (x ∷ items) (suc id) (suc j) s p other is = put_other items id j s p (λ same. other (ap suc same)) is

-- ---- tickets

-- the state after one entry more
entry_state : (b : BoardOf) (e : Entry) → state_of (with_entry b e) ≡ step (state_of b) e
entry_state b e = after_more (start_state b.setup) b.entries e

-- the ticket's item is taken by its number
abbrev Holds : State → TicketOf → Type 0
Holds s t = slice_get s.items t.item.id ≡ Some (posted_item t.item.region (Taken t.who))

after_entry : (b : BoardOf) (e : Entry) (t : TicketOf) → t.item.rows ≡ b.setup.rows → Holds (step (state_of b) e) t → IsOpenClaim (with_entry b e) t
after_entry b e t rows h = record { rows = rows; stands = subst (λ s. Holds s t) (sym (entry_state b e)) h }

pub got_is_open : (b : BoardOf) (who : ℕ) (t : TicketOf) → IsGot b.setup (state_of b) who t → IsOpenClaim (with_entry b (Claim t.who t.item.id)) t
got_is_open b who t got =
    after_entry b (Claim t.who t.item.id) t got.rows (put_same (state_of b).items t.item.id (Taken t.who) (posted_item t.item.region Free) got.next.stands)

-- a ticket that is got is of another item than an open one
pub got_is_other : (b : BoardOf) (who : ℕ) (t u : TicketOf) → IsOpenClaim b t → IsGot b.setup (state_of b) who u → u.item.id ≢ t.item.id
got_is_other b who t u open_t got same =
    let is : posted_item u.item.region Free ≡ posted_item t.item.region (Taken t.who) = some_same (posted_item u.item.region Free) (posted_item t.item.region (Taken t.who)) (sym got.next.stands ∙ ap (slice_get (state_of b).items) same ∙ open_t.stands) in
    let states : Free ≡ Taken t.who = ap (λ (i : Posted). i.state) is in
    absurd (cc)
  where
    some_same : (x y : Posted) → Some x ≡ Some y → x ≡ y
    some_same x y h = cc

pub claim_keeps : (b : BoardOf) (who : ℕ) (t u : TicketOf) → IsOpenClaim b t → IsGot b.setup (state_of b) who u → IsOpenClaim (with_entry b (Claim u.who u.item.id)) t
claim_keeps b who t u open_t got =
    after_entry b (Claim u.who u.item.id) t open_t.rows (put_other (state_of b).items u.item.id t.item.id (Taken u.who) (posted_item t.item.region (Taken t.who)) (got_is_other b who t u open_t got) open_t.stands)

-- an entry that puts another item into a state
placed_keeps : (b : BoardOf) (t u : TicketOf) (new : ItemState) → IsOpenClaim b t → u.item.id ≢ t.item.id → slice_get (with_item_state (state_of b).items u.item.id new) t.item.id ≡ Some (posted_item t.item.region (Taken t.who))
placed_keeps b t u new open_t other =
    put_other (state_of b).items u.item.id t.item.id new (posted_item t.item.region (Taken t.who)) other open_t.stands

pub return_keeps : (b : BoardOf) (t u : TicketOf) → IsOpenClaim b t → u.item.id ≢ t.item.id → IsOpenClaim (with_entry b (Return u.who u.item.id)) t
return_keeps b t u open_t other = after_entry b (Return u.who u.item.id) t open_t.rows (placed_keeps b t u Free open_t other)

pub publication_keeps : (b : BoardOf) (t u : TicketOf) (x : Conclusion) → IsOpenClaim b t → u.item.id ≢ t.item.id → IsOpenClaim (board_after_publish b u x) t
publication_keeps b t u c.Empty open_t other = after_entry b (Empty u.who u.item.id) t open_t.rows (placed_keeps b t u Closed open_t other)
publication_keeps b t u c.Refuted open_t other = after_entry b (Refuted u.who u.item.id) t open_t.rows (placed_keeps b t u Closed open_t other)
publication_keeps b t u (c.Split children) open_t other =
    let new = children_of u.item.region children in
    after_entry b (Split u.who u.item.id (length (state_of b).items) new) t open_t.rows
    (more_there (with_item_state (state_of b).items u.item.id Closed) (map free new) t.item.id (posted_item t.item.region (Taken t.who)) (placed_keeps b t u Closed open_t other))
publication_keeps b t u (c.Found input cost) open_t other =
    let after = after_entry b (Found u.who u.item.id cost) t open_t.rows (placed_keeps b t u Closed open_t other) in
    record { rows = after.rows; stands = after.stands }
publication_keeps b t u (c.ParkConflicts limit) open_t other = after_entry b (Park u.who u.item.id Conflicts) t open_t.rows (placed_keeps b t u (Parked Conflicts) open_t other)
publication_keeps b t u c.ParkWeight open_t other = after_entry b (Park u.who u.item.id Weight) t open_t.rows (placed_keeps b t u (Parked Weight) open_t other)
