-- On the board of a race of one no item is taken but the claimed one.
use Rattle.std.proofs.Common.{◌≡◌, ◌+◌, ◌∷◌, ◌++◌, ℕ, zero, suc, Bool, true, false, List, [], Option, length, map, refl, sym, ap, ◌∙◌, subst}
use Rattle.race_item.specs.declared.region.Region.{Region}
use Rattle.race_item.specs.declared.settlement.Conclusion.{Conclusion}
use Rattle.race_item.specs.declared.settlement.Conclusion.TheVariants as c
use Rattle.race_item.specs.Regions.{children_of}
use Rattle.board_core.specs.declared.event.Cause.TheVariants.{Conflicts, Weight}
use Rattle.board_core.specs.declared.event.ItemState.{ItemState}
use Rattle.board_core.specs.declared.event.ItemState.TheVariants.{Closed, Free, Parked, Taken}
use Rattle.board_core.specs.declared.event.Entry.{Entry}
use Rattle.board_core.specs.declared.event.Entry.TheVariants as entry
use Rattle.board_core.specs.Kinds.{is_taken}
use Rattle.board_core.specs.Machine.{Posted, State, with_item_state, free, step}
use Rattle.board_core.specs.Showing.{some_above}
use Rattle.board_core.specs.Tickets.{TicketOf}
use Rattle.board_core.specs.Boards.{BoardOf, state_of}
use Rattle.board_core.specs.Calls.{with_entry, board_after_publish}
use Rattle.board_core.proofs.Keeping.Histories.{after_more}
use Rattle.squeeze_race.specs.Races.{AreUntaken, NoneTaken, IsTakenAlone, HasSettledOne}

-- ---- items

pub untaken_with : (items : List Posted) (id : ℕ) (s : ItemState) → is_taken s ≡ false → AreUntaken items → AreUntaken (with_item_state items id s)
untaken_with [] id s not_taken h = tt
untaken_with (item ∷ items) zero s not_taken h = (not_taken, h.1)
untaken_with (item ∷ items) (suc id) s not_taken h = (h.0, untaken_with items id s not_taken h.1)

-- the later state of an item decides
with_twice : (items : List Posted) (id : ℕ) (s t : ItemState) → with_item_state (with_item_state items id s) id t ≡ with_item_state items id t
with_twice [] id s t = refl
with_twice (item ∷ items) zero s t = refl
with_twice (item ∷ items) (suc id) s t = ap (λ rest. item ∷ rest) (with_twice items id s t)

untaken_free : (children : List Region) → AreUntaken (map free children)
untaken_free [] = tt
untaken_free (child ∷ children) = (refl, untaken_free children)

untaken_both : (items more : List Posted) → AreUntaken items → AreUntaken more → AreUntaken (items ++ more)
untaken_both [] more h k = k
untaken_both (item ∷ items) more h k = (h.0, untaken_both items more h.1 k)

pub none_taken_above : (best : Option ℕ) (items : List Posted) → AreUntaken items → some_above best is_taken items ≡ false
none_taken_above best [] h = refl
none_taken_above best (item ∷ items) h = rw (h.0, none_taken_above best items h.1) refl

-- ---- boards

after_entry : (b : BoardOf) (e : Entry) → state_of (with_entry b e) ≡ step (state_of b) e
after_entry b e = after_more _ b.entries e

-- once an item is claimed, it alone is taken
pub claimed_alone : (b : BoardOf) (t : TicketOf) → NoneTaken b → IsTakenAlone (with_entry b (entry.Claim t.who t.item.id)) t
claimed_alone b t none = λ s not_taken.
    let items = (state_of b).items in
    subst (λ (now : State). AreUntaken (with_item_state now.items t.item.id s)) (sym (after_entry b (entry.Claim t.who t.item.id)))
    (subst AreUntaken (sym (with_twice items t.item.id (Taken t.who) s)) (untaken_with items t.item.id s not_taken none))

-- a claim settles nothing
pub claim_settles_none : (b : BoardOf) (who id : ℕ) → (state_of (with_entry b (entry.Claim who id))).settled ≡ (state_of b).settled
claim_settles_none b who id = ap (λ (s : State). s.settled) (after_entry b (entry.Claim who id))

-- after its return no item is taken
pub returned : (b : BoardOf) (t : TicketOf) → IsTakenAlone b t → NoneTaken (with_entry b (entry.Return t.who t.item.id))
returned b t alone = subst (λ (now : State). AreUntaken now.items) (sym (after_entry b (entry.Return t.who t.item.id))) (alone Free refl)

-- after the publication of a conclusion no item is taken, and one turn more is settled
pub record IsSettled (old new : BoardOf) : Type 0 where
  pub untaken : NoneTaken new
  pub one : HasSettledOne old new

settled_by : (old new : BoardOf) (e : Entry) → state_of new ≡ step (state_of old) e → AreUntaken (step (state_of old) e).items
    → (step (state_of old) e).settled ≡ (state_of old).settled + 1 → IsSettled old new
settled_by old new e is untaken one = record {
  untaken = subst (λ (now : State). AreUntaken now.items) (sym is) untaken;
  one = ap (λ (s : State). s.settled) is ∙ one;
}

pub published : (b : BoardOf) (t : TicketOf) (x : Conclusion) → IsTakenAlone b t → IsSettled b (board_after_publish b t x)
published b t c.Empty alone = settled_by b _ (entry.Empty t.who t.item.id) (after_entry b (entry.Empty t.who t.item.id)) (alone Closed refl) refl
published b t c.Refuted alone = settled_by b _ (entry.Refuted t.who t.item.id) (after_entry b (entry.Refuted t.who t.item.id)) (alone Closed refl) refl
published b t (c.Split children) alone =
    let e = entry.Split t.who t.item.id (length (state_of b).items) (children_of t.item.region children) in
    settled_by b _ e (after_entry b e)
    (untaken_both (with_item_state (state_of b).items t.item.id Closed) (map free (children_of t.item.region children)) (alone Closed refl) (untaken_free (children_of t.item.region children)))
    refl
published b t (c.Found input cost) alone =
    settled_by b _ (entry.Found t.who t.item.id cost) (after_more _ b.entries (entry.Found t.who t.item.id cost)) (alone Closed refl) refl
published b t (c.ParkConflicts limit) alone = settled_by b _ (entry.Park t.who t.item.id Conflicts) (after_entry b (entry.Park t.who t.item.id Conflicts)) (alone (Parked Conflicts) refl) refl
published b t c.ParkWeight alone = settled_by b _ (entry.Park t.who t.item.id Weight) (after_entry b (entry.Park t.who t.item.id Weight)) (alone (Parked Weight) refl) refl
