-- The fields of a board after one entry more.
use Rattle.std.proofs.Common.{◌≡◌, ◌≤◌, ℕ, zero, suc, ◌+◌, ◌*◌, List, [], ◌∷◌, ◌++◌, length, map, Option, refl, sym, ap, ◌∙◌, subst, arith}
use Rattle.ipet_rows.specs.Sound.{PlanRows}
use Rattle.race_item.specs.declared.region.Region.{Region}
use Rattle.race_item.specs.Lists.{EachOf}
use Rattle.board_core.specs.declared.event.ItemState.{ItemState}
use Rattle.board_core.specs.declared.event.Event.{Event}
use Rattle.board_core.specs.declared.event.Entry.{Entry}
use Rattle.board_core.specs.declared.held.Held.{Held}
use Rattle.board_core.specs.declared.best.Best.{Best}
use Rattle.board_core.specs.Machine.{Setup, State, Posted, step, start_state, with_item_state, taken_count, freed_item}
use Rattle.board_core.specs.Conditions.{May, LegalFrom}
use Rattle.board_core.specs.Histories.{state_after}
use Rattle.board_core.specs.Kept.{KeptState, DrivesBest}
use Rattle.board_core.specs.Holding.{posted_of, AreItems, put_held, freed_held}
use Rattle.board_core.specs.Boards.{Fields, IsBoard, setup, state_in, regions, entries_of, IsThere, cost_of_best, input_of_best}
use Rattle.board_core.proofs.Keeping.Induction.{kept_legal}
use Rattle.board_core.proofs.Keeping.Histories.{legal_more, after_more}

-- ---- held items and the machine's

pub posted-put : (items : List Held) (id : ℕ) (s : ItemState) → map posted_of (put_held items id s) ≡ with_item_state (map posted_of items) id s
posted-put [] id s = refl
posted-put (held ∷ items) zero s = refl
posted-put (held ∷ items) (suc id) s = ap (λ (l : List Posted). posted_of held ∷ l) (posted-put items id s)

pub regions-put : (items : List Held) (id : ℕ) (s : ItemState) → regions (put_held items id s) ≡ regions items
regions-put [] id s = refl
regions-put (held ∷ items) zero s = refl
regions-put (held ∷ items) (suc id) s = ap (λ (l : List Region). held.item.region ∷ l) (regions-put items id s)

pub length-put_held : (items : List Held) (id : ℕ) (s : ItemState) → length (put_held items id s) ≡ length items
length-put_held [] id s = refl
length-put_held (held ∷ items) zero s = refl
length-put_held (held ∷ items) (suc id) s = ap suc (length-put_held items id s)

pub AreItems-put : (rows : PlanRows) (n : ℕ) (items : List Held) (id : ℕ) (s : ItemState) → AreItems rows n items → AreItems rows n (put_held items id s)
AreItems-put rows n [] id s h = h
AreItems-put rows n (held ∷ items) zero s h = h
AreItems-put rows n (held ∷ items) (suc id) s h = (h.0, h.1, AreItems-put rows (n + 1) items id s h.2)

pub posted-freed : (items : List Held) → map posted_of (map freed_held items) ≡ map freed_item (map posted_of items)
posted-freed [] = refl
posted-freed (held ∷ items) = ap (λ (l : List Posted). posted_of (freed_held held) ∷ l) (posted-freed items)

pub regions-freed : (items : List Held) → regions (map freed_held items) ≡ regions items
regions-freed [] = refl
regions-freed (held ∷ items) = ap (λ (l : List Region). held.item.region ∷ l) (regions-freed items)

pub AreItems-freed : (rows : PlanRows) (n : ℕ) (items : List Held) → AreItems rows n items → AreItems rows n (map freed_held items)
AreItems-freed rows n [] h = h
AreItems-freed rows n (held ∷ items) h = (h.0, h.1, AreItems-freed rows (n + 1) items h.2)

pub AreItems-append : (rows : PlanRows) (n : ℕ) (xs ys : List Held) → AreItems rows n xs → AreItems rows (n + length xs) ys → AreItems rows n (xs ++ ys)
AreItems-append rows n [] ys h k = subst (λ m. AreItems rows m ys) (omega arith) k
AreItems-append rows n (held ∷ xs) ys h k =
    (h.0, h.1, AreItems-append rows (n + 1) xs ys h.2 (subst (λ m. AreItems rows m ys) (omega arith) k))

-- ---- one entry more

abbrev pub more : Fields → List Held → Option Best → ℕ → ℕ → Event → Fields
more f items best settled count ev = record { rows = f.rows; limits = f.limits; opening = f.opening; items = items; best = best; settled = settled; taken = count; journal = f.journal ++ ev ∷ [] }

-- the new fields are what the entry makes of the old ones
pub record Goes (f g : Fields) (e : Entry) (item_room journal_room : ℕ) : Type 0 where
  pub may : May (setup f.rows f.limits f.opening) (state_in f) e
  pub goes : step (state_in f) e ≡ state_in g
  pub told : entries_of (regions g.items) g.journal ≡ entries_of (regions f.items) f.journal ++ e ∷ []
  pub drives : DrivesBest f.rows.plan (cost_of_best g.best) (input_of_best g.best)
  pub numbered : AreItems f.rows 0 g.items
  pub counted : g.taken ≡ taken_count (map posted_of g.items)
  pub there : EachOf (IsThere (length g.items)) g.journal
  pub items_fit : length g.items + 3 * g.taken ≤ item_room
  pub entries_fit : length g.journal + g.taken ≤ journal_room

pub IsBoard-more : (f : Fields) (ir jr : ℕ) (items : List Held) (best : Option Best) (settled count : ℕ) (ev : Event) (e : Entry) (ir' jr' : ℕ) → IsBoard f ir jr → Goes f (more f items best settled count ev) e ir' jr' → IsBoard (more f items best settled count ev) ir' jr'
IsBoard-more f ir jr items best settled count ev e ir' jr' b h =
    let g : Fields = more f items best settled count ev in
    let u : Setup = setup f.rows f.limits f.opening in
    let es : List Entry = entries_of (regions f.items) f.journal in
    let es' : List Entry = entries_of (regions g.items) g.journal in
    let is' : state_after u es' ≡ state_in g = ap (state_after u) h.told ∙ after_more (start_state u) es e ∙ ap (λ s. step s e) b.is ∙ h.goes in
    let may' : May u (state_after u es) e = subst (λ s. May u s e) (sym b.is) h.may in
    let legal' : LegalFrom u (start_state u) es' = subst (LegalFrom u (start_state u)) (sym h.told) (legal_more u (start_state u) es e b.keeps.legal.each may') in
    let kept' : KeptState u (state_after u es') = kept_legal u es' b.set_up (record { each = legal' }) in
    let at_fields : KeptState u (state_in g) = subst (KeptState u) is' kept' in
    let within' = at_fields.within in
    let counted' = h.counted in
    record {
      limited = b.limited;
      set_up = b.set_up;
      keeps = record {
        legal = record { each = legal' };
        state_kept = kept';
        best_kept = subst (λ (s : State). DrivesBest f.rows.plan s.best (input_of_best best)) (sym is') h.drives;
      };
      is = is';
      numbered = h.numbered;
      within = omega arith;
      counted = h.counted;
      there = h.there;
      items_fit = h.items_fit;
      entries_fit = h.entries_fit;
    }
