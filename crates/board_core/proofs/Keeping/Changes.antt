-- The fields of a board after each kind of entry.
use Rattle.std.proofs.Common.{◌≡◌, ◌≤◌, ◌<◌, ◌⊎◌, ⊎_elim, ℕ, zero, suc, ◌+◌, ◌-◌, ◌*◌, max, true, false, if◌then◌else◌, get_or, List, [], ◌∷◌, ◌++◌, length, map, take, drop, Option, Some, None, refl, sym, ap, ◌∙◌, subst, arith, length-append}
use Rattle.std.specs.Prelude.{slice_get, nat_lt}
use Rattle.c_tree.specs.declared.program.Input.{Input}
use Rattle.flow_graph.specs.Plans.{Planned}
use Rattle.std.proofs.lemmas.Option.{slice_get_within}
use Rattle.std.proofs.lemmas.List.{length-map, map-append, take_all}
use lib.Seq.{drop-append_seam}
use Rattle.ipet_rows.specs.Sound.{PlanRows}
use Rattle.race_item.specs.declared.region.Region.{Region}
use Rattle.race_item.specs.declared.region.Child.{Child}
use Rattle.race_item.specs.Lists.{EachOf}
use Rattle.race_item.specs.declared.region.Limits.{Limits}
use Rattle.race_item.specs.Facts.{IsFound, IsSplit, IsPartOf}
use Rattle.race_item.specs.Regions.{region, child_of, children_of}
use Rattle.race_item.specs.Items.{IsItem}
use Rattle.race_item.specs.RaceLimits.{AreLimits}
use Rattle.board_core.specs.declared.event.ItemState.{ItemState}
use Rattle.board_core.specs.declared.event.ItemState.TheVariants.{Free, Taken, Closed}
use Rattle.board_core.specs.declared.event.Event.{Event}
use Rattle.board_core.specs.declared.event.Event.TheVariants as event
use Rattle.board_core.specs.declared.event.Entry.{Entry}
use Rattle.board_core.specs.declared.event.Entry.TheVariants as entry
use Rattle.board_core.specs.declared.held.Held.{Held}
use Rattle.board_core.specs.declared.best.Best.{Best}
use Rattle.board_core.specs.Kinds.{is_taken}
use Rattle.board_core.specs.Machine.{Setup, State, state, Posted, posted_item, step, with_item_state, taken_count, free, better}
use Rattle.board_core.specs.Conditions.{May, IsNext, is_above}
use Rattle.board_core.specs.Kept.{DrivesBest, IsSetup}
use Rattle.board_core.specs.Holding.{posted_of, AreItems, child_items, put_held, freed_held}
use Rattle.board_core.specs.Boards.{Fields, IsBoard, BoardOf, setup, board_of, state_of, state_in, regions, entry_of, entries_of, IsThere, cost_of_best, input_of_best}
use Rattle.board_core.specs.Calls.{Marks, IsPlain, IsTakenAt, with_entry}
use Rattle.board_core.proofs.Lists.{EachOf-append}
use Rattle.board_core.proofs.Picks.{lt_from}
use Rattle.board_core.proofs.Keeping.Steps.{kept_start}
use Rattle.board_core.proofs.Places.{one_if, taken_count-put, taken_count-freed, taken_count-append, taken_count-free}
use Rattle.board_core.proofs.Keeping.Histories.{entries_more, entries_stay, each_there}
use Rattle.board_core.proofs.Keeping.Fields.{posted-put, regions-put, length-put_held, AreItems-put, posted-freed, regions-freed, AreItems-freed, AreItems-append, more, IsBoard-more}
use Rattle.plain_laws.proofs.Numbers.{not_below}

abbrev pub setup_of : Fields → Setup
setup_of f = setup f.rows f.limits f.opening

-- ---- what is known of the fields

-- best's input drives a path of best's cost
pub drives_best : (f : Fields) (ir jr : ℕ) → IsBoard f ir jr → DrivesBest f.rows.plan (cost_of_best f.best) (input_of_best f.best)
drives_best f ir jr b = subst (λ (s : State). DrivesBest f.rows.plan s.best (input_of_best f.best)) b.is b.keeps.best_kept

-- there are few items
pub few_items : (f : Fields) (ir jr : ℕ) → IsBoard f ir jr → length f.items ≤ 3 * f.settled + 1
few_items f ir jr b =
    let few = subst (λ (s : State). length s.items ≤ 3 * s.settled + 1) b.is b.keeps.state_kept.few in
    let same = length-map f.items posted_of in
    omega (arith, few, same)

-- each is an item
pub items_sound : (f : Fields) (ir jr : ℕ) → IsBoard f ir jr → EachOf (λ (item : Posted). IsItem f.rows.plan item.region) (map posted_of f.items)
items_sound f ir jr b = subst (λ (s : State). EachOf (λ (item : Posted). IsItem f.rows.plan item.region) s.items) b.is b.keeps.state_kept.items

-- a number at which an item is
pub is_within : (f : Fields) (id : ℕ) (p : Posted) → slice_get (map posted_of f.items) id ≡ Some p → id < length f.items
is_within f id p is =
    let lt = slice_get_within (map posted_of f.items) id p is in
    let same = length-map f.items posted_of in
    omega (arith, lt, same)

-- where one is taken, some is
pub some_taken : (f : Fields) (ir jr who id : ℕ) (r : Region) → IsBoard f ir jr → slice_get (map posted_of f.items) id ≡ Some (posted_item r (Taken who)) → 1 ≤ f.taken
some_taken f ir jr who id r b is =
    let count = taken_count-put (map posted_of f.items) id Free r (Taken who) is in
    let counted = b.counted in
    omega (arith, count, counted)

-- ---- one item in another state

pub placed : (f : Fields) (ir jr id : ℕ) (new was : ItemState) (r : Region) (best : Option Best) (turns count : ℕ) (ev : Event) (e : Entry) (ir' jr' : ℕ)
    → IsBoard f ir jr
    → slice_get (map posted_of f.items) id ≡ Some (posted_item r was)
    → May (setup_of f) (state_in f) e
    → step (state_in f) e ≡ state (with_item_state (map posted_of f.items) id new) (cost_of_best best) (f.settled + turns)
    → entry_of (regions f.items) ev ≡ e
    → IsThere (length f.items) ev
    → DrivesBest f.rows.plan (cost_of_best best) (input_of_best best)
    → count + one_if (is_taken was) ≡ f.taken + one_if (is_taken new)
    → length f.items + 3 * count ≤ ir'
    → length f.journal + 1 + count ≤ jr'
    → IsBoard (more f (put_held f.items id new) best (f.settled + turns) count ev) ir' jr'
placed f ir jr id new was r best turns count ev e ir' jr' b is may goes says there drives counted fits fit =
    let items : List Held = put_held f.items id new in
    let same : length items ≡ length f.items = length-put_held f.items id new in
    let changed = taken_count-put (map posted_of f.items) id new r was is in
    let now : taken_count (map posted_of items) ≡ taken_count (with_item_state (map posted_of f.items) id new) = ap taken_count (posted-put f.items id new) in
    let before = b.counted in
    let longer = length-append f.journal (ev ∷ []) in
    IsBoard-more f ir jr items best (f.settled + turns) count ev e ir' jr' b (record {
      may = may;
      goes = goes ∙ ap (λ (l : List Posted). state l (cost_of_best best) (f.settled + turns)) (sym (posted-put f.items id new));
      told = ap (λ (rs : List Region). entries_of rs (f.journal ++ ev ∷ [])) (regions-put f.items id new) ∙ entries_more (regions f.items) f.journal ev ∙ ap (λ (d : Entry). entries_of (regions f.items) f.journal ++ d ∷ []) says;
      drives = drives;
      numbered = AreItems-put f.rows 0 f.items id new b.numbered;
      counted = omega (arith, changed, now, before, counted);
      there = subst (λ n. EachOf (IsThere n) (f.journal ++ ev ∷ [])) (sym same) (EachOf-append (IsThere (length f.items)) f.journal (ev ∷ []) b.there (there, tt));
      items_fit = omega (arith, fits, same);
      entries_fit = omega (arith, fit, longer);
    })

-- what contracts see then
pub seen_placed : (f : Fields) (id : ℕ) (new : ItemState) (best : Option Best) (settled count : ℕ) (ev : Event) (e : Entry) → entry_of (regions f.items) ev ≡ e → board_of (more f (put_held f.items id new) best settled count ev) ≡ record { setup = setup_of f; entries = entries_of (regions f.items) f.journal ++ e ∷ []; input = input_of_best best }
seen_placed f id new best settled count ev e says =
    ap (λ (es : List Entry). let b : BoardOf = record { setup = setup_of f; entries = es; input = input_of_best best } in b)
    (ap (λ (rs : List Region). entries_of rs (f.journal ++ ev ∷ [])) (regions-put f.items id new) ∙ entries_more (regions f.items) f.journal ev ∙ ap (λ (d : Entry). entries_of (regions f.items) f.journal ++ d ∷ []) says)

-- ---- marks

pub marked : (f : Fields) (ir jr who id : ℕ) (new : ItemState) (turns : ℕ) (ev : Event) → IsBoard f ir jr → Marks id new turns (entry_of [] ev) → IsPlain ev → is_taken new ≡ false → May (setup_of f) (state_of (board_of f)) (entry_of [] ev) → IsTakenAt (state_of (board_of f)) who id → IsBoard (more f (put_held f.items id new) f.best (f.settled + turns) (f.taken - 1) ev) ir jr
marked f ir jr who id new turns ev b marks plain untaken may stands =
    let here : IsTakenAt (state_in f) who id = subst (λ (s : State). IsTakenAt s who id) b.is stands in
    let some = some_taken f ir jr who id here.0 b here.1 in
    let none : one_if (is_taken new) ≡ 0 = ap one_if untaken in
    let fits = b.items_fit in
    let fit = b.entries_fit in
    placed f ir jr id new (Taken who) here.0 f.best turns (f.taken - 1) ev (entry_of [] ev) ir jr b here.1
    (subst (λ (s : State). May (setup_of f) s (entry_of [] ev)) b.is may)
    (marks (state_in f))
    (plain.0 (regions f.items))
    (plain.1 (length f.items))
    (drives_best f ir jr b)
    (omega (arith, some, none))
    (omega (arith, fits))
    (omega (arith, fit, some))

-- ---- the same fields, as the code has them

abbrev pub with_lists : Fields → List Held → List Event → Fields
with_lists f items journal = record { rows = f.rows; limits = f.limits; opening = f.opening; items = items; best = f.best; settled = f.settled; taken = f.taken; journal = journal }

pub IsBoard-lists : (g : Fields) (items : List Held) (journal : List Event) (ir ir' jr jr' : ℕ) → items ≡ g.items → journal ≡ g.journal → ir' ≡ ir → jr' ≡ jr → IsBoard g ir jr → IsBoard (with_lists g items journal) ir' jr'
IsBoard-lists g items journal ir ir' jr jr' same_items same_journal same_room same_places b =
    subst (λ (l : List Held). IsBoard (with_lists g l journal) ir' jr') (sym same_items)
    (subst (λ (l : List Event). IsBoard (with_lists g g.items l) ir' jr') (sym same_journal)
    (subst (λ n. IsBoard g n jr') (sym same_room) (subst (λ n. IsBoard g ir n) (sym same_places) b)))

pub seen-lists : (g : Fields) (items : List Held) (journal : List Event) → items ≡ g.items → journal ≡ g.journal → board_of (with_lists g items journal) ≡ board_of g
seen-lists g items journal same_items same_journal =
    ap (λ (l : List Held). board_of (with_lists g l journal)) same_items ∙ ap (λ (l : List Event). board_of (with_lists g g.items l)) same_journal

-- more room
pub IsBoard-roomier : (f : Fields) (ir jr ir' jr' : ℕ) → ir ≤ ir' → jr ≤ jr' → IsBoard f ir jr → IsBoard f ir' jr'
IsBoard-roomier f ir jr ir' jr' more_room more_places b = record {
  limited = b.limited;
  set_up = b.set_up;
  keeps = b.keeps;
  is = b.is;
  numbered = b.numbered;
  within = b.within;
  counted = b.counted;
  there = b.there;
  items_fit = let fits = b.items_fit in omega (arith, fits);
  entries_fit = let fit = b.entries_fit in omega (arith, fit);
}

-- ---- a claim

-- the item of a number is of the rows and has the number
pub item_at : (rows : PlanRows) (n : ℕ) (items : List Held) (id : ℕ) (held : Held) → AreItems rows n items → id < length items → held ≡ get_or items id held → (held.item.rows ≡ rows) × (held.item.id ≡ n + id)
item_at rows n [] id held h lt is = absurd (omega (arith, lt))
item_at rows n (x ∷ items) zero held h lt is =
    (ap (λ (y : Held). y.item.rows) is ∙ h.0, let same : held.item.id ≡ x.item.id = ap (λ (y : Held). y.item.id) is in omega (arith, same, h.1))
item_at rows n (x ∷ items) (suc id) held h lt is =
    let there = item_at rows (n + 1) items id held h.2 (omega (arith, lt)) is in
    (there.0, omega (arith, there.1))

-- and the region that the machine has
pub region_at : (items : List Held) (id : ℕ) (held : Held) (r : Region) (s : ItemState) → slice_get (map posted_of items) id ≡ Some (posted_item r s) → held ≡ get_or items id held → held.item.region ≡ r
region_at [] id held r s stands is = cc
region_at (x ∷ items) zero held r s stands is =
    let same : posted_of x ≡ posted_item r s = cc in
    ap (λ (y : Held). y.item.region) is ∙ ap (λ (p : Posted). p.region) same
region_at (x ∷ items) (suc id) held r s stands is = region_at items id held r s stands is

pub claimed : (f : Fields) (ir jr who id : ℕ) (r : Region) (ir' jr' : ℕ) → IsBoard f ir jr → IsNext (cost_of_best f.best) (map posted_of f.items) id r → f.settled + taken_count (map posted_of f.items) < f.limits.turns → length f.items + 3 * (f.taken + 1) ≤ ir' → length f.journal + (f.taken + 2) ≤ jr' → IsBoard (more f (put_held f.items id (Taken who)) f.best f.settled (f.taken + 1) (event.Claim who id)) ir' jr'
claimed f ir jr who id r ir' jr' b next left fits fit =
    subst (λ n. IsBoard (more f (put_held f.items id (Taken who)) f.best n (f.taken + 1) (event.Claim who id)) ir' jr') (omega arith)
    (placed f ir jr id (Taken who) Free r f.best 0 (f.taken + 1) (event.Claim who id) (entry.Claim who id) ir' jr' b next.stands
    (r, next, left)
    (ap (λ n. state (with_item_state (map posted_of f.items) id (Taken who)) (cost_of_best f.best) n) (omega arith))
    refl
    tt
    (drives_best f ir jr b)
    (omega arith)
    (omega (arith, fits))
    (omega (arith, fit)))

-- ---- what was found

drives_better : (plan : Planned) (r : Region) (best : Option ℕ) (old : Option Input) (input : Input) (cost : ℕ) → IsFound plan r input cost → DrivesBest plan best old → DrivesBest plan (better best cost) (if is_above best cost then Some input else old)
drives_better plan r None None input cost found h = (found.fitting, (found.path, found.drives, found.costs))
drives_better plan r None (Some i) input cost found h = absurd h
drives_better plan r (Some best) None input cost found h = absurd h
drives_better plan r (Some best) (Some i) input cost found h =
    elim (nat_lt best cost) as (λ b. nat_lt best cost ≡ b → DrivesBest plan (Some (max best cost)) (if b then Some input else Some i)) [ true ↦ λ lt. subst (λ n. DrivesBest plan (Some n) (Some input)) (max_is best cost (lt_from best cost lt)) (found.fitting, (found.path, found.drives, found.costs)) | false ↦ λ ge. subst (λ n. DrivesBest plan (Some n) (Some i)) (max_was best cost (not_below best cost ge)) h ] refl
  where
    max_is : (a b : ℕ) → a < b → b ≡ max a b
    max_is a b lt = omega (arith, lt)

    max_was : (a b : ℕ) → b ≤ a → a ≡ max a b
    max_was a b le = omega (arith, le)

pub found : (f : Fields) (ir jr who id cost : ℕ) (r : Region) (input : Input) (best : Option Best) → IsBoard f ir jr → slice_get (map posted_of f.items) id ≡ Some (posted_item r (Taken who)) → IsFound f.rows.plan r input cost → cost_of_best best ≡ better (cost_of_best f.best) cost → input_of_best best ≡ (if is_above (cost_of_best f.best) cost then Some input else input_of_best f.best) → IsBoard (more f (put_held f.items id Closed) best (f.settled + 1) (f.taken - 1) (event.Found who id cost)) ir jr
found f ir jr who id cost r input best b stands fact costs inputs =
    let some = some_taken f ir jr who id r b stands in
    let fits = b.items_fit in
    let fit = b.entries_fit in
    placed f ir jr id Closed (Taken who) r best 1 (f.taken - 1) (event.Found who id cost) (entry.Found who id cost) ir jr b stands
    (record { region = r; stands = stands; says = (input, fact) })
    (ap (λ c. state (with_item_state (map posted_of f.items) id Closed) c (f.settled + 1)) (sym costs))
    refl
    tt
    (subst (λ c. DrivesBest f.rows.plan c (input_of_best best)) (sym costs) (subst (λ i. DrivesBest f.rows.plan (better (cost_of_best f.best) cost) i) (sym inputs) (drives_better f.rows.plan r (cost_of_best f.best) (input_of_best f.best) input cost fact (drives_best f ir jr b))))
    (omega (arith, some))
    (omega (arith, fits))
    (omega (arith, fit, some))

-- ---- reopening

pub reopened_fields : (f : Fields) (ir jr : ℕ) → IsBoard f ir jr → 1 ≤ f.taken → IsBoard (more f (map freed_held f.items) f.best f.settled 0 event.Reopen) ir jr
reopened_fields f ir jr b some =
    let items : List Held = map freed_held f.items in
    let same : length items ≡ length f.items = length-map f.items freed_held in
    let counted = b.counted in
    let fits = b.items_fit in
    let fit = b.entries_fit in
    let longer = length-append f.journal (event.Reopen ∷ []) in
    IsBoard-more f ir jr items f.best f.settled 0 event.Reopen entry.Reopen ir jr b (record {
      may = omega (arith, some, counted);
      goes = ap (λ (l : List Posted). state l (cost_of_best f.best) f.settled) (sym (posted-freed f.items));
      told = ap (λ (rs : List Region). entries_of rs (f.journal ++ event.Reopen ∷ [])) (regions-freed f.items) ∙ entries_more (regions f.items) f.journal event.Reopen;
      drives = drives_best f ir jr b;
      numbered = AreItems-freed f.rows 0 f.items b.numbered;
      counted = sym (ap taken_count (posted-freed f.items) ∙ taken_count-freed (map posted_of f.items));
      there = subst (λ n. EachOf (IsThere n) (f.journal ++ event.Reopen ∷ [])) (sym same) (EachOf-append (IsThere (length f.items)) f.journal (event.Reopen ∷ []) b.there (tt, tt));
      items_fit = omega (arith, fits, same);
      entries_fit = omega (arith, fit, longer, some);
    })

pub seen_reopened : (f : Fields) → board_of (more f (map freed_held f.items) f.best f.settled 0 event.Reopen) ≡ with_entry (board_of f) entry.Reopen
seen_reopened f =
    ap (λ (es : List Entry). let b : BoardOf = record { setup = setup_of f; entries = es; input = input_of_best f.best } in b)
    (ap (λ (rs : List Region). entries_of rs (f.journal ++ event.Reopen ∷ [])) (regions-freed f.items) ∙ entries_more (regions f.items) f.journal event.Reopen)

-- ---- splitting

posted-adopted : (rows : PlanRows) (parent : Region) (n : ℕ) (cs : List Child) → map posted_of (child_items rows n cs) ≡ map free (children_of parent cs)
posted-adopted rows parent n [] = refl
posted-adopted rows parent n (child ∷ cs) = ap (λ (l : List Posted). posted_item (region child.cuts child.prefix child.bound) Free ∷ l) (posted-adopted rows parent (n + 1) cs)

regions-adopted : (rows : PlanRows) (parent : Region) (n : ℕ) (cs : List Child) → regions (child_items rows n cs) ≡ children_of parent cs
regions-adopted rows parent n [] = refl
regions-adopted rows parent n (child ∷ cs) = ap (λ (l : List Region). region child.cuts child.prefix child.bound ∷ l) (regions-adopted rows parent (n + 1) cs)

length-adopted : (rows : PlanRows) (n : ℕ) (cs : List Child) → length (child_items rows n cs) ≡ length cs
length-adopted rows n [] = refl
length-adopted rows n (child ∷ cs) = ap suc (length-adopted rows (n + 1) cs)

AreItems-adopted : (rows : PlanRows) (n : ℕ) (cs : List Child) → AreItems rows n (child_items rows n cs)
AreItems-adopted rows n [] = tt
AreItems-adopted rows n (child ∷ cs) = (refl, refl, AreItems-adopted rows (n + 1) cs)

-- the children may be items
pub children_sound : (plan : Planned) (parent : Region) (cs : List Child) → EachOf (IsPartOf plan parent) (children_of parent cs) → EachOf (λ (child : Child). IsItem plan (region child.cuts child.prefix child.bound)) cs
children_sound plan parent [] h = tt
children_sound plan parent (child ∷ cs) h = (h.0.item, children_sound plan parent cs h.1)

-- the entry of a split that follows the regions
split_told : (rs new : List Region) (journal : List Event) (who id first count n : ℕ) → EachOf (IsThere (length rs)) journal → first ≡ length rs → count ≡ length new → n ≡ first → entries_of (rs ++ new) (journal ++ event.Split who id first count ∷ []) ≡ entries_of rs journal ++ entry.Split who id n new ∷ []
split_told rs new journal who id first count n there is_first is_count is_n =
    let back : drop first (rs ++ new) ≡ new = ap (λ k. drop k (rs ++ new)) is_first ∙ drop-append_seam rs new in
    let all : take count (drop first (rs ++ new)) ≡ new = ap (take count) back ∙ take_all count new (omega (arith, is_count)) in
    let before = entries_stay rs new journal there in
    entries_more (rs ++ new) journal (event.Split who id first count) ∙ ap (λ (es : List Entry). es ++ entry.Split who id first (take count (drop first (rs ++ new))) ∷ []) before
    ∙ ap (λ (cs : List Region). entries_of rs journal ++ entry.Split who id first cs ∷ []) all
    ∙ ap (λ k. entries_of rs journal ++ entry.Split who id k new ∷ []) (sym is_n)

abbrev pub split_items : Fields → ℕ → List Child → List Held
split_items f id cs = put_held f.items id Closed ++ child_items f.rows (length f.items) cs

pub regions-split : (f : Fields) (id : ℕ) (r : Region) (cs : List Child) → regions (split_items f id cs) ≡ regions f.items ++ children_of r cs
regions-split f id r cs =
    map-append (λ (held : Held). held.item.region) (put_held f.items id Closed) (child_items f.rows (length f.items) cs)
    ∙ ap (λ (l : List Region). l ++ regions (child_items f.rows (length f.items) cs)) (regions-put f.items id Closed)
    ∙ ap (λ (l : List Region). regions f.items ++ l) (regions-adopted f.rows r (length f.items) cs)

pub told-split : (f : Fields) (ir jr who id : ℕ) (r : Region) (cs : List Child) → IsBoard f ir jr → entries_of (regions (split_items f id cs)) (f.journal ++ event.Split who id (length f.items) (length cs) ∷ []) ≡ entries_of (regions f.items) f.journal ++ entry.Split who id (length (map posted_of f.items)) (children_of r cs) ∷ []
told-split f ir jr who id r cs b =
    let as_many : length (regions f.items) ≡ length f.items = length-map f.items (λ (held : Held). held.item.region) in
    ap (λ (rs : List Region). entries_of rs (f.journal ++ event.Split who id (length f.items) (length cs) ∷ [])) (regions-split f id r cs)
    ∙ split_told (regions f.items) (children_of r cs) f.journal who id (length f.items) (length cs) (length (map posted_of f.items)) (subst (λ n. EachOf (IsThere n) f.journal) (sym as_many) b.there) (sym as_many) (sym (length-map cs (child_of r))) (length-map f.items posted_of)

pub split_fields : (f : Fields) (ir jr who id : ℕ) (r : Region) (cs : List Child) → IsBoard f ir jr → slice_get (map posted_of f.items) id ≡ Some (posted_item r (Taken who)) → IsSplit f.rows.plan r (children_of r cs) → IsBoard (more f (split_items f id cs) f.best (f.settled + 1) (f.taken - 1) (event.Split who id (length f.items) (length cs))) ir jr
split_fields f ir jr who id r cs b stands fact =
    let items : List Held = split_items f id cs in
    let some = some_taken f ir jr who id r b stands in
    let same = length-put_held f.items id Closed in
    let longer = length-append (put_held f.items id Closed) (child_items f.rows (length f.items) cs) in
    let as_many = length-adopted f.rows (length f.items) cs in
    let few : length cs ≤ 3 = few_children r cs fact.several in
    let fits = b.items_fit in
    let fit = b.entries_fit in
    let further = length-append f.journal (event.Split who id (length f.items) (length cs) ∷ []) in
    let posted_are : map posted_of items ≡ with_item_state (map posted_of f.items) id Closed ++ map free (children_of r cs) = map-append posted_of (put_held f.items id Closed) (child_items f.rows (length f.items) cs) ∙ ap (λ (l : List Posted). l ++ map posted_of (child_items f.rows (length f.items) cs)) (posted-put f.items id Closed) ∙ ap (λ (l : List Posted). with_item_state (map posted_of f.items) id Closed ++ l) (posted-adopted f.rows r (length f.items) cs) in
    let changed = taken_count-put (map posted_of f.items) id Closed r (Taken who) stands in
    let all = taken_count-append (with_item_state (map posted_of f.items) id Closed) (map free (children_of r cs)) in
    let none = taken_count-free (children_of r cs) in
    let now = ap taken_count posted_are in
    let before = b.counted in
    IsBoard-more f ir jr items f.best (f.settled + 1) (f.taken - 1) (event.Split who id (length f.items) (length cs)) (entry.Split who id (length (map posted_of f.items)) (children_of r cs)) ir jr b (record {
      may = (refl, record { region = r; stands = stands; says = fact });
      goes = ap (λ (l : List Posted). state l (cost_of_best f.best) (f.settled + 1)) (sym posted_are);
      told = told-split f ir jr who id r cs b;
      drives = drives_best f ir jr b;
      numbered = AreItems-append f.rows 0 (put_held f.items id Closed) (child_items f.rows (length f.items) cs) (AreItems-put f.rows 0 f.items id Closed b.numbered) (subst (λ n. AreItems f.rows n (child_items f.rows (length f.items) cs)) (omega (arith, same)) (AreItems-adopted f.rows (length f.items) cs));
      counted = omega (arith, changed, all, none, now, before);
      there = EachOf-append (IsThere (length items)) f.journal (event.Split who id (length f.items) (length cs) ∷ []) (each_there (length f.items) (length items) f.journal (omega (arith, longer, same)) b.there) (omega (arith, longer, same, as_many), tt);
      items_fit = omega (arith, fits, longer, same, as_many, few, some);
      entries_fit = omega (arith, fit, further, some);
    })
  where
    few_children : (r : Region) (cs : List Child) → (length (children_of r cs) ≡ 2) ⊎ (length (children_of r cs) ≡ 3) → length cs ≤ 3
    few_children r cs h = let same = length-map cs (child_of r) in ⊎_elim (λ two. omega (arith, two, same)) (λ three. omega (arith, three, same)) h

-- ---- the start

pub started : (rows : PlanRows) (limits : Limits) (opening : ℕ) (held : Held) (ir jr : ℕ) → AreLimits limits → IsSetup (setup rows limits opening) → posted_of held ≡ posted_item (region [] [] opening) Free → held.item.rows ≡ rows → held.item.id ≡ 0 → 1 ≤ ir → IsBoard (record { rows = rows; limits = limits; opening = opening; items = held ∷ []; best = None; settled = 0; taken = 0; journal = [] }) ir jr
started rows limits opening held ir jr limited set_up stands same_rows same_id room = record {
  limited = limited;
  set_up = set_up;
  keeps = record { legal = record { each = tt }; state_kept = kept_start (setup rows limits opening) set_up; best_kept = tt };
  is = ap (λ (p : Posted). state (p ∷ []) None 0) (sym stands);
  numbered = (same_rows, same_id, tt);
  within = omega arith;
  counted = ap (λ (p : Posted). taken_count (p ∷ [])) (sym stands);
  there = tt;
  items_fit = omega (arith, room);
  entries_fit = omega arith;
}
