-- One entry more.
use Rattle.std.proofs.Common.{◌≡◌, ◌≤◌, ℕ, ◌-◌, List, [], ◌∷◌, ◌++◌, length, map, take, drop, refl, ap, ◌∙◌, arith}
use Rattle.std.proofs.lemmas.List.{map-append, take-append-le, drop-append-le}
use Rattle.std.proofs.Common.{length-drop, length-take-le}
use Rattle.race_item.specs.declared.region.Region.{Region}
use Rattle.race_item.specs.Lists.{EachOf}
use Rattle.board_core.specs.declared.event.Event.{Event}
use Rattle.board_core.specs.declared.event.Event.TheVariants.{Claim, Empty, Refuted, Split, Found, Park, Return, Reopen}
use Rattle.board_core.specs.declared.event.Entry.{Entry}
use Rattle.board_core.specs.declared.event.Entry.TheVariants as entry
use Rattle.board_core.specs.Machine.{Setup, State, step, state_after_entries, event_of}
use Rattle.board_core.specs.Conditions.{May, LegalFrom}
use Rattle.board_core.specs.Boards.{entry_of, entries_of, IsThere}

-- ---- legal entries

pub legal_more : (u : Setup) (s : State) (es : List Entry) (e : Entry) → LegalFrom u s es → May u (state_after_entries s es) e → LegalFrom u s (es ++ e ∷ [])
legal_more u s [] e legal may = (may, tt)
legal_more u s (d ∷ es) e legal may = (legal.0, legal_more u (step s d) es e legal.1 may)

pub after_more : (s : State) (es : List Entry) (e : Entry) → state_after_entries s (es ++ e ∷ []) ≡ step (state_after_entries s es) e
after_more s [] e = refl
after_more s (d ∷ es) e = after_more (step s d) es e

-- ---- entries of a journal

-- the items of a split stay when items are added
entry_stays : (rs more : List Region) (ev : Event) → IsThere (length rs) ev → entry_of (rs ++ more) ev ≡ entry_of rs ev
entry_stays rs more (Claim who id) h = refl
entry_stays rs more (Empty who id) h = refl
entry_stays rs more (Refuted who id) h = refl
entry_stays rs more (Split who id first count) h =
    let back : drop first (rs ++ more) ≡ drop first rs ++ more = drop-append-le first rs more (omega arith) in
    let rest : length (drop first rs) ≡ length rs - first = length-drop first rs in
    let front : take count (drop first rs ++ more) ≡ take count (drop first rs) = take-append-le count (drop first rs) more (omega arith) in
    ap (entry.Split who id first) (ap (take count) back ∙ front)
entry_stays rs more (Found who id cost) h = refl
entry_stays rs more (Park who id cause) h = refl
entry_stays rs more (Return who id) h = refl
entry_stays rs more Reopen h = refl

pub entries_stay : (rs more : List Region) (journal : List Event) → EachOf (IsThere (length rs)) journal → entries_of (rs ++ more) journal ≡ entries_of rs journal
entries_stay rs more [] h = refl
entries_stay rs more (ev ∷ journal) h = let first = entry_stays rs more ev h.0 in let others = entries_stay rs more journal h.1 in cc

-- one event more
pub entries_more : (rs : List Region) (journal : List Event) (ev : Event) → entries_of rs (journal ++ ev ∷ []) ≡ entries_of rs journal ++ entry_of rs ev ∷ []
entries_more rs journal ev = map-append (entry_of rs) journal (ev ∷ [])

-- the entries tell the journal
event_back : (rs : List Region) (ev : Event) → IsThere (length rs) ev → event_of (entry_of rs ev) ≡ ev
event_back rs (Claim who id) h = refl
event_back rs (Empty who id) h = refl
event_back rs (Refuted who id) h = refl
event_back rs (Split who id first count) h =
    let rest : length (drop first rs) ≡ length rs - first = length-drop first rs in
    ap (Split who id first) (length-take-le count (drop first rs) (omega arith))
event_back rs (Found who id cost) h = refl
event_back rs (Park who id cause) h = refl
event_back rs (Return who id) h = refl
event_back rs Reopen h = refl

pub events_back : (rs : List Region) (journal : List Event) → EachOf (IsThere (length rs)) journal → map event_of (entries_of rs journal) ≡ journal
events_back rs [] h = refl
events_back rs (ev ∷ journal) h = let first = event_back rs ev h.0 in let others = events_back rs journal h.1 in cc

-- ---- more items

there_more : (n m : ℕ) (ev : Event) → n ≤ m → IsThere n ev → IsThere m ev
there_more n m (Claim who id) le h = h
there_more n m (Empty who id) le h = h
there_more n m (Refuted who id) le h = h
there_more n m (Split who id first count) le h = omega (arith, le, h)
there_more n m (Found who id cost) le h = h
there_more n m (Park who id cause) le h = h
there_more n m (Return who id) le h = h
there_more n m Reopen le h = h

pub each_there : (n m : ℕ) (journal : List Event) → n ≤ m → EachOf (IsThere n) journal → EachOf (IsThere m) journal
each_there n m [] le h = tt
each_there n m (ev ∷ journal) le h = (there_more n m ev le h.0, each_there n m journal le h.1)
