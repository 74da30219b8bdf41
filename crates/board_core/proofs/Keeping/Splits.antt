-- There are at most as many splits as lists that some fitting input drives, and at most three items more for each.
use Rattle.std.proofs.Common.{◌≡◌, ◌≢◌, ◌≤◌, inl, ⊎_elim, ℕ, zero, suc, ◌+◌, ◌*◌, Bool, true, false, if◌then◌else◌, List, [], ◌∷◌, ◌++◌, map, length, Some, refl, sym, ap, ◌∙◌, subst, arith, length-append, append_assoc, append-nil}
use Rattle.std.specs.Prelude.{slice_get}
use Rattle.std.proofs.lemmas.List.{length-map}
use Rattle.flow_laws.specs.Paths.{times}
use Rattle.flow_graph.specs.Plans.{Planned}
use Rattle.race_item.specs.declared.region.Region.{Region}
use Rattle.race_item.specs.Lists.{EachOf, SomeOf, EachTwoOf}
use Rattle.race_item.specs.Items.{IsItem}
use Rattle.board_core.specs.declared.event.ItemState.{ItemState}
use Rattle.board_core.specs.declared.event.ItemState.TheVariants.{Free, Taken, Parked, Closed}
use Rattle.board_core.specs.declared.event.Entry.{Entry}
use Rattle.board_core.specs.declared.event.Entry.TheVariants.{Claim, Empty, Refuted, Split, Found, Park, Return, Reopen}
use Rattle.board_core.specs.Machine.{Posted, posted_item, Setup, State, step, state_after_entries, start_state, with_item_state, freed_item, free}
use Rattle.board_core.specs.Conditions.{May, LegalFrom}
use Rattle.board_core.specs.Histories.{Legal, state_after}
use Rattle.board_core.specs.Kept.{IsSetup}
use Rattle.board_core.specs.Apart.{IsSplitOf, WasSplit}
use Rattle.board_core.specs.Turns.{AreSoMany, IsFreeAndReached, HasEnoughTurns}
use Rattle.board_core.proofs.Lists.{EachOf-weaker, SomeOf-append_right}
use Rattle.board_core.proofs.Places.{one_if, length-put, counted}
use Rattle.board_core.proofs.Keeping.Induction.{kept_legal}
use Rattle.board_core.proofs.Keeping.Apart.{Apart, was_more, not_split, live, freed_there, more_there, apart_step, apart_start}
use Rattle.board_core.proofs.Keeping.Turns.{pigeons, items_within}

abbrev pub is_split : Entry → Bool
is_split (Claim who id) = false
is_split (Empty who id) = false
is_split (Refuted who id) = false
is_split (Split who id first children) = true
is_split (Found who id cost) = false
is_split (Park who id cause) = false
is_split (Return who id) = false
is_split Reopen = false

abbrev pub splits : List Entry → ℕ
splits es = times is_split es

splits-push : (es : List Entry) (e : Entry) → splits (es ++ e ∷ []) ≡ splits es + one_if (is_split e)
splits-push [] e = omega (arith, counted (is_split e) 0)
splits-push (d ∷ es) e = omega (arith, counted (is_split d) (splits (es ++ e ∷ [])), counted (is_split d) (splits es), splits-push es e)

-- ---- three items for each split

few_step : (u : Setup) (s : State) (es : List Entry) (e : Entry) → May u s e → length s.items ≤ 3 * splits es + 1 → length (step s e).items ≤ 3 * splits (es ++ e ∷ []) + 1
few_step u s es (Claim who id) may h = let p = splits-push es (Claim who id) in let l = length-put s.items id (Taken who) in omega (arith, h, p, l)
few_step u s es (Empty who id) may h = let p = splits-push es (Empty who id) in let l = length-put s.items id Closed in omega (arith, h, p, l)
few_step u s es (Refuted who id) may h = let p = splits-push es (Refuted who id) in let l = length-put s.items id Closed in omega (arith, h, p, l)
few_step u s es (Split who id first children) may h =
    let p = splits-push es (Split who id first children) in
    let l = length-put s.items id Closed in
    let a = length-append (with_item_state s.items id Closed) (map free children) in
    let m = length-map children free in
    let several = may.1.says.several in
    omega (arith, h, p, l, a, m, several)
few_step u s es (Found who id cost) may h = let p = splits-push es (Found who id cost) in let l = length-put s.items id Closed in omega (arith, h, p, l)
few_step u s es (Park who id cause) may h = let p = splits-push es (Park who id cause) in let l = length-put s.items id (Parked cause) in omega (arith, h, p, l)
few_step u s es (Return who id) may h = let p = splits-push es (Return who id) in let l = length-put s.items id Free in omega (arith, h, p, l)
few_step u s es Reopen may h = let p = splits-push es Reopen in let l = length-map s.items freed_item in omega (arith, h, p, l)

-- ---- the prefixes of the items that were split

-- the list is the prefix of an item that was split
pub record IsSplitPrefix (es : List Entry) (items : List Posted) (q : List ℕ) : Type 0 where
  pub place : ℕ
  pub item : Posted
  pub is : slice_get items place ≡ Some item
  pub prefix : item.region.prefix ≡ q
  pub split : WasSplit es place

-- as many different ones as splits
pub record SplitPrefixes (es : List Entry) (items : List Posted) : Type 0 where
  pub all : List (List ℕ)
  pub number : length all ≡ splits es
  pub once : EachTwoOf (λ q w. q ≢ w) all
  pub each : EachOf (IsSplitPrefix es items) all

region_stays : (items : List Posted) (id j : ℕ) (new : ItemState) (a : Posted) → slice_get items j ≡ Some a → (b : Posted) × (slice_get (with_item_state items id new) j ≡ Some b) × (b.region ≡ a.region)
region_stays [] id j new a is = cc
region_stays (x ∷ items) zero zero new a is = (posted_item x.region new, refl, let same : x ≡ a = cc in ap (λ (p : Posted). p.region) same)
region_stays (x ∷ items) zero (suc j) new a is = (a, is, refl)
region_stays (x ∷ items) (suc id) zero new a is = (a, is, refl)
region_stays (x ∷ items) (suc id) (suc j) new a is = region_stays items id j new a is

stays_put : (es : List Entry) (items : List Posted) (id : ℕ) (new : ItemState) (e : Entry) (q : List ℕ) → IsSplitPrefix es items q → IsSplitPrefix (es ++ e ∷ []) (with_item_state items id new) q
stays_put es items id new e q h =
    let b = region_stays items id h.place new h.item h.is in
    record { place = h.place; item = b.0; is = b.1; prefix = ap (λ (r : Region). r.prefix) b.2 ∙ h.prefix; split = was_more es e h.place h.split }

stays_freed : (es : List Entry) (items : List Posted) (q : List ℕ) → IsSplitPrefix es items q → IsSplitPrefix (es ++ Reopen ∷ []) (map freed_item items) q
stays_freed es items q h = record { place = h.place; item = freed_item h.item; is = freed_there items h.place h.item h.is; prefix = h.prefix; split = was_more es Reopen h.place h.split }

stays_more : (es : List Entry) (items more : List Posted) (q : List ℕ) → IsSplitPrefix es items q → IsSplitPrefix es (items ++ more) q
stays_more es items more q h = record { place = h.place; item = h.item; is = more_there items more h.place h.item h.is; prefix = h.prefix; split = h.split }

put_prefixes : (es : List Entry) (items : List Posted) (id : ℕ) (new : ItemState) (e : Entry) → is_split e ≡ false → SplitPrefixes es items → SplitPrefixes (es ++ e ∷ []) (with_item_state items id new)
put_prefixes es items id new e plain h =
    let p = splits-push es e in
    let none : one_if (is_split e) ≡ 0 = ap one_if plain in
    let n = h.number in
    record { all = h.all; number = omega (arith, p, none, n); once = h.once; each = EachOf-weaker (IsSplitPrefix es items) (IsSplitPrefix (es ++ e ∷ []) (with_item_state items id new)) (λ q k. stays_put es items id new e q k) h.all h.each }

split_prefixes : (plan : Planned) (es : List Entry) (items : List Posted) (who id first : ℕ) (r : Region) (children : List Region) → slice_get items id ≡ Some (posted_item r (Taken who)) → Apart plan es items → SplitPrefixes es items → SplitPrefixes (es ++ Split who id first children ∷ []) (with_item_state items id Closed ++ map free children)
split_prefixes plan es items who id first r children is apart h =
    let e : Entry = Split who id first children in
    let p = splits-push es e in
    let n = h.number in
    let b = region_stays items id id Closed (posted_item r (Taken who)) is in
    let unsplit = not_split plan es items id r (Taken who) (live who) is apart in
    record {
      all = r.prefix ∷ h.all;
      number = omega (arith, p, n);
      once = (EachOf-weaker (IsSplitPrefix es items) (λ q. r.prefix ≢ q) (λ q k same. apart.kept.different id k.place (posted_item r (Taken who)) k.item is k.is (λ at. unsplit (subst (WasSplit es) (sym at) k.split)) (same ∙ sym k.prefix)) h.all h.each, h.once);
      each = (
        record { place = id; item = b.0; is = more_there (with_item_state items id Closed) (map free children) id b.0 b.1; prefix = ap (λ (x : Region). x.prefix) b.2; split = SomeOf-append_right (IsSplitOf id) es (e ∷ []) (inl refl) },
        EachOf-weaker (IsSplitPrefix es items) (IsSplitPrefix (es ++ e ∷ []) (with_item_state items id Closed ++ map free children)) (λ q k. stays_more (es ++ e ∷ []) (with_item_state items id Closed) (map free children) q (stays_put es items id Closed e q k)) h.all h.each,
      );
    }

prefixes_step : (u : Setup) (s : State) (es : List Entry) (e : Entry) → May u s e → Apart u.rows.plan es s.items → SplitPrefixes es s.items → SplitPrefixes (es ++ e ∷ []) (step s e).items
prefixes_step u s es (Claim who id) may apart h = put_prefixes es s.items id (Taken who) (Claim who id) refl h
prefixes_step u s es (Empty who id) may apart h = put_prefixes es s.items id Closed (Empty who id) refl h
prefixes_step u s es (Refuted who id) may apart h = put_prefixes es s.items id Closed (Refuted who id) refl h
prefixes_step u s es (Split who id first children) may apart h = split_prefixes u.rows.plan es s.items who id first may.1.region children may.1.stands apart h
prefixes_step u s es (Found who id cost) may apart h = put_prefixes es s.items id Closed (Found who id cost) refl h
prefixes_step u s es (Park who id cause) may apart h = put_prefixes es s.items id (Parked cause) (Park who id cause) refl h
prefixes_step u s es (Return who id) may apart h = put_prefixes es s.items id Free (Return who id) refl h
prefixes_step u s es Reopen may apart h =
    let p = splits-push es Reopen in
    let n = h.number in
    record { all = h.all; number = omega (arith, p, n); once = h.once; each = EachOf-weaker (IsSplitPrefix es s.items) (IsSplitPrefix (es ++ Reopen ∷ []) (map freed_item s.items)) (λ q k. stays_freed es s.items q k) h.all h.each }

-- all three along a history
pub record Counted (plan : Planned) (es : List Entry) (items : List Posted) : Type 0 where
  pub apart : Apart plan es items
  pub few : length items ≤ 3 * splits es + 1
  pub listed : SplitPrefixes es items

counted_after : (u : Setup) (s : State) (done es : List Entry) → LegalFrom u s es → Counted u.rows.plan done s.items → Counted u.rows.plan (done ++ es) (state_after_entries s es).items
counted_after u s done [] legal h = subst (λ l. Counted u.rows.plan l s.items) (sym (append-nil done)) h
counted_after u s done (e ∷ es) legal h =
    subst (λ l. Counted u.rows.plan l (state_after_entries (step s e) es).items) (append_assoc done (e ∷ []) es)
    (counted_after u (step s e) (done ++ e ∷ []) es legal.1 (record {
      apart = apart_step u s done e legal.0 h.apart;
      few = few_step u s done e legal.0 h.few;
      listed = prefixes_step u s done e legal.0 h.apart h.listed;
    }))

pub counted_legal : (u : Setup) (es : List Entry) → Legal u es → Counted u.rows.plan es (state_after u es).items
counted_legal u es legal =
    counted_after u (start_state u) [] es legal.each (record { apart = apart_start u; few = omega arith; listed = record { all = []; number = refl; once = tt; each = tt } })

item_at : (plan : Planned) (items : List Posted) (j : ℕ) (a : Posted) → EachOf (λ (item : Posted). IsItem plan item.region) items → slice_get items j ≡ Some a → IsItem plan a.region
item_at plan [] j a each is = cc
item_at plan (x ∷ items) zero a each is = let same : x ≡ a = cc in subst (λ (p : Posted). IsItem plan p.region) same each.0
item_at plan (x ∷ items) (suc j) a each is = item_at plan items j a each.1 is

-- so there are at most three items for each driven list, and one
pub items_within_reached : (u : Setup) (es : List Entry) (n : ℕ) → IsSetup u → Legal u es → AreSoMany (IsFreeAndReached u.rows.plan.program) n → length (state_after u es).items ≤ 3 * n + 1
items_within_reached u es n h legal many =
    let s : State = state_after u es in
    let c = counted_legal u es legal in
    let k = kept_legal u es h legal in
    let p = u.rows.plan.program in
    let listed = EachOf-weaker (IsSplitPrefix es s.items) (λ q. SomeOf (λ w. q ≡ w) many.all) (λ q x.
    let item = item_at u.rows.plan s.items x.place x.item k.items x.is in
    subst (λ l. SomeOf (λ w. l ≡ w) many.all) x.prefix
    (many.complete x.item.region.prefix (record { free = record { contiguous = item.contiguous; within_caps = item.within_caps }; reached = c.apart.kept.reached x.place x.item x.is x.split }))) c.listed.all c.listed.each in
    let le = pigeons c.listed.all many.all c.listed.once listed in
    omega (arith, le, c.listed.number, many.number, c.few)

-- ---- enough turns

pub items_within_turns : (u : Setup) (es : List Entry) → IsSetup u → Legal u es → HasEnoughTurns u → length (state_after u es).items ≤ u.limits.turns
items_within_turns u es h legal enough =
    ⊎_elim
    (λ all. let le = items_within u es all.0 h legal all.1 in omega (arith, le, all.2))
    (λ reached. let le = items_within_reached u es reached.0 h legal reached.1 in omega (arith, le, reached.2))
    enough
