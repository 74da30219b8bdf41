-- The prefixes of a board's items, after every legal history.
use Rattle.std.proofs.Common.{◌≡◌, ◌≢◌, ◌⊎◌, inl, inr, ⊎_elim, ℕ, zero, suc, ◌+◌, List, [], ◌∷◌, ◌++◌, map, length, Some, refl, sym, ap, ◌∙◌, subst, arith, length-append, append_assoc, append-nil}
use Rattle.std.specs.Prelude.{slice_get}
use Rattle.std.proofs.lemmas.Option.{slice_get_within}
use Rattle.flow_laws.specs.Claims.{Begins, IsDrivenList}
use Rattle.flow_graph.specs.Plans.{Planned}
use Rattle.race_item.specs.declared.region.Region.{Region}
use Rattle.race_item.specs.Lists.{EachOf, EachTwoOf}
use Rattle.race_item.specs.Facts.{IsLonger, IsPartOf, IsSplit, IsApart}
use Rattle.board_core.specs.declared.event.ItemState.{ItemState}
use Rattle.board_core.specs.declared.event.ItemState.TheVariants.{Free, Taken, Parked, Closed}
use Rattle.board_core.specs.declared.event.Entry.{Entry}
use Rattle.board_core.specs.declared.event.Entry.TheVariants.{Claim, Empty, Refuted, Split, Found, Park, Return, Reopen}
use Rattle.board_core.specs.Kinds.{freed_state}
use Rattle.board_core.specs.Machine.{Posted, posted_item, Setup, State, step, state_after_entries, start_state, with_item_state, freed_item, free}
use Rattle.board_core.specs.Conditions.{May, LegalFrom}
use Rattle.board_core.specs.Histories.{Legal, state_after}
use Rattle.board_core.specs.Apart.{IsSplitOf, WasSplit, KeptApart}
use Rattle.board_core.proofs.Lists.{SomeOf-append_left, SomeOf-append_right}
use Rattle.board_core.proofs.Places.{length-put}
use Rattle.plain_laws.proofs.Numbers.{same_or_other}

-- ---- places

-- what stands where after a change of a state: the region stays, and so does the state elsewhere
pub record WasAt (items : List Posted) (id j : ℕ) (new : ItemState) (a : Posted) : Type 0 where
  pub old : Posted
  pub is : slice_get items j ≡ Some old
  pub region : old.region ≡ a.region
  pub elsewhere : j ≢ id → old ≡ a

put_at : (items : List Posted) (id j : ℕ) (new : ItemState) (a : Posted) → slice_get (with_item_state items id new) j ≡ Some a → WasAt items id j new a
put_at [] id j new a is = cc
put_at (x ∷ items) zero zero new a is = record { old = x; is = refl; region = let same : posted_item x.region new ≡ a = cc in ap (λ (p : Posted). p.region) same; elsewhere = λ other. absurd (other refl) }
put_at (x ∷ items) zero (suc j) new a is = record { old = a; is = is; region = refl; elsewhere = λ _. refl }
put_at (x ∷ items) (suc id) zero new a is = record { old = x; is = refl; region = let same : x ≡ a = cc in ap (λ (p : Posted). p.region) same; elsewhere = λ _. cc }
put_at (x ∷ items) (suc id) (suc j) new a is =
    let at = put_at items id j new a is in
    record { old = at.old; is = at.is; region = at.region; elsewhere = λ other. at.elsewhere (λ same. other (ap suc same)) }

-- the other way
put_there : (items : List Posted) (id j : ℕ) (new : ItemState) (a : Posted) → slice_get items j ≡ Some a → (b : Posted) × (slice_get (with_item_state items id new) j ≡ Some b) × (j ≢ id → b ≡ a)
put_there [] id j new a is = cc
put_there (x ∷ items) zero zero new a is = (posted_item x.region new, refl, λ other. absurd (other refl))
put_there (x ∷ items) zero (suc j) new a is = (a, is, λ _. refl)
put_there (x ∷ items) (suc id) zero new a is = (a, is, λ _. refl)
put_there (x ∷ items) (suc id) (suc j) new a is =
    let at = put_there items id j new a is in
    (at.0, at.1, λ other. at.2 (λ same. other (ap suc same)))

freed_at : (items : List Posted) (j : ℕ) (a : Posted) → slice_get (map freed_item items) j ≡ Some a → (old : Posted) × (slice_get items j ≡ Some old) × (freed_item old ≡ a)
freed_at [] j a is = cc
freed_at (x ∷ items) zero a is = (x, refl, cc)
freed_at (x ∷ items) (suc j) a is = freed_at items j a is

pub freed_there : (items : List Posted) (j : ℕ) (a : Posted) → slice_get items j ≡ Some a → slice_get (map freed_item items) j ≡ Some (freed_item a)
freed_there [] j a is = cc
freed_there (x ∷ items) zero a is = let same : x ≡ a = cc in ap (λ (p : Posted). Some (freed_item p)) same
freed_there (x ∷ items) (suc j) a is = freed_there items j a is

-- among the first or among the further ones
append_at : (xs ys : List Posted) (j : ℕ) (a : Posted) → slice_get (xs ++ ys) j ≡ Some a → (slice_get xs j ≡ Some a) ⊎ ((k : ℕ) × (j ≡ length xs + k) × (slice_get ys k ≡ Some a))
append_at [] ys j a is = inr (j, omega arith, is)
append_at (x ∷ xs) ys zero a is = inl is
append_at (x ∷ xs) ys (suc j) a is = ⊎_elim (λ l. inl l) (λ r. inr (r.0, omega (arith, r.1), r.2)) (append_at xs ys j a is)

pub more_there : (xs ys : List Posted) (j : ℕ) (a : Posted) → slice_get xs j ≡ Some a → slice_get (xs ++ ys) j ≡ Some a
more_there [] ys j a is = cc
more_there (x ∷ xs) ys zero a is = is
more_there (x ∷ xs) ys (suc j) a is = more_there xs ys j a is

-- ---- children

child_at : (plan : Planned) (parent : Region) (children : List Region) (k : ℕ) (a : Posted) → EachOf (IsPartOf plan parent) children → slice_get (map free children) k ≡ Some a → IsLonger parent.prefix a.region.prefix
child_at plan parent [] k a parts is = cc
child_at plan parent (c ∷ children) zero a parts is =
    let same : free c ≡ a = cc in
    subst (λ (p : Posted). IsLonger parent.prefix p.region.prefix) same parts.0.longer
child_at plan parent (c ∷ children) (suc k) a parts is = child_at plan parent children k a parts.1 is

each_at : (P : Region → Type 0) (children : List Region) (k : ℕ) (a : Posted) → EachOf P children → slice_get (map free children) k ≡ Some a → P a.region
each_at P [] k a each is = cc
each_at P (c ∷ children) zero a each is = let same : free c ≡ a = cc in subst (λ (p : Posted). P p.region) same each.0
each_at P (c ∷ children) (suc k) a each is = each_at P children k a each.1 is

children_apart : (children : List Region) (k l : ℕ) (a b : Posted) → EachTwoOf IsApart children → slice_get (map free children) k ≡ Some a → slice_get (map free children) l ≡ Some b → k ≢ l → ¬ Begins a.region.prefix b.region.prefix
children_apart [] k l a b apart is_a is_b other = cc
children_apart (c ∷ children) zero zero a b apart is_a is_b other = absurd (other refl)
children_apart (c ∷ children) zero (suc l) a b apart is_a is_b other =
    let same : free c ≡ a = cc in
    subst (λ (p : Posted). ¬ Begins p.region.prefix b.region.prefix) same (each_at (IsApart c) children l b apart.0 is_b).0
children_apart (c ∷ children) (suc k) zero a b apart is_a is_b other =
    let same : free c ≡ b = cc in
    subst (λ (p : Posted). ¬ Begins a.region.prefix p.region.prefix) same (each_at (IsApart c) children k a apart.0 is_a).1
children_apart (c ∷ children) (suc k) (suc l) a b apart is_a is_b other = children_apart children k l a b apart.1 is_a is_b (λ same. other (ap suc same))

-- ---- beginnings

begins_through : (p q w : List ℕ) → Begins p q → Begins q w → Begins p w
begins_through p q w h k = (h.0 ++ k.0, k.1 ∙ ap (λ l. l ++ k.0) h.1 ∙ append_assoc p h.0 k.0)

-- of two beginnings of a list, one begins the other
either_begins : (p q w : List ℕ) → Begins p w → Begins q w → Begins p q ⊎ Begins q p
either_begins p q w h k = split_at p q h.0 k.0 (sym h.1 ∙ k.1)
  where
    split_at : (p q r s : List ℕ) → p ++ r ≡ q ++ s → Begins p q ⊎ Begins q p
    split_at [] q r s e = inl (q, refl)
    split_at (x ∷ p) [] r s e = inr (x ∷ p, refl)
    split_at (x ∷ p) (y ∷ q) r s e =
        let head : x ≡ y = cc in
        let tail : p ++ r ≡ q ++ s = cc in
        ⊎_elim (λ h. inl (h.0, let e1 = h.1 in cc)) (λ h. inr (h.0, let e1 = h.1 in cc)) (split_at p q r s tail)

longer_begins : (p q : List ℕ) → IsLonger p q → Begins p q
longer_begins p q h = (h.0 ∷ h.1, h.2)

-- a longer list does not begin the shorter one
not_back : (p q : List ℕ) → IsLonger p q → Begins q p → ⊥
not_back p q h k =
    let one : length q ≡ length (p ++ (h.0 ∷ h.1)) = ap length h.2 in
    let parts = length-append p (h.0 ∷ h.1) in
    let two : length p ≡ length (q ++ k.0) = ap length k.1 in
    let others = length-append q k.0 in
    omega (arith, one, parts, two, others)

same_begins : (p q : List ℕ) → p ≡ q → Begins p q
same_begins p q h = ([], sym h ∙ sym (append-nil p))

-- ---- with what the induction needs: an item that was split is closed

pub record Apart (plan : Planned) (es : List Entry) (items : List Posted) : Type 0 where
  pub kept : KeptApart plan es items
  pub closed : (i : ℕ) → WasSplit es i → (a : Posted) × (slice_get items i ≡ Some a) × (a.state ≡ Closed)

-- ---- one entry more

was_cases : (es : List Entry) (e : Entry) (n : ℕ) → WasSplit (es ++ e ∷ []) n → WasSplit es n ⊎ IsSplitOf n e
was_cases [] e n h = ⊎_elim (λ here. inr here) (λ none. absurd none) h
was_cases (d ∷ es) e n h = ⊎_elim (λ here. inl (inl here)) (λ rest. ⊎_elim (λ before. inl (inr before)) (λ last. inr last) (was_cases es e n rest)) h

was_before : (es : List Entry) (e : Entry) (n : ℕ) → (IsSplitOf n e → ⊥) → WasSplit (es ++ e ∷ []) n → WasSplit es n
was_before es e n other h = ⊎_elim (λ before. before) (λ last. absurd (other last)) (was_cases es e n h)

pub was_more : (es : List Entry) (e : Entry) (n : ℕ) → WasSplit es n → WasSplit (es ++ e ∷ []) n
was_more es e n h = SomeOf-append_left (IsSplitOf n) es (e ∷ []) h

same_prefix : (a b : Posted) → a.region ≡ b.region → a.region.prefix ≡ b.region.prefix
same_prefix a b h = ap (λ (r : Region). r.prefix) h

-- an item that is not closed was not split
pub not_split : (plan : Planned) (es : List Entry) (items : List Posted) (id : ℕ) (r : Region) (was : ItemState) → was ≢ Closed → slice_get items id ≡ Some (posted_item r was) → Apart plan es items → WasSplit es id → ⊥
not_split plan es items id r was live is apart h =
    let c = apart.closed id h in
    let same : posted_item r was ≡ c.0 = cc in
    live (ap (λ (p : Posted). p.state) same ∙ c.2)

put_apart : (plan : Planned) (es : List Entry) (items : List Posted) (id : ℕ) (new was : ItemState) (r : Region) (e : Entry) → slice_get items id ≡ Some (posted_item r was) → was ≢ Closed → ((n : ℕ) → IsSplitOf n e → ⊥) → Apart plan es items → Apart plan (es ++ e ∷ []) (with_item_state items id new)
put_apart plan es items id new was r e is live plain apart = record {
  kept = record {
    different = λ i j a b at_i at_j other same. let x = put_at items id i new a at_i in let y = put_at items id j new b at_j in
        apart.kept.different i j x.old y.old x.is y.is other (same_prefix x.old a x.region ∙ same ∙ sym (same_prefix y.old b y.region));
    splits = λ i j a b at_i at_j other begins. let x = put_at items id i new a at_i in let y = put_at items id j new b at_j in
        was_more es e i (apart.kept.splits i j x.old y.old x.is y.is other (subst (λ p. Begins p y.old.region.prefix) (sym (same_prefix x.old a x.region)) (subst (λ q. Begins a.region.prefix q) (sym (same_prefix y.old b y.region)) begins)));
    reached = λ i a at_i h. let x = put_at items id i new a at_i in
        subst (λ q. IsDrivenList plan.program q) (same_prefix x.old a x.region) (apart.kept.reached i x.old x.is (was_before es e i (plain i) h));
  };
  closed = λ i h. let before = was_before es e i (plain i) h in
      let c = apart.closed i before in
      let b = put_there items id i new c.0 c.1 in
      let other : i ≢ id = λ same. not_split plan es items id r was live is apart (subst (WasSplit es) same before) in
      (b.0, b.1, ap (λ (p : Posted). p.state) (b.2 other) ∙ c.2);
}

freed_apart : (plan : Planned) (es : List Entry) (items : List Posted) → Apart plan es items → Apart plan (es ++ Reopen ∷ []) (map freed_item items)
freed_apart plan es items apart = record {
  kept = record {
    different = λ i j a b at_i at_j other same. let x = freed_at items i a at_i in let y = freed_at items j b at_j in
        apart.kept.different i j x.0 y.0 x.1 y.1 other (same_prefix (freed_item x.0) a (ap (λ (p : Posted). p.region) x.2) ∙ same ∙ sym (same_prefix (freed_item y.0) b (ap (λ (p : Posted). p.region) y.2)));
    splits = λ i j a b at_i at_j other begins. let x = freed_at items i a at_i in let y = freed_at items j b at_j in
        was_more es Reopen i (apart.kept.splits i j x.0 y.0 x.1 y.1 other (subst (λ (p : Posted). Begins p.region.prefix y.0.region.prefix) (sym x.2) (subst (λ (p : Posted). Begins a.region.prefix p.region.prefix) (sym y.2) begins)));
    reached = λ i a at_i h. let x = freed_at items i a at_i in
        subst (λ (p : Posted). IsDrivenList plan.program p.region.prefix) x.2 (apart.kept.reached i x.0 x.1 (was_before es Reopen i (λ none. none) h));
  };
  closed = λ i h. let c = apart.closed i (was_before es Reopen i (λ none. none) h) in
      (freed_item c.0, freed_there items i c.0 c.1, ap freed_state c.2);
}

pub put_same : (items : List Posted) (id : ℕ) (new : ItemState) (a : Posted) → slice_get items id ≡ Some a → slice_get (with_item_state items id new) id ≡ Some (posted_item a.region new)
put_same [] id new a is = cc
put_same (x ∷ items) zero new a is = let same : x ≡ a = cc in ap (λ (p : Posted). Some (posted_item p.region new)) same
put_same (x ∷ items) (suc id) new a is = put_same items id new a is

-- ---- a split

-- an item after it is one of before, or a child
abbrev Stands : List Posted → List Region → ℕ → Posted → Type 0
Stands items children j a =
    ((o : Posted) × (slice_get items j ≡ Some o) × (o.region ≡ a.region)) ⊎ ((k : ℕ) × (j ≡ length items + k) × (slice_get (map free children) k ≡ Some a))

stands_at : (items : List Posted) (id : ℕ) (children : List Region) (j : ℕ) (a : Posted) → slice_get (with_item_state items id Closed ++ map free children) j ≡ Some a → Stands items children j a
stands_at items id children j a is =
    ⊎_elim
    (λ old. let x = put_at items id j Closed a old in inl (x.old, x.is, x.region))
    (λ new. let same = length-put items id Closed in inr (new.0, omega (arith, new.1, same), new.2))
    (append_at (with_item_state items id Closed) (map free children) j a is)

-- what is said of the item that is split
pub record Splitting (plan : Planned) (es : List Entry) (items : List Posted) (who id : ℕ) (r : Region) (children : List Region) : Type 0 where
  pub apart : Apart plan es items
  pub is : slice_get items id ≡ Some (posted_item r (Taken who))
  pub fact : IsSplit plan r children

pub live : (who : ℕ) → Taken who ≢ Closed
live who h = cc

-- no other item begins with its prefix
none_below : (plan : Planned) (es : List Entry) (items : List Posted) (who id : ℕ) (r : Region) (children : List Region) → Splitting plan es items who id r children → (j : ℕ) (b : Posted) → slice_get items j ≡ Some b → id ≢ j → Begins r.prefix b.region.prefix → ⊥
none_below plan es items who id r children s j b is other begins =
    not_split plan es items id r (Taken who) (live who) s.is s.apart (s.apart.kept.splits id j (posted_item r (Taken who)) b s.is is other begins)

-- a child's prefix is none of before
child_new : (plan : Planned) (es : List Entry) (items : List Posted) (who id : ℕ) (r : Region) (children : List Region) → Splitting plan es items who id r children → (k j : ℕ) (a b : Posted) → slice_get (map free children) k ≡ Some a → slice_get items j ≡ Some b → Begins a.region.prefix b.region.prefix → ⊥
child_new plan es items who id r children s k j a b is_a is_b begins =
    let longer = child_at plan r children k a s.fact.parts is_a in
    ⊎_elim
    (λ (same : id ≡ j). let at : posted_item r (Taken who) ≡ b = let there : slice_get items id ≡ Some b = ap (slice_get items) same ∙ is_b in cc in
    not_back r.prefix a.region.prefix longer (subst (λ (p : Posted). Begins a.region.prefix p.region.prefix) (sym at) begins))
    (λ other. none_below plan es items who id r children s j b is_b other (begins_through r.prefix a.region.prefix b.region.prefix (longer_begins r.prefix a.region.prefix longer) begins))
    (same_or_other id j)

old_begins_child : (plan : Planned) (es : List Entry) (items : List Posted) (who id first : ℕ) (r : Region) (children : List Region) → Splitting plan es items who id r children → (k i : ℕ) (a b : Posted) → slice_get (map free children) k ≡ Some b → slice_get items i ≡ Some a → Begins a.region.prefix b.region.prefix → WasSplit (es ++ Split who id first children ∷ []) i
old_begins_child plan es items who id first r children s k i a b is_b is_a begins =
    let longer = child_at plan r children k b s.fact.parts is_b in
    ⊎_elim
    (λ (same : id ≡ i). SomeOf-append_right (IsSplitOf i) es (Split who id first children ∷ []) (inl (sym same)))
    (λ other. ⊎_elim
    (λ above. was_more es (Split who id first children) i (s.apart.kept.splits i id a (posted_item r (Taken who)) is_a s.is (λ h. other (sym h)) above))
    (λ below. absurd (none_below plan es items who id r children s i a is_a other below))
    (either_begins a.region.prefix r.prefix b.region.prefix begins (longer_begins r.prefix b.region.prefix longer)))
    (same_or_other id i)

old_child_differ : (plan : Planned) (es : List Entry) (items : List Posted) (who id : ℕ) (r : Region) (children : List Region) → Splitting plan es items who id r children → (k i : ℕ) (a b : Posted) → slice_get (map free children) k ≡ Some b → slice_get items i ≡ Some a → a.region.prefix ≡ b.region.prefix → ⊥
old_child_differ plan es items who id r children s k i a b is_b is_a same = child_new plan es items who id r children s k i b a is_b is_a (same_begins b.region.prefix a.region.prefix (sym same))

split_apart : (plan : Planned) (es : List Entry) (items : List Posted) (who id first : ℕ) (r : Region) (children : List Region) → Splitting plan es items who id r children → Apart plan (es ++ Split who id first children ∷ []) (with_item_state items id Closed ++ map free children)
split_apart plan es items who id first r children s =
    let e : Entry = Split who id first children in
    let here = slice_get_within items id (posted_item r (Taken who)) s.is in
    record {
      kept = record {
        different = λ i j a b at_i at_j other same. ⊎_elim
            (λ old_i. ⊎_elim
            (λ old_j. s.apart.kept.different i j old_i.0 old_j.0 old_i.1 old_j.1 other (same_prefix old_i.0 a old_i.2 ∙ same ∙ sym (same_prefix old_j.0 b old_j.2)))
            (λ new_j. old_child_differ plan es items who id r children s new_j.0 i old_i.0 b new_j.2 old_i.1 (same_prefix old_i.0 a old_i.2 ∙ same))
            (stands_at items id children j b at_j))
            (λ new_i. ⊎_elim
            (λ old_j. old_child_differ plan es items who id r children s new_i.0 j old_j.0 a new_i.2 old_j.1 (same_prefix old_j.0 b old_j.2 ∙ sym same))
            (λ new_j. children_apart children new_i.0 new_j.0 a b s.fact.apart new_i.2 new_j.2 (λ h. other (omega (arith, new_i.1, new_j.1, h))) (same_begins a.region.prefix b.region.prefix same))
            (stands_at items id children j b at_j))
            (stands_at items id children i a at_i);
        splits = λ i j a b at_i at_j other begins. ⊎_elim
            (λ old_i. ⊎_elim
            (λ old_j. was_more es e i (s.apart.kept.splits i j old_i.0 old_j.0 old_i.1 old_j.1 other (subst (λ p. Begins p old_j.0.region.prefix) (sym (same_prefix old_i.0 a old_i.2)) (subst (λ q. Begins a.region.prefix q) (sym (same_prefix old_j.0 b old_j.2)) begins))))
            (λ new_j. old_begins_child plan es items who id first r children s new_j.0 i old_i.0 b new_j.2 old_i.1 (subst (λ p. Begins p b.region.prefix) (sym (same_prefix old_i.0 a old_i.2)) begins))
            (stands_at items id children j b at_j))
            (λ new_i. ⊎_elim
            (λ old_j. absurd (child_new plan es items who id r children s new_i.0 j a old_j.0 new_i.2 old_j.1 (subst (λ q. Begins a.region.prefix q) (sym (same_prefix old_j.0 b old_j.2)) begins)))
            (λ new_j. absurd (children_apart children new_i.0 new_j.0 a b s.fact.apart new_i.2 new_j.2 (λ h. other (omega (arith, new_i.1, new_j.1, h))) begins))
            (stands_at items id children j b at_j))
            (stands_at items id children i a at_i);
        reached = λ i a at_i h. ⊎_elim
            (λ before. ⊎_elim
            (λ old_i. subst (λ q. IsDrivenList plan.program q) (same_prefix old_i.0 a old_i.2) (s.apart.kept.reached i old_i.0 old_i.1 before))
            (λ new_i. let c = s.apart.closed i before in let lt = slice_get_within items i c.0 c.1 in absurd (omega (arith, lt, new_i.1)))
            (stands_at items id children i a at_i))
            (λ (same : i ≡ id). ⊎_elim
            (λ old_i. let at : posted_item r (Taken who) ≡ old_i.0 = let there : slice_get items id ≡ Some old_i.0 = ap (slice_get items) (sym same) ∙ old_i.1 in cc in
            subst (λ q. IsDrivenList plan.program q) (ap (λ (p : Posted). p.region.prefix) at ∙ same_prefix old_i.0 a old_i.2) s.fact.reached)
            (λ new_i. absurd (omega (arith, here, same, new_i.1)))
            (stands_at items id children i a at_i))
            (was_cases es e i h);
      };
      closed = λ i h. ⊎_elim
          (λ before. let c = s.apart.closed i before in
          let b = put_there items id i Closed c.0 c.1 in
          let other : i ≢ id = λ same. not_split plan es items id r (Taken who) (live who) s.is s.apart (subst (WasSplit es) same before) in
          (b.0, more_there (with_item_state items id Closed) (map free children) i b.0 b.1, ap (λ (p : Posted). p.state) (b.2 other) ∙ c.2))
          (λ (same : i ≡ id). (posted_item r Closed, more_there (with_item_state items id Closed) (map free children) i (posted_item r Closed) (subst (λ n. slice_get (with_item_state items id Closed) n ≡ Some (posted_item r Closed)) (sym same) (put_same items id Closed (posted_item r (Taken who)) s.is)), refl))
          (was_cases es e i h);
    }

-- ---- each entry, and each history

free_live : Free ≢ Closed
free_live h = cc

pub apart_step : (u : Setup) (s : State) (es : List Entry) (e : Entry) → May u s e → Apart u.rows.plan es s.items → Apart u.rows.plan (es ++ e ∷ []) (step s e).items
apart_step u s es (Claim who id) may h = put_apart u.rows.plan es s.items id (Taken who) Free may.0 (Claim who id) may.1.stands free_live (λ n none. none) h
apart_step u s es (Empty who id) may h = put_apart u.rows.plan es s.items id Closed (Taken who) may.region (Empty who id) may.stands (live who) (λ n none. none) h
apart_step u s es (Refuted who id) may h = put_apart u.rows.plan es s.items id Closed (Taken who) may.region (Refuted who id) may.stands (live who) (λ n none. none) h
apart_step u s es (Split who id first children) may h = split_apart u.rows.plan es s.items who id first may.1.region children (record { apart = h; is = may.1.stands; fact = may.1.says })
apart_step u s es (Found who id cost) may h = put_apart u.rows.plan es s.items id Closed (Taken who) may.region (Found who id cost) may.stands (live who) (λ n none. none) h
apart_step u s es (Park who id cause) may h = put_apart u.rows.plan es s.items id (Parked cause) (Taken who) may.region (Park who id cause) may.stands (live who) (λ n none. none) h
apart_step u s es (Return who id) may h = put_apart u.rows.plan es s.items id Free (Taken who) may.region (Return who id) may.stands (live who) (λ n none. none) h
apart_step u s es Reopen may h = freed_apart u.rows.plan es s.items h

apart_after : (u : Setup) (s : State) (done es : List Entry) → LegalFrom u s es → Apart u.rows.plan done s.items → Apart u.rows.plan (done ++ es) (state_after_entries s es).items
apart_after u s done [] legal h = subst (λ l. Apart u.rows.plan l s.items) (sym (append-nil done)) h
apart_after u s done (e ∷ es) legal h =
    subst (λ l. Apart u.rows.plan l (state_after_entries (step s e) es).items) (append_assoc done (e ∷ []) es) (apart_after u (step s e) (done ++ e ∷ []) es legal.1 (apart_step u s done e legal.0 h))

only_one : (x a : Posted) (i : ℕ) → slice_get (x ∷ []) i ≡ Some a → i ≡ 0
only_one x a zero is = refl
only_one x a (suc i) is = cc

pub apart_start : (u : Setup) → Apart u.rows.plan [] (start_state u).items
apart_start u =
    let first : Posted = posted_item (record { cuts = []; prefix = []; bound = u.opening }) Free in
    record {
      kept = record {
        different = λ i j a b at_i at_j other _. other (only_one first a i at_i ∙ sym (only_one first b j at_j));
        splits = λ i j a b at_i at_j other _. absurd (other (only_one first a i at_i ∙ sym (only_one first b j at_j)));
        reached = λ i a at_i none. absurd none;
      };
      closed = λ i none. absurd none;
    }

pub kept_apart : (u : Setup) (es : List Entry) → Legal u es → KeptApart u.rows.plan es (state_after u es).items
kept_apart u es legal = (apart_after u (start_state u) [] es legal.each (apart_start u)).kept
