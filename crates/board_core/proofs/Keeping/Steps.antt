-- What is kept of a state, after each entry that may be made.
use Rattle.std.proofs.Common.{◌≡◌, ◌≤◌, ◌⊎◌, inl, inr, ⊎_elim, ℕ, zero, suc, ◌+◌, ◌*◌, List, [], ◌∷◌, length, Option, Some, refl, subst, arith, IsTrue}
use Rattle.std.specs.Prelude.{slice_get}
use Rattle.flow_laws.specs.Claims.{IsDriven}
use Rattle.flow_graph.specs.Plans.{Planned}
use Rattle.race_item.specs.declared.region.Region.{Region}
use Rattle.race_item.specs.Lists.{EachOf, SomeOf}
use Rattle.race_item.specs.Regions.{Covers}
use Rattle.race_item.specs.Items.{IsItem, BoundsPaths, list_cost}
use Rattle.board_core.specs.declared.event.ItemState.{ItemState}
use Rattle.board_core.specs.Kinds.{is_open}
use Rattle.board_core.specs.Machine.{Posted, posted_item, Setup, State, with_item_state, taken_count, start_state}
use Rattle.board_core.specs.Kept.{IsSetup, KeptState, CoversOpen, IsAtMostBest}
use Rattle.board_core.proofs.Lists.{EachOf-weaker}
use Rattle.board_core.proofs.Places.{SomeOf-put, SomeOf-put_or}
use Rattle.board_core.proofs.Opening.{paths_within_optimum}
use Rattle.board_core.proofs.Paths.{opening_is_item, opening_covers}

-- each driven path is covered by an open one of these items, or costs at most best's cost
abbrev pub Covered : Planned → List Posted → Option ℕ → Type 0
Covered plan items best = (q : List ℕ) → IsDriven plan.program q → SomeOf (CoversOpen plan q) items ⊎ IsAtMostBest best (list_cost plan q)

abbrev pub AreItems : Planned → List Posted → Type 0
AreItems plan items = EachOf (λ (item : Posted). IsItem plan item.region) items

-- the bounds of open items are those of items
pub kept : (u : Setup) (s : State) → AreItems u.rows.plan s.items → Covered u.rows.plan s.items s.best → s.settled + taken_count s.items ≤ u.limits.turns → length s.items ≤ 3 * s.settled + 1 → KeptState u s
kept u s items covered within few = record {
  items = items;
  bounded = EachOf-weaker (λ (item : Posted). IsItem u.rows.plan item.region) (λ (item : Posted). IsTrue (is_open item.state) → BoundsPaths u.rows.plan item.region) (λ item is _. is.bounds) s.items items;
  covered = covered;
  within = within;
  few = few;
}

-- ---- the start

pub kept_start : (u : Setup) → IsSetup u → KeptState u (start_state u)
kept_start u h =
    kept u (start_state u)
    (opening_is_item u.rows.plan u.opening (λ q driven covers. paths_within_optimum u.rows.plan u.opening h.formed h.optimum q driven), tt)
    (λ q driven. inl (inl (refl, opening_covers u.rows.plan u.opening h.formed q driven)))
    (omega arith)
    (omega arith)

-- ---- an item that stays open

-- the region of an item that stands at a number
pub at_number : (Q : Region → Type 0) (items : List Posted) (id : ℕ) (r : Region) (s : ItemState) → EachOf (λ (item : Posted). Q item.region) items → slice_get items id ≡ Some (posted_item r s) → Q r
at_number Q [] id r s each is = cc
at_number Q (item ∷ items) zero r s each is =
    let same : item ≡ posted_item r s = cc in
    subst (λ (x : Posted). Q x.region) same each.0
at_number Q (item ∷ items) (suc id) r s each is = at_number Q items id r s each.1 is

pub stays_open : (plan : Planned) (items : List Posted) (id : ℕ) (new : ItemState) (best : Option ℕ) → IsTrue (is_open new) → Covered plan items best → Covered plan (with_item_state items id new) best
stays_open plan items id new best may covered q driven =
    ⊎_elim (λ some. inl (SomeOf-put (CoversOpen plan q) items id new (λ item h. (may, h.1)) some)) (λ most. inr most) (covered q driven)

-- ---- an item that closes

-- what it covers is covered otherwise, or costs at most best's cost
pub closes : (plan : Planned) (items : List Posted) (id : ℕ) (r : Region) (was : ItemState) (new : ItemState) (best : Option ℕ) → slice_get items id ≡ Some (posted_item r was) → ((q : List ℕ) → IsDriven plan.program q → Covers plan.program r q → SomeOf (CoversOpen plan q) (with_item_state items id new) ⊎ IsAtMostBest best (list_cost plan q)) → Covered plan items best → Covered plan (with_item_state items id new) best
closes plan items id r was new best is otherwise covered q driven =
    ⊎_elim
    (λ some. ⊎_elim (λ here. otherwise q driven here.1) (λ others. inl others) (SomeOf-put_or (CoversOpen plan q) items id new (posted_item r was) is some))
    (λ most. inr most)
    (covered q driven)
