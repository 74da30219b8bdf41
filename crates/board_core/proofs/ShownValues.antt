-- What is shown is so: a bound on every driven path, and the cost of one.
use Rattle.std.proofs.Common.{◌≡◌, ◌≢◌, ◌⊎◌, inl, inr, ⊎_elim, ℕ, max, Bool, true, false, List, [], ◌∷◌, Option, Some, None, refl, sym, ap, subst, arith, IsTrue}
use Rattle.std.specs.Prelude.{◌&&◌, ◌||◌}
use Rattle.std.proofs.Math.Dec.{ltb}
use Rattle.std.proofs.lemmas.Bool.{false≢true, ltb-true, ltb-false}
use Rattle.c_tree.specs.declared.program.Input.{Input}
use Rattle.c_tree.specs.Meaning.Runs.{fits}
use Rattle.flow_laws.specs.Claims.{IsDriven, DrivesAt}
use Rattle.flow_graph.specs.Plans.{Planned}
use Rattle.race_item.specs.Lists.{EachOf, SomeOf}
use Rattle.race_item.specs.Items.{BoundsPaths, list_cost}
use Rattle.board_core.specs.declared.event.Cause.{Cause}
use Rattle.board_core.specs.declared.event.End.TheVariants.{Done}
use Rattle.board_core.specs.declared.event.Entry.{Entry}
use Rattle.board_core.specs.declared.event.Entry.TheVariants.{Claim, Empty, Refuted, Split, Found, Park, Return, Reopen}
use Rattle.board_core.specs.Kinds.{is_open, is_free, is_taken}
use Rattle.board_core.specs.Machine.{Posted, Setup, State, step, state_after_entries, start_state, better}
use Rattle.board_core.specs.Conditions.{is_above, May, LegalFrom}
use Rattle.board_core.specs.Histories.{Legal, state_after}
use Rattle.board_core.specs.Kept.{KeptState, CoversOpen, IsAtMostBest, HasBest}
use Rattle.board_core.specs.Showing.{greatest, shown_bounds, some_above, is_spent, cause_of, first_end, end_of, IsNotAbove}
use Rattle.board_core.proofs.Showing.{through, Within, greatest_from, greatest_each, greatest_least, same_bound}

-- ---- above every driven path

covered_within : (plan : Planned) (o : Option ℕ) (q : List ℕ) (items : List Posted)
    → EachOf (λ (item : Posted). IsTrue (is_open item.state) → BoundsPaths plan item.region) items
    → EachOf (Within o) items → IsDriven plan.program q → SomeOf (CoversOpen plan q) items → IsNotAbove (Some (list_cost plan q)) o
covered_within plan o q [] bounds within driven some = absurd some
covered_within plan o q (item ∷ items) bounds within driven some =
    ⊎_elim
    (λ here. through (Some (list_cost plan q)) (Some item.region.bound) o (bounds.0 here.0 q driven here.1) (within.0 here.0))
    (λ others. covered_within plan o q items bounds.1 within.1 driven others)
    some

at_most_best : (best : Option ℕ) (n : ℕ) → IsAtMostBest best n → IsNotAbove (Some n) best
at_most_best None n h = absurd h
at_most_best (Some m) n h = h

pub shown_above : (u : Setup) (s : State) (q : List ℕ) → KeptState u s → IsDriven u.rows.plan.program q → IsNotAbove (Some (list_cost u.rows.plan q)) (shown_bounds s).bound
shown_above u s q k driven =
    ⊎_elim
    (λ some. covered_within u.rows.plan (greatest s.best s.items) q s.items k.bounded (greatest_each s.best s.items) driven some)
    (λ most. through (Some (list_cost u.rows.plan q)) s.best (greatest s.best s.items) (at_most_best s.best (list_cost u.rows.plan q) most) (greatest_from s.best s.items))
    (k.covered q driven)

-- ---- done

parts_false : (live above others : Bool) → ((live && above) || others) ≡ false → (IsTrue live → above ≡ false) × (others ≡ false)
parts_false true true others h = absurd (false≢true (sym h))
parts_false true false others h = (λ _. refl, h)
parts_false false above others h = (λ live. absurd (false≢true live), h)

not_above : (best : Option ℕ) (n : ℕ) → is_above best n ≡ false → IsNotAbove (Some n) best
not_above None n h = absurd (false≢true (sym h))
not_above (Some m) n h = ltb-false m n h

none_above : (best : Option ℕ) (items : List Posted) → some_above best is_open items ≡ false → EachOf (Within best) items
none_above best [] h = tt
none_above best (item ∷ items) h =
    let parts = parts_false (is_open item.state) (is_above best item.region.bound) (some_above best is_open items) h in
    (λ live. not_above best item.region.bound (parts.0 live), none_above best items parts.1)

not_live : (live free taken spent : Bool) (cause : Cause) → first_end live free taken spent cause ≡ Some Done → live ≡ false
not_live false free taken spent cause h = refl
not_live true true taken true cause h = cc
not_live true true taken false cause h = cc
not_live true false true spent cause h = cc
not_live true false false spent cause h = cc

same_both : (a b : Option ℕ) → IsNotAbove a b → IsNotAbove b a → a ≡ b
same_both None None h k = refl
same_both None (Some m) h k = absurd k
same_both (Some n) None h k = absurd h
same_both (Some n) (Some m) h k = let same : n ≡ m = omega (arith, h, k) in ap (λ (x : ℕ). Some x) same

pub done_shows_best : (u : Setup) (s : State) → end_of u s ≡ Some Done → (shown_bounds s).bound ≡ s.best
done_shows_best u s done =
    let none = none_above s.best s.items (not_live (some_above s.best is_open s.items) (some_above s.best is_free s.items) (some_above s.best is_taken s.items) (is_spent u s) (cause_of s) done) in
    same_both (greatest s.best s.items) s.best (greatest_least s.best s.best s.items (same_bound s.best) none) (greatest_from s.best s.items)

-- ---- not done

abbrev HasSome : Option ℕ → Type 0
HasSome o = (n : ℕ) × (o ≡ Some n)

some_of : (n : ℕ) (o : Option ℕ) → IsNotAbove (Some n) o → HasSome o
some_of n None h = absurd h
some_of n (Some m) h = (m, refl)

either_part : (live above others : Bool) → ((live && above) || others) ≡ true → IsTrue live ⊎ (others ≡ true)
either_part true above others h = inl refl
either_part false above others h = inr h

live_shows : (best o : Option ℕ) (items : List Posted) → some_above best is_open items ≡ true → EachOf (Within o) items → HasSome o
live_shows best o [] h each = absurd (false≢true h)
live_shows best o (item ∷ items) h each =
    ⊎_elim
    (λ live. some_of item.region.bound o (each.0 live))
    (λ others. live_shows best o items others each.1)
    (either_part (is_open item.state) (is_above best item.region.bound) (some_above best is_open items) h)

done_where : (u : Setup) (s : State) → some_above s.best is_open s.items ≡ false → end_of u s ≡ Some Done
done_where u s none =
    subst (λ (live : Bool). first_end live (some_above s.best is_free s.items) (some_above s.best is_taken s.items) (is_spent u s) (cause_of s) ≡ Some Done) (sym none) refl

pub not_done_shows : (u : Setup) (s : State) → end_of u s ≢ Some Done → (n : ℕ) × ((shown_bounds s).bound ≡ Some n)
not_done_shows u s going = by_live (some_above s.best is_open s.items) refl
  where
    by_live : (live : Bool) → some_above s.best is_open s.items ≡ live → (n : ℕ) × ((shown_bounds s).bound ≡ Some n)
    by_live true is = live_shows s.best (greatest s.best s.items) s.items is (greatest_each s.best s.items)
    by_live false is = absurd (going (done_where u s is))

-- ---- best is the cost of a driven path

greater : (m n : ℕ) → (max m n ≡ m) ⊎ (max m n ≡ n)
greater m n = by_less (ltb m n) refl
  where
    by_less : (less : Bool) → ltb m n ≡ less → (max m n ≡ m) ⊎ (max m n ≡ n)
    by_less true h = let lt = ltb-true m n h in inr (omega (arith, lt))
    by_less false h = let le = ltb-false m n h in inl (omega (arith, le))

better_driven : (plan : Planned) (best : Option ℕ) (cost : ℕ) (i : Input) → IsTrue (fits plan.program i) → DrivesAt plan.program plan.costs i cost → HasBest plan best → HasBest plan (better best cost)
better_driven plan None cost i fit drives has = (Some i, (fit, drives))
better_driven plan (Some m) cost i fit drives has =
    ⊎_elim
    (λ (same : max m cost ≡ m). subst (λ (n : ℕ). HasBest plan (Some n)) (sym same) has)
    (λ (same : max m cost ≡ cost). subst (λ (n : ℕ). HasBest plan (Some n)) (sym same) (Some i, (fit, drives)))
    (greater m cost)

best_step : (u : Setup) (s : State) (e : Entry) → May u s e → HasBest u.rows.plan s.best → HasBest u.rows.plan (step s e).best
best_step u s (Claim who id) may has = has
best_step u s (Empty who id) may has = has
best_step u s (Refuted who id) may has = has
best_step u s (Split who id first children) may has = has
best_step u s (Found who id cost) may has =
    let found = may.says.1 in
    better_driven u.rows.plan s.best cost may.says.0 found.fitting (found.path, found.drives, found.costs) has
best_step u s (Park who id cause) may has = has
best_step u s (Return who id) may has = has
best_step u s Reopen may has = has

pub best_after : (u : Setup) (s : State) (es : List Entry) → LegalFrom u s es → HasBest u.rows.plan s.best → HasBest u.rows.plan (state_after_entries s es).best
best_after u s [] legal has = has
best_after u s (e ∷ es) legal has = best_after u (step s e) es legal.1 (best_step u s e legal.0 has)

pub best_legal : (u : Setup) (es : List Entry) → Legal u es → HasBest u.rows.plan (state_after u es).best
best_legal u es legal = best_after u (start_state u) es legal.each (None, tt)
