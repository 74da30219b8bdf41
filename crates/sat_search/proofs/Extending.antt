-- A search goes on.
use Rattle.std.proofs.Common.{◌≡◌, ℕ, zero, suc, ℤ, pos, neg_ℤ, ◌+◌, ◌<◌, ◌≤◌, List, ◌∷◌, length, take, map, get_or, unsigned_abs, All, eqb, false, refl, sym, ◌∙◌, ap, subst, arith}
use Rattle.std.proofs.lemmas.Bool.{eqb-true, ne_eqb}
use Rattle.std.proofs.lemmas.List.{length-map, get_or-map, take_more}
use Rattle.std.proofs.lemmas.Map.Keys.{IsDistinct-from_apart}
use Rattle.std.proofs.lemmas.Map.Steps.{length-le_from_distinct_below}
use Rattle.std.proofs.lemmas.Map.Views.{Contains-from_any}
use Rattle.cnf_form.specs.declared.cnf.Cnf.{Cnf}
use Rattle.cnf_form.specs.Literals.{NamesOnce}
use Rattle.rup_check.specs.Trail.{IsWithin}
use Rattle.sat_search.specs.declared.search.Search.{Search}
use Rattle.search_tables.specs.Trail.{literal_at}
use Rattle.sat_search.specs.Guarded.{AreGuarded}
use Rattle.sat_search.specs.Visits.{Holds, Extends, Passes, known_by, watchers}
use Rattle.sat_search.proofs.Keeping.{neg_twice}
use Rattle.sat_search.proofs.Guarding.{passing_start, passing_end}

pub Extends-same : (s : Search) → Extends s s
Extends-same s = record { lines = refl; starts = refl; head = refl; longer = omega arith; at_head = refl }

pub Extends-then : (one other last : Search) → Extends one other → Extends other last → Extends one last
Extends-then one other last before after = record {
  lines = after.lines ∙ before.lines;
  starts = after.starts ∙ before.starts;
  head = after.head ∙ before.head;
  longer = omega (arith, before.longer, after.longer);
  at_head = subst (λ h. literal_at last.trail.literals h ≡ literal_at other.trail.literals h) before.head after.at_head ∙ before.at_head;
}

-- the first visit, and the last
pub passes_start : (cnf : Cnf) (s : Search) (falsified : ℤ) → Holds cnf s → Passes cnf s falsified 0
passes_start cnf s falsified held = passing_start cnf.variables (known_by cnf s) s.watches.pairs.items s.watches.lists.items s.trail.literals falsified held.watching

pub passes_end : (cnf : Cnf) (s : Search) (falsified : ℤ) (i : ℕ) → Holds cnf s → s.head < length s.trail.literals → falsified ≡ neg_ℤ (literal_at s.trail.literals s.head) → length (watchers s falsified) ≤ i → Passes cnf s falsified i → AreGuarded (known_by cnf s) s.watches.pairs.items (take (s.head + 1) s.trail.literals) s.trail.literals
passes_end cnf s falsified i held inside is end passing =
    let l = literal_at s.trail.literals s.head in
    rw (take_more s.trail.literals s.head (pos 0) inside)
    (passing_end (known_by cnf s) s.watches.pairs.items s.watches.lists.items (take s.head s.trail.literals) s.trail.literals falsified l i held.counted end
    (λ m same. sym (is ∙ ap neg_ℤ same ∙ neg_twice m)) passing held.guarded)

-- one literal more was propagated
pub head_next : (cnf : Cnf) (s : Search) (n : ℕ) → n ≡ s.head + 1 → Holds cnf s → s.head < length s.trail.literals → AreGuarded (known_by cnf s) s.watches.pairs.items (take (s.head + 1) s.trail.literals) s.trail.literals → Holds cnf (record s { head = n })
head_next cnf s n is held inside guarded = record {
  working = held.working;
  stored = held.stored;
  variables = held.variables;
  sound = held.sound;
  counted = held.counted;
  watching = held.watching;
  levels = held.levels;
  reached = omega (arith, is, inside);
  guarded = rw is guarded;
}

-- ---- a trail has at most as many literals as there are variables

variable_later : (literals : List ℤ) (k e : ℕ) → k < length literals → get_or (0 ∷ map unsigned_abs literals) (suc k) e ≡ unsigned_abs (literal_at literals k)
variable_later literals k e within = get_or-map unsigned_abs literals k (pos 0) e within

variables_differ : (variables : ℕ) (literals : List ℤ) → NamesOnce literals → All (IsWithin variables) literals → (i j e : ℕ) → i < j → j < length (0 ∷ map unsigned_abs literals) → eqb (get_or (0 ∷ map unsigned_abs literals) i e) (get_or (0 ∷ map unsigned_abs literals) j e) ≡ false
variables_differ variables literals apart within i zero e before inside = absurd (omega (arith, before))
variables_differ variables literals apart within zero (suc j) e before inside =
    let there : j < length literals = omega (arith, inside, length-map literals unsigned_abs) in
    let low = within j (pos 0) there in
    ne_eqb 0 (get_or (0 ∷ map unsigned_abs literals) (suc j) e) (λ same. omega (arith, low.0, same, variable_later literals j e there))
variables_differ variables literals apart within (suc i) (suc j) e before inside =
    let there : j < length literals = omega (arith, inside, length-map literals unsigned_abs) in
    let here : i < length literals = omega (arith, there, before) in
    ne_eqb (get_or (0 ∷ map unsigned_abs literals) (suc i) e) (get_or (0 ∷ map unsigned_abs literals) (suc j) e)
    (λ same. apart i j (pos 0) (omega (arith, before)) there (sym (variable_later literals i e here) ∙ same ∙ variable_later literals j e there))

variables_below : (variables : ℕ) (literals : List ℤ) → All (IsWithin variables) literals → (q k : ℕ) → k < length (0 ∷ map unsigned_abs literals) → get_or (0 ∷ map unsigned_abs literals) k q ≡ q → q < variables + 1
variables_below variables literals within q zero inside is = omega (arith, is)
variables_below variables literals within q (suc k) inside is =
    let there : k < length literals = omega (arith, inside, length-map literals unsigned_abs) in
    let at = within k (pos 0) there in
    omega (arith, at.1, is, variable_later literals k q there)

pub trail_short : (variables : ℕ) (literals : List ℤ) → NamesOnce literals → All (IsWithin variables) literals → length literals ≤ variables
trail_short variables literals apart within =
    let xs = 0 ∷ map unsigned_abs literals in
    let few : length xs ≤ variables + 1 = length-le_from_distinct_below xs (variables + 1) (IsDistinct-from_apart eqb xs (variables_differ variables literals apart within))
    (λ q found. let here = Contains-from_any eqb-true q xs found in variables_below variables literals within q here.0 here.1 here.2) in
    omega (arith, few, length-map literals unsigned_abs)
