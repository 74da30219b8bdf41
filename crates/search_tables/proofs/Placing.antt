-- The table of places, as literals are made true and taken back.
use Rattle.std.proofs.Common.{◌≡◌, ◌≢◌, ⊎_elim, ℕ, ℤ, pos, neg_ℤ, ◌+◌, ◌-◌, ◌<◌, List, [], ◌∷◌, ◌++◌, length, take, set, Contains, unsigned_abs, sym, ◌∙◌, ap, subst, arith, length-set, length-append, get_or-set_same, get_or-set_other}
use Rattle.std.proofs.lemmas.Bool.{cases_lt}
use Rattle.std.proofs.lemmas.List.{get_or_append_left, get_or_push, get_or-take, length-take}
use Rattle.std.proofs.lemmas.List.Elements.{All-push, All-take, Contains-get_or}
use Rattle.rup_check.specs.Trail.{IsWithin}
use Rattle.search_tables.specs.Trail.{literal_at, variable_at, Places}
use Rattle.plain_laws.proofs.Integers.{same_magnitude}

-- a literal of the variable of l is l or its negation
pub variable_made : (literals : List ℤ) (l : ℤ) (p : ℕ) → p < length literals → variable_at literals p ≡ unsigned_abs l → ¬ Contains literals l → ¬ ¬ Contains literals (neg_ℤ l)
variable_made literals l p within same not_true not_false =
    ⊎_elim
    (λ (is : l ≡ literal_at literals p). not_true (subst (Contains literals) (sym is) (Contains-get_or literals p (pos 0) within)))
    (λ (is : neg_ℤ l ≡ literal_at literals p). not_false (subst (Contains literals) (sym is) (Contains-get_or literals p (pos 0) within)))
    (same_magnitude l (literal_at literals p) (sym same))

-- one more literal is made true, of a new variable
pub Places-push : (places : List ℕ) (literals : List ℤ) (l : ℤ) (at : ℕ) → Places places literals → IsWithin (length places) l → ¬ Contains literals l → ¬ Contains literals (neg_ℤ l) → at + 1 ≡ unsigned_abs l → Places (set places at (length literals)) (literals ++ l ∷ [])
Places-push places literals l at old inside not_true not_false place =
    let n = length literals in
    let len : length (set places at n) ≡ length places = length-set places at n in
    record {
      within = All-push (IsWithin (length (set places at n))) literals l (rw len old.within) (rw len inside);
      found = λ p before. ⊎_elim
          (λ earlier.
          let same : variable_at (literals ++ l ∷ []) p ≡ variable_at literals p = ap unsigned_abs (get_or_append_left literals (l ∷ []) (pos 0) p earlier) in
          let other : variable_at literals p ≢ unsigned_abs l = λ h. variable_made literals l p earlier h not_true not_false in
          let low : 0 < variable_at literals p = (old.within p (pos 0) earlier).0 in
          let away : variable_at literals p - 1 ≢ at = λ h. other (omega (arith, h, place, low)) in
          rw same (get_or-set_other places at (variable_at literals p - 1) n 0 away ∙ old.found p earlier))
          (λ last.
          let longer = length-append literals (l ∷ []) in
          let here : length literals ≡ p = omega (arith, longer, before, last) in
          let same : variable_at (literals ++ l ∷ []) p ≡ unsigned_abs l = ap unsigned_abs (get_or_push literals l (pos 0) p here) in
          let spot : unsigned_abs l - 1 ≡ at = omega (arith, place) in
          let room : at < length places = omega (arith, inside.0, inside.1, place) in
          rw (same, spot) (get_or-set_same places at n 0 room ∙ here))
          (cases_lt p n);
    }

-- some are taken back
pub Places-take : (places : List ℕ) (literals : List ℤ) (count : ℕ) → Places places literals → Places places (take count literals)
Places-take places literals count old = record {
  within = All-take (IsWithin (length places)) count literals old.within;
  found = λ p before.
      let short = length-take count literals in
      let early : p < count = omega (arith, short, before) in
      let inside : p < length literals = omega (arith, short, before) in
      let same : variable_at (take count literals) p ≡ variable_at literals p = ap unsigned_abs (get_or-take count literals p (pos 0) early) in
      rw same (old.found p inside);
}
