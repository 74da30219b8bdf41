-- The clause that a search visits.
use Rattle.std.proofs.Common.{◌≡◌, ◌≢◌, ◌⊎◌, ℕ, ℤ, neg_ℤ, ◌+◌, ◌<◌, List, [], ◌∷◌, ◌++◌, length, take, get_or, Some, All, Contains, slice_get, sym, subst, arith}
use Rattle.std.proofs.lemmas.List.Elements.{Contains-push}
use Rattle.cnf_form.specs.declared.cnf.Cnf.{Cnf}
use Rattle.rup_check.specs.Trail.{IsWithin}
use Rattle.sat_search.specs.declared.search.Search.{Search}
use Rattle.search_tables.specs.Trail.{literal_at}
use Rattle.search_tables.specs.Watching.{pair_at, IsChange}
use Rattle.sat_search.specs.Guarded.{IsGuarded, clause_of, IsPassing}
use Rattle.sat_search.specs.Visits.{Holds, known_by, watchers, Passes, IsVisited}
use Rattle.sat_search.proofs.Guarding.{apart_consistent, passing_more, passing_stays}
use Rattle.sat_search.proofs.Visiting.{IsOnly, clause_is, visit_true, visit_unit, free_away, entry_known, other_within, falsified_within}

pub visited_guarded : (cnf : Cnf) (s : Search) (falsified : ℤ) (at number : ℕ) (other : ℤ) (clause : List ℤ) → Holds cnf s → IsVisited cnf s falsified at number other → slice_get (known_by cnf s) number ≡ Some clause → IsGuarded clause (pair_at s.watches.pairs.items number) (take s.head s.trail.literals) s.trail.literals
visited_guarded cnf s falsified at number other clause held visited is =
    subst (λ c. IsGuarded c (pair_at s.watches.pairs.items number) (take s.head s.trail.literals) s.trail.literals) (clause_is (known_by cnf s) number clause is) (held.guarded number visited.known)

-- where no other literal is free, it has the other watched one alone
pub visited_only : (cnf : Cnf) (s : Search) (falsified : ℤ) (at number : ℕ) (other : ℤ) (clause : List ℤ) → Holds cnf s → IsVisited cnf s falsified at number other → slice_get (known_by cnf s) number ≡ Some clause → All (λ m. m ≢ other → Contains s.trail.literals (neg_ℤ m)) clause → ¬ Contains s.trail.literals other → IsOnly s.trail.literals other clause
visited_only cnf s falsified at number other clause held visited is others not_true =
    let consistent = apart_consistent s.trail.variables s.trail.literals held.sound.apart held.sound.within in
    (visit_unit clause (pair_at s.watches.pairs.items number) (take s.head s.trail.literals) s.trail.literals other consistent (visited_guarded cnf s falsified at number other clause held visited is) visited.stays others not_true, others)

pub visited_change : (cnf : Cnf) (s : Search) (falsified : ℤ) (at number : ℕ) (other free : ℤ) → IsVisited cnf s falsified at number other → s.head < length s.trail.literals → falsified ≡ neg_ℤ (literal_at s.trail.literals s.head) → free ≢ other → ¬ Contains s.trail.literals (neg_ℤ free) → IsChange s.watches.pairs.items number falsified (record { one = free; other = other })
visited_change cnf s falsified at number other free visited inside is differ not_false = record {
  differ = differ;
  one = free_away s.trail.literals s.head falsified free inside is not_false;
  other = visited.away;
  stays = visited.stays;
}

-- the literal that became true satisfies it
pub visited_stays : (cnf : Cnf) (s : Search) (falsified : ℤ) (at number : ℕ) (other : ℤ) → IsVisited cnf s falsified at number other → at < length (watchers s falsified) → Contains (clause_of (known_by cnf s) number) other → Passes cnf s falsified at → IsPassing (known_by cnf s) s.watches.pairs.items s.watches.lists.items (s.trail.literals ++ other ∷ []) falsified (at + 1)
visited_stays cnf s falsified at number other visited inside named passing =
    passing_stays (known_by cnf s) s.watches.pairs.items s.watches.lists.items (s.trail.literals ++ other ∷ []) falsified at number inside visited.entry
    (record { literal = other; named = named; holds = Contains-push s.trail.literals other })
    (passing_more (known_by cnf s) s.watches.pairs.items s.watches.lists.items s.trail.literals falsified at other passing)

-- or one that was true
pub visited_true : (cnf : Cnf) (s : Search) (falsified : ℤ) (at number : ℕ) (other : ℤ) → Holds cnf s → IsVisited cnf s falsified at number other → at < length (watchers s falsified) → Contains s.trail.literals other → Passes cnf s falsified at → Passes cnf s falsified (at + 1)
visited_true cnf s falsified at number other held visited inside holds passing =
    passing_stays (known_by cnf s) s.watches.pairs.items s.watches.lists.items s.trail.literals falsified at number inside visited.entry
    (visit_true (clause_of (known_by cnf s) number) (pair_at s.watches.pairs.items number) (take s.head s.trail.literals) s.trail.literals other (held.guarded number visited.known) visited.stays holds)
    passing

-- the entry that is visited
pub visited : (cnf : Cnf) (s : Search) (falsified : ℤ) (at number : ℕ) (other : ℤ) → Holds cnf s → s.head < length s.trail.literals → falsified ≡ neg_ℤ (literal_at s.trail.literals s.head) → at < length (watchers s falsified) → number ≡ get_or (watchers s falsified) at 0 → (other ≡ (pair_at s.watches.pairs.items number).one) ⊎ (other ≡ (pair_at s.watches.pairs.items number).other) → ((pair_at s.watches.pairs.items number).one ≢ (pair_at s.watches.pairs.items number).other → other ≢ falsified) → IsVisited cnf s falsified at number other
visited cnf s falsified at number other held head is inside entry stays away =
    let proper = entry_known cnf s.lines.items s.known s.trail s.starts.items s.watches.pairs.items s.watches.lists.items s.head at number falsified other held inside entry in
    record {
      entry = entry;
      known = omega (arith, proper.there, held.counted);
      proper = proper;
      stays = stays;
      away = away proper.differ;
      within = subst (λ v. IsWithin v other) (sym held.variables) (other_within cnf.variables s.watches.pairs.items s.watches.lists.items number other held.watching proper stays);
      falsified_within = falsified_within cnf.variables s.trail s.head falsified held.variables held.sound.within head is;
    }
