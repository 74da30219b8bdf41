-- The clauses that a search knows, and their literals.
use Rattle.std.proofs.Common.{◌≡◌, ℕ, ℤ, ◌+◌, ◌<◌, ◌≤◌, List, [], ◌∷◌, ◌++◌, length, get_or, take, map, All, refl, ◌∙◌}
use Rattle.std.proofs.lemmas.List.{take_all, take_more}
use Rattle.std.proofs.lemmas.List.Elements.{All-append, All-map}
use Rattle.cnf_form.specs.declared.log.LogLine.{LogLine}
use Rattle.cnf_form.specs.declared.cnf.Cnf.{Cnf}
use Rattle.cnf_form.specs.Literals.{IsClause, NamesUpTo}
use Rattle.rup_check.specs.Accepted.{clauses_of}
use Rattle.rup_check.specs.Trail.{IsWithin}
use Rattle.search_tables.specs.declared.watches.Pair.{Pair}
use Rattle.search_tables.specs.Trail.{Trail}
use Rattle.sat_search.specs.Working.{IsWorking}
use Rattle.sat_search.specs.Held.{IsHeld}

-- one more clause of a list
pub copied_more : (clauses known new : List (List ℤ)) (i : ℕ) (clause literals : List ℤ) → i < length clauses → clause ≡ get_or clauses i clause → literals ≡ clause → known ≡ take i clauses → new ≡ known ++ literals ∷ [] → new ≡ take (i + 1) clauses
copied_more clauses known new i clause literals within is same before pushed =
    rw (pushed, before, take_more clauses i clause within, same ∙ is) refl

-- and then all
pub copied_all : (clauses known : List (List ℤ)) (i : ℕ) → length clauses ≤ i → known ≡ take i clauses → known ≡ clauses
copied_all clauses known i past before = before ∙ take_all i clauses past

-- they are of variables of the formula
pub clauses_within : (cnf : Cnf) (lines : List LogLine) → IsWorking cnf lines → All (All (IsWithin cnf.variables)) (clauses_of cnf lines)
clauses_within cnf lines working =
    All-append (All (IsWithin cnf.variables)) cnf.clauses (map (λ (line : LogLine). line.clause) lines)
    (λ k d h i e inside. (((cnf.each.each k d h).each i e inside).0, cnf.named k d h i e inside))
    (All-map (All (IsWithin cnf.variables)) (λ (line : LogLine). line.clause) lines
    (λ k d h i e inside. (((working.clauses k d h).each i e inside).0, working.named k d h i e inside)))

pub known_within : (cnf : Cnf) (lines : List LogLine) (table : List (List ℤ)) (trail : Trail) (starts : List ℕ) (pairs : List Pair) (lists : List (List ℕ)) (head : ℕ) → IsHeld cnf lines table trail starts pairs lists head → All (All (IsWithin trail.variables)) table
known_within cnf lines table trail starts pairs lists head held = rw (held.stored, held.variables) (clauses_within cnf lines held.working)
