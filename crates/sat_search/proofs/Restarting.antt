-- A search takes all its decisions back.
use Rattle.std.proofs.Common.{◌≡◌, ℕ, ℤ, ◌<◌, List, [], length, take, get_or, refl, subst, arith}
use Rattle.std.proofs.lemmas.List.{take-take, length-take-le}
use Rattle.cnf_form.specs.declared.log.LogLine.{LogLine}
use Rattle.cnf_form.specs.declared.cnf.Cnf.{Cnf}
use Rattle.rup_check.specs.Accepted.{clauses_of}
use Rattle.search_tables.specs.declared.watches.Pair.{Pair}
use Rattle.search_tables.specs.Trail.{Trail}
use Rattle.sat_search.specs.Held.{IsHeld}
use Rattle.sat_search.proofs.Backjump.{cut, sound_cut}

pub held_restarted : (cnf : Cnf) (lines : List LogLine) (table : List (List ℤ)) (trail : Trail) (starts : List ℕ) (pairs : List Pair) (lists : List (List ℕ)) (head start : ℕ) → IsHeld cnf lines table trail starts pairs lists head → 0 < length starts → start ≡ get_or starts 0 0 → IsHeld cnf lines table (cut trail start) [] pairs lists start
held_restarted cnf lines table trail starts pairs lists head start held some is =
    let known = clauses_of cnf lines in
    let first = get_or starts 0 0 in
    let inside : first < length trail.literals = held.sound.below 0 0 some in
    let short = length-take-le first trail.literals (omega (arith, inside)) in
    rw is (record {
      working = held.working;
      stored = held.stored;
      variables = held.variables;
      sound = sound_cut known trail starts 0 some held.sound;
      counted = held.counted;
      watching = held.watching;
      levels = λ k d within. absurd (omega (arith, within));
      reached = omega (arith, short);
      guarded = rw (take-take first first trail.literals (omega arith)) (held.levels 0 0 some);
    })
