use Rattle.std.proofs.Common.{◌≡◌, ◌≢◌, ◌+◌, ℤ, List, ◌++◌, ◌∷◌, [], length, All, Contains, neg_ℤ, refl, sym, subst, w32, to_z, of_z, arith}
use Rattle.std.proofs.lemmas.Int.{to_z-of_z}
use Rattle.std.proofs.lemmas.Bool.Decides.{when_true}
use Rattle.sat_search.specs.declared.search.Search.{Search}
use Rattle.sat_search.specs.Guarded.{clause_of, IsPassing}
use Rattle.sat_search.specs.Visits.{known_by, watchers, Passes}
use Rattle.sat_search.proofs.LearnedLemmas.{to_known}
use Rattle.sat_search.proofs.Knowing.{known_within}
use Rattle.sat_search.proofs.Guarding.{passing_moved}
use Rattle.sat_search.proofs.Visiting.{IsOnly, clause_is, held_moved}
use Rattle.sat_search.proofs.Visited.{visited_only, visited_change, visited_stays}
use Rattle.sat_search.proofs.search.Search.revise.Goals as goal

pub known_clause-clause-requires-clause-there : goal.known_clause-clause-requires-clause-there
known_clause-clause-requires-clause-there c = rw c.requires.held.stored c.requires.visited.known

pub known_clause-clause-requires-clause-within : goal.known_clause-clause-requires-clause-within
known_clause-clause-requires-clause-within c =
    let s = c.args.self.now in
    known_within c.args.cnf.now s.lines.items s.known s.trail s.starts.items s.watches.pairs.items s.watches.lists.items s.head c.requires.held

pub rewatch-requires-clause-change : goal.rewatch-requires-clause-change
rewatch-requires-clause-change c =
    let s = c.args.self.now in
    let falsified_is : to_z w32 (of_z w32 c.args.falsified) ≡ c.args.falsified = to_z-of_z w32 c.args.falsified (record { sfits = c.ranges.falsified.sfits }) in
    let other_is : to_z w32 (of_z w32 c.args.other) ≡ c.args.other = to_z-of_z w32 c.args.other (record { sfits = c.ranges.other.sfits }) in
    let free_is : to_z w32 (of_z w32 c.in-Some.free) ≡ c.in-Some.free = grind (arith, to_z-of_z) in
    rw (falsified_is, free_is, other_is, ← c.requires.visited.entry)
    (visited_change c.args.cnf.now s c.args.falsified c.args.at c.args.number c.args.other c.in-Some.free c.requires.visited c.requires.head c.requires.falsified (rw other_is at c.in-Some.ensures.differ) c.in-Some.ensures.free)

pub imply-requires-clause-unit : goal.imply-requires-clause-unit
imply-requires-clause-unit c =
    let s = c.args.self.now in
    let other_is : to_z w32 (of_z w32 c.args.other) ≡ c.args.other = to_z-of_z w32 c.args.other (record { sfits = c.ranges.other.sfits }) in
    let clause : List ℤ = c.known_clause-clause.result.now in
    let at = rw c.requires.held.stored at c.known_clause-clause.ensures.literals in
    let none : All (λ m. m ≢ c.args.other → Contains s.trail.literals (neg_ℤ m)) clause = rw other_is at c.in-None.ensures.none in
    rw other_is (to_known (known_by c.args.cnf.now s) c.args.number clause (IsOnly s.trail.literals c.args.other) at (visited_only c.args.cnf.now s c.args.falsified c.args.at c.args.number c.args.other clause c.requires.held c.requires.visited at none c.requires.not_true))

pub returns-in_ok-rewatch-in-Some-clause-held : goal.returns-in_ok-rewatch-in-Some-clause-held
returns-in_ok-rewatch-in-Some-clause-held c =
    let s = c.args.self.now in
    let known = known_by c.args.cnf.now s in
    let falsified_is : to_z w32 (of_z w32 c.args.falsified) ≡ c.args.falsified = to_z-of_z w32 c.args.falsified (record { sfits = c.ranges.falsified.sfits }) in
    let other_is : to_z w32 (of_z w32 c.args.other) ≡ c.args.other = to_z-of_z w32 c.args.other (record { sfits = c.ranges.other.sfits }) in
    let free_is : to_z w32 (of_z w32 c.in-Some.free) ≡ c.in-Some.free = grind (arith, to_z-of_z) in
    let clause : List ℤ = c.known_clause-clause.result.now in
    let at = rw c.requires.held.stored at c.known_clause-clause.ensures.literals in
    let named : Contains (clause_of known c.args.number) c.in-Some.free = subst (λ ls. Contains ls c.in-Some.free) (sym (clause_is known c.args.number clause at)) c.in-Some.ensures.named in
    let change = visited_change c.args.cnf.now s c.args.falsified c.args.at c.args.number c.args.other c.in-Some.free c.requires.visited c.requires.head c.requires.falsified (rw other_is at c.in-Some.ensures.differ) c.in-Some.ensures.free in
    let pairs = rw (falsified_is, free_is, other_is, ← c.requires.visited.entry) at c.in_ok-rewatch-in-Some.ensures.pairs in
    rw pairs
    (held_moved c.args.cnf.now s.lines.items s.known s.trail s.starts.items s.watches.pairs.items s.watches.lists.items c.rewatch.new.self.lists.items s.head c.args.number c.args.falsified (record { one = c.in-Some.free; other = c.args.other }) c.requires.held change named c.in-Some.ensures.free (rw pairs at c.in_ok-rewatch-in-Some.ensures.watching))

pub returns-in_ok-rewatch-in-Some-clause-says : goal.returns-in_ok-rewatch-in-Some-clause-says
returns-in_ok-rewatch-in-Some-clause-says c =
    let s = c.args.self.now in
    let known = known_by c.args.cnf.now s in
    let falsified_is : to_z w32 (of_z w32 c.args.falsified) ≡ c.args.falsified = to_z-of_z w32 c.args.falsified (record { sfits = c.ranges.falsified.sfits }) in
    let other_is : to_z w32 (of_z w32 c.args.other) ≡ c.args.other = to_z-of_z w32 c.args.other (record { sfits = c.ranges.other.sfits }) in
    let free_is : to_z w32 (of_z w32 c.in-Some.free) ≡ c.in-Some.free = grind (arith, to_z-of_z) in
    let change = visited_change c.args.cnf.now s c.args.falsified c.args.at c.args.number c.args.other c.in-Some.free c.requires.visited c.requires.head c.requires.falsified (rw other_is at c.in-Some.ensures.differ) c.in-Some.ensures.free in
    let pairs = rw (falsified_is, free_is, other_is, ← c.requires.visited.entry) at c.in_ok-rewatch-in-Some.ensures.pairs in
    let shorter = rw falsified_is at c.in_ok-rewatch-in-Some.ensures.shorter in
    let rest = rw falsified_is at c.in_ok-rewatch-in-Some.ensures.rest in
    rw pairs (
      passing_moved known s.watches.pairs.items s.watches.lists.items c.rewatch.new.self.lists.items s.trail.literals c.args.falsified c.args.at c.args.number (record { one = c.in-Some.free; other = c.args.other }) c.requires.visited.proper.there c.requires.visited.entry change.one change.other rest c.requires.passing,
      shorter,
    )

pub returns-then-branch-clause-says : goal.returns-then-branch-clause-says
returns-then-branch-clause-says c =
    let s = c.args.self.now in
    let known = known_by c.args.cnf.now s in
    let other_is : to_z w32 (of_z w32 c.args.other) ≡ c.args.other = to_z-of_z w32 c.args.other (record { sfits = c.ranges.other.sfits }) in
    let literals : c.imply.new.self.trail.literals ≡ s.trail.literals ++ c.args.other ∷ [] = rw other_is at (when_true _ _ c.if-branch.true c.in_ok-imply-in-None.ensures.says) in
    let clause : List ℤ = c.known_clause-clause.result.now in
    let at = rw c.requires.held.stored at c.known_clause-clause.ensures.literals in
    let none : All (λ m. m ≢ c.args.other → Contains s.trail.literals (neg_ℤ m)) clause = rw other_is at c.in-None.ensures.none in
    let only = visited_only c.args.cnf.now s c.args.falsified c.args.at c.args.number c.args.other clause c.requires.held c.requires.visited at none c.requires.not_true in
    let named : Contains (clause_of known c.args.number) c.args.other = subst (λ ls. Contains ls c.args.other) (sym (clause_is known c.args.number clause at)) only.0 in
    let stays = visited_stays c.args.cnf.now s c.args.falsified c.args.at c.args.number c.args.other c.requires.visited c.requires.at named c.requires.passing in
    subst (λ (n : Search). Passes c.args.cnf.now n c.args.falsified (c.args.at + 1) × (length (watchers n c.args.falsified) ≡ length (watchers s c.args.falsified))) c.in_ok-imply-in-None.ensures.same
    (subst (λ made. IsPassing known s.watches.pairs.items s.watches.lists.items made c.args.falsified (c.args.at + 1)) (sym literals) stays, refl)
