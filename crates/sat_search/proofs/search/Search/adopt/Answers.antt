use Rattle.std.proofs.Common.{◌≡◌, ◌+◌, ℕ, ℤ, List, [], ◌∷◌, ◌++◌, pos, get_or, length, take, neg_ℤ, Contains, Some, sym, ◌∙◌, ap, subst, w32, to_z, of_z, arith}
use Rattle.std.proofs.lemmas.Int.{to_z-of_z}
use Rattle.std.proofs.lemmas.List.{get_or_default}
use Rattle.std.proofs.lemmas.List.Elements.{All-contains}
use Rattle.rup_check.specs.Trail.{IsWithin}
use Rattle.sat_search.specs.Visits.{known_by}
use Rattle.sat_search.specs.Sound.{last_start}
use Rattle.search_tables.specs.Trail.{Trail}
use Rattle.sat_search.proofs.Backjump.{clause_length, cut}
use Rattle.sat_search.proofs.Visiting.{grown}
use Rattle.sat_search.proofs.Learning.{adopted, adopted_unit, adopted_clause, number_known}
use Rattle.sat_search.proofs.search.Search.adopt.Goals as goal

pub add_clause-requires-clause-once : goal.add_clause-requires-clause-once
add_clause-requires-clause-once c =
    let s = c.args.self.now in
    let held = c.requires.held in
    rw c.as_slice.ensures.value (adopted_clause c.args.cnf.now (known_by c.args.cnf.now s) s.trail (last_start s.starts.items) c.args.learned.literals.items c.args.learned.hints.items held.variables held.sound.apart held.sound.within c.requires.learned).0.once

pub add_clause-requires-clause-within : goal.add_clause-requires-clause-within
add_clause-requires-clause-within c =
    let s = c.args.self.now in
    let held = c.requires.held in
    rw c.as_slice.ensures.value (adopted_clause c.args.cnf.now (known_by c.args.cnf.now s) s.trail (last_start s.starts.items) c.args.learned.literals.items c.args.learned.hints.items held.variables held.sound.apart held.sound.within c.requires.learned).1

pub of_clause-requires : goal.of_clause-requires
of_clause-requires c =
    let s = c.args.self.now in
    let held = c.requires.held in
    rw c.as_slice-3.ensures.value (adopted_clause c.args.cnf.now (known_by c.args.cnf.now s) s.trail (last_start s.starts.items) c.args.learned.literals.items c.args.learned.hints.items held.variables held.sound.apart held.sound.within c.requires.learned).0

pub returns-clause-held : goal.returns-clause-held
returns-clause-held c =
    let s = c.args.self.now in
    let learned = c.requires.learned in
    let goes = c.requires.back learned.places learned.listed learned.asserting in
    let literals : List ℤ = c.args.learned.literals.items in
    let starts : List ℕ = s.starts.items in
    let l : ℤ = c.index-literal.result.now in
    let same : to_z w32 (of_z w32 l) ≡ l = grind (arith, to_z-of_z) in
    let long = clause_length s.trail.literals literals learned.places 0 learned.listed in
    let l_is : l ≡ get_or literals 0 (pos 0) = c.index-literal.ensures ∙ get_or_default literals 0 l (pos 0) (omega (arith, long, learned.asserting.some)) in
    let start_is : c.index-start.result.now ≡ get_or starts c.args.back 0 = c.index-start.ensures ∙ get_or_default starts c.args.back c.index-start.result.now 0 goes.there in
    let trail_is : c.push-3.new.self ≡ grown (cut s.trail c.index-start.result.now) l (Some (length c.clauses.result.now + c.len.result)) = rw (c.truncate-2.ensures, same) at c.in_ok-push-3.ensures in
    let number_is : length c.clauses.result.now + c.len.result ≡ length (known_by c.args.cnf.now s) = number_known c.args.cnf.now s.lines.items (length c.clauses.result.now) c.len.result (ap length c.clauses.ensures.value) (c.len.ensures ∙ s.lines.ok.0) in
    adopted c.args.cnf.now s.lines.items c.push-2.new.self.items s.known c.push.new.self s.trail c.push-3.new.self starts c.truncate.new.self.items s.watches.pairs.items c.add_clause.new.self.pairs.items s.watches.lists.items c.add_clause.new.self.lists.items s.head c.index-start.result.now (length c.clauses.result.now + c.len.result) c.args.back c.new.result literals c.args.learned.hints.items l c.requires.held c.requires.few learned goes
    (c.new.ensures.clause ∙ c.in_ok-clause.ensures ∙ c.as_slice-3.ensures.value)
    c.new.ensures.hints
    (rw c.as_slice.ensures.value at c.in_ok-add_clause.ensures)
    c.in_ok-push-2.ensures.items
    c.truncate.ensures.items
    trail_is (c.in_ok-push.ensures ∙ ap (λ (ls : List ℤ). s.known ++ ls ∷ []) c.as_slice-2.ensures.value) start_is l_is number_is

-- the literal is open where the search goes back to
opened : (c : goal.After-push-arg-3-1) → (¬ Contains c.truncate-2.new.self.literals c.index-literal.result.now) × (¬ Contains c.truncate-2.new.self.literals (neg_ℤ c.index-literal.result.now)) × IsWithin c.truncate-2.new.self.variables c.index-literal.result.now
opened c =
    let s = c.args.self.now in
    let learned = c.requires.learned in
    let goes = c.requires.back learned.places learned.listed learned.asserting in
    let literals : List ℤ = c.args.learned.literals.items in
    let starts : List ℕ = s.starts.items in
    let l : ℤ = c.index-literal.result.now in
    let long = clause_length s.trail.literals literals learned.places 0 learned.listed in
    let l_is : l ≡ get_or literals 0 (pos 0) = c.index-literal.ensures ∙ get_or_default literals 0 l (pos 0) (omega (arith, long, learned.asserting.some)) in
    let start_is : c.index-start.result.now ≡ get_or starts c.args.back 0 = c.index-start.ensures ∙ get_or_default starts c.args.back c.index-start.result.now 0 goes.there in
    let held = c.requires.held in
    let unit = adopted_unit (known_by c.args.cnf.now s) s.trail starts c.args.back literals c.args.learned.hints.items held.sound.apart learned held.sound.rising goes in
    let both = adopted_clause c.args.cnf.now (known_by c.args.cnf.now s) s.trail (last_start starts) literals c.args.learned.hints.items held.variables held.sound.apart held.sound.within learned in
    let within : IsWithin c.args.cnf.now.variables l = subst (IsWithin c.args.cnf.now.variables) (sym l_is) (All-contains (IsWithin c.args.cnf.now.variables) literals (get_or literals 0 (pos 0)) both.1 unit.named) in
    let trail_is : c.truncate-2.new.self.literals ≡ take (get_or starts c.args.back 0) s.trail.literals = ap (λ (t : Trail). t.literals) c.truncate-2.ensures ∙ ap (λ n. take n s.trail.literals) start_is in
    let variables_is : c.args.cnf.now.variables ≡ c.truncate-2.new.self.variables = sym held.variables ∙ sym (ap (λ (t : Trail). t.variables) c.truncate-2.ensures) in
    (rw (trail_is, l_is) unit.not_true, rw (trail_is, l_is) unit.not_false, subst (λ v. IsWithin v l) variables_is within)

pub push-requires-3-clause-within : goal.push-requires-3-clause-within
push-requires-3-clause-within c =
    let same : to_z w32 (of_z w32 c.index-literal.result.now) ≡ c.index-literal.result.now = grind (arith, to_z-of_z) in
    rw same (opened c).2

pub push-requires-3-clause-not_true : goal.push-requires-3-clause-not_true
push-requires-3-clause-not_true c =
    let same : to_z w32 (of_z w32 c.index-literal.result.now) ≡ c.index-literal.result.now = grind (arith, to_z-of_z) in
    rw same (opened c).0

pub push-requires-3-clause-not_false : goal.push-requires-3-clause-not_false
push-requires-3-clause-not_false c =
    let same : to_z w32 (of_z w32 c.index-literal.result.now) ≡ c.index-literal.result.now = grind (arith, to_z-of_z) in
    rw same (opened c).1
