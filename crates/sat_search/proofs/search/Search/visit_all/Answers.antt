use Rattle.std.proofs.Common.{◌≡◌, ◌<◌, ◌≤◌, neg_ℤ, length, sym, ◌∙◌, ap, subst, w32, to_z, of_z, arith}
use Rattle.std.proofs.lemmas.Int.{to_z-of_z}
use Rattle.search_tables.specs.Trail.{literal_at}
use Rattle.sat_search.specs.Visits.{watchers, Passes}
use Rattle.sat_search.proofs.Extending.{passes_end}
use Rattle.sat_search.proofs.search.Search.visit_all.Goals as goal

pub returns-clause-none : goal.returns-clause-none
returns-clause-none c =
    let s = c.loop-at.self in
    let falsified_is : to_z w32 (of_z w32 c.args.falsified) ≡ c.args.falsified = to_z-of_z w32 c.args.falsified (record { sfits = c.ranges.falsified.sfits }) in
    let passing : Passes c.args.cnf.now s c.args.falsified c.loop-at.at = rw falsified_is at c.loop-at.invariant.passing in
    let extends = c.loop-at.invariant.extends in
    let inside : s.head < length s.trail.literals = omega (arith, extends.head, extends.longer, c.requires.head) in
    let same : literal_at s.trail.literals s.head ≡ literal_at c.args.self.now.trail.literals c.args.self.now.head = subst (λ h. literal_at s.trail.literals h ≡ literal_at c.args.self.now.trail.literals c.args.self.now.head) (sym extends.head) extends.at_head in
    let is : c.args.falsified ≡ neg_ℤ (literal_at s.trail.literals s.head) = c.requires.falsified ∙ ap neg_ℤ (sym same) in
    let end : length (watchers s c.args.falsified) ≤ c.loop-at.at = let count : c.count.result ≡ length (watchers s c.args.falsified) = rw falsified_is at c.count.ensures in omega (arith, count, c.loop-at-test.false) in
    passes_end c.args.cnf.now s c.args.falsified c.loop-at.at c.loop-at.invariant.held inside is end passing
