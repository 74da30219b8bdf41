use Rattle.std.proofs.Common.{◌≡◌, ◌++◌, ◌∷◌, [], List, ℕ, length, set, w32, to_z, of_z, ◌∙◌}
use Rattle.std.proofs.lemmas.Int.{to_z-of_z}
use Rattle.search_tables.specs.Entries.{spot_of, list_of}
use Rattle.search_tables.proofs.Entering.{IsWatching-add}
use Rattle.search_tables.proofs.watches.Watches.add.Goals as goal

pub returns-clause-watching : goal.returns-clause-watching
returns-clause-watching c =
    let one_is : to_z w32 (of_z w32 c.args.one) ≡ c.args.one = to_z-of_z w32 c.args.one (record { sfits = c.ranges.one.sfits }) in
    let other_is : to_z w32 (of_z w32 c.args.other) ≡ c.args.other = to_z-of_z w32 c.args.other (record { sfits = c.ranges.other.sfits }) in
    let pairs = c.args.self.now.pairs.items in
    let lists : List (List ℕ) = c.args.self.now.lists.items in
    let number : c.len-number.result ≡ length pairs = c.len-number.ensures ∙ c.args.self.now.pairs.ok.0 in
    let same : c.push-2.new.self.pairs.items ≡ pairs = cc (c.push.ensures.pairs, c.push-2.ensures.pairs) in
    let first : c.push.new.self.lists.items ≡ set lists (spot_of c.args.one) (list_of lists c.args.one ++ length pairs ∷ []) = rw (one_is, number) at c.in_ok-push.ensures.lists in
    let second : c.push-2.new.self.lists.items ≡ set c.push.new.self.lists.items (spot_of c.args.other) (list_of c.push.new.self.lists.items c.args.other ++ length pairs ∷ []) = rw (other_is, number) at c.in_ok-push-2.ensures.lists in
    rw (c.in_ok-push-3.ensures.items, same, second, first, one_is, other_is)
    (IsWatching-add c.args.variables pairs lists (record { one = c.args.one; other = c.args.other }) c.requires.differ c.requires.one c.requires.other c.requires.watching)
