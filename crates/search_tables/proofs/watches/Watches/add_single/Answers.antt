use Rattle.std.proofs.Common.{◌≡◌, refl, w32, to_z, of_z}
use Rattle.std.proofs.lemmas.Int.{to_z-of_z}
use Rattle.search_tables.proofs.Entering.{IsWatching-single}
use Rattle.search_tables.proofs.watches.Watches.add_single.Goals as goal

pub returns-clause-watching : goal.returns-clause-watching
returns-clause-watching c =
    let same : to_z w32 (of_z w32 c.args.literal) ≡ c.args.literal = to_z-of_z w32 c.args.literal (record { sfits = c.ranges.literal.sfits }) in
    rw (c.in_ok-push.ensures.items, same)
    (IsWatching-single c.args.variables c.args.self.now.pairs.items c.args.self.now.lists.items (record { one = c.args.literal; other = c.args.literal }) refl c.requires.literal c.requires.literal c.requires.watching)
