use Rattle.std.proofs.Common.{◌≡◌, List, ℕ, Contains, get_or, sym, ◌∙◌, w32, to_z, of_z, arith, subst}
use Rattle.std.proofs.lemmas.Int.{to_z-of_z}
use Rattle.std.proofs.lemmas.List.Elements.{Contains-get_or}
use Rattle.search_tables.specs.Entries.{spot_of, list_of}
use Rattle.search_tables.proofs.Entering.{Rewatched, rewatched}
use Rattle.search_tables.proofs.watches.Watches.rewatch.Goals as goal

pub index_mut-requires : goal.index_mut-requires
index_mut-requires c =
    let falsified_is : to_z w32 (of_z w32 c.args.falsified) ≡ c.args.falsified = to_z-of_z w32 c.args.falsified (record { sfits = c.ranges.falsified.sfits }) in
    let lists : List (List ℕ) = c.args.self.now.lists.items in
    let list : List ℕ = list_of lists c.args.falsified in
    let number : c.entry-number.result ≡ get_or list c.args.at 0 = rw falsified_is at c.entry-number.ensures in
    let listed : Contains list c.entry-number.result = subst (Contains list) (sym number) (Contains-get_or list c.args.at 0 c.requires.at) in
    let there = (c.requires.watching.entries (spot_of c.args.falsified) c.entry-number.result listed).there in
    let same : c.push.new.self.pairs ≡ c.args.self.now.pairs = c.in_ok-push.ensures.pairs ∙ c.remove.ensures.pairs in
    rw (same, c.args.self.now.pairs.ok.0) there

made : (c : goal.After-self-1) → Rewatched c.args.variables c.args.self.now.pairs.items c.args.self.now.lists.items c.push.new.self.lists.items c.args.falsified c.args.at c.entry-number.result c.args.pair
made c =
    let falsified_is : to_z w32 (of_z w32 c.args.falsified) ≡ c.args.falsified = to_z-of_z w32 c.args.falsified (record { sfits = c.ranges.falsified.sfits }) in
    let one_is : to_z w32 (of_z w32 c.args.pair.one) ≡ c.args.pair.one = grind (arith, to_z-of_z) in
    let lists : List (List ℕ) = c.args.self.now.lists.items in
    let number : c.entry-number.result ≡ get_or (list_of lists c.args.falsified) c.args.at 0 = rw falsified_is at c.entry-number.ensures in
    rewatched c.args.variables c.args.self.now.pairs.items lists c.remove.new.self.lists.items c.push.new.self.lists.items c.args.falsified c.args.at c.entry-number.result c.args.pair number c.requires.falsified c.requires.one c.requires.at c.requires.change
    (rw falsified_is at c.remove.ensures.lists)
    (rw one_is at c.in_ok-push.ensures.lists)
    c.requires.watching

pub returns-clause-watching : goal.returns-clause-watching
returns-clause-watching c =
    let same : c.push.new.self.pairs ≡ c.args.self.now.pairs = c.in_ok-push.ensures.pairs ∙ c.remove.ensures.pairs in
    rw same (made c).watching

pub returns-clause-shorter : goal.returns-clause-shorter
returns-clause-shorter c = (made c).shorter

pub returns-clause-rest : goal.returns-clause-rest
returns-clause-rest c = (made c).rest
