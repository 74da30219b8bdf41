use Rattle.std.proofs.Common.{◌≡◌, ℤ, List, pos, true, get_or, sym, ◌∙◌, w32, to_z, of_z, arith}
use Rattle.std.proofs.lemmas.Int.{to_z-of_z}
use Rattle.std.proofs.lemmas.List.{take_all}
use Rattle.std.proofs.lemmas.List.Elements.{All-more}
use Rattle.search_tables.specs.Marking.{IsSeen}
use Rattle.search_tables.proofs.marks.Marks.are_seen.Goals as goal

pub loop-literal-preserved : goal.loop-literal-preserved
loop-literal-preserved c =
    let xs : List ℤ = c.args.literals.now in
    let x : ℤ = get_or xs c.loop-literal.literal-index (pos 0) in
    let same : to_z w32 (of_z w32 x) ≡ x = grind (arith, to_z-of_z) in
    let marked : c.is_seen.result ≡ true = grind arith in
    All-more (IsSeen c.args.self.now.seen.items) xs c.loop-literal.literal-index (pos 0) c.loop-literal-test.true c.loop-literal.invariant (sym (rw same at c.is_seen.ensures) ∙ marked)

pub returns : goal.returns
returns c all = rw (take_all c.loop-literal.literal-index c.args.literals.now c.loop-literal-test.false) at c.loop-literal.invariant
