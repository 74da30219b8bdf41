use Rattle.std.proofs.Common.{rules}
use Rattle.bv_fold.proofs.TermFacts.{remainder_masked}
use Rattle.bv_fold.proofs.products.remainder.Goals as goal

pub returns-in-Some : goal.returns-in-Some
returns-in-Some c = remainder_masked c.args.terms.now c.args.a c.args.b c.in-Some.mask c.requires.left (search rules) c.in-Some.ensures
