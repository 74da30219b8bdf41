-- A group of void statements is void.
use Rattle.std.proofs.Common.{subst, rules, arith}
use Rattle.std.proofs.lemmas.Bool.{not-true}
use Rattle.std.proofs.lemmas.List.Elements.{All-more}
use Rattle.ipet_peak.specs.Pieces.{IsVoid}
use Rattle.ipet_peak.proofs.PartSteps.{void_group}
use Rattle.ipet_peak.proofs.pieces.+is_void.Goals as goal

pub returns : goal.returns
returns t c = λ yes. void_group _ c.in-Group.group c.as_slice-list.result.now c.loop-inner.inner-index c.in-Group.is c.as_slice-list.ensures c.loop-inner-test.false c.loop-inner.invariant

pub loop-inner-preserved : goal.loop-inner-preserved
loop-inner-preserved t c =
    All-more IsVoid c.as_slice-list.result.now c.loop-inner.inner-index c.inner-item.result c.loop-inner-test.true c.loop-inner.invariant (subst IsVoid c.inner-item.is (c.is_void.ensures (first_of (search rules, grind (arith, not-true)))))
