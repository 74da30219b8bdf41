use Rattle.std.proofs.Common.{◌≡◌, [], ◌∷◌, neg_ℤ}
use Rattle.bit_blast.proofs.Pushing.{three-pushed}
use Rattle.bit_blast.proofs.gates.push_and.Goals as goal
use Rattle.std.proofs.result.Match.{on_ok_then}

pub returns : goal.returns
returns c =
    on_ok_then c.push_three.result (three-pushed _ _ _ _ (neg_ℤ c.args.x ∷ c.args.l ∷ []) (neg_ℤ c.args.x ∷ c.args.m ∷ []) (c.args.x ∷ neg_ℤ c.args.l ∷ neg_ℤ c.args.m ∷ [])
    (rw c.negated.ensures at c.in_ok-push_two.ensures) (rw c.negated-2.ensures at c.in_ok-push_two-2.ensures))
    (rw (c.negated-3.ensures, c.negated-4.ensures) at c.push_three.ensures)
