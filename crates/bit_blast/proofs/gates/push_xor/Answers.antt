use Rattle.std.proofs.Common.{◌≡◌, [], ◌∷◌, neg_ℤ, refl}
use Rattle.bit_blast.proofs.Pushing.{same-clause, three-same, four-pushed}
use Rattle.bit_blast.proofs.gates.push_xor.Goals as goal
use Rattle.std.proofs.result.Match.{on_ok_then}

pub returns : goal.returns
returns c =
    on_ok_then c.push_three-4.result (λ last. four-pushed c.args.clauses.now.items c.push_three.new.clauses.items c.push_three-2.new.clauses.items c.push_three-3.new.clauses.items c.push_three-4.new.clauses.items (neg_ℤ c.args.x ∷ c.args.l ∷ c.args.m ∷ []) (neg_ℤ c.args.x ∷ neg_ℤ c.args.l ∷ neg_ℤ c.args.m ∷ []) (c.args.x ∷ neg_ℤ c.args.l ∷ c.args.m ∷ []) (c.args.x ∷ c.args.l ∷ neg_ℤ c.args.m ∷ [])
    (same-clause c.args.clauses.now.items c.push_three.new.clauses.items (neg_ℤ c.args.x ∷ c.args.l ∷ c.args.m ∷ []) _ (three-same c.negated.ensures refl refl) c.in_ok-push_three.ensures)
    (same-clause c.push_three.new.clauses.items c.push_three-2.new.clauses.items (neg_ℤ c.args.x ∷ neg_ℤ c.args.l ∷ neg_ℤ c.args.m ∷ []) _ (three-same c.negated-2.ensures c.negated-3.ensures c.negated-4.ensures) c.in_ok-push_three-2.ensures)
    (same-clause c.push_three-2.new.clauses.items c.push_three-3.new.clauses.items (c.args.x ∷ neg_ℤ c.args.l ∷ c.args.m ∷ []) _ (three-same refl c.negated-5.ensures refl) c.in_ok-push_three-3.ensures)
    (same-clause c.push_three-3.new.clauses.items c.push_three-4.new.clauses.items (c.args.x ∷ c.args.l ∷ neg_ℤ c.args.m ∷ []) _ (three-same refl refl c.negated-6.ensures) last))
    c.push_three-4.ensures
