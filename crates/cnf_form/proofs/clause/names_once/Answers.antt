use Rattle.std.proofs.Common.{arith, rules, pos}
use Rattle.std.proofs.lemmas.Int.{to_z-of_z}
use Rattle.std.proofs.lemmas.List.{take_all}
use Rattle.std.proofs.lemmas.Bool.{false≢true}
use Rattle.cnf_form.proofs.Naming.{NamesOnce-more, NamesOnce-twice}
use Rattle.cnf_form.proofs.clause.names_once.Goals as goal

pub returns-then-names : goal.returns-then-names
returns-then-names c = (λ yes. absurd (search rules), λ once. absurd (NamesOnce-twice c.args.literals.now c.loop-i.i _ (pos 0) c.loop-i-test.true (grind (arith, to_z-of_z)) (c.if-names.ensures.0 (search rules)) once))

pub loop-i-preserved : goal.loop-i-preserved
loop-i-preserved c = NamesOnce-more c.args.literals.now c.loop-i.i _ (pos 0) c.loop-i-test.true (grind (arith, to_z-of_z)) c.loop-i.invariant (λ named. false≢true (c.if-names.ensures.1 named))

pub returns : goal.returns
returns c = let all = take_all c.loop-i.i c.args.literals.now c.loop-i-test.false in (λ yes. rw all at c.loop-i.invariant, λ once. search rules)
