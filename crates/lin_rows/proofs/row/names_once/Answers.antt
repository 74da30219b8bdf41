use Rattle.std.proofs.Common.{rules, pos}
use Rattle.std.proofs.lemmas.List.{take_all}
use Rattle.std.proofs.lemmas.Bool.{false≢true}
use Rattle.lin_rows.proofs.Naming.{NamesOnce-more, NamesOnce-twice}
use Rattle.lin_rows.proofs.row.names_once.Goals as goal

pub returns-then-is_named : goal.returns-then-is_named
returns-then-is_named c = (λ yes. absurd (search rules), λ once. absurd (NamesOnce-twice c.args.terms.now c.loop-i.i (0, pos 0) c.loop-i-test.true (c.if-is_named.ensures.0 (search rules)) once))

pub loop-i-preserved : goal.loop-i-preserved
loop-i-preserved c = NamesOnce-more c.args.terms.now c.loop-i.i (0, pos 0) c.loop-i-test.true c.loop-i.invariant (λ named. false≢true (c.if-is_named.ensures.1 named))

pub returns : goal.returns
returns c = let all = take_all c.loop-i.i c.args.terms.now c.loop-i-test.false in (λ yes. rw all at c.loop-i.invariant, λ once. search rules)
