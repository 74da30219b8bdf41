use Rattle.std.proofs.Common.{arith}
use Rattle.cnf_form.proofs.Words.Tokens.{other_gap}
use Rattle.cnf_form.proofs.token.cut_at.Goals as goal

pub returns-then-text-end-clause-none : goal.returns-then-text-end-clause-none
returns-then-text-end-clause-none c =
    let end = c.word_len-end.ensures in
    other_gap c.args.gap c.args.text.now c.word_len-end.result (omega arith) c.requires end.before (end.end (omega arith)) c.if-text-end.true
