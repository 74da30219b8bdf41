use Rattle.std.proofs.Common.{arith}
use Rattle.std.proofs.lemmas.List.{take_rest}
use Rattle.cnf_form.proofs.Words.Wording.{cut}
use Rattle.cnf_form.proofs.word.first_word.Goals as goal

pub returns-clause-some : goal.returns-clause-some
returns-clause-some c =
    let text = c.args.text.now in
    let start = c.gap_len-start.result in
    let end = c.word_len.result in
    let rest = take_rest text start in
    rw (c.split_at.ensures.front, c.split_at.ensures.back, rest) (cut text start end (omega arith) c.gap_len-start.ensures.before (c.gap_len-start.ensures.end (omega arith)) (rw rest at c.word_len.ensures.within) (rw rest at c.word_len.ensures.before) (rw rest at c.word_len.ensures.end))
