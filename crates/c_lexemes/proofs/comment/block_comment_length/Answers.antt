use Rattle.std.proofs.lemmas.List.{take_rest}
use Rattle.c_lexemes.proofs.Comments.{comment_open, comment_closed}
use Rattle.c_lexemes.proofs.comment.block_comment_length.Goals as goal

pub returns-in_err-inside : goal.returns-in_err-inside
returns-in_err-inside c =
    let here = c.args.here.now in
    rw c.from_residual.ensures (comment_open here c.requires.opens (rw (take_rest here 2) at c.in_err-inside.ensures))

pub returns : goal.returns
returns c =
    let here = c.args.here.now in
    comment_closed here c.in_ok-inside.inside c.requires.opens (rw (take_rest here 2) at c.in_ok-inside.ensures)
