use Rattle.std.proofs.Common.{sym}
use Rattle.c_lexemes.proofs.Lines.{line_to_feed, line_to_end}
use Rattle.c_lexemes.proofs.comment.line_of.Goals as goal

pub returns-in-Some : goal.returns-in-Some
returns-in-Some c = sym (line_to_feed c.args.here.now c.in-Some.end c.in-Some.ensures)

pub returns-in-None : goal.returns-in-None
returns-in-None c = sym (line_to_end c.args.here.now c.in-None.ensures)
