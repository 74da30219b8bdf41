use Rattle.std.proofs.Common.{◌+◌, ◌∙◌}
use Rattle.std.proofs.lemmas.List.{take_rest}
use Rattle.c_lexemes.proofs.Lines.{last_from_feed, last_from_start}
use Rattle.c_lexemes.proofs.directive.last_line.Goals as goal

pub returns-in-Some : goal.returns-in-Some
returns-in-Some c = take_rest c.args.before.now (c.in-Some.feed + 1) ∙ last_from_feed c.args.before.now c.in-Some.feed c.in-Some.ensures

pub returns-in-None : goal.returns-in-None
returns-in-None c = last_from_start c.args.before.now c.in-None.ensures
