use Rattle.std.proofs.Common.{◌≡◌, sym, subst}
use Rattle.squeeze_race.specs.Races.{NoneTaken, HasSettledOne}
use Rattle.squeeze_race.proofs.Untaken.{published, returned}
use Rattle.squeeze_race.proofs.race.settle.Goals as goal

pub returns-in-Ok-clause-settled : goal.returns-in-Ok-clause-settled
returns-in-Ok-clause-settled g c =
    subst (HasSettledOne c.args.board.now) (sym c.publish.ensures.entry)
    (published c.args.board.now c.args.ticket c.in-Ok.settled.conclusion c.requires.alone).one

pub returns-in-Ok-clause-untaken : goal.returns-in-Ok-clause-untaken
returns-in-Ok-clause-untaken g c =
    subst NoneTaken (sym c.publish.ensures.entry)
    (published c.args.board.now c.args.ticket c.in-Ok.settled.conclusion c.requires.alone).untaken

pub returns-in-Err-clause-untaken : goal.returns-in-Err-clause-untaken
returns-in-Err-clause-untaken g c =
    subst NoneTaken (sym c.give_back.ensures.entry) (returned c.args.board.now c.args.ticket c.requires.alone)
