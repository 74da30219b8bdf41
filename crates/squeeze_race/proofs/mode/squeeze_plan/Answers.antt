-- The race on the board of the plan is one of its program.
use Rattle.std.proofs.Common.{ap, ◌∙◌}
use Rattle.board_core.specs.Boards.{BoardOf}
use Rattle.squeeze_race.proofs.Racing.{race_of, raced_of}
use Rattle.squeeze_race.proofs.mode.squeeze_plan.Goals as goal

pub returns-clause-raced : goal.returns-clause-raced
returns-clause-raced g c =
    let plan = c.args.plan.now in
    let status = c.squeeze_alone-status.result.0 in
    let board = c.squeeze_alone-status.result.1 in
    let started = c.squeeze_alone-status.ensures.setup ∙ ap (λ (b : BoardOf). b.setup) c.in-Ok-start.ensures in
    let race = race_of plan c.in-Ok.rows c.args.limits c.in-Ok-peak.peak.value board c.in-Ok.ensures.plan c.in-Ok.ensures.rows started
    c.squeeze_alone-status.ensures.race in
    raced_of status plan.program plan.costs c.args.limits board (g.K.Sink.written c.args.out.now) (g.K.Sink.written c.squeeze_alone-status.new.out)
    race c.squeeze_alone-status.ensures.raced
