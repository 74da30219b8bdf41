use Rattle.std.proofs.Common.{◌≡◌, sym, subst}
use Rattle.squeeze_race.proofs.Written.{front_later, raced_front, raced_no_more, raced_end, raced_whole}
use Rattle.squeeze_race.proofs.squeeze.squeezed.Goals as goal

pub returns-in-Err-clause-raced : goal.returns-in-Err-clause-raced
returns-in-Err-clause-raced g c =
    raced_front c.status.result c.in-Err.cut c.args.board.now (g.K.Sink.written c.args.out.now) (g.K.Sink.written c.write_front.new.out)
    c.status.ensures c.in-Err.ensures.front c.in-Err.ensures.part

pub returns-then-is_err-clause-raced : goal.returns-then-is_err-clause-raced
returns-then-is_err-clause-raced g c =
    raced_no_more c.race.new.board (g.K.Sink.written c.args.out.now) (g.K.Sink.written c.write_front.new.out)
    (front_later c.args.board.now.setup c.race.new.board.setup _ _ c.race.ensures.setup c.in_default.ensures.written)

pub returns-in-Ok-clause-raced : goal.returns-in-Ok-clause-raced
returns-in-Ok-clause-raced g c =
    raced_whole c.status_of_end.result c.race.new.board (g.K.Sink.written c.args.out.now) (g.K.Sink.written c.write_front.new.out)
    (g.K.Sink.written c.write_end.new.out) c.status_of_end.ensures.only c.status_of_end.ensures.whole c.status_of_end.ensures.inexact
    (front_later c.args.board.now.setup c.race.new.board.setup _ _ c.race.ensures.setup c.in_default.ensures.written) c.in-Ok.ensures.written

pub returns-in-Err-write_end-clause-raced : goal.returns-in-Err-write_end-clause-raced
returns-in-Err-write_end-clause-raced g c =
    raced_end c.status-in-Err-write_end.result c.in-Err-write_end.cut c.race.new.board (g.K.Sink.written c.args.out.now)
    (g.K.Sink.written c.write_front.new.out) (g.K.Sink.written c.write_end.new.out) c.status-in-Err-write_end.ensures
    (front_later c.args.board.now.setup c.race.new.board.setup _ _ c.race.ensures.setup c.in_default.ensures.written)
    c.in-Err-write_end.ensures.part
