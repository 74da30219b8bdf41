use Rattle.case_maker.proofs.Drawing.{segments-more}
use Rattle.case_maker.proofs.program.draw_segments.Goals as goal

pub loop-number-preserved : goal.loop-number-preserved
loop-number-preserved c =
    segments-more c.args.draws.now.state c.loop-number._number c.loop-number.draws.state c.drawn.new.draws.state
    c.loop-number.segments.items c.push.new.self.items c.drawn.result
    c.loop-number.invariant.0 c.loop-number.invariant.1 c.drawn.ensures.segment c.drawn.ensures.state c.in_ok-push.ensures.items
