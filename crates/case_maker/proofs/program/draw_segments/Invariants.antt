use Rattle.std.proofs.Common.{◌≡◌, ◌*◌}
use Rattle.case_maker.specs.Draws.{draw_state}
use Rattle.case_maker.specs.Segments.{segments}
use Rattle.case_maker.proofs.program.draw_segments.Given as goal

abbrev pub invariant-loop-number : goal.invariant-loop-number
invariant-loop-number l = (l.segments.items ≡ segments l.fn.draws.state l._number) × (l.draws.state ≡ draw_state l.fn.draws.state (3 * l._number))
