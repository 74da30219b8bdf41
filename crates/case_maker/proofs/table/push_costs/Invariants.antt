use Rattle.std.proofs.Common.{◌≡◌, ◌++◌}
use Rattle.case_maker.specs.Draws.{draw_state}
use Rattle.case_maker.specs.Lines.{joined_lines, cost_lines}
use Rattle.case_maker.proofs.table.push_costs.Given as goal

abbrev pub invariant-loop-number : goal.invariant-loop-number
invariant-loop-number l = (l.text.items ≡ l.fn.text.items ++ joined_lines (cost_lines l.fn.draws.state l.number)) × (l.draws.state ≡ draw_state l.fn.draws.state l.number)
