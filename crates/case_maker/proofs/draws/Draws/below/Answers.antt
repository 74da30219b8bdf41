use Rattle.std.proofs.Common.{◌/◌, ◌%◌, ap}
use Rattle.case_maker.proofs.Drawing.{next_state-wraps}
use Rattle.case_maker.proofs.draws.Draws.below.Goals as goal

pub returns-clause-state : goal.returns-clause-state
returns-clause-state c = next_state-wraps c.args.self.now.state

pub returns-clause-number : goal.returns-clause-number
returns-clause-number c = ap (λ s. s / 8 % c.args.limit) (next_state-wraps c.args.self.now.state)
