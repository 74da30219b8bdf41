use Rattle.case_maker.proofs.Drawing.{cost_lines-more}
use Rattle.case_maker.proofs.table.push_costs.Goals as goal

pub loop-number-preserved : goal.loop-number-preserved
loop-number-preserved c =
    cost_lines-more c.args.draws.now.state c.loop-number.number c.loop-number.draws.state c.below.new.self.state c.below.result
    c.args.text.now.items c.loop-number.text.items c.push_cost.new.text.items
    c.loop-number.invariant.0 c.loop-number.invariant.1 c.below.ensures.state c.below.ensures.number c.in_ok-push_cost.ensures
