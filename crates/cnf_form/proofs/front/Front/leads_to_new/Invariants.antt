use Rattle.std.proofs.Common.{◌+◌, ◌-◌, ◌*◌, ◌^◌, ◌<◌, ◌≤◌}
use Rattle.cnf_form.specs.Reading.{LeadsToNew}
use Rattle.cnf_form.proofs.front.Front.leads_to_new.Given as goal

abbrev pub invariant-loop-low : goal.invariant-loop-low
invariant-loop-low l = record {
  some : 0 < l.low;
  near : l.past ≤ 10 * l.low;
  few : l.low < 2 ^ 40;
  on : LeadsToNew l.self.variables l.self.literals.items l.fn.low l.fn.past → LeadsToNew l.self.variables l.self.literals.items l.low l.past;
  back : LeadsToNew l.self.variables l.self.literals.items l.low l.past → LeadsToNew l.self.variables l.self.literals.items l.fn.low l.fn.past;
}

abbrev pub decreases-loop-low : goal.decreases-loop-low
decreases-loop-low l = l.self.variables + 1 - l.low
