use Rattle.std.proofs.Common.{◌≡◌, ℕ, ◌<◌, ◌≤◌, true, nat_eq}
use Rattle.std.specs.HashSet.{contains}
use Rattle.cnf_form.proofs.front.Front.has_new.Given as goal

abbrev pub invariant-loop-variable : goal.invariant-loop-variable
invariant-loop-variable l = (v : ℕ) → l.low ≤ v → v < l.variable → contains nat_eq l.self.named v ≡ true
