-- What is pushed are the multipliers: the value, the potentials, and the costs of the turns.
use Rattle.std.proofs.Common.{pos, map, ◌∷◌, ◌++◌, sym, ap, ◌∙◌}
use Rattle.peak_laws.specs.Parts as spec
use Rattle.ipet_peak.specs.Trees.{part_of, cost_targets, turns_of}
use Rattle.ipet_peak.proofs.Supplies.{turns_are, multipliers_are}
use Rattle.ipet_peak.proofs.computing.peak_of_tree.Goals as goal

pub returns-clause-multipliers : goal.returns-clause-multipliers
returns-clause-multipliers c =
    let q = part_of c.args.tree.now in
    let v = c.from_entry-value.ensures.value ∙ ap (spec.from_entry q) c.all_to.ensures in
    let k = c.all_to-2.ensures in
    multipliers_are c.new-y.result c.push-2.new.out c.push_potentials.new.out c.push_turns.new.out c.from_entry-value.result (spec.potentials q (cost_targets c.all_to-2.result)) (turns_of q) c.new-y.ensures c.in_ok-push-2.ensures c.in_ok-push_potentials.ensures c.in_ok-push_turns.ensures ∙ (λ i. pos (v i) ∷ (map pos (spec.potentials q (k i)) ++ map pos (sym (turns_are q 2) i)))
